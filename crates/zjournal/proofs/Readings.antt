-- A file represents one list of batches, and then it has no fault.
use Rattle.std.proofs.Common.{◌≡◌, inl, inr, ℕ, List, ◌∷◌, ◌++◌, map, get_or, take, drop, sym, ◌∙◌, ap, subst, arith}
use Rattle.zjournal.specs.declared.fault.OpenError.{OpenError}
use Rattle.zjournal.specs.declared.fault.OpenError.TheVariants.{Memory, Failed, NotJournal, Version, Old, Other, Servers, Damaged}
use Rattle.zjournal.specs.Blocks.{IsText, blocks}
use Rattle.zjournal.specs.Checksum.{IsSum, digits, stamped_all}
use Rattle.zjournal.specs.Journal.{head, version, word, holdings, Keeps, IsUnmade, IsBeingMade}
use Rattle.zjournal.specs.Faults.{Begins, HasOtherWord, IsOlder, IsDamagedAt, IsSuch, IsOfContent}
use Rattle.zjournal.specs.Laws.{FilesHaveOneReading, WhatStandsHasNoFault}
use Rattle.zjournal.proofs.Adler.{sum_is_small}
use Rattle.zjournal.proofs.Blocks.{first_block, same_blocks, next_block}
use Rattle.zjournal.proofs.Digits.{same_digits}
use Rattle.zjournal.proofs.Heads.{older_is}
use Rattle.zjournal.proofs.Sums.{unstamped, stamped_among}

-- a file that begins as a journal isn't being made
begun_is_made : (servers found given : ℕ) (rest file : List ℕ) → Begins found given rest file → IsBeingMade servers file → ⊥
begun_is_made servers found given rest file begins (inl unmade) = let h = subst (IsUnmade servers) begins unmade in omega (arith, h.0)
begun_is_made servers found given rest file begins (inr unopened) =
    unopened.1 (ap (λ (l : List ℕ). get_or l 0 0) (sym unopened.2 ∙ begins))

-- what follows the number of servers
abbrev end_of_head : ℕ → List (List ℕ) → List ℕ → List ℕ
end_of_head start batches rest = word ++ digits start ++ 0 ∷ (blocks (stamped_all start batches) ++ rest)

-- blocks begin with the head
blocks_begin : (start servers : ℕ) (batches : List (List ℕ)) (rest : List ℕ)
    → Begins version servers (end_of_head start batches rest) (blocks (holdings start servers batches) ++ rest)
blocks_begin start servers batches rest = first_block (head start servers) (stamped_all start batches) rest

module _ (servers : ℕ) (file : List ℕ) (batches : List (List ℕ)) (k : Keeps servers batches file) where
  begins : Begins version servers (end_of_head k.start batches k.end) file
  begins = k.split ∙ blocks_begin k.start servers batches k.end

  -- the first checksum continues from one sum
  start_is : (start : ℕ) (others : List (List ℕ)) (rest : List ℕ) → IsSum start → file ≡ blocks (holdings start servers others) ++ rest
      → start ≡ k.start
  start_is start others rest is_sum split =
      same_digits start k.start (sum_is_small start is_sum) (sum_is_small k.start k.is_sum)
      (ap (λ (l : List ℕ). take 8 (drop 25 l)) (sym (split ∙ blocks_begin start servers others rest) ∙ begins))

  pub one_start : (others : List (List ℕ)) (l : Keeps servers others file) → l.start ≡ k.start
  one_start others l = start_is l.start others l.end l.is_sum l.split

  pub kept_is_made : IsBeingMade servers file → ⊥
  kept_is_made = begun_is_made servers version servers _ file begins

  no_other_word : HasOtherWord file → ⊥
  no_other_word other = other.4 (ap (λ (l : List ℕ). take 4 (drop 21 l)) (sym other.2 ∙ begins))

  not_older : IsOlder file → ⊥
  not_older old = let h = older_is version servers _ file begins old in omega (arith, h.1)

  not_damaged : (at : ℕ) → IsDamagedAt servers at file → ⊥
  not_damaged at (inl other) =
      let h = other.1 in
      h.2 k.start (blocks (stamped_all k.start batches) ++ k.end) k.is_sum (ap (λ (l : List ℕ). drop 21 l) (sym h.1 ∙ begins))
  not_damaged at (inr h) =
      let other = h.5 in
      let same = start_is h.0 h.2 (1 ∷ other.0) h.1 other.1 in
      let n = next_block (holdings k.start servers batches) (holdings h.0 servers h.2) k.end other.0 k.texts h.3 k.counts_for_nothing
      other.2 (sym k.split ∙ other.1) in
      let s = stamped_among h.0 batches h.2 n.2 n.0 (ap (λ (start : ℕ). stamped_all start batches) same
      ∙ ap (λ (l : List (List ℕ)). drop 1 l) n.3) in
      other.3 s.0 n.1 (subst IsText s.1 n.4) (n.5 ∙ ap (λ (l : List ℕ). l ++ 0 ∷ n.1) s.1)

  kept_has_none : (e : OpenError) → IsOfContent e → IsSuch servers file e → ⊥
  kept_has_none Memory content such = content
  kept_has_none Failed content such = content
  kept_has_none NotJournal content such = such (inr (version, servers, end_of_head k.start batches k.end, begins))
  kept_has_none (Version found) content such = such.3 (ap (λ (l : List ℕ). get_or l 19 0) (sym such.2 ∙ begins))
  kept_has_none Old content such = not_older such
  kept_has_none Other content such = no_other_word such
  kept_has_none (Servers given) content such = such.2 (ap (λ (l : List ℕ). get_or l 20 0) (sym such.1 ∙ begins))
  kept_has_none (Damaged at) content such = not_damaged at such

module _ (servers : ℕ) (file : List ℕ) (made : IsBeingMade servers file) where
  unmade_is_whole : (at : ℕ) → IsDamagedAt servers at file → ⊥
  unmade_is_whole at (inl other) = begun_is_made servers version servers other.1.0 file other.1.1 made
  unmade_is_whole at (inr h) =
      let other = h.5 in
      begun_is_made servers version servers _ file (other.1 ∙ blocks_begin h.0 servers h.2 (1 ∷ other.0)) made

  unmade_has_none : (e : OpenError) → IsOfContent e → IsSuch servers file e → ⊥
  unmade_has_none Memory content such = content
  unmade_has_none Failed content such = content
  unmade_has_none NotJournal content such = such (inl made)
  unmade_has_none (Version found) content such = begun_is_made servers found such.0 such.1 file such.2 made
  unmade_has_none Old content such = begun_is_made servers such.0 such.1 such.2 file such.3 made
  unmade_has_none Other content such = begun_is_made servers version such.0 such.1 file such.2 made
  unmade_has_none (Servers given) content such = begun_is_made servers version given such.0 file such.1 made
  unmade_has_none (Damaged at) content such = unmade_is_whole at such

pub what_stands_has_no_fault : WhatStandsHasNoFault
what_stands_has_no_fault servers file batches e (inl k) content such = kept_has_none servers file batches k e content such
what_stands_has_no_fault servers file batches e (inr made) content such = unmade_has_none servers file made.0 e content such

pub files_have_one_reading : FilesHaveOneReading
files_have_one_reading servers file batches others (inl k) (inl l) =
    let same = same_blocks (holdings k.start servers batches) (holdings l.start servers others) k.end l.end k.texts l.texts k.counts_for_nothing
    l.counts_for_nothing (sym k.split ∙ l.split) in
    sym (unstamped k.start batches)
    ∙ ap (λ (holds : List (List ℕ)). map (λ (t : List ℕ). drop 8 t) (drop 1 holds)) same
    ∙ unstamped l.start others
files_have_one_reading servers file batches others (inl k) (inr made) = absurd (kept_is_made servers file batches k made.0)
files_have_one_reading servers file batches others (inr made) (inl l) = absurd (kept_is_made servers file others l made.0)
files_have_one_reading servers file batches others (inr made) (inr also) = made.1 ∙ sym also.1
