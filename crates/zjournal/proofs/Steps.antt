-- What a crash leaves in each step that changes a file, and what the step leaves.
use Rattle.std.proofs.Common.{◌≡◌, inl, inr, ℕ, ◌+◌, ◌<◌, ◌≤◌, List, [], ◌∷◌, ◌++◌, length, get_or, take, drop, refl}
use Rattle.std.proofs.Common.{sym, ◌∙◌, ap, arith, append_assoc, length-append, length-take, length-drop}
use Rattle.std.proofs.Common.{take-append-drop}
use Rattle.std.proofs.lemmas.List.{take_at, drop_at, drop_more, take_all, drop_all, append-nil}
use Rattle.zjournal.specs.Device.{Holds, Torn, Cut}
use Rattle.zjournal.specs.CommitBytes.{IsClosing, IsOpening, IsStaging}

-- nothing is done yet
pub torn_nothing : (at n : ℕ) (file : List ℕ) → Torn at n file file
torn_nothing at n file = record { before = λ k le within. refl; behind = refl; no_shorter = omega arith; no_longer = omega arith }

pub cut_nothing : (n : ℕ) (file : List ℕ) → Cut n file file
cut_nothing n file = record { no_shorter = λ le. le; front = take_all (length file) file (omega arith) }

-- at most one byte
one_byte : (front rest : List ℕ) (file c : List ℕ) (end : ℕ) → c ≡ front ++ rest → front ≡ take end file → length rest ≤ 1 → IsClosing file end c
one_byte front [] file c end is front_is short = inl (end, omega arith, is ∙ append-nil front ∙ front_is)
one_byte front (commit_byte ∷ []) file c end is front_is short = inr (commit_byte, is ∙ ap (λ (l : List ℕ). l ++ commit_byte ∷ []) front_is)
one_byte front (a ∷ b ∷ rest) file c end is front_is short = absurd (omega arith)

module _ (file : List ℕ) (end : ℕ) (within : end ≤ length file) where
  -- a cut, and what was cut
  pub closing_cut : (c : List ℕ) → Cut end file c → IsClosing file end c
  closing_cut c cut = inl (length c, cut.no_shorter within, sym cut.front)

  front_long : length (take end file) ≡ end
  front_long = omega (arith, length-take end file, within)

  -- the closed commit_byte after it
  pub closing_commit_byte : (front c : List ℕ) → front ≡ take end file → Torn end 1 front c → IsClosing file end c
  closing_commit_byte front c is torn =
      let long : length front ≡ end = ap length is ∙ front_long in
      let same : take end c ≡ front = torn.before end (omega arith) (omega (arith, long)) ∙ take_all end front (omega (arith, long)) in
      one_byte front (drop end c) file c end (sym (take-append-drop end c) ∙ ap (λ (l : List ℕ). l ++ drop end c) same) is
      (omega (arith, length-drop end c, long, torn.no_longer))

  pub clear_commit_byte : (front new : List ℕ) → front ≡ take end file → Holds front end (0 ∷ []) new → new ≡ take end file ++ 0 ∷ []
  clear_commit_byte front new is holds =
      let long : length front ≡ end = ap length is ∙ front_long in
      holds
      ∙ ap (λ (l : List ℕ). l ++ (0 ∷ []) ++ drop (end + 1) front) (take_all end front (omega (arith, long)))
      ∙ ap (λ (l : List ℕ). front ++ (0 ∷ []) ++ l) (drop_all (end + 1) front (omega (arith, long)))
      ∙ append-nil (front ++ 0 ∷ [])
      ∙ ap (λ (l : List ℕ). l ++ 0 ∷ []) is

module _ (file : List ℕ) (commit_byte : ℕ) (within : commit_byte < length file) where
  pub opening_commit_byte : (c : List ℕ) → Torn commit_byte 1 file c → IsOpening (take commit_byte file) (drop (commit_byte + 1) file) c
  opening_commit_byte c torn = (
    get_or c commit_byte 0,
    sym (take-append-drop commit_byte c) ∙ ap (λ (l : List ℕ). l ++ drop commit_byte c) (torn.before commit_byte (omega arith) (omega (arith, within)))
        ∙ ap (λ (l : List ℕ). take commit_byte file ++ l) (drop_more c commit_byte 0 (omega (arith, within, torn.no_shorter))
        ∙ ap (λ (l : List ℕ). get_or c commit_byte 0 ∷ l) torn.behind),
  )

  pub opened_commit_byte : (new : List ℕ) → Holds file commit_byte (1 ∷ []) new → new ≡ take commit_byte file ++ 1 ∷ drop (commit_byte + 1) file
  opened_commit_byte new holds = holds ∙ append_assoc (take commit_byte file) (1 ∷ []) (drop (commit_byte + 1) file)

module _ (file : List ℕ) (commit_byte : ℕ) (closed : drop commit_byte file ≡ 0 ∷ []) where
  pub front_is : file ≡ take commit_byte file ++ 0 ∷ []
  front_is = sym (take-append-drop commit_byte file) ∙ ap (λ (l : List ℕ). take commit_byte file ++ l) closed

  pub long_is : length file ≡ commit_byte + 1
  long_is = omega (arith, length-drop commit_byte file, ap length closed)

  pub front_size : length (take commit_byte file) ≡ commit_byte
  front_size = omega (arith, length-take commit_byte file, long_is)

  -- the block after the closed commit_byte
  pub staging : (n : ℕ) (c : List ℕ) → Torn (commit_byte + 1) n file c → IsStaging (take commit_byte file) n c
  staging n c torn = (
    drop (commit_byte + 1) c,
    sym (take-append-drop (commit_byte + 1) c)
        ∙ ap (λ (l : List ℕ). l ++ drop (commit_byte + 1) c) (torn.before (commit_byte + 1) (omega arith) (omega (arith, long_is))
        ∙ take_all (commit_byte + 1) file (omega (arith, long_is)) ∙ front_is)
        ∙ append_assoc (take commit_byte file) (0 ∷ []) (drop (commit_byte + 1) c),
    omega (arith, length-drop (commit_byte + 1) c, long_is, torn.no_longer),
  )

  pub staged : (block new : List ℕ) → Holds file (commit_byte + 1) block new → new ≡ take commit_byte file ++ 0 ∷ block
  staged block new holds =
      holds
      ∙ ap (λ (l : List ℕ). l ++ block ++ drop (commit_byte + 1 + length block) file) (take_all (commit_byte + 1) file (omega (arith, long_is)))
      ∙ ap (λ (l : List ℕ). file ++ block ++ l) (drop_all (commit_byte + 1 + length block) file (omega (arith, long_is)))
      ∙ append-nil (file ++ block)
      ∙ ap (λ (l : List ℕ). l ++ block) front_is
      ∙ append_assoc (take commit_byte file) (0 ∷ []) block

  pub staged_front : (block new : List ℕ) → new ≡ take commit_byte file ++ 0 ∷ block → take commit_byte new ≡ take commit_byte file
  staged_front block new is = ap (λ (l : List ℕ). take commit_byte l) is ∙ take_at (take commit_byte file) (0 ∷ block) commit_byte front_size

  pub staged_back : (block new : List ℕ) → new ≡ take commit_byte file ++ 0 ∷ block → drop (commit_byte + 1) new ≡ block
  staged_back block new is =
      ap (λ (l : List ℕ). drop (commit_byte + 1) l) (is ∙ sym (append_assoc (take commit_byte file) (0 ∷ []) block))
      ∙ drop_at (take commit_byte file ++ 0 ∷ []) block (commit_byte + 1) (omega (arith, front_size, length-append (take commit_byte file) (0 ∷ [])))
