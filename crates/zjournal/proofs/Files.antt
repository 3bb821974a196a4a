-- What files represent while they are made, grow and are opened.
use Rattle.std.proofs.Common.{◌≡◌, ◌≢◌, inl, inr, ℕ, zero, suc, ◌+◌, ◌-◌, ◌<◌, ◌≤◌, List, [], ◌∷◌, ◌++◌, length}
use Rattle.std.proofs.Common.{take, drop, refl, sym, ◌∙◌, ap, subst, arith, length-append, length-take}
use Rattle.std.proofs.lemmas.Bool.{cases_eq}
use Rattle.zjournal.specs.declared.place.Place.{Place}
use Rattle.std.proofs.lemmas.List.{take_at, drop_at, append-nil}
use Rattle.zjournal.specs.Blocks.{IsText, AreTexts, blocks, at_rest, IsEnd}
use Rattle.zjournal.specs.Checksum.{IsSum, adler_after, digits, sum_after_all, stamped, stamped_all}
use Rattle.zjournal.specs.CommitBytes.{IsClosing, IsAdding}
use Rattle.zjournal.specs.Journal.{version, word, mark, head, holdings, IsPlace, Keeps, IsUnmade, Represents, IsWithOrWithout}
use Rattle.zjournal.specs.Found.{KeepsTo}
use Rattle.zjournal.proofs.Blocks.{blocks-push, first_block, length-blocks-push, texts-push, front_of_end}
use Rattle.zjournal.proofs.Adler.{all_is_sum, one_is_sum}
use Rattle.zjournal.proofs.Sums.{digits_text, sum-push, same_size, stamped-push}

-- a head without a byte 0
text_append : (xs ys : List ℕ) → IsText xs → IsText ys → IsText (xs ++ ys)
text_append [] ys first second = second
text_append (x ∷ xs) ys first second = (first.0, text_append xs ys first.1 second)

front_text : (servers : ℕ) → 0 < servers → IsText (mark ++ version ∷ servers ∷ word)
front_text servers some = grind (arith, some)

pub head_text : (start servers : ℕ) → 0 < servers → IsText (head start servers)
head_text start servers some = text_append (mark ++ version ∷ servers ∷ word) (digits start) (front_text servers some) (digits_text start)

-- what says that a head has no byte 0 says so of one with another sum
pub other_head_text : (start other servers : ℕ) → IsText (head start servers) → IsText (head other servers)
other_head_text start other servers h = head_text other servers (some servers h.1.1.1.1.1.1.1.1.1.1.1.1.1.1.1.1.1.1.1.0)
  where
    some : (n : ℕ) → n ≢ 0 → 0 < n
    some zero not = absurd (not refl)
    some (suc n) not = omega arith

pub head_size : (start servers : ℕ) → length (head start servers) ≡ 32
head_size start servers = refl

pub head_end : (start servers : ℕ) → length (blocks (holdings start servers [])) ≡ 34
head_end start servers = refl

-- the position after the head
pub first_place : (servers : ℕ) (place : Place) → place.end ≡ 34 → place.sum ≡ place.start → IsSum place.start → IsPlace servers [] place
first_place servers place end sum is_sum = record { end = end ∙ sym (head_end place.start servers); sum = sum; is_sum = is_sum }

-- the sum at a position is one
pub place_is_sum : (servers : ℕ) (batches : List (List ℕ)) (place : Place) → IsPlace servers batches place → IsSum place.sum
place_is_sum servers batches place is = subst IsSum (sym is.sum) (all_is_sum place.start batches is.is_sum)

-- batches end at the same index after each sum
pub same_end : (a b servers : ℕ) (batches : List (List ℕ)) → length (blocks (holdings a servers batches)) ≡ length (blocks (holdings b servers batches))
same_end a b servers batches =
    omega (
      arith,
      same_size a b batches,
      head_size a servers,
      head_size b servers,
      length-append (head a servers) (0 ∷ blocks (stamped_all a batches)),
      length-append (head b servers) (0 ∷ blocks (stamped_all b batches)),
    )

-- a closed commit_byte and anything after it is an end
pub closed_end : (commit_byte : ℕ) (rest : List ℕ) → commit_byte ≢ 1 → IsEnd (commit_byte ∷ rest)
closed_end commit_byte [] shut = tt
closed_end commit_byte (b ∷ rest) shut = shut

take_past : (xs ys : List ℕ) (m n : ℕ) → m ≡ length xs + n → take m (xs ++ ys) ≡ xs ++ take n ys
take_past [] ys m n is = let same : m ≡ n = omega arith in ap (λ (k : ℕ). take k ys) same
take_past (x ∷ xs) ys zero n is = absurd (omega arith)
take_past (x ∷ xs) ys (suc m) n is = ap (λ (l : List ℕ). x ∷ l) (take_past xs ys m n (omega arith))

-- the end of a file that holds batches is closed
module _ (servers : ℕ) (batches : List (List ℕ)) (file : List ℕ) (place : Place) (k : KeepsTo servers batches place file) where
  pub keeps : Keeps servers batches file
  keeps = record { start = place.start; is_sum = k.is_place.is_sum; texts = k.texts; end = drop place.end file; split = k.split; counts_for_nothing = k.counts_for_nothing }

  front_stays : take place.end file ≡ blocks (holdings place.start servers batches)
  front_stays = ap (λ (l : List ℕ). take place.end l) k.split ∙ take_at (blocks (holdings place.start servers batches)) (drop place.end file) place.end (sym k.is_place.end)

  pub closing_keeps : (c : List ℕ) → IsClosing file place.end c → Keeps servers batches c
  closing_keeps c (inl cut) =
      let n = cut.0 - length (blocks (holdings place.start servers batches)) in
      record {
        start = place.start;
        is_sum = k.is_place.is_sum;
        texts = k.texts;
        end = take n (drop place.end file);
        split = cut.2 ∙ ap (λ (l : List ℕ). take cut.0 l) k.split ∙ take_past (blocks (holdings place.start servers batches))
            (drop place.end file) cut.0 n (let le = cut.1 in omega (arith, le, k.is_place.end));
        counts_for_nothing = front_of_end n (drop place.end file) k.counts_for_nothing;
      }
  closing_keeps c (inr commit_byte) =
      record { start = place.start; is_sum = k.is_place.is_sum; texts = k.texts; end = commit_byte.0 ∷ []; split = commit_byte.1 ∙ ap (λ (l : List ℕ). l ++ commit_byte.0 ∷ []) front_stays; counts_for_nothing = tt }

  pub closed_rests : (c : List ℕ) → c ≡ take place.end file ++ 0 ∷ [] → c ≡ at_rest (holdings place.start servers batches)
  closed_rests c is = is ∙ ap (λ (l : List ℕ). l ++ 0 ∷ []) front_stays

-- the content of the block of a batch after these
abbrev pub stamped_after : ℕ → List (List ℕ) → List ℕ → List ℕ
stamped_after start batches batch = stamped (sum_after_all start batches) batch

-- one batch more
module _ (start servers : ℕ) (batches : List (List ℕ)) where
  more_holdings : (batch : List ℕ) → holdings start servers (batches ++ batch ∷ []) ≡ holdings start servers batches ++ stamped_after start batches batch ∷ []
  more_holdings batch = ap (λ (l : List (List ℕ)). head start servers ∷ l) (stamped-push start batches batch)

  pub more_texts : AreTexts (holdings start servers batches) → (batch : List ℕ) → IsText (stamped_after start batches batch)
      → AreTexts (holdings start servers (batches ++ batch ∷ []))
  more_texts texts batch h = subst AreTexts (sym (more_holdings batch)) (texts-push (holdings start servers batches) (stamped_after start batches batch) texts h)

  pub more_blocks : (batch rest : List ℕ) → blocks (holdings start servers batches) ++ 1 ∷ (stamped_after start batches batch ++ 0 ∷ rest)
      ≡ blocks (holdings start servers (batches ++ batch ∷ [])) ++ rest
  more_blocks batch rest = sym (ap (λ (l : List (List ℕ)). blocks l ++ rest) (more_holdings batch)
      ∙ blocks-push (holdings start servers batches) (stamped_after start batches batch) rest)

  pub one_more : (batch : List ℕ) → blocks (holdings start servers batches) ++ 1 ∷ (stamped_after start batches batch ++ 0 ∷ [])
      ≡ blocks (holdings start servers (batches ++ batch ∷ []))
  one_more batch = more_blocks batch [] ∙ append-nil (blocks (holdings start servers (batches ++ batch ∷ [])))

  pub more_size : (end : ℕ) → end ≡ length (blocks (holdings start servers batches)) → (batch block : List ℕ)
      → block ≡ stamped_after start batches batch ++ 0 ∷ 0 ∷ [] → end + length block ≡ length (blocks (holdings start servers (batches ++ batch ∷ [])))
  more_size end ends batch block block_is =
      let size = ap length block_is in
      let longer = ap (λ (l : List (List ℕ)). length (blocks l)) (more_holdings batch)
      ∙ length-blocks-push (holdings start servers batches) (stamped_after start batches batch) in
      omega (arith, ends, size, longer, length-append (stamped_after start batches batch) (0 ∷ 0 ∷ []))

-- and the position after it
pub more_place : (servers : ℕ) (batches : List (List ℕ)) (place later : Place) (batch block : List ℕ) → IsPlace servers batches place
    → block ≡ stamped place.sum batch ++ 0 ∷ 0 ∷ [] → later.start ≡ place.start → later.end ≡ place.end + length block
    → later.sum ≡ adler_after place.sum batch → IsPlace servers (batches ++ batch ∷ []) later
more_place servers batches place later batch block is block_is same end sum = record {
  end = end
      ∙ more_size place.start servers batches place.end is.end batch block (block_is ∙ ap (λ (n : ℕ). stamped n batch ++ 0 ∷ 0 ∷ []) is.sum)
      ∙ ap (λ (n : ℕ). length (blocks (holdings n servers (batches ++ batch ∷ [])))) (sym same);
  sum = sum
      ∙ ap (λ (n : ℕ). adler_after n batch) is.sum
      ∙ sym (sum-push place.start batches batch)
      ∙ ap (λ (n : ℕ). sum_after_all n (batches ++ batch ∷ [])) (sym same);
  is_sum = subst IsSum (sym same) is.is_sum;
}

-- a batch is put into a file at rest
module _ (start : ℕ) (is_sum : IsSum start) (servers : ℕ) (batches : List (List ℕ)) (file : List ℕ) (end : ℕ) (texts : AreTexts (holdings start servers batches))
    (is : file ≡ at_rest (holdings start servers batches)) (ends : end ≡ length (blocks (holdings start servers batches))) where
  pub rest_front : take end file ≡ blocks (holdings start servers batches)
  rest_front = ap (λ (l : List ℕ). take end l) is ∙ take_at (blocks (holdings start servers batches)) (0 ∷ []) end (sym ends)

  pub rest_back : drop end file ≡ 0 ∷ []
  rest_back = ap (λ (l : List ℕ). drop end l) is ∙ drop_at (blocks (holdings start servers batches)) (0 ∷ []) end (sym ends)

  pub rest_keeps : Keeps servers batches file
  rest_keeps = record { start = start; is_sum = is_sum; texts = texts; end = 0 ∷ []; split = is; counts_for_nothing = tt }

  any_commit_byte : (batch : List ℕ) → IsText (stamped_after start batches batch) → (commit_byte : ℕ) (c : List ℕ) → c ≡ blocks (holdings start servers batches)
      ++ commit_byte ∷ (stamped_after start batches batch ++ 0 ∷ 0 ∷ []) → IsWithOrWithout servers batches batch c
  any_commit_byte batch h commit_byte c at = elim (cases_eq commit_byte 1) [
    | inl set_commit_byte ↦ inr (record {
      start = start;
      is_sum = is_sum;
      texts = more_texts start servers batches texts batch h;
      end = 0 ∷ [];
      split = at ∙ ap (λ (g : ℕ). blocks (holdings start servers batches) ++ g ∷ (stamped_after start batches batch ++ 0 ∷ 0 ∷ [])) set_commit_byte
          ∙ more_blocks start servers batches batch (0 ∷ []);
      counts_for_nothing = tt;
    })
    | inr shut ↦ inl (record { start = start; is_sum = is_sum; texts = texts; end = commit_byte ∷ (stamped_after start batches batch ++ 0 ∷ 0 ∷ []); split = at; counts_for_nothing = shut })
  ]

  pub adding_keeps : (batch block c : List ℕ) → IsText (stamped_after start batches batch) → block ≡ stamped_after start batches batch ++ 0 ∷ 0 ∷ []
      → IsAdding (take end file) block c → IsWithOrWithout servers batches batch c
  adding_keeps batch block c h block_is (inl staged) =
      inl (record {
        start = start;
        is_sum = is_sum;
        texts = texts;
        end = 0 ∷ staged.0;
        split = staged.1 ∙ ap (λ (l : List ℕ). l ++ 0 ∷ staged.0) rest_front;
        counts_for_nothing = closed_end 0 staged.0 (omega arith);
      })
  adding_keeps batch block c h block_is (inr opened) =
      any_commit_byte batch h opened.0 c (opened.1 ∙ ap (λ (l : List ℕ). l ++ opened.0 ∷ block) rest_front
      ∙ ap (λ (l : List ℕ). blocks (holdings start servers batches) ++ opened.0 ∷ l) block_is)

  pub added_rests : (batch block c : List ℕ) → block ≡ stamped_after start batches batch ++ 0 ∷ 0 ∷ [] → c ≡ take end file ++ 1 ∷ block
      → c ≡ at_rest (holdings start servers (batches ++ batch ∷ []))
  added_rests batch block c block_is at =
      at ∙ ap (λ (l : List ℕ). l ++ 1 ∷ block) rest_front ∙ ap (λ (l : List ℕ). blocks (holdings start servers batches) ++ 1 ∷ l) block_is
      ∙ more_blocks start servers batches batch (0 ∷ [])

  pub added_texts : (batch : List ℕ) → IsText (stamped_after start batches batch) → AreTexts (holdings start servers (batches ++ batch ∷ []))
  added_texts = more_texts start servers batches texts

-- a file is made
module _ (servers : ℕ) (some : 0 < servers) where
  pub made_texts : (start : ℕ) → AreTexts (holdings start servers [])
  made_texts start = (head_text start servers some, tt)

  unmade_front : (n : ℕ) (file : List ℕ) → IsUnmade servers file → IsUnmade servers (take n file)
  unmade_front zero file h = tt
  unmade_front (suc n) [] h = tt
  unmade_front (suc zero) (g ∷ file) h = tt
  unmade_front (suc (suc n)) (g ∷ []) h = tt
  unmade_front (suc (suc n)) (g ∷ b ∷ file) h = (h.0, (let short = h.1 in omega (arith, short, length-take n file)))

  pub closing_unmade : (file c : List ℕ) → IsUnmade servers file → IsClosing file 0 c → Represents servers [] c
  closing_unmade file c h (inl cut) = inr (inl (subst (IsUnmade servers) (sym cut.2) (unmade_front cut.0 file h)), refl)
  closing_unmade file c h (inr commit_byte) = inr (inl (subst (IsUnmade servers) (sym commit_byte.1) tt), refl)

  pub any_head_commit_byte : (commit_byte : ℕ) (c : List ℕ) → c ≡ commit_byte ∷ (head 1 servers ++ 0 ∷ 0 ∷ []) → Represents servers [] c
  any_head_commit_byte commit_byte c at = elim (cases_eq commit_byte 1) [
    | inl set_commit_byte ↦ inl (record {
      start = 1;
      is_sum = one_is_sum;
      texts = made_texts 1;
      end = 0 ∷ [];
      split = at
          ∙ ap (λ (g : ℕ). g ∷ (head 1 servers ++ 0 ∷ 0 ∷ [])) set_commit_byte
          ∙ sym (first_block (head 1 servers) [] (0 ∷ []));
      counts_for_nothing = tt;
    })
    | inr shut ↦ inr (inr (commit_byte, shut, at), refl)
  ]

  staged_unmade : (rest : List ℕ) → length rest ≤ length (head 1 servers) + 2 → IsUnmade servers (0 ∷ rest)
  staged_unmade [] short = tt
  staged_unmade (b ∷ rest) short = (refl, short)

  pub adding_head : (block c : List ℕ) → block ≡ head 1 servers ++ 0 ∷ 0 ∷ [] → IsAdding [] block c → Represents servers [] c
  adding_head block c block_is (inl staged) =
      let short = staged.2 in let size = ap length block_is in
      inr (
        inl (subst (IsUnmade servers) (sym staged.1)
            (staged_unmade staged.0 (omega (arith, short, size, length-append (head 1 servers) (0 ∷ 0 ∷ []))))),
        refl,
      )
  adding_head block c block_is (inr opened) = any_head_commit_byte opened.0 c (opened.1 ∙ ap (λ (l : List ℕ). opened.0 ∷ l) block_is)
