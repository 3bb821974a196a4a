-- Blocks one after the other, and what they can't be mistaken for.
use Rattle.std.proofs.Common.{◌≡◌, ◌≢◌, ℕ, ◌+◌, List, [], ◌∷◌, ◌++◌, length}
use Rattle.std.proofs.Common.{drop, get_or, take, zero, suc, refl, sym, ◌∙◌, ap, subst, arith, append_assoc}
use Rattle.std.proofs.Common.{length-append}
use Rattle.std.proofs.lemmas.List.{append-nil}
use Rattle.zjournal.specs.Blocks.{IsText, AreTexts, blocks, IsEnd}

-- one block more
pub blocks-push : (holds : List (List ℕ)) (held rest : List ℕ) → blocks (holds ++ held ∷ []) ++ rest ≡ blocks holds ++ 1 ∷ (held ++ 0 ∷ rest)
blocks-push [] held rest = ap (λ (l : List ℕ). 1 ∷ l) (append_assoc held (0 ∷ []) rest)
blocks-push (t ∷ holds) held rest = ap (λ (l : List ℕ). 1 ∷ l)
    (append_assoc t (0 ∷ blocks (holds ++ held ∷ [])) rest ∙ ap (λ (l : List ℕ). t ++ 0 ∷ l) (blocks-push holds held rest)
    ∙ sym (append_assoc t (0 ∷ blocks holds) (1 ∷ (held ++ 0 ∷ rest))))

pub length-blocks-push : (holds : List (List ℕ)) (held : List ℕ) → length (blocks (holds ++ held ∷ [])) ≡ length (blocks holds) + (length held + 2)
length-blocks-push holds held =
    let whole = ap length (sym (append-nil (blocks (holds ++ held ∷ []))) ∙ blocks-push holds held []) in
    omega (arith, whole, length-append (blocks holds) (1 ∷ (held ++ 0 ∷ [])), length-append held (0 ∷ []))

pub texts-push : (texts : List (List ℕ)) (text : List ℕ) → AreTexts texts → IsText text → AreTexts (texts ++ text ∷ [])
texts-push [] text h is = (is, tt)
texts-push (t ∷ texts) text h is = (h.0, texts-push texts text h.1 is)

-- the first block, and what follows it
pub first_block : (held : List ℕ) (holds : List (List ℕ)) (rest : List ℕ) → blocks (held ∷ holds) ++ rest ≡ 1 ∷ (held ++ 0 ∷ (blocks holds ++ rest))
first_block held holds rest = ap (λ (l : List ℕ). 1 ∷ l) (append_assoc held (0 ∷ blocks holds) rest)

-- the first byte 0 of a list
pub first_zero : (xs ys more others : List ℕ) → IsText xs → IsText ys → xs ++ 0 ∷ more ≡ ys ++ 0 ∷ others → (xs ≡ ys) × (more ≡ others)
first_zero [] [] more others hx hy is = (refl, ap (λ (l : List ℕ). drop 1 l) is)
first_zero [] (y ∷ ys) more others hx hy is = absurd (hy.0 (sym (ap (λ (l : List ℕ). get_or l 0 0) is)))
first_zero (x ∷ xs) [] more others hx hy is = absurd (hx.0 (ap (λ (l : List ℕ). get_or l 0 0) is))
first_zero (x ∷ xs) (y ∷ ys) more others hx hy is =
    let h = ap (λ (l : List ℕ). get_or l 0 0) is in
    let r = first_zero xs ys more others hx.1 hy.1 (ap (λ (l : List ℕ). drop 1 l) is) in
    (ap (λ (n : ℕ). n ∷ xs) h ∙ ap (λ (l : List ℕ). y ∷ l) r.0, r.1)

pub no_zero : (xs ys : List ℕ) → IsText (xs ++ 0 ∷ ys) → ⊥
no_zero [] ys h = h.0 refl
no_zero (x ∷ xs) ys h = no_zero xs ys h.1

-- a block is no end
pub end_is_no_block : (held rest : List ℕ) → IsEnd (1 ∷ (held ++ 0 ∷ rest)) → ⊥
end_is_no_block [] rest h = h refl
end_is_no_block (b ∷ held) rest h = h refl

-- blocks that begin alike
pub same_blocks : (a b : List (List ℕ)) (e f : List ℕ) → AreTexts a → AreTexts b → IsEnd e → IsEnd f → blocks a ++ e ≡ blocks b ++ f → a ≡ b
same_blocks [] [] e f ha hb he hf is = refl
same_blocks [] (t ∷ b) e f ha hb he hf is = absurd (end_is_no_block t (blocks b ++ f) (subst IsEnd (is ∙ first_block t b f) he))
same_blocks (s ∷ a) [] e f ha hb he hf is = absurd (end_is_no_block s (blocks a ++ e) (subst IsEnd (sym is ∙ first_block s a e) hf))
same_blocks (s ∷ a) (t ∷ b) e f ha hb he hf is =
    let r = first_zero s t (blocks a ++ e) (blocks b ++ f) ha.0 hb.0 (ap (λ (l : List ℕ). drop 1 l) (sym (first_block s a e)
    ∙ is ∙ first_block t b f)) in
    ap (λ (x : List ℕ). x ∷ a) r.0 ∙ ap (λ (l : List (List ℕ)). t ∷ l) (same_blocks a b e f ha.1 hb.1 he hf r.1)

-- what follows some of the blocks, where something does
pub next_block : (a b : List (List ℕ)) (e rest : List ℕ) → AreTexts a → AreTexts b → IsEnd e → (rest ≢ []) → blocks a ++ e ≡ blocks b ++ 1 ∷ rest
    → (held more : List ℕ) × (after : List (List ℕ)) × (a ≡ b ++ held ∷ after) × IsText held × (rest ≡ held ++ 0 ∷ more)
next_block [] [] e [] ha hb he some is = absurd (some refl)
next_block [] [] e (r ∷ rest) ha hb he some is = absurd (subst IsEnd is he refl)
next_block (s ∷ a) [] e rest ha hb he some is =
    (s, blocks a ++ e, a, refl, ha.0, ap (λ (l : List ℕ). drop 1 l) (sym is ∙ first_block s a e))
next_block [] (t ∷ b) e rest ha hb he some is = absurd (end_is_no_block t (blocks b ++ 1 ∷ rest) (subst IsEnd (is ∙ first_block t b (1 ∷ rest)) he))
next_block (s ∷ a) (t ∷ b) e rest ha hb he some is =
    let r = first_zero s t (blocks a ++ e) (blocks b ++ 1 ∷ rest) ha.0 hb.0
    (ap (λ (l : List ℕ). drop 1 l) (sym (first_block s a e) ∙ is ∙ first_block t b (1 ∷ rest))) in
    let n = next_block a b e rest ha.1 hb.1 he some r.1 in
    (n.0, n.1, n.2, ap (λ (x : List ℕ). x ∷ a) r.0 ∙ ap (λ (l : List (List ℕ)). t ∷ l) n.3, n.4, n.5)

-- a front of an end is an end
pub front_of_end : (n : ℕ) (end : List ℕ) → IsEnd end → IsEnd (take n end)
front_of_end n [] h = refl_end n
  where
    refl_end : (n : ℕ) → IsEnd (take n [])
    refl_end zero = tt
    refl_end (suc n) = tt
front_of_end zero (g ∷ end) h = tt
front_of_end (suc zero) (g ∷ end) h = tt
front_of_end (suc (suc n)) (g ∷ []) h = tt
front_of_end (suc (suc n)) (g ∷ b ∷ end) h = h
