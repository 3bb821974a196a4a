-- Lists of one element after the other, put together.
use Rattle.std.proofs.Common.{◌≡◌, ℕ, ◌+◌, ◌<◌, ◌≤◌, List, [], ◌∷◌, ◌++◌, length, drop, get_or, sym, ap, ◌∙◌, append_assoc}
use Rattle.std.specs.List.{flat_map}
use Rattle.std.proofs.lemmas.List.{append-nil, drop_all}
use Rattle.std.proofs.lemmas.List.Concat.{flat_map-cons}
use Rattle.zfront.proofs.Asked.{ahead}

module _ {X A : Type 0} (f : X → List A) (xs : List X) (i : ℕ) where
  -- what one more element gives is put behind what is known
  pub flat_more : (x : X) (known all new : List A) → i < length xs → x ≡ get_or xs i x → new ≡ known ++ f x
      → known ++ flat_map f (drop i xs) ≡ all → new ++ flat_map f (drop (i + 1) xs) ≡ all
  flat_more x known all new below here is so_far =
      ap (λ ys. ys ++ flat_map f (drop (i + 1) xs)) is
      ∙ append_assoc known (f x) (flat_map f (drop (i + 1) xs))
      ∙ ap (λ ys. known ++ ys) (sym (flat_map-cons f x (drop (i + 1) xs)))
      ∙ ap (λ ys. known ++ flat_map f ys) (sym (ahead xs i x below here))
      ∙ so_far

  -- after the last element, all is known
  pub flat_end : (known all : List A) → length xs ≤ i → known ++ flat_map f (drop i xs) ≡ all → known ≡ all
  flat_end known all over so_far =
      sym (append-nil known) ∙ ap (λ ys. known ++ flat_map f ys) (sym (drop_all i xs over)) ∙ so_far
