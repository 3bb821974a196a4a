-- The first names of a list that owners of a path share.
use Rattle.std.proofs.Common.{◌≡◌, ℕ, zero, suc, ◌≤◌, ◌+◌, ◌-◌, List, [], ◌∷◌, ◌++◌, length, take, refl, sym, ap, ◌∙◌, arith, lit≤}
use Rattle.std.proofs.lemmas.List.{length-take-le, take-take}
use Rattle.zpath.specs.Grammar.{IsPath}
use Rattle.zpath.proofs.Family.{IsPath-take}

-- a list's first names are the first names of a path
pub record ShowsFront (depth : ℕ) (list path : List (List ℕ)) : Type 0 where
  pub within : depth ≤ length list
  pub is : IsPath (take depth list)
  pub shown : take depth list ≡ take depth path

-- those of the list that shows the path
pub front_shown : (depth whole : ℕ) (list path : List (List ℕ)) → (whole ≤ length list) × IsPath (take whole list) → take whole list ≡ path → depth ≤ length path → ShowsFront depth list path
front_shown depth whole list path is shows within =
    let long = ap length (sym shows) ∙ length-take-le whole list is.0 in
    let less : depth ≤ whole = omega (arith, long, within) in
    let same = take-take depth whole list less in
    record {
      within = omega (arith, less, is.0);
      is = rw (← same) (IsPath-take depth (take whole list) is.1);
      shown = sym same ∙ ap (take depth) shows;
    }

-- and no names, which need no list
pub nothing_shown : (depth : ℕ) (path : List (List ℕ)) → IsPath path → depth ≤ 0 → ShowsFront depth [] path
nothing_shown zero path is none = record { within = lit≤ tt; is = IsPath-take 0 path is; shown = refl }
nothing_shown (suc depth) path is none = absurd (omega arith)

-- the names before the last one
but_last : (depth : ℕ) (path : List (List ℕ)) → length path ≡ depth + 1 → (name : List ℕ) × (path ≡ take depth path ++ name ∷ [])
but_last depth [] long = absurd (omega arith)
but_last zero (name ∷ []) long = (name, refl)
but_last zero (name ∷ next ∷ path) long = absurd (omega arith)
but_last (suc depth) (name ∷ path) long =
    let more = but_last depth path (omega (arith, long)) in
    (more.0, ap (λ names. name ∷ names) more.1)

-- a list shows them before the last name that it shows
pub shown_but_last : (whole : ℕ) (list path : List (List ℕ)) → whole ≤ length list → take whole list ≡ path → (whole ≡ 0 → ⊥) → (name : List ℕ) × (path ≡ take (whole - 1) path ++ name ∷ [])
shown_but_last whole list path within shows some =
    let long = ap length (sym shows) ∙ length-take-le whole list within in
    but_last (whole - 1) path (omega (arith, long, some))
