use Rattle.std.proofs.Common.{◌≡◌, ◌∷◌, [], codes, get_or, inl, inr, refl, sym, ap, subst, ⊎_elim, ℕ, List, arith}
use Rattle.std.specs.Fmt.{digits}
use Rattle.zrace.specs.Seen.{IsPathOf}
use Rattle.zrace.proofs.rows.records_show_versions.Goals as goal

pub returns-clause-reply : goal.returns-clause-reply
unfolding digits
returns-clause-reply c = λ stat one. (3, codes "n7" ∷ [], stat, refl, inl refl, inr (inl refl), one)

-- the path of another node
other_path : (path : List (List ℕ)) → codes "n8" ∷ [] ≡ path → IsPathOf 7 path → ⊥
unfolding digits
other_path path same is =
    let other : IsPathOf 7 (codes "n8" ∷ []) = subst (IsPathOf 7) (sym same) is in
    let last : ◌≡◌ {A = ℕ} 56 55 = ap (λ (text : List ℕ). get_or text 2 0) other in omega arith

pub returns-clause-other_node : goal.returns-clause-other_node
returns-clause-other_node c = λ stat r.
    ⊎_elim (λ same. other_path r.1 (cc same) r.3) (λ rest. ⊎_elim (λ same. absurd (cc same)) (λ none. none) rest) r.4
