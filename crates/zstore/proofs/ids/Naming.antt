-- What Ids name after one more was given, and after one was forgotten.
use Rattle.std.proofs.Common.{◌≡◌, ◌≢◌, ◌⊎◌, inl, inr, ◌-◌, Option, Bool, true, false, cond, Some, None, refl, sym, ap, ◌∙◌, arith}
use Rattle.std.specs.Prelude.{nat_le, IsSome}
use Rattle.std.specs.FinMap as finite
use Rattle.std.proofs.lemmas.Bool.Decides.{nat_tests}
use Rattle.zslots.specs.declared.id.Id.{Id}
use Rattle.zslots.proofs.Maps.{id_cmp_total, id_cmp_same}
use Rattle.ztree.specs.Tree.{Path}
use Rattle.ztree.proofs.Maps.{same_some, none_some, same_or_other, get-insert-elsewhere, get-remove-elsewhere}
use Rattle.zstore.specs.StoreView.{StoreView, Mark, path_of, Forgets, mark_left}
use Rattle.zstore.specs.support.Undoing.{Places}

-- an Id that names a path still names it after another Id was given
pub still_named : (places : Places) (id other : Id) (path p : Path) → finite.get places id ≡ None →
    finite.get places other ≡ Some p → finite.get (finite.insert places id path) other ≡ Some p
still_named places id other path p free is = by (same_or_other id_cmp_total id_cmp_same other id)
  where
    by : (other ≡ id) ⊎ (other ≢ id) → finite.get (finite.insert places id path) other ≡ Some p
    by (inl same) = absurd (none_some p (sym free ∙ ap (finite.get places) (sym same) ∙ is))
    by (inr differs) =
        get-insert-elsewhere id_cmp_total id_cmp_same places id path other differs ∙ is

-- and so does one after another was forgotten
pub not_forgotten : (old new : StoreView) (id other : Id) (path p : Path) → Forgets old new id →
    path_of old id ≡ Some path → path_of old other ≡ Some p → p ≢ path → path_of new other ≡ Some p
not_forgotten old new id other path p forgets named is differs =
    ap (λ places. finite.get places other) forgets
    ∙ by (same_or_other id_cmp_total id_cmp_same other id)
  where
    by : (other ≡ id) ⊎ (other ≢ id) → finite.get (finite.remove old.places id) other ≡ Some p
    by (inl same) =
        absurd (differs (same_some p path (sym is ∙ ap (finite.get old.places) same ∙ named)))
    by (inr another) = get-remove-elsewhere id_cmp_total id_cmp_same old.places id other another
        ∙ is

-- the path of a live Id
pub path_there : (o : Option Path) → IsSome o → (path : Path) × (o ≡ Some path)
path_there (Some path) there = (path, refl)
path_there None there = absurd (clash there)
  where
    clash : false ≡ true → ⊥
    clash e = cc

-- a step and another are two
pub mark_left_twice : (m : Option Mark) → mark_left 1 (mark_left 1 m) ≡ mark_left 2 m
mark_left_twice None = refl
mark_left_twice (Some m) = by (nat_le 1 m.steps) refl (nat_le 2 m.steps) refl
  where
    twice : (b : Bool) → nat_le 1 (m.steps - 1) ≡ b → (d : Bool) → nat_le 2 m.steps ≡ d →
        cond b (Some (record m { steps = m.steps - 1 - 1 })) None ≡ cond d
        (Some (record m { steps = m.steps - 2 })) None
    twice true e true f = ap (λ n. Some (record m { steps = n })) (omega arith)
    twice false e false f = refl
    twice true e false f = absurd (grind (arith, nat_tests))
    twice false e true f = absurd (grind (arith, nat_tests))

    by : (a : Bool) → nat_le 1 m.steps ≡ a → (d : Bool) → nat_le 2 m.steps ≡ d →
        mark_left 1 (cond a (Some (record m { steps = m.steps - 1 })) None) ≡ cond d
        (Some (record m { steps = m.steps - 2 })) None
    by true e d f = twice (nat_le 1 (m.steps - 1)) refl d f
    by false e true f = absurd (grind (arith, nat_tests))
    by false e false f = refl
