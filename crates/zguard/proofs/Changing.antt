-- On the change of one connection.
use Rattle.std.proofs.Common.{◌≡◌, ℕ, Bool, true, false, cond, Option, Some, None, refl, sym, ap, ◌∙◌}
use Rattle.std.specs.Ordering.{eq_by_cmp, nat_cmp}
use Rattle.std.specs.Cmp.{nat_cmp_total}
use Rattle.std.specs.Option.{option_map_or}
use Rattle.std.specs.FinMap.{get, insert, get-insert, same_map, nat_cmp-IsAntisymmetric}
use Rattle.ztree.proofs.Maps.{get-insert-here}
use Rattle.zguard.specs.Guarding.{VisitorRows, VisitorView, changed}

-- a visitor that is there is changed
pub changed-there : (to : VisitorView → VisitorView) (rows : VisitorRows) (k : ℕ) (s : VisitorView) → get rows k ≡ Some s
    → changed to rows k ≡ insert rows k (to s)
changed-there to rows k s there = ap (λ o. option_map_or (λ t. insert rows k (to t)) o rows) there

-- and none is added
pub changed-absent : (to : VisitorView → VisitorView) (rows : VisitorRows) (k : ℕ) → get rows k ≡ None → changed to rows k ≡ rows
changed-absent to rows k none = ap (λ o. option_map_or (λ t. insert rows k (to t)) o rows) none

-- of two inserts at one connection the second counts
pub insert-insert : (rows : VisitorRows) (k : ℕ) (s t : VisitorView) → insert (insert rows k s) k t ≡ insert rows k t
insert-insert rows k s t =
    same_map nat_cmp_total nat_cmp-IsAntisymmetric _ _ (λ q.
    get-insert nat_cmp_total (insert rows k s) k t q
    ∙ ap (cond (eq_by_cmp nat_cmp q k) (Some t)) (get-insert nat_cmp_total rows k s q)
    ∙ twice (eq_by_cmp nat_cmp q k) (get rows q)
    ∙ sym (get-insert nat_cmp_total rows k t q))
  where
    twice : (b : Bool) (o : Option VisitorView) → cond b (Some t) (cond b (Some s) o) ≡ cond b (Some t) o
    twice true o = refl
    twice false o = refl

-- two changes of one visitor are one
pub changed-changed : (to by : VisitorView → VisitorView) (rows : VisitorRows) (k : ℕ)
    → changed to (changed by rows k) k ≡ changed (λ s. to (by s)) rows k
changed-changed to by rows k = each (get rows k) refl
  where
    each : (o : Option VisitorView) → get rows k ≡ o → changed to (changed by rows k) k ≡ changed (λ s. to (by s)) rows k
    each None none =
        ap (λ m. changed to m k) (changed-absent by rows k none) ∙ changed-absent to rows k none
        ∙ sym (changed-absent (λ s. to (by s)) rows k none)
    each (Some s) there =
        ap (λ m. changed to m k) (changed-there by rows k s there)
        ∙ changed-there to (insert rows k (by s)) k (by s) (get-insert-here nat_cmp_total nat_cmp-IsAntisymmetric rows k (by s))
        ∙ insert-insert rows k (by s) (to (by s))
        ∙ sym (changed-there (λ t. to (by t)) rows k s there)
