-- On the samples of the worked rows.
use Rattle.std.proofs.Common.{◌≡◌, Bool, true, false, ◌||◌, [], ◌∷◌, map, refl, sym, ap, ◌∙◌}
use Rattle.std.specs.Ordering.{nat_cmp, eq_by_cmp}
use Rattle.std.specs.Cmp.{nat_cmp_total}
use Rattle.std.specs.List.Sorted.{IsStrictlySortedBy}
use Rattle.std.specs.FinMap.{empty, entries-insert, keys}
use Rattle.std.specs.FinMap.Entries.{put}
use Rattle.std.specs.FinSet.{from_list, contains-from_list}
use Rattle.zconnections.specs.attachments.support.Samples.{some_attachment, some_attachments}
use Rattle.ztree.proofs.Entries.{no_entries}
use Rattle.zconnections.specs.Reporting.{in_order}
use Rattle.zconnections.proofs.Rising.{in_order-members}

-- session 7 alone is here
pub keys-here : keys some_attachments ≡ 7 ∷ []
keys-here =
    ap (map (λ e. e.0)) (entries-insert nat_cmp_total empty 7 some_attachment ∙ ap (put nat_cmp 7 some_attachment) no_entries)

other_order : (a b : Bool) → (a || (b || false)) ≡ (b || (a || (b || false)))
other_order true true = refl
other_order true false = refl
other_order false true = refl
other_order false false = refl

rising : IsStrictlySortedBy nat_cmp (3 ∷ 5 ∷ [])
unfolding IsStrictlySortedBy
rising = ((refl, tt), (tt, tt))

pub in_order-two : in_order (from_list {R = nat_cmp} (5 ∷ 3 ∷ 5 ∷ [])) ≡ 3 ∷ 5 ∷ []
in_order-two =
    sym (in_order-members (3 ∷ 5 ∷ []) (from_list {R = nat_cmp} (5 ∷ 3 ∷ 5 ∷ [])) rising
    (λ q. other_order (eq_by_cmp nat_cmp q 3) (eq_by_cmp nat_cmp q 5) ∙ sym (contains-from_list nat_cmp_total (5 ∷ 3 ∷ 5 ∷ []) q)))
