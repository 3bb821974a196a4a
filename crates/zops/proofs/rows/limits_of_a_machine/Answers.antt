use Rattle.std.proofs.Common.{◌≡◌, ◌+◌, ◌-◌, ◌<◌, true, false, not, Some, [], refl, ap, ◌∙◌, arith}
use Rattle.std.specs.Prelude.{nat_le, is_some, ◌==◌}
use Rattle.std.proofs.lemmas.Bool.Decides.{nat_tests}
use Rattle.std.specs.Option.{option_map_or}
use Rattle.std.specs.FinMap as finite
use Rattle.ztree.specs.declared.limits.TheConstants.{ZXID_BOUND}
use Rattle.ztree.specs.support.Samples.{at_a}
use Rattle.ztree.specs.Tree.{Tree, has_node}
use Rattle.ztree.specs.Lawful.{IsLawful}
use Rattle.zcalls.specs.declared.refusal.Refusal.TheVariants.{Full}
use Rattle.zcalls.specs.declared.reply.Reply.TheVariants.{Refused}
use Rattle.zcalls.specs.Cached.{entry_step}
use Rattle.zcalls.specs.Part.{node_has, is_owned}
use Rattle.zcalls.specs.Step.{step, change_result}
use Rattle.zops.specs.Machine.{entry_result}
use Rattle.zops.specs.support.Rows.{seven_nodes, new_a, creates_a}
use Rattle.zops.proofs.Creating.{created-refused, full}
use Rattle.zops.proofs.rows.limits_of_a_machine.Goals as goal

-- the plain step refuses it
refused : (t : Tree) → IsLawful t → t.limits ≡ seven_nodes → t.zxid + 1 < ZXID_BOUND → finite.len t.nodes ≡ 7 → has_node t.nodes at_a ≡ false
    → (step t 0 creates_a.update).1 ≡ Refused Full
unfolding step
refused t lawful within next seven free =
    let left : nat_le (ZXID_BOUND - 1) t.zxid ≡ false = grind (arith, nat_tests, next) in
    let there : has_node t.nodes [] ≡ true = ap is_some lawful.root.1 in
    let unowned : node_has is_owned t.nodes [] ≡ false = ap (λ o. option_map_or is_owned o false) lawful.root.1 ∙ ap (λ owner. not (owner == 0)) lawful.root.2 in
    let many : nat_le t.limits.nodes (finite.len t.nodes) ≡ true = λ i. nat_le (within i).nodes (seven i) in
    let why = created-refused t 0 new_a Full (full t 0 new_a refl refl there unowned at_a refl refl free many) in
    rw left (ap (λ did. (change_result t did).1) why)

pub returns-clause-eighth : goal.returns-clause-eighth
unfolding entry_result entry_step
returns-clause-eighth c = λ s lawful within next seven free none.
    rw none (ap Some (refused s.service.plain lawful within next seven free))
