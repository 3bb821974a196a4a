-- What the worked rows speak of: limits within which a tree has at most seven nodes.
use Rattle.std.specs.Prelude.{◌≡◌, ◌+◌, ◌<◌, false, None, Some}
use Rattle.std.specs.FinMap as finite
use Rattle.ztree.specs.declared.limits.TheConstants.{ZXID_BOUND}
use Rattle.ztree.specs.declared.limits.TreeLimits.{TreeLimits}
use Rattle.ztree.specs.support.Samples.{a, at_a}
use Rattle.ztree.specs.Limits.{profile}
use Rattle.ztree.specs.Tree.{has_node}
use Rattle.ztree.specs.Lawful.{IsLawful}
use Rattle.zcalls.specs.declared.call.Create.{Create}
use Rattle.zcalls.specs.declared.call.Entry.{Entry}
use Rattle.zcalls.specs.declared.call.Lifetime.TheVariants.{Persistent}
use Rattle.zcalls.specs.declared.call.Update.TheVariants as call
use Rattle.zcalls.specs.declared.refusal.Refusal.TheVariants.{Full}
use Rattle.zcalls.specs.declared.reply.Reply.TheVariants.{Refused}
use Rattle.zcalls.specs.Part.{named}
use Rattle.zops.specs.Machine.{MachineState, entry_result}

-- the profile's limits with seven nodes
abbrev pub seven_nodes : TreeLimits
seven_nodes = record profile { nodes = 7 }

-- the first call of client 0: it creates a node
abbrev pub new_a : Create
new_a = record { path = at_a; kind = named Persistent; bytes = a }

abbrev pub creates_a : Entry
creates_a = record { client = 0; number = 1; update = call.Create new_a }

-- a machine within these limits that has seven nodes, none of them at that path, refuses the eighth
abbrev pub RefusesTheEighth : Type 0
RefusesTheEighth =
    (s : MachineState) → IsLawful s.service.plain → s.service.plain.limits ≡ seven_nodes →
    s.service.plain.zxid + 1 < ZXID_BOUND → finite.len s.service.plain.nodes ≡ 7 →
    has_node s.service.plain.nodes at_a ≡ false → finite.get s.service.kept 0 ≡ None →
    (entry_result s creates_a).1 ≡ Some (Refused Full)
