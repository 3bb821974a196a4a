use Rattle.zprotocol.specs.server.Machine.{cached_tree_from}
use Rattle.zworld.proofs.OpeningViews.{opens, opens_full}
use Rattle.zworld.proofs.processes.Processes.restored.Goals as goal

-- all are there
pub invariant_of-result : goal.invariant_of-result
invariant_of-result c =
    opens_full (cached_tree_from c.args.snapshot.now.machine.plain) c.args.last c.args.clients c.keeps_in_range.ensures.few c.requires.few
    c.in_ok-restored_actors.field-0.items c.in_ok-new.field-0 c.in_ok-restored_actors.ensures
    c.new-2.result.posts c.new-2.ensures c.in_ok-new.ensures.notices

-- it is the initial world
pub returns : goal.returns
returns c =
    opens (cached_tree_from c.args.snapshot.now.machine.plain) c.args.last c.args.clients c.keeps_in_range.ensures.few c.requires.few
    c.in_ok-restored_actors.field-0.items c.in_ok-new.field-0 c.in_ok-restored_actors.ensures
    c.in_ok-new.ensures.empty
