use Rattle.zstore.proofs.parts.Restored.{stored_rooted}
use Rattle.zstore.proofs.store.Store.rooted.Goals as goal

pub invariant_of-result : goal.invariant_of-result
invariant_of-result c =
    rw (c.new-3.ensures, c.new-2.ensures)
    (stored_rooted c.args.root c.requires.root c.args.time c.args.zxid c.args.limits c.requires.limits c.in_ok-new.field-0 c.in_ok-new.ensures)
