use Rattle.zwatches.proofs.Unfired.{unfired_is}
use Rattle.zwatches.proofs.firing.remove_fired.Goals as goal

pub returns : goal.returns
returns c = record {
  found = c.remove_each.ensures.found;
  gone = unfired_is c.args.watches.now c.remove_each.new.watches c.args.connections.now c.args.event c.args.path.now c.requires.listed c.remove_each.ensures.gone;
}
