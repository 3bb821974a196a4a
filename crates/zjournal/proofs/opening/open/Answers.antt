use Rattle.std.proofs.Common.{refl}
use Rattle.zjournal.proofs.opening.open.Goals as goal

pub returns-in-Ok-clause-sound : goal.returns-in-Ok-clause-sound
returns-in-Ok-clause-sound g c is_open =
    let read = c.in-Ok.ensures.read in
    (c.args.servers, read.0, record { texts = read.2.texts; file = read.2.file; head_is = refl; place = read.2.is_place; durable = read.2.durable })
