use Rattle.std.proofs.Common.{List, ℕ, ap, ◌++◌, ◌∙◌}
use Rattle.zwire.specs.Frames.{frame, frame_of}
use Rattle.zpeers.proofs.Waits.{frame_bytes, frame_fits}
use Rattle.zpeers.proofs.waiting.put_frame.Goals as goal

pub returns-in-Ok-write_frame-clause-ok : goal.returns-in-Ok-write_frame-clause-ok
returns-in-Ok-write_frame-clause-ok c =
    c.in-Ok-write_frame.ensures.ok
    ∙ ap (λ (bs : List ℕ). bs ++ frame.spell (frame_of c.args.own c.args.to c.args.message.now)) c.in-Ok.ensures.items
    ∙ frame_bytes c.args.own c.args.to c.args.message.now c.args.out.now.items

pub returns-in-Ok-write_frame-clause-fits : goal.returns-in-Ok-write_frame-clause-fits
returns-in-Ok-write_frame-clause-fits c = frame_fits c.args.own c.args.to c.args.message.now c.in-Ok-write_frame.ensures.fits
