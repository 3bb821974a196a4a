use Rattle.std.proofs.Common.{arith}
use Rattle.zwire.specs.Frames.{contents, frame}
use Rattle.zwire.proofs.Frames.{is_contents, found_in, only_in}
use Rattle.zwire.proofs.reading.read_frame.Goals as goal

pub returns-clause-found : goal.returns-clause-found
unfolding frame
returns-clause-found c = found_in contents is_contents (λ v. (v.0, v.1.now)) c.args.bytes.now c.frame_in.result
    (λ i. omega (arith, c.type_inv.bytes i)) c.frame_in.ensures.read

pub returns-clause-only : goal.returns-clause-only
unfolding frame
returns-clause-only c = only_in contents is_contents (λ v. (v.0, v.1.now)) c.args.bytes.now c.frame_in.result
    c.frame_in.ensures.read c.frame_in.ensures.fault
