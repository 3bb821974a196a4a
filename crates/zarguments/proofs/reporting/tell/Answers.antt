use Rattle.std.proofs.Common.{◌∷◌, [], inl, inr}
use Rattle.zdevices.specs.Device.{Between}
use Rattle.zdevices.proofs.Beginnings.{beginning-longer, beginning-later, failed_after}
use Rattle.zarguments.proofs.reporting.tell.Goals as goal

pub returns-in_default : goal.returns-in_default
returns-in_default g c = inr (beginning-longer _ c.args.text.now (10 ∷ []) (rw c.as_bytes.ensures.value at c.in_default.ensures.beginning), c.in_default.ensures.failed)

pub returns-in_default-write_all : goal.returns-in_default-write_all
returns-in_default-write_all g c =
    let took = Between g.F.Sink.took c.args.faults.now c.write_all-2.new.sink in
    let failed = Between g.F.Sink.failed c.args.faults.now c.write_all-2.new.sink in
    inr (
      beginning-later
          (Between g.F.Sink.took c.args.faults.now c.write_all.new.sink)
          (Between g.F.Sink.took c.write_all.new.sink c.write_all-2.new.sink)
          took c.args.text.now (10 ∷ [])
          (λ a b. g.met.F.Sink.took_both _ _ _ a b)
          (rw c.as_bytes.ensures.value at c.in-Ok.ensures.took)
          c.in_default-write_all.ensures.beginning,
      failed_after _ failed (λ n. g.met.F.Sink.failed_both _ _ _ 0 n c.in-Ok.ensures.sound) c.in_default-write_all.ensures.failed,
    )

pub returns : goal.returns
returns g c = inl (g.met.F.Sink.took_both _ _ _ c.args.text.now (10 ∷ []) (rw c.as_bytes.ensures.value at c.in-Ok.ensures.took) c.in-Ok-write_all.ensures.took)
