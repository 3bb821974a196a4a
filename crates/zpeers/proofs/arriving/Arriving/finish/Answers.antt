use Rattle.std.proofs.Common.{◌≡◌, ap, subst, sym, ◌∙◌}
use Rattle.zprotocol.specs.declared.message.Message.TheVariants.{Snapshot}
use Rattle.zsnapshots.specs.States.{IsReadable, rows_of}
use Rattle.zsnapshots.specs.Loading.{rows_loaded}
use Rattle.zpeers.specs.Records.{state_of}
use Rattle.zpeers.specs.Incoming.{ArrivingView}
use Rattle.zpeers.proofs.arriving.Arriving.finish.Goals as goal

pub returns-clause-message : goal.returns-clause-message
returns-clause-message c =
    let t = c.in_ok-snapshot.snapshot in
    let same : state_of t ≡ c.in-Some.machine.state = ap state_of c.in_ok-snapshot.ensures in (
      t,
      ap (λ (a : ArrivingView). Snapshot a.epoch t) c.self.view_is,
      ap rows_of same ∙ c.in-Some.ensures.rows ∙ ap (λ (a : ArrivingView). rows_loaded a.rows) c.self.view_is,
      subst IsReadable (sym same) c.in-Some.ensures.readable,
    )
