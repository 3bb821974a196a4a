use Rattle.std.proofs.Common.{subst, sym, ap, ◌∙◌}
use Rattle.zops.specs.Machine.{MachineView}
use Rattle.zops.specs.RestoredLaws.{IsSettled}
use Rattle.zsnapshots.specs.States.{rows_of, rows_so_far, is_done}
use Rattle.zsnapshots.proofs.Finished.{rows_are}
use Rattle.zsnapshots.proofs.reading.Reading.finish.Goals as goal

pub returns-then-is_done-clause-machine : goal.returns-then-is_done-clause-machine
returns-then-is_done-clause-machine c =
    let r = c.self.inside in
    ap (λ (m : MachineView). rows_of m.state) c.finish.ensures.state
    ∙ rows_are r.header r.restoring r.sessions r.nodes r.replies r.session r.path r.client c.self.invariant
    (ap is_done c.self.view_is ∙ sym c.is_done.ensures ∙ c.if-is_done.true)
    ∙ ap rows_so_far c.self.view_is

pub returns-then-is_done-clause-settled : goal.returns-then-is_done-clause-settled
returns-then-is_done-clause-settled c =
    subst (λ (m : MachineView). IsSettled m.state.service.plain) (sym c.finish.ensures.state)
    (record { lawful = c.finish.ensures.lawful; bounded = c.finish.ensures.bounded; dated = c.self.invariant.dated })
