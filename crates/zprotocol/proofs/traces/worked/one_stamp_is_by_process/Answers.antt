use Rattle.std.proofs.Common.{◌≡◌, true, false, refl, List, [], ◌∷◌}
use Rattle.zprotocol.specs.declared.traces.trace.TraceEvent.{TraceEvent}
use Rattle.zprotocol.specs.traces.support.TraceRows.{s1, c0, tick}
use Rattle.zprotocol.proofs.traces.worked.one_stamp_is_by_process.Goals as goal

pub returns-clause-other_order : goal.returns-clause-other_order
returns-clause-other_order c = λ merge.
    let both : ◌≡◌ true false = merge.2 s1 (tick 1) [] refl in
    absurd (cc both)

pub returns-clause-not_all : goal.returns-clause-not_all
returns-clause-not_all c = λ merge.
    let left : ◌≡◌ {A = List TraceEvent} (tick 1 ∷ []) [] = merge.3 c0 in
    absurd (cc left)
