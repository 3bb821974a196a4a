use Rattle.std.proofs.Common.{◌-◌, Ok, sym, ap, ◌∙◌, inr, arith, rules}
use Rattle.zscript_text.specs.Shape.{parts_shape}
use Rattle.zscript_text.specs.Request.{read_of}
use Rattle.zscript_text.proofs.PartsShape.{before, flipped, none_in_none, none_left, no_part, last_part, not_separated, further_parts}
use Rattle.zscript_text.proofs.shape.all_parts.Goals as goal

pub returns-in_default-clause-fault : goal.returns-in_default-clause-fault
returns-in_default-clause-fault c =
    inr (ap read_of (c.loop-room.invariant ∙ none_left _ _ _ c.loop-room-test.true c.in_default.ensures.none.0))

pub returns-in_default-next_part-clause-fault : goal.returns-in_default-next_part-clause-fault
returns-in_default-next_part-clause-fault c =
    inr (ap read_of (c.loop-room.invariant ∙ no_part _ _ _ _ _ c.loop-room-test.true c.in-Some.ensures.word c.in_default-next_part.ensures.none))

pub returns-in_default-next-clause-found : goal.returns-in_default-next-clause-found
returns-in_default-next-clause-found c =
    ap read_of (c.loop-room.invariant ∙ last_part _ _ _ _ _ _ _ c.loop-room-test.true c.in-Some.ensures.word c.in-Some-next_part.ensures.part c.in_default-next.ensures.none.0)
    ∙ ap (λ items. Ok items) (sym c.in_ok-push.ensures.items)

pub returns-then-ne-clause-fault : goal.returns-then-ne-clause-fault
returns-then-ne-clause-fault c =
    inr (ap read_of (c.loop-room.invariant ∙ not_separated _ _ _ _ _ _ _ _ _ c.loop-room-test.true c.in-Some.ensures.word c.in-Some-next_part.ensures.part c.in-Some-next.ensures.word (flipped _ _ c.if-ne.ensures)))

pub loop-room-preserved : goal.loop-room-preserved
loop-room-preserved c =
    c.loop-room.invariant
    ∙ further_parts _ _ _ _ _ _ _ _ _ c.loop-room-test.true c.in-Some.ensures.word c.in-Some-next_part.ensures.part c.in-Some-next.ensures.word (flipped _ _ c.if-ne.ensures)
    ∙ ap (λ items. before items (parts_shape (c.loop-room.room - 1) c.next-in-loop-room.new.self)) (sym c.in_ok-push.ensures.items)

pub returns-clause-fault : goal.returns-clause-fault
returns-clause-fault c = inr (ap read_of (c.loop-room.invariant ∙ none_in_none _ _ _ (omega (arith, c.loop-room-test.false))))

pub loop-room-init : goal.loop-room-init
loop-room-init c = search rules
