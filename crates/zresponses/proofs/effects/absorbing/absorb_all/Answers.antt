use Rattle.std.proofs.Common.{sym, ◌∙◌, arith}
use Rattle.zresponses.proofs.effects_lemmas.Ends.{none_absorbed}
use Rattle.zresponses.proofs.effects.absorbing.absorb_all.Goals as goal

pub returns : goal.returns
returns c =
    sym (none_absorbed c.args.calls.now c.args.replies.now c.loop-place.tables c.loop-place.place (omega arith)) ∙ c.loop-place.invariant
