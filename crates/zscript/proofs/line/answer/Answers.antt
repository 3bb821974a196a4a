use Rattle.std.proofs.Common.{◌∷◌, [], ap, subst}
use lib.Utf8.{encode}
use Rattle.zscript_text.specs.Texts.{Writes}
use Rattle.zworld.specs.Steps.{WorldView}
use Rattle.zscript.specs.Done.{IsLineDone, world_between}
use Rattle.zscript.specs.support.Effects.{MayReport}
use Rattle.zscript.proofs.LineDone.{writes_more, line_done}
use Rattle.zscript.proofs.line.answer.Goals as goal

pub returns : goal.returns
unfolding encode
returns c =
    let new = c.play_line.new.world in
    record {
      done = subst (λ (w : WorldView). (done : IsLineDone (world_between w.held) c.args.line.now (world_between new.held)
          (Writes c.args.out.now c.push.new.self)) × MayReport c.args.strict done.reported) c.forget.ensures
          (line_done c.args.strict c.forget.new.self new c.args.line.now _ _
          (λ text wrote. writes_more c.args.out.now c.play_line.new.out c.push.new.self text (10 ∷ []) wrote c.in_ok-push.ensures.bytes)
          (ap (λ (w : WorldView). w.history) c.forget.ensures) c.in_ok-play_line.ensures);
    }
