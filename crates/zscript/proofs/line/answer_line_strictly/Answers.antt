use Rattle.std.proofs.Common.{refl}
use Rattle.std.proofs.lemmas.Result.{on_ok_weaker}
use Rattle.zscript_text.specs.Texts.{Writes}
use Rattle.zscript.specs.Done.{world_between}
use Rattle.zscript.proofs.Acted.{acted_line}
use Rattle.zscript.proofs.line.answer_line_strictly.Goals as goal

pub returns : goal.returns
returns c = record {
  done = on_ok_weaker c.answer.result
      (λ done. acted_line (world_between c.args.world.now.held) (world_between c.answer.new.world.held) c.args.line.now
      (Writes c.args.out.now c.answer.new.out) done.0 (done.1 refl))
      c.answer.ensures.done;
}
