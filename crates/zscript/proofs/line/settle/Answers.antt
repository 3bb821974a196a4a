use Rattle.std.proofs.Common.{◌++◌, None, subst}
use Rattle.std.specs.List.{flat_map}
use Rattle.std.proofs.lemmas.Result.{on_ok_weaker}
use Rattle.zscript_text.specs.Texts.{Writes}
use Rattle.zscript.specs.Line.{settled_text, taken_text}
use Rattle.zscript.proofs.Effects.{settle_done}
use Rattle.zscript.proofs.line.settle.Goals as goal

pub returns : goal.returns
returns c =
    on_ok_weaker c.write_settled.result
    (λ written. settle_done c.args.strict _ _ c.in_ok-settled.settled _ c.in_ok-settled.ensures
    (subst (λ h. Writes c.args.out.now c.write_settled.new.out (flat_map (taken_text None) h ++ settled_text c.in_ok-settled.settled))
    c.history.ensures.history written))
    c.write_settled.ensures
