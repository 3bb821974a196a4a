use Rattle.std.proofs.Common.{◌++◌, None, sym, ◌∙◌, subst}
use Rattle.std.specs.List.{flat_map}
use Rattle.std.proofs.lemmas.Result.{on_ok_weaker}
use Rattle.zscript_text.specs.Texts.{Writes}
use Rattle.zscript.specs.Line.{taken_text}
use Rattle.zscript.specs.support.Effects.{did_text}
use Rattle.zscript.proofs.Effects.{whole_where}
use Rattle.zscript.proofs.line.do_event.Goals as goal

pub returns : goal.returns
returns c =
    on_ok_weaker c.write_did.result
    (λ written. record {
      did = c.in_ok-did.did;
      happened = c.in_ok-did.ensures.happened;
      caused = c.in_ok-did.ensures.cause;
      acted = λ strictly. whole_where c.args.strict c.in_ok-did.did strictly (sym c.must_stop.ensures ∙ c.if-must_stop.false);
      written = subst (λ h. Writes c.args.out.now c.write_did.new.out (flat_map (taken_text None) h ++ did_text c.in_ok-did.did))
          c.history.ensures.history written;
    })
    c.write_did.ensures
