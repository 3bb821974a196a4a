use Rattle.std.proofs.Common.{sym, ap, ◌∙◌}
use Rattle.zscript_text.specs.Request.{parts_in}
use Rattle.zscript_text.proofs.PartsCount.{is_multi}
use Rattle.zscript_text.proofs.reading.read_multi.Goals as goal

pub returns-clause-fault : goal.returns-clause-fault
returns-clause-fault c =
    let read = ap parts_in (sym c.deref.ensures.value) ∙ c.in_ok-read_parts.ensures.found in
    absurd (is_multi c.args.words _ _ c.in_ok-parts.ensures.found read c.in-Err.ensures.limits)
