use Rattle.std.proofs.Common.{◌≡◌, true, false, sym, ◌∙◌}
use Rattle.zsnapshots.proofs.Apart.{no_row_is_missing}
use Rattle.zsnapshots.proofs.loading.finished.Goals as goal

pub returns-in-None-clause-none : goal.returns-in-None-clause-none
returns-in-None-clause-none c = λ s rows.
    let bad : true ≡ false = sym (no_row_is_missing s c.args.reading rows) ∙ c.in-None.ensures.none in
    cc
