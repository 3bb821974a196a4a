use Rattle.zsnapshots.proofs.Apart.{no_row_is_missing}
use Rattle.zsnapshots.proofs.laws.headers_report_the_end.Goals as goal

pub returns : goal.returns
returns c = no_row_is_missing
