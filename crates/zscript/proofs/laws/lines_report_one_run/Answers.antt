use Rattle.zscript.proofs.OneRun.{lines_report_one_run}
use Rattle.zscript.proofs.laws.lines_report_one_run.Goals as goal

pub returns : goal.returns
returns c = lines_report_one_run
