use Rattle.std.proofs.Common.{subst}
use Rattle.ztree.specs.declared.limits.TheConstants.{MAX_CLIENTS}
use Rattle.zprotocol.specs.world.PlainTree.{IsExplained}
use Rattle.zlinearizability.proofs.Headline.{every_history_is_explained}
use Rattle.zscript.proofs.OneRun.{lines_report_one_run}
use Rattle.zscript.specs.Script.{lines_of}
use Rattle.zscript.proofs.laws.every_script_is_explained.Goals as goal

pub returns : goal.returns
returns c servers outcomes bytes =
    let reported = lines_report_one_run servers outcomes (lines_of bytes) in
    subst IsExplained reported.1 (every_history_is_explained servers MAX_CLIENTS reported.0)
