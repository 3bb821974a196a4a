use Rattle.zlinearizability.proofs.CutRuns.{every_history_with_cuts_is_explained}
use Rattle.zlinearizability.proofs.laws.every_history_with_cuts_is_explained.Goals as goal

pub returns : goal.returns
returns c = every_history_with_cuts_is_explained
