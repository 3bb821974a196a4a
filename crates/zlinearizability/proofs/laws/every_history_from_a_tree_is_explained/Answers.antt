use Rattle.zlinearizability.proofs.Headline.{every_history_from_is_explained}
use Rattle.zlinearizability.proofs.CutRuns.{every_history_from_with_cuts_is_explained}
use Rattle.zlinearizability.proofs.laws.every_history_from_a_tree_is_explained.Goals as goal

pub returns : goal.returns
returns c = record {
  history = every_history_from_is_explained;
  cuts = every_history_from_with_cuts_is_explained;
}
