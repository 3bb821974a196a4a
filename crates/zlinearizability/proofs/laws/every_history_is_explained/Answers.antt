use Rattle.zlinearizability.proofs.Headline.{every_history_is_explained}
use Rattle.zlinearizability.proofs.laws.every_history_is_explained.Goals as goal

pub returns : goal.returns
returns c = every_history_is_explained
