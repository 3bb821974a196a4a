use Rattle.zprotocol.proofs.traces_lemmas.Existence.{has_a_merge}
use Rattle.zprotocol.proofs.traces_lemmas.Order.{goes_by_stamps}
use Rattle.zprotocol.proofs.traces_lemmas.Unique.{merge_is_one}
use Rattle.zprotocol.proofs.traces.laws.merge_is_one.Goals as goal

pub returns-clause-exists : goal.returns-clause-exists
returns-clause-exists c = has_a_merge

pub returns-clause-one : goal.returns-clause-one
returns-clause-one c = merge_is_one

pub returns-clause-order : goal.returns-clause-order
returns-clause-order c = goes_by_stamps
