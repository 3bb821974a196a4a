use Rattle.std.proofs.Common.{refl}
use Rattle.zprotocol.proofs.world_lemmas.Tables.{all_tables}
use Rattle.zprotocol.proofs.traces.worked.retirement_is_a_run.Goals as goal

pub returns-clause-in_place : goal.returns-clause-in_place
unfolding all_tables
returns-clause-in_place c = refl

pub returns-clause-nothing_after_it_left : goal.returns-clause-nothing_after_it_left
unfolding all_tables
returns-clause-nothing_after_it_left c = refl

pub returns-clause-not_without_the_order : goal.returns-clause-not_without_the_order
unfolding all_tables
returns-clause-not_without_the_order c = refl
