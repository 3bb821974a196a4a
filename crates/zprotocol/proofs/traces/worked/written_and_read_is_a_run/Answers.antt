use Rattle.std.proofs.Common.{refl}
use Rattle.zprotocol.proofs.world_lemmas.Tables.{all_tables}
use Rattle.zprotocol.proofs.traces.worked.written_and_read_is_a_run.Goals as goal

pub returns-clause-in_place : goal.returns-clause-in_place
unfolding all_tables
returns-clause-in_place c = refl

pub returns-clause-reported : goal.returns-clause-reported
unfolding all_tables
returns-clause-reported c = refl

pub returns-clause-begun_twice : goal.returns-clause-begun_twice
unfolding all_tables
returns-clause-begun_twice c = refl

pub returns-clause-retried : goal.returns-clause-retried
unfolding all_tables
returns-clause-retried c = refl

pub returns-clause-ignored_update : goal.returns-clause-ignored_update
unfolding all_tables
returns-clause-ignored_update c = refl

pub returns-clause-ignored_query : goal.returns-clause-ignored_query
unfolding all_tables
returns-clause-ignored_query c = refl

pub returns-clause-ignored_twice : goal.returns-clause-ignored_twice
unfolding all_tables
returns-clause-ignored_twice c = refl
