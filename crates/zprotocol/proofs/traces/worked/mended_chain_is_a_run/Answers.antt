use Rattle.std.proofs.Common.{refl}
use Rattle.zprotocol.proofs.world_lemmas.Tables.{all_tables}
use Rattle.zprotocol.proofs.traces.worked.mended_chain_is_a_run.Goals as goal

pub returns-clause-in_place : goal.returns-clause-in_place
unfolding all_tables
returns-clause-in_place c = refl

pub returns-clause-nothing_after_the_halt : goal.returns-clause-nothing_after_the_halt
unfolding all_tables
returns-clause-nothing_after_the_halt c = refl

pub returns-clause-gone_is_last : goal.returns-clause-gone_is_last
unfolding all_tables
returns-clause-gone_is_last c = refl
