use Rattle.zsnapshots.proofs.WholeStates.{same_state}
use Rattle.zsnapshots.proofs.Apart.{rows_apart, in_front, text_in_front}
use Rattle.zsnapshots.proofs.laws.rows_are_distinct.Goals as goal

pub returns : goal.returns
returns c = record { one = same_state; rows = rows_apart; front = in_front; text = text_in_front }
