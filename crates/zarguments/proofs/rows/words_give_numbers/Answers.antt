use Rattle.std.proofs.Common.{refl}
use Rattle.zarguments.proofs.OnWords.{asked_on_literals}
use Rattle.zarguments.proofs.rows.words_give_numbers.Goals as goal

pub returns : goal.returns
unfolding asked_on_literals
returns c = record { none = refl; one = refl; both = refl; joined = refl; zeros = refl }
