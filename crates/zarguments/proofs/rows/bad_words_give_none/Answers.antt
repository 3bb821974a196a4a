use Rattle.std.proofs.Common.{refl}
use Rattle.zarguments.proofs.OnWords.{asked_on_literals}
use Rattle.zarguments.proofs.rows.bad_words_give_none.Goals as goal

pub returns : goal.returns
unfolding asked_on_literals
returns c = record {
  no_subcommand = refl;
  another = refl;
  help = refl;
  more = refl;
  no_number = refl;
  a_word = refl;
  too_great = refl;
  twice = refl;
  unknown = refl;
  before = refl;
}
