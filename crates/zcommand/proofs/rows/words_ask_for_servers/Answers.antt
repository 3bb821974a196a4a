use Rattle.std.proofs.Common.{refl}
use Rattle.zarguments.proofs.OnWords.{asked_on_literals}
use Rattle.zcommand.specs.Asked.{settings_asked}
use Rattle.zcommand.proofs.rows.words_ask_for_servers.Goals as goal

pub returns : goal.returns
unfolding settings_asked asked_on_literals
returns c = record { none = refl; three = refl; most = refl; too_few = refl; too_many = refl; a_byte_more = refl; nothing = refl }
