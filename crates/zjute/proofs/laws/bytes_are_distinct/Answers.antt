use Rattle.zcodec.proofs.Whole.{one_spelling}
use Rattle.zjute.specs.Stats.{stat}
use Rattle.zjute.proofs.Asking.{requests_apart}
use Rattle.zjute.proofs.FirstFrame.{greetings_apart}
use Rattle.zjute.proofs.Records.{is_stat}
use Rattle.zjute.proofs.laws.bytes_are_distinct.Goals as goal

pub returns : goal.returns
returns c = record { requests = requests_apart; greetings = greetings_apart; stats = one_spelling stat is_stat }
