use Rattle.zjournal.proofs.Readings.{files_have_one_reading}
use Rattle.zjournal.proofs.laws.files_have_one_reading.Goals as goal

pub returns : goal.returns
returns c = files_have_one_reading
