use Rattle.zjournal.proofs.Files.{place_is_sum}
use Rattle.zjournal.proofs.journal.Journal.sum.Goals as goal

pub returns-clause-is_sum : goal.returns-clause-is_sum
returns-clause-is_sum g c servers batches rest = place_is_sum servers batches c.args.self.now.place rest.place
