-- What maps of written entries hold.
use Rattle.std.specs.FinMap.{entries-insert, gets}
use Rattle.ztree.proofs.Entries.{no_entries}

pub ruleset written = (gets, entries-insert, no_entries)
