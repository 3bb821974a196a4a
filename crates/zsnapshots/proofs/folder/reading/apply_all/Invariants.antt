use Rattle.std.proofs.Common.{◌≡◌, false, List, length}
use Rattle.zsnapshots.specs.folder.Entries.{Entry, records_of}
use Rattle.zsnapshots.specs.folder.States.{after}
use Rattle.zsnapshots.specs.folder.support.Reading.{IsRead}
use Rattle.zsnapshots.proofs.folder.reading.apply_all.Given as goal

-- so far the entries before the rest were applied
abbrev pub invariant-loop-rest : goal.invariant-loop-rest
invariant-loop-rest l =
    (entries : List Entry) × IsRead (records_of entries) l.had_passwords l.text l.rest
    × (l.tree ≡ record { tree = after l.initial.tree.tree entries; is_broken = false })

abbrev pub decreases-loop-rest : goal.decreases-loop-rest
decreases-loop-rest l = length l.rest
