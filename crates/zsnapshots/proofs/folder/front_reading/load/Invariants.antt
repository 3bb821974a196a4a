use Rattle.std.proofs.Common.{length, map}
use Rattle.zsnapshots.specs.Loading.{bytes_loaded}
use Rattle.zsnapshots.specs.folder.Texts.{row_record}
use Rattle.zsnapshots.specs.folder.support.Reading.{HasRows, IsRead}
use Rattle.zsnapshots.proofs.folder.front_reading.load.Given as goal

-- so far the rows in front were taken
abbrev pub invariant-loop-record : goal.invariant-loop-record
invariant-loop-record l =
    IsRead (map row_record (bytes_loaded l.loading)) l.had_passwords l.text l.rest × HasRows l.has_rows (bytes_loaded l.loading)

abbrev pub decreases-loop-record : goal.decreases-loop-record
decreases-loop-record l = length l.rest
