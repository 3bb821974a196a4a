-- The numbers in requests on watches. The source is ZooKeeper 3.8 (`Watcher.WatcherType` and
-- `AddWatchMode`).
use Rattle.std.specs.Prelude.{ℤ, pos, Option, None, Some, if◌then◌else◌}
use Rattle.std.specs.Ordering.{int_eq}
use Rattle.zjute.specs.declared.watch_type.AddMode.{AddMode}
use Rattle.zjute.specs.declared.watch_type.AddMode.TheVariants.{Persistent, Recursive}
use Rattle.zjute.specs.declared.watch_type.WatchType.{WatchType}
use Rattle.zjute.specs.declared.watch_type.WatchType.TheVariants.{Children, Data, Any}

-- the type of watches with this number; ZooKeeper 3.8 knows no other
abbrev pub type_of : ℤ → Option WatchType
type_of number =
    if int_eq number (pos 1) then Some Children else
    if int_eq number (pos 2) then Some Data else
    if int_eq number (pos 3) then Some Any else
    None

-- the mode of an added watch with this number
abbrev pub mode_of : ℤ → Option AddMode
mode_of number =
    if int_eq number (pos 0) then Some Persistent else
    if int_eq number (pos 1) then Some Recursive else
    None
