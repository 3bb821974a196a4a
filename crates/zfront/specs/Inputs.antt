-- The inputs of a front end for ZooKeeper's clients, and the effect of each.
use Rattle.std.specs.Prelude.{◌≡◌, ℕ, Bool, false, drop}
use Rattle.std.specs.FinMap as finite
use Rattle.zconnections.specs.buffers.Inputs.{InputView}
use Rattle.zconnections.specs.buffers.Inputs.InputView.{Opened, Came, Ended, Tick}
use Rattle.zconnections.specs.buffers.Streams as streams
use Rattle.zconnections.specs.Tables as tables
use Rattle.zfront.specs.Front.{FrontView, with_tables}
use Rattle.zfront.specs.Reading.{Comes}
use Rattle.zfront.specs.Ticking.{Ticks}

-- a front, and whether it has run out of memory
pub record ServerView : Type 0 where
  pub front : FrontView
  pub is_broken : Bool

-- memory ran out neither before nor now
abbrev pub IsSound : ServerView → ServerView → Type 0
IsSound old new = (old.is_broken ≡ false) × (new.is_broken ≡ false)

-- a connection was opened
abbrev pub opened : ℕ → FrontView → FrontView
opened c v = with_tables (record v.tables { streams = finite.insert v.tables.streams c streams.opened }) v

-- a connection ended
abbrev pub ended : ℕ → FrontView → FrontView
ended c v = with_tables (tables.ended c v.tables) v

-- the effect of an input
abbrev pub Does : InputView → FrontView → FrontView → Type 0
Does (Opened c) old new = new ≡ opened c old
Does (Came c bytes) old new = Comes bytes c old new
Does (Ended c) old new = new ≡ ended c old
Does Tick old new = Ticks old new

-- the first chunk was sent
abbrev pub without_first : FrontView → FrontView
without_first v = with_tables (record v.tables { unsent = drop 1 v.tables.unsent }) v
