-- The number of the last entry is the length of the log, in views and in what snapshots hand over.
use Rattle.std.specs.Prelude.{◌≡◌, ℕ, List, length}
use Rattle.zcalls.specs.declared.call.Entry.{Entry}
use Rattle.zcalls.specs.Lists.{Among}
use Rattle.zprotocol.specs.declared.message.Message.TheVariants as message
use Rattle.zprotocol.specs.declared.process.Process.{Process}
use Rattle.zprotocol.specs.server.View.{ServerView}
use Rattle.zlinearizability.specs.chain.Flow.{LogWorld, LogMessage, length_of}

-- a view's last number is the length of its log; 0 without one
abbrev pub HasExactLast : ServerView (List Entry) → Type 0
HasExactLast v = v.last ≡ length_of v.machine

-- the same of a snapshot
abbrev pub IsExact : LogMessage → Type 0
IsExact (message.Snapshot epoch transfer) = transfer.last ≡ length transfer.machine
IsExact other = Unit {0}

-- the same of all in a world
pub record LastsAreLengths (w : LogWorld) : Type 0 where
  pub views : (s : ℕ) → HasExactLast (w.servers s)
  pub under_way : (from to : Process) (m : LogMessage) → Among m (w.links from to) → IsExact m
