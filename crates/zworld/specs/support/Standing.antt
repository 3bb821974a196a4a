-- What holds of all processes between events.
use Rattle.std.specs.Prelude.{◌≡◌, ℕ, Bool, true, false, is_some, List, [], length}
use Rattle.ztree.specs.Tree.{Tree}
use Rattle.zcalls.specs.Cached.{CachedState}
use Rattle.zprotocol.specs.declared.limits.TheConstants.{PROCESSES}
use Rattle.zprotocol.specs.declared.process.Process.{Process}
use Rattle.zprotocol.specs.server.View.{Post}
use Rattle.zactor.specs.Acting.{TreeStanding, can_stand, has_stopped}
use Rattle.zworld.specs.links.Places.{has_notice}
use Rattle.zworld.specs.links.support.Counts.{passing}
use Rattle.zprotocol.specs.world.Does.{AtClient}
use Rattle.zworld.specs.Held.{HeldChannels, standing_at}

-- a client has an outstanding call
abbrev pub waits : TreeStanding → Bool
waits (AtClient v) = is_some v.outstanding
waits standing = false

-- what holds of the processes
pub record IsFull (actors : List TreeStanding) (links : HeldChannels) (posts : List (Post (CachedState Tree))) (waiting : ℕ) : Type 0 where
  -- all are there, each of its kind
  pub all : length actors ≡ PROCESSES
  pub stand : (p : Process) → can_stand p (standing_at actors p) ≡ true
  -- a process that has sent its failure notice has stopped
  pub noted : (p : Process) → has_notice links p ≡ true → has_stopped (standing_at actors p) ≡ true
  -- no message is still to be sent
  pub sent : posts ≡ []
  -- this is the number of clients that wait
  pub counted : waiting ≡ passing waits actors
