-- The chunks of each connection, whatever the steps are. The functions of `src/laws.rt` promise it.
use Rattle.std.specs.Prelude.{◌≡◌, ◌≢◌, ℕ, Bool, true, not, ◌&&◌, List, [], ◌∷◌, ◌++◌, take, nat_eq, None, if◌then◌else◌}
use Rattle.std.specs.List.{filter, AllByRecursion}
use Rattle.ztree.specs.Tree.{Tree}
use Rattle.zjute.specs.Frames.{IsEnd}
use Rattle.zresponses.specs.declared.clock.Clock.{Clock}
use Rattle.zconnections.specs.buffers.Inputs.InputView.{Opened, Came, Ended}
use Rattle.zconnections.specs.buffers.Outbox.{ChunkView}
use Rattle.zconnections.specs.buffers.Streams.{phase_of}
use Rattle.ztree_service.specs.log.Logs.{Log, Leads}
use Rattle.zconnections.specs.Tables.{is_open}
use Rattle.zwatches.specs.declared.limits.WatchLimits.{WatchLimits}
use Rattle.zfront.specs.Front.{FrontView}
use Rattle.zfront.specs.Inputs as inputs
use Rattle.zfront.specs.Reading.{Cuts}
use Rattle.zfront.specs.Restoring.{beginning}
use Rattle.zfront_laws.specs.Logs.{run_log}
use Rattle.zfront_laws.specs.Runs.{Step, Takes, Sent, Runs}
use Rattle.zfront_laws.specs.frames.Talk.{Talk, chunks_of, is_closed, IsTalk}

-- the chunks of one connection
abbrev pub on : ℕ → List ChunkView → List ChunkView
on c chunks = filter (λ p. nat_eq p.connection c) chunks

-- the bytes that a step brings to a connection; they are dropped unless it is open
abbrev pub came_at : ℕ → Step → FrontView → List ℕ
came_at c (Takes (Came d bytes)) v = if nat_eq d c && is_open v.tables c then bytes else []
came_at c other v = []

-- the chunks of it that a step sends
abbrev pub sent_at : ℕ → Step → FrontView → List ChunkView
sent_at c Sent v = on c (take 1 v.tables.unsent)
sent_at c other v = []

-- all bytes that arrived on a connection in these steps
abbrev pub came_on : (c : ℕ) (steps : List Step) (old new : FrontView) → Runs steps old new → List ℕ
came_on c [] old new is = []
came_on c (step ∷ steps) old new has = came_at c step old ++ came_on c steps has.0 new has.2

-- all chunks that were sent on it, then those still to be sent
abbrev pub went_on : (c : ℕ) (steps : List Step) (old new : FrontView) → Runs steps old new → List ChunkView
went_on c [] old new is = on c new.tables.unsent
went_on c (step ∷ steps) old new has = sent_at c step old ++ went_on c steps has.0 new has.2

-- a number is given to a connection only while no other has it
abbrev pub IsFree : ℕ → Step → FrontView → Type 0
IsFree c (Takes (Opened d)) v = d ≡ c → phase_of v.tables.streams c ≡ None
IsFree c other v = Unit {0}

abbrev pub GivesOnce : (c : ℕ) (steps : List Step) (old new : FrontView) → Runs steps old new → Type 0
GivesOnce c [] old new is = Unit {0}
GivesOnce c (step ∷ steps) old new has = IsFree c step old × GivesOnce c steps has.0 new has.2

-- a step neither opens the connection again nor ends it
abbrev pub Stays : ℕ → Step → Type 0
Stays c (Takes (Opened d)) = d ≢ c
Stays c (Takes (Ended d)) = d ≢ c
Stays c other = Unit {0}

-- the chunks of a connection, for the bytes that arrived on it, with this clock, this secret, and a
-- log that begins with this tree: the leading frames are answered, and while the connection is open
-- no whole frame remains
pub record Talks (times : Clock) (secret : List ℕ) (start : Tree) (c : ℕ) (log : Log) (came : List ℕ) (went : List ChunkView) (on_now : Bool) : Type 0 where
  pub frames : List (List ℕ)
  pub rest : List ℕ
  pub talk : Talk
  pub cuts : Cuts came frames rest
  pub chunks : went ≡ chunks_of c talk
  pub answers : IsTalk times secret start came log frames talk
  pub ends : on_now ≡ true → IsEnd rest
  pub closes : is_closed talk ≡ not on_now

-- This holds of each connection from its opening on. The front's steps may be any, and its tree
-- that of any earlier log of any tree. One log serves all connections: the earlier one, then that of
-- the steps, call by call. It leads from that tree to the front's, and its replies are those of one
-- plain tree.
abbrev pub EveryConnectionIsAnswered : Type 0
EveryConnectionIsAnswered =
    (limits : WatchLimits) (t : Tree) (secret : List ℕ) (times : Clock) (is_kept : Bool) (start : Tree) (past : Log) (before behind : List Step) (old v : FrontView) (c : ℕ)
    → Leads start past t → (earlier : Runs before (beginning limits t secret times is_kept) old)
    → GivesOnce c before (beginning limits t secret times is_kept) old earlier
    → phase_of old.tables.streams c ≡ None → AllByRecursion (Stays c) behind → (later : Runs behind (inputs.opened c old) v)
    → let log = past ++ (run_log before (beginning limits t secret times is_kept) old earlier ++ run_log behind (inputs.opened c old) v later) in
    Leads start log v.tree
    × Talks times secret start c log (came_on c behind (inputs.opened c old) v later) (went_on c behind (inputs.opened c old) v later) (is_open v.tables c)
