-- The laws of a cluster's fronts. The functions of `src/laws.rt` promise them.
use Rattle.std.specs.Prelude.{◌≡◌, ℕ, ◌≤◌, true, List, [], ◌∷◌, ◌++◌, Some, length, take}
use Rattle.ztree.specs.Tree.{Tree}
use Rattle.zcalls.specs.declared.call.Call.{Call}
use Rattle.zcalls.specs.declared.call.Update.{Update}
use Rattle.zcalls.specs.declared.reply.Reply.{Reply}
use Rattle.zcalls.specs.Lists.{Among, ComesBefore}
use Rattle.zprotocol.specs.server.Machine.{plain_from}
use Rattle.zlinearizability.specs.legal.Prefix.{IsPrefix}
use Rattle.zheads.specs.Heads.{Note, Seen, Acknowledged}
use Rattle.zheads.specs.OneLog.{IsOneLog, state_of}
use Rattle.zwatches.specs.declared.limits.WatchLimits.{WatchLimits}
use Rattle.zresponses.specs.declared.clock.Clock.{Clock}
use Rattle.zconnections.specs.buffers.Outbox.{ChunkView}
use Rattle.ztree_service.specs.log.Logs.{Log, Leads}
use Rattle.zfront.specs.Front.{FrontView}
use Rattle.zfront.specs.Inputs as inputs
use Rattle.zfront.specs.Restoring.{beginning}
use Rattle.zfront_laws.specs.Runs as front
use Rattle.zfront_laws.specs.Logs.{input_log, run_log}
use Rattle.zfront_laws.specs.Making.{updates_in}
use Rattle.zcluster_laws.specs.Cluster.{Reaction, Fronted, Handled, Sent, Cluster, Step, Runs, opening_cluster}

-- A reaction is served by the log. Its front began with the tree after some entries. The calls were
-- made on the tree after as many entries as `from` says, and their replies are that tree's. Their
-- updates are the next entries, up to `place`, and the tree that the answers were made from is the
-- one after these.
pub record IsServed (t : Tree) (log : List Update) (b : Reaction) : Type 0 where
  pub early : List Update
  pub since : List Update
  pub after : List Update
  pub whole : log ≡ (early ++ since) ++ (updates_in b.calls ++ after)
  pub began : b.first ≡ state_of (plain_from t) early
  pub from : b.from ≡ length (early ++ since)
  pub place : b.place ≡ length ((early ++ since) ++ updates_in b.calls)
  pub leads : Leads (state_of (plain_from t) (early ++ since)) b.calls b.tree

-- each of these calls was acknowledged by a head, with this reply
abbrev pub AreAcknowledged : List Seen → Log → Type 0
AreAcknowledged seen calls =
    (reported : Call × Reply) → Among reported calls
    → (note : Note) × Among (Acknowledged note) seen × (note.call ≡ reported.0) × (note.reply ≡ Some reported.1)

-- one log of updates explains what clients saw of all fronts
pub record Explains (t : Tree) (c : Cluster) (log : List Update) : Type 0 where
  -- it explains all calls of the heads
  pub calls : IsOneLog (plain_from t) c.heads.seen log
  -- all calls of a reaction whose chunks were sent are acknowledged, with the front's replies
  pub acknowledged : (b : Reaction) → Among (Sent b) c.visible → AreAcknowledged c.heads.seen b.calls
  -- each such reaction is served by the log
  pub served : (b : Reaction) → Among (Sent b) c.visible → IsServed t log b
  -- an input that was handled after these chunks were sent has its calls after theirs
  pub in_time : (first second : Reaction) → ComesBefore (Sent first) (Handled second) c.visible → first.place ≤ second.from

-- Whatever the steps of a cluster were, one log explains what clients saw, whoever was head and
-- however many there were. Later steps only make the log longer: what was sent remains in it.
abbrev pub EveryClusterIsOneTree : Type 0
EveryClusterIsOneTree =
    (t : Tree) (limits : WatchLimits) (secret : List ℕ) (times : Clock) (servers : ℕ) (steps : List Step) (c : Cluster)
    → Runs t limits secret times steps (opening_cluster t limits secret times servers) c
    → (log : List Update) × Explains t c log
    × ((more : List Step) (later : Cluster) → Runs t limits secret times more c later
    → (longer : List Update) × Explains t later longer × IsPrefix log longer)

-- ---- the front of one head

-- the chunks that a step of a front hands on, and those that steps hand on, in order
abbrev pub gone_at : front.Step → FrontView → List ChunkView
gone_at front.Sent v = take 1 v.tables.unsent
gone_at other v = []

abbrev pub gone_in : (steps : List front.Step) (old new : FrontView) → front.Runs steps old new → List ChunkView
gone_in [] old new is = []
gone_in (step ∷ steps) old new has = gone_at step old ++ gone_in steps has.0 new has.2

-- the calls and the chunks of reactions, in order
abbrev pub calls_in : List Reaction → Log
calls_in [] = []
calls_in (b ∷ reactions) = b.calls ++ calls_in reactions

abbrev pub chunks_in : List Reaction → List ChunkView
chunks_in [] = []
chunks_in (b ∷ reactions) = b.chunks ++ chunks_in reactions

-- A front makes a run, as the laws of one front have it. Its calls and its chunks are those of the
-- reactions in order: first those whose chunks were sent, then those that wait
pub record IsRun (limits : WatchLimits) (secret : List ℕ) (times : Clock) (p : Fronted) : Type 0 where
  pub steps : List front.Step
  pub runs : front.Runs steps (beginning limits p.first secret times true) p.front
  pub calls : run_log steps (beginning limits p.first secret times true) p.front runs ≡ calls_in (p.sent ++ p.held)
  pub chunks : gone_in steps (beginning limits p.first secret times true) p.front runs ≡ chunks_in (p.sent ++ p.held)

-- A reaction is a front's. From the tree that the front began with, steps led to a state without
-- unsent chunks. There it handled the input, with these calls. The chunks and the tree are those of
-- the state after it
pub record IsReaction (limits : WatchLimits) (secret : List ℕ) (times : Clock) (b : Reaction) : Type 0 where
  pub steps : List front.Step
  pub old : FrontView
  pub new : FrontView
  pub runs : front.Runs steps (beginning limits b.first secret times true) old
  pub none_left : old.tables.unsent ≡ []
  pub does : inputs.Does b.input old new
  pub calls : b.calls ≡ input_log b.input old new does
  pub chunks : b.chunks ≡ new.tables.unsent
  pub tree : b.tree ≡ new.tree

-- what the fronts of a cluster did, as the laws of one front have it
pub record FrontsRun (limits : WatchLimits) (secret : List ℕ) (times : Clock) (c : Cluster) : Type 0 where
  -- what was sent, of whatever head, is a front's reaction
  pub sent : (b : Reaction) → Among (Sent b) c.visible → IsReaction limits secret times b
  -- each front makes such a run, and clients saw what was sent of it
  pub fronts : (s : ℕ) (p : Fronted) → c.fronts s ≡ Some p → IsRun limits secret times p
  pub visible : (s : ℕ) (p : Fronted) → c.fronts s ≡ Some p → (b : Reaction) → Among b p.sent → Among (Sent b) c.visible

-- so it is whatever the steps of a cluster were: all laws of one front hold of the front at each
-- head
abbrev pub EveryClusterFrontRuns : Type 0
EveryClusterFrontRuns =
    (t : Tree) (limits : WatchLimits) (secret : List ℕ) (times : Clock) (servers : ℕ) (steps : List Step) (c : Cluster)
    → Runs t limits secret times steps (opening_cluster t limits secret times servers) c → FrontsRun limits secret times c
