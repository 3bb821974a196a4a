-- Laws of the watches of every front end. The functions of `src/laws.rt` promise them.
use Rattle.std.specs.Prelude.{◌≡◌, ℕ, Bool, List, [], ◌∷◌, ◌++◌, drop, Option, Some, Ok}
use Rattle.std.specs.FinMap as finite
use Rattle.ztree.specs.Tree.{Tree}
use Rattle.zcalls.specs.Lists.{Among}
use Rattle.zjute.specs.declared.request.Asked.{Asked}
use Rattle.zjute.specs.declared.request.Request.{Request}
use Rattle.zresponses.specs.declared.clock.Clock.{Clock}
use Rattle.zconnections.specs.buffers.Inputs.InputView.{Opened, Came, Ended, Tick}
use Rattle.zconnections.specs.buffers.Streams.{bytes_of, opened, phase_of}
use Rattle.zconnections.specs.declared.buffers.phase.Phase.{Phase}
use Rattle.zconnections.specs.declared.buffers.phase.Phase.TheVariants.{Silent}
use Rattle.zops.specs.RestoredLaws.{IsSettled}
use Rattle.zwatches.specs.declared.watch.Watch.{Watch}
use Rattle.ztree_service.specs.log.Logs.{Log, Leads}
use Rattle.zconnections.specs.Tables.{TablesView, ended}
use Rattle.zwatches.specs.declared.limits.WatchLimits.{WatchLimits}
use Rattle.zfront.specs.Front.{FrontView}
use Rattle.zfront.specs.Reading.{Cuts}
use Rattle.zfront.specs.Requests.{request_in}
use Rattle.zfront.specs.Restoring.{beginning}
use Rattle.zfront_laws.specs.Logs.{run_log}
use Rattle.zfront_laws.specs.Runs.{Step, Takes, Sent, Took, Runs}
use Rattle.zfront_laws.specs.watches.Watching.{Scene, Happening, Asking, Happens, Stands, IsUnchanged}

-- zxids are told from this base, the calls of this log of this tree were answered, and no watch was
-- set
abbrev pub opening_scene : ℕ → Tree → Log → TablesView → Scene
opening_scene base start log t = record { base = base; start = start; log = log; set_at = λ w. finite.empty; tables = t }

-- the frame is a request with this record, where zxids are told from this base
abbrev pub IsRequest : ℕ → Asked → List ℕ → Type 0
IsRequest base asks frame = (r : Request) × (request_in base frame ≡ Ok r) × (r.asked ≡ asks)

-- the requests among the frames of a connection in this phase: its first frame is none
abbrev pub requests_in : Option Phase → List (List ℕ) → List (List ℕ)
requests_in (Some Silent) (first ∷ frames) = frames
requests_in phase frames = frames

-- bytes arrive on this connection, and only it has requests: those that are whole in its unread
-- bytes with these
abbrev pub Arriving : ℕ → List ℕ → Scene → Asking
Arriving c bytes s d asks =
    (d ≡ c) × (frames : List (List ℕ)) × (rest : List ℕ) × Cuts (bytes_of s.tables.streams c ++ bytes) frames rest
    × (frame : List ℕ) × Among frame (requests_in (phase_of s.tables.streams c) frames) × IsRequest s.base asks frame

-- no connection has a request
abbrev pub none_asked : Asking
none_asked c asks = ⊥

-- the effect of a step on a scene: a connection is added, or removed with its watches; the first
-- chunk is sent; nothing, when updates are taken; or happenings
abbrev pub Brings : Step → Scene → Scene → Type 0
Brings (Takes (Opened c)) s t = t ≡ record s { tables = record s.tables { streams = finite.insert s.tables.streams c opened } }
Brings (Takes (Ended c)) s t = t ≡ record s { tables = ended c s.tables }
Brings (Takes (Came c bytes)) s t = (happenings : List Happening) × Happens (Arriving c bytes s) happenings s t
Brings (Takes Tick) s t = (happenings : List Happening) × Happens none_asked happenings s t
Brings Sent s t = t ≡ record s { tables = record s.tables { unsent = drop 1 s.tables.unsent } }
Brings Took s t = t ≡ s

-- the same for steps in order
abbrev pub BringsAll : List Step → Scene → Scene → Type 0
BringsAll [] s t = t ≡ s
BringsAll (step ∷ steps) s t = (middle : Scene) × Brings step s middle × BringsAll steps middle t

-- Whatever the steps of a front were, its tables and its log are those of a scene that allowed
-- happenings led to. The scene begins with any earlier log that led to the first tree from a settled
-- one. Its log is that one, then the log of the steps, call by call. No watch that is still set has
-- missed a change.
abbrev pub EveryWatchIsReported : Type 0
EveryWatchIsReported =
    (limits : WatchLimits) (t : Tree) (secret : List ℕ) (times : Clock) (is_kept : Bool) (start : Tree) (before : Log) (steps : List Step) (v : FrontView)
    → IsSettled start → Leads start before t → (runs : Runs steps (beginning limits t secret times is_kept) v)
    → (s : Scene) × BringsAll steps (opening_scene times.base start before (beginning limits t secret times is_kept).tables) s
    × (s.tables ≡ v.tables) × (s.log ≡ before ++ run_log steps (beginning limits t secret times is_kept) v runs)
    × Leads start s.log v.tree
    × ((w : Watch) → Stands s w → IsUnchanged s w)
