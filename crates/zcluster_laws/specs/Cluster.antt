-- The fronts of a cluster: one at each head of a chain. A front executes its calls on its own tree
-- at once, and commits them to the chain. What it would send after an input waits until the chain
-- has acknowledged the calls of the input. The source of the chain is van Renesse and Schneider,
-- "Chain Replication for Supporting High Throughput and Availability" (OSDI 2004), section 2. That
-- a front stands at the head is this project's profile.
use Rattle.std.specs.Prelude.{◌≡◌, ℕ, ◌+◌, Bool, true, false, ◌&&◌, is_some, List, [], ◌∷◌, ◌++◌, Option, None, Some, if◌then◌else◌, nat_le, not}
use Rattle.std.specs.List.{list_any}
use Rattle.ztree.specs.Tree.{Tree}
use Rattle.zcalls.specs.declared.call.Call.{Call}
use Rattle.zcalls.specs.declared.call.Call.TheVariants as call
use Rattle.zcalls.specs.declared.call.Update.{Update}
use Rattle.zcalls.specs.Cached.{CachedState}
use Rattle.zcalls.specs.Step as sequential
use Rattle.zprotocol.specs.declared.world.event.Event.{Event}
use Rattle.zprotocol.specs.server.Machine.{Does as Machine, cached_tree_from}
use Rattle.zprotocol.specs.server.View.{ServerView}
use Rattle.zprotocol.specs.server.Table.{has_room}
use Rattle.zprotocol.specs.world.World.{World, at}
use Rattle.zlinearizability.specs.Cuts.{Stays}
use Rattle.zheads.specs.Heads.{Heads, HeadEvent, Append, Look, InChain, head_machine, next, opening_heads}
use Rattle.zwatches.specs.declared.limits.WatchLimits.{WatchLimits}
use Rattle.zresponses.specs.declared.clock.Clock.{Clock}
use Rattle.zconnections.specs.buffers.Inputs.{InputView}
use Rattle.zconnections.specs.buffers.Outbox.{ChunkView}
use Rattle.ztree_service.specs.log.Logs.{Log, calls_of}
use Rattle.zfront.specs.Front.{FrontView}
use Rattle.zfront.specs.Inputs as inputs
use Rattle.zfront.specs.Restoring.{beginning}
use Rattle.zfront_laws.specs.Logs.{input_log}

-- What a front made of an input: the tree that the front began with, the input, its calls with the
-- front's replies, the chunks to be sent after it, and the front's tree then. The number of the
-- head's last entry before the calls is `from`, and after them `place`.
pub record Reaction : Type 0 where
  pub first : Tree
  pub input : InputView
  pub calls : Log
  pub chunks : List ChunkView
  pub tree : Tree
  pub from : ℕ
  pub place : ℕ

-- a front at a head: the tree that it began with, its state, the reactions whose chunks were sent,
-- and those that wait, in order
pub record Fronted : Type 0 where
  pub first : Tree
  pub front : FrontView
  pub sent : List Reaction
  pub held : List Reaction

-- what clients see: an input is handled, and the chunks of a reaction are sent
pub data Visible : Type 0 where
  Handled : Reaction → Visible
  Sent : Reaction → Visible

-- the heads of the chain, the front at each server if it has one, and what clients saw
pub record Cluster : Type 0 where
  pub heads : Heads (CachedState Tree)
  pub fronts : ℕ → Option Fronted
  pub visible : List Visible

-- A front begins at a head, handles an input, or has its first reaction sent. A head pads its log
-- with an update that leaves its tree as it is. An event of the chain happens: a delivery, a
-- failure or an order.
pub data Step : Type 0 where
  Begins : ℕ → Step
  Takes : ℕ → InputView → Step
  Sends : ℕ → Step
  Pads : ℕ → Update → Step
  Chain : Event → Step

-- ---- calls

-- a call at a head is an event of the heads
abbrev pub event_of : ℕ → Call → HeadEvent
event_of s (call.Update update) = Append s update
event_of s (call.Query query) = Look s query

-- the server is a live head, with a log number left for an update
abbrev pub takes_call : {M : Type 0} → World M → ℕ → Call → Bool
takes_call w s (call.Update update) = is_some (head_machine w s) && has_room (w.servers s)
takes_call w s (call.Query query) = is_some (head_machine w s)

-- an event of the heads, whatever channels lose before it
abbrev pub Happens : {M : Type 0} → Machine M → HeadEvent → Heads M → Heads M → Type 0
Happens does event old new = (stays : Stays) × (new ≡ next does old (stays, event))

-- calls at a head, one after the other; it takes each
abbrev pub Commits : {M : Type 0} → Machine M → ℕ → List Call → Heads M → Heads M → Type 0
Commits does s [] old new = new ≡ old
Commits {M} does s (call ∷ calls) old new =
    (takes_call old.world s call ≡ true) × (middle : Heads M) × Happens does (event_of s call) old middle × Commits does s calls middle new

-- ---- reactions

-- the last call is an update
abbrev pub ends_in_update : List Call → Bool
ends_in_update [] = false
ends_in_update (call.Update update ∷ []) = true
ends_in_update (call.Query query ∷ []) = false
ends_in_update (call ∷ (next ∷ calls)) = ends_in_update (next ∷ calls)

-- the entry that a reaction waits for: that of its last call, if this is an update. Else it is the
-- next one, whatever that is
abbrev pub need : Reaction → ℕ
need b = if ends_in_update (calls_of b.calls) then b.place else b.place + 1

-- the entries up to this number were appended to the server's log, and have left Sent
abbrev pub have_left_sent : {M : Type 0} → ServerView M → ℕ → Bool
have_left_sent v n = nat_le n v.last && not (list_any (λ e. nat_le e.0 n) v.sent)

-- all chunks and all recorded updates were taken from a front
abbrev pub drained : FrontView → FrontView
drained v = record v { tables = record v.tables { unsent = [] }; made = [] }

-- the reaction of a front to an input: it made these calls, between these entries, and is this then
abbrev pub reaction_of : Fronted → InputView → Log → ℕ → ℕ → FrontView → Reaction
reaction_of p input calls from place v =
    record {
      first = p.first;
      input = input;
      calls = calls;
      chunks = v.tables.unsent;
      tree = v.tree;
      from = from;
      place = place;
    }

-- ---- steps

-- a front at a server
abbrev pub with_front : ℕ → Fronted → Cluster → Cluster
with_front s p c = record c { fronts = at s (Some p) c.fronts }

-- only live heads have fronts: those of other servers are dropped, with the reactions that wait
abbrev pub fenced : Cluster → Cluster
fenced c = record c { fronts = λ s. if is_some (head_machine c.heads.world s) then c.fronts s else None }

-- a cluster whose chain begins with this tree; its fronts have this secret and this clock
module _ (t : Tree) (limits : WatchLimits) (secret : List ℕ) (times : Clock) where
  -- its machine
  abbrev pub machine : Machine (CachedState Tree)
  machine = cached_tree_from t

  -- a front begins at a head that has none, with the tree of its machine
  pub record BeginsAt (s : ℕ) (old new : Cluster) : Type 0 where
    pub m : CachedState Tree
    pub is_head : head_machine old.heads.world s ≡ Some m
    pub has_none : old.fronts s ≡ None
    pub is : new ≡ with_front s (record { first = m.plain; front = beginning limits m.plain secret times true; sent = []; held = [] }) old

  -- a front handles an input: the calls are committed, and the chunks wait; a head without a log
  -- number left takes no update, so its front handles no such input
  pub record TakesAt (s : ℕ) (input : InputView) (old new : Cluster) : Type 0 where
    pub p : Fronted
    pub has : old.fronts s ≡ Some p
    pub v : FrontView
    pub does : inputs.Does input p.front v
    pub heads : Heads (CachedState Tree)
    pub commits : Commits machine s (calls_of (input_log input p.front v does)) old.heads heads
    pub is : let b : Reaction = reaction_of p input (input_log input p.front v does) (old.heads.world.servers s).last (heads.world.servers s).last v in
        new ≡ fenced (with_front s (record p { front = drained v; held = p.held ++ b ∷ [] })
        (record old { heads = heads; visible = old.visible ++ Handled b ∷ [] }))

  -- the chunks of a front's first reaction are sent, if the entries up to the one that it waits for
  -- have left Sent
  pub record SendsAt (s : ℕ) (old new : Cluster) : Type 0 where
    pub p : Fronted
    pub has : old.fronts s ≡ Some p
    pub b : Reaction
    pub more : List Reaction
    pub waits : p.held ≡ b ∷ more
    pub left : have_left_sent (old.heads.world.servers s) (need b) ≡ true
    pub is : new ≡ with_front s (record p { sent = p.sent ++ b ∷ []; held = more }) (record old { visible = old.visible ++ Sent b ∷ [] })

  -- a head pads its log with an update that leaves its tree as it is
  pub record PadsAt (s : ℕ) (update : Update) (old new : Cluster) : Type 0 where
    pub state : CachedState Tree
    pub has : head_machine old.heads.world s ≡ Some state
    pub changes_nothing : (sequential.step state.plain 0 update).0 ≡ state.plain
    pub heads : Heads (CachedState Tree)
    pub commits : Commits machine s (call.Update update ∷ []) old.heads heads
    pub is : new ≡ fenced (record old { heads = heads })

  -- an event of the chain
  pub record ChainDoes (event : Event) (old new : Cluster) : Type 0 where
    pub heads : Heads (CachedState Tree)
    pub happens : Happens machine (InChain event) old.heads heads
    pub is : new ≡ fenced (record old { heads = heads })

  -- the effect of a step
  abbrev pub Does : Step → Cluster → Cluster → Type 0
  Does (Begins s) old new = BeginsAt s old new
  Does (Takes s input) old new = TakesAt s input old new
  Does (Sends s) old new = SendsAt s old new
  Does (Pads s update) old new = PadsAt s update old new
  Does (Chain event) old new = ChainDoes event old new

  -- the effect of steps in order
  abbrev pub Runs : List Step → Cluster → Cluster → Type 0
  Runs [] old new = new ≡ old
  Runs (step ∷ steps) old new = (middle : Cluster) × Does step old middle × Runs steps middle new

  -- before the first step: the initial chain of this many servers, without fronts
  abbrev pub opening_cluster : ℕ → Cluster
  opening_cluster servers = record { heads = opening_heads machine servers; fronts = λ s. None; visible = [] }
