-- What a clause says of an endpoint: that its process followed its table, through its trace if it
-- has one. What was received from its channels, and sent on them, is what its steps received and
-- sent.
use Rattle.std.specs.Prelude.{◌≡◌, ◌<◌, ℕ, Bool, true, false, List, [], ◌∷◌, ◌++◌, Option, None, Some, length, map, option_to_list, if◌then◌else◌}
use Rattle.std.specs.Option.{option_map}
use Rattle.std.specs.Vec.{vec_len, vec_capacity}
use mathlib.Core.Option.{some}
use lib.ListN.{get_elem?}
use Rattle.ztree.specs.Tree.{Tree}
use Rattle.zcalls.specs.Cached.{CachedState}
use Rattle.zprotocol.specs.server.Machine.{cached_tree}
use Rattle.zprotocol.specs.server.View.{Post}
use Rattle.zprotocol.specs.declared.process.Process.{Process}
use Rattle.zprotocol.specs.world.History.{History}
use Rattle.zprotocol.specs.world.Links.{is_same, messages_to}
use Rattle.zprotocol.specs.world.World.{opening_world}
use Rattle.zprotocol.specs.declared.traces.stamp.TheConstants.{MAX_STAMP}
use Rattle.zprotocol.specs.declared.traces.trace.TraceEvent.{TraceEvent}
use Rattle.zprotocol.specs.declared.traces.trace.Act.{Act}
use Rattle.zprotocol.specs.traces.Deeds.{Deed, Stamped, standing_in, Row, IsStamped, stamp_of, taken_from, GoesBy, trace_by, takes, puts, stamped, reported_by, left_by, last_by}
use Rattle.zprotocol.specs.world.Does.{Standing}
use Rattle.zprotocol.specs.Places.{process_at}
use Rattle.zchannels.specs.declared.rings.Tx.{Tx}
use Rattle.zchannels.specs.declared.rings.Rx.{Rx}
use Rattle.zchannels.specs.Rings.{ring_of_tx, ring_of_rx, put_of, taken_of}
use Rattle.zthreads.specs.declared.endpoint.Endpoint.{Endpoint}
use Rattle.zthreads.specs.declared.limits.TheConstants.{MAX_EVENTS}

-- steps, states, messages and posts over the machine of the service
abbrev pub TreeDeed : Type 0
TreeDeed = Deed (CachedState Tree)

abbrev pub TreeStanding : Type 0
TreeStanding = Standing (CachedState Tree)

abbrev pub TreeStamped : Type 0
TreeStamped = Stamped (CachedState Tree)

abbrev pub TreePost : Type 0
TreePost = Post (CachedState Tree)

-- a received message that isn't in the trace yet, with its sender
abbrev pub TreeTaken : Type 0
TreeTaken = Option (Process × TreeStamped)

-- it holds of each element of a list, with its index
abbrev pub Each : {X : Type 0} → (ℕ → X → Type 0) → List X → Type 0
Each P xs = (i : ℕ) (x : _) → get_elem? xs i ≡ some x → P i x

-- unused channels: nothing was received from them, and nothing was sent on them
abbrev pub AreFreshIns : List (Rx TreeStamped) → Type 0
AreFreshIns ins = Each (λ i r. taken_of r ≡ []) ins

abbrev pub AreFreshOuts : List (Tx TreeStamped) → Type 0
AreFreshOuts outs = Each (λ i t. put_of t ≡ []) outs

-- the messages that aren't on their channels yet
abbrev pub pending : Endpoint → List TreePost
pending d = option_to_list d.held ++ d.out.posts

-- all messages are on their channels
abbrev pub IsSettled : Endpoint → Type 0
IsSettled d = (d.held ≡ None) × (d.out.posts ≡ [])

-- the received message, if that process sent it
abbrev pub took_from : Process → TreeTaken → List TreeStamped
took_from p None = []
took_from p (Some t) = if is_same p t.0 then t.1 ∷ [] else []

-- who the process is, and its initial state
pub record Self : Type 0 where
  pub me : Process
  pub opening : TreeStanding

-- the initial state of a process: the chain is the servers up to the last one, and there are that
-- many clients
unfoldable pub opening_of : ℕ → ℕ → Process → TreeStanding
opening_of last clients p = standing_in (opening_world cached_tree last clients) p

abbrev pub self_of : Endpoint → Self
self_of d = record { me = d.me; opening = opening_of d.last d.clients d.me }

-- it is the endpoint of that process, in such a run
abbrev pub IsEndpointOf : Process → ℕ → ℕ → Endpoint → Type 0
IsEndpointOf me last clients d = (d.me ≡ me) × (d.last ≡ last) × (d.clients ≡ clients)

-- the parts of an endpoint
abbrev pub process_of : Endpoint → Process
process_of d = d.me

abbrev pub trace_of : Endpoint → List TraceEvent
trace_of d = d.trace.items

abbrev pub seen_of : Endpoint → History
seen_of d = d.seen.items

abbrev pub is_cut_of : Endpoint → Bool
is_cut_of d = d.is_cut

abbrev pub is_lost_of : Endpoint → Bool
is_lost_of d = d.is_lost

abbrev pub is_traced_of : Endpoint → Bool
is_traced_of d = d.is_traced

abbrev pub stamp_of_endpoint : Endpoint → ℕ
stamp_of_endpoint d = d.stamp

abbrev pub wires_of : Endpoint → List (Rx TreeStamped) × List (Tx TreeStamped)
wires_of d = (d.ins.items, d.outs.items)

abbrev pub link_count : Endpoint → ℕ
link_count d = length d.ins.items

-- the lists of an endpoint, its last timestamp, and whether its trace is cut
pub record Books : Type 0 where
  pub ins : List (Rx TreeStamped)
  pub outs : List (Tx TreeStamped)
  pub trace : List TraceEvent
  pub reported : History
  pub stamp : ℕ
  pub is_cut : Bool

abbrev pub books_of : Endpoint → Books
books_of d = record {
  ins = d.ins.items;
  outs = d.outs.items;
  trace = d.trace.items;
  reported = d.seen.items;
  stamp = d.stamp;
  is_cut = d.is_cut;
}

-- the process has no index below n
abbrev pub IsOutside : Process → ℕ → Type 0
IsOutside p n = (i : ℕ) → i < n → is_same p (process_at i) ≡ false

-- The steps of a process account for its books, and its state is `s` now. Besides what they
-- received, `t` was received. Of what they sent, `waits` is on no channel yet. They are its trace
-- and its record, unless the trace is cut.
pub record Accounts (who : Self) (b : Books) (s : TreeStanding) (t : TreeTaken) (waits : List TreePost) (deeds : List TreeDeed) : Type 0 where
  pub goes : GoesBy cached_tree who.me who.opening 0 deeds
  pub left : left_by who.opening deeds ≡ s
  pub last : last_by 0 deeds ≡ b.stamp
  pub traced : b.is_cut ≡ false → trace_by deeds ≡ b.trace
  pub reported : b.is_cut ≡ false → reported_by deeds ≡ b.reported
  pub taken : Each (λ i r. taken_of r ≡ takes (process_at i) deeds ++ took_from (process_at i) t) b.ins
  pub others : (p : Process) → IsOutside p (length b.ins) → (takes p deeds ≡ []) × (took_from p t ≡ [])
  pub put : Each (λ i x. put_of x ++ stamped b.stamp (messages_to (process_at i) waits) ≡ puts (process_at i) deeds) b.outs

-- unless what it did is lost, the process followed its table to its state; it is never lost where
-- its trace isn't cut
abbrev pub Stands : Endpoint → TreeStanding → TreeTaken → List TreePost → Type 0
Stands d s t waits =
    d.is_lost ≡ false → ∥ ((deeds : List TreeDeed) × Accounts (self_of d) (books_of d) s t waits deeds) ∥₁

-- the same, once the caller has seen this too
abbrev pub StandsToReport : Endpoint → History → TreeStanding → TreeTaken → List TreePost → Type 0
StandsToReport d reported s t waits =
    d.is_lost ≡ false
    → ∥ ((deeds : List TreeDeed)
    × Accounts (self_of d) (record (books_of d) { reported = (books_of d).reported ++ reported }) s t waits deeds) ∥₁

-- the same, between two events
abbrev pub IsAt : Endpoint → TreeStanding → Type 0
IsAt d s = Stands d s None (pending d)

-- all that was accounted for still is
abbrev pub Keeps : Endpoint → Endpoint → Type 0
Keeps a b = (s : TreeStanding) (t : TreeTaken) (waits : List TreePost) → Stands a s t waits → Stands b s t waits

-- the same, with `u` as the received message instead of `t`
abbrev pub HasTaken : Endpoint → Endpoint → TreeTaken → TreeTaken → Type 0
HasTaken a b t u = (s : TreeStanding) (waits : List TreePost) → Stands a s t waits → Stands b s u waits

-- the same, with `rest` of `posts` left to send
abbrev pub HasPut : Endpoint → Endpoint → List TreePost → List TreePost → Type 0
HasPut a b posts rest = (s : TreeStanding) (t : TreeTaken) → Stands a s t posts → Stands b s t rest

-- the same steps account for it, with `rest` of `posts` left to send
abbrev pub PutsOn : Endpoint → Endpoint → List TreePost → List TreePost → Type 0
PutsOn a b posts rest =
    (s : TreeStanding) (t : TreeTaken) (deeds : List TreeDeed)
    → Accounts (self_of a) (books_of a) s t posts deeds → Accounts (self_of b) (books_of b) s t rest deeds

-- the same steps account for it, with the same left to send
abbrev pub StaysSo : Endpoint → Endpoint → Type 0
StaysSo a b = (waits : List TreePost) → PutsOn a b waits waits

-- the same, once the caller has seen what it was to see
abbrev pub HasReported : Endpoint → Endpoint → History → Type 0
HasReported a b reported =
    (s : TreeStanding) (t : TreeTaken) (posts : List TreePost) → StandsToReport a reported s t posts → Stands b s t posts

-- the same process, with the same ends of the same rings, and traced as it was
pub record SameEndpoint (a b : Endpoint) : Type 0 where
  pub me : b.me ≡ a.me
  pub last : b.last ≡ a.last
  pub clients : b.clients ≡ a.clients
  pub traced : b.is_traced ≡ a.is_traced
  pub links : link_count b ≡ link_count a
  pub ins : map ring_of_rx b.ins.items ≡ map ring_of_rx a.ins.items
  pub outs : map ring_of_tx b.outs.items ≡ map ring_of_tx a.outs.items

-- there is room for one event in trace and record, if it has them
abbrev pub HasSeenRoom : Endpoint → Type 0
HasSeenRoom d = vec_len d.seen < vec_capacity d.seen

abbrev pub HasRoom : Endpoint → Type 0
HasRoom d = is_traced_of d ≡ true → (vec_len d.trace < vec_capacity d.trace) × HasSeenRoom d

-- trace, record and last timestamp are as they were, and nothing was lost
pub record SameBooks (a b : Endpoint) : Type 0 where
  pub trace : b.trace.items ≡ a.trace.items
  pub reported : b.seen.items ≡ a.seen.items
  pub stamp : b.stamp ≡ a.stamp
  pub is_cut : b.is_cut ≡ a.is_cut
  pub lost : b.is_lost ≡ a.is_lost
  pub room : HasRoom a → HasRoom b

-- the caller saw this in addition
abbrev pub HasSeen : Endpoint → Endpoint → History → Type 0
HasSeen a b reported = b.seen.items ≡ a.seen.items ++ reported

-- an event was appended to a trace that isn't cut, with its timestamp, and what the caller saw of
-- it
pub record HasEntered (a b : Endpoint) (event : TraceEvent) (reported : History) : Type 0 where
  pub whole : is_cut_of a ≡ false
  pub trace : b.trace.items ≡ a.trace.items ++ event ∷ []
  pub seen : HasSeen a b reported
  pub stamp : b.stamp ≡ event.stamp
  pub early : event.stamp < MAX_STAMP

-- it was, unless the trace is cut
abbrev pub IsEntered : Endpoint → Endpoint → ℕ → Act → History → Type 0
IsEntered a b stamp act reported = is_cut_of b ≡ false → HasEntered a b (record { stamp = stamp; act = act }) reported

-- an event cuts the trace only if the trace is full, or at the last timestamp
abbrev pub IsCutForNeed : Endpoint → Endpoint → ℕ → Type 0
IsCutForNeed a b stamp = length (trace_of a) < MAX_EVENTS → stamp < MAX_STAMP → is_cut_of b ≡ is_cut_of a

-- no event cuts a trace that has fewer events than that, before that timestamp
abbrev pub AreWholeBelow : ℕ → ℕ → Type 0
AreWholeBelow events last =
    (a b : Endpoint) (stamp : ℕ) → IsCutForNeed a b stamp → length (trace_of a) < events → stamp < last → is_cut_of b ≡ is_cut_of a

-- an event is lost only at the last timestamp
abbrev pub IsLostForNeed : Endpoint → Endpoint → ℕ → Type 0
IsLostForNeed a b stamp = stamp < MAX_STAMP → is_lost_of b ≡ is_lost_of a

-- no event is lost before that timestamp
abbrev pub AreKeptBelow : ℕ → Type 0
AreKeptBelow last = (a b : Endpoint) (stamp : ℕ) → IsLostForNeed a b stamp → stamp < last → is_lost_of b ≡ is_lost_of a

-- An event: the process was in state `s` with its last timestamp, had received `t`, and did `act`.
-- Then its state is `s'`, it has sent `posts`, and its caller has seen `reported`.
pub record IsEvent (me : Process) (last : ℕ) (s : TreeStanding) (t : TreeTaken) (act : Act) (stamp : ℕ) (s' : TreeStanding) (posts : List TreePost) (reported : History) : Type 0 where
  pub row : Row cached_tree me s act (option_map (λ x. x.1) t) s' posts reported
  pub from : (p : Process) → taken_from p act (option_map (λ x. x.1) t) ≡ took_from p t
  pub at : IsStamped me last (stamp_of (option_map (λ x. x.1) t)) stamp

-- by an event that received `t` and sent `posts`, the process came from `s` to `s'`
abbrev pub StandsAfter : Endpoint → Endpoint → Act → ℕ → History → Type 0
StandsAfter a b act stamp reported =
    (s s' : TreeStanding) (t : TreeTaken) (posts : List TreePost) → Stands a s t []
    → (stamp < MAX_STAMP → IsEvent a.me a.stamp s t act stamp s' posts reported)
    → Stands b s' None posts

-- the same by an event that received nothing: `t` remains received
abbrev pub StandsBeside : Endpoint → Endpoint → Act → ℕ → History → Type 0
StandsBeside a b act stamp reported =
    (s s' : TreeStanding) (t : TreeTaken) (posts : List TreePost) → Stands a s t []
    → (stamp < MAX_STAMP → IsEvent a.me a.stamp s None act stamp s' posts reported)
    → Stands b s' t posts

-- nothing of the endpoint is changed, except its channels
pub record SameRest (a b : Endpoint) : Type 0 where
  pub endpoint : SameEndpoint a b
  pub books : SameBooks a b
  pub held : b.held ≡ a.held
  pub out : b.out ≡ a.out
