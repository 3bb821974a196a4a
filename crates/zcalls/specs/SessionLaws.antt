-- Laws of sessions. Each is the contract of a function in `src/laws.rt`. The source is the
-- ZooKeeper Programmer's Guide, "ZooKeeper Sessions" and "Ephemeral Nodes".
use Rattle.std.specs.Prelude.{◌≡◌, ℕ, ◌<◌, ◌≤◌, ◌+◌, ◌⊎◌, false, not, List, [], ◌∷◌, length, Option, None, Some, IsSome, if◌then◌else◌, nat_le, ◌==◌}
use Rattle.std.specs.Option.{option_and_then}
use Rattle.std.specs.FinMap as finite
use Rattle.ztree.specs.Limits.{AreLimits}
use Rattle.ztree.specs.Tree.{Tree, Path, opening_within, has_node}
use Rattle.ztree.specs.Sessions.{without_session, due_sessions}
use Rattle.ztree.specs.Lawful.{IsLawful}
use Rattle.ztree.specs.declared.limits.TreeLimits.{TreeLimits}
use Rattle.ztree.specs.declared.session.Session.{Session}
use Rattle.zcalls.specs.declared.call.Update.{Update}
use Rattle.zcalls.specs.declared.call.Update.TheVariants.{Open, Ping, Close, Tick}
use Rattle.zcalls.specs.declared.reply.Reply.TheVariants as reply
use Rattle.zcalls.specs.Part.{node_has}
use Rattle.zcalls.specs.Step.{step, is_exhausted, stale_next}
use Rattle.zcalls.specs.CallRuns.{after_calls, is_success}

-- after any calls from an initial tree the tree is lawful, so each owner of a node is a live
-- session
abbrev pub TreesAreLawful : Type 0
TreesAreLawful =
    (limits : TreeLimits) → AreLimits limits → (calls : List (ℕ × Update)) → IsLawful (after_calls (opening_within limits) calls)

-- the call is the close of that session by its own client
abbrev pub IsOwnClose : ℕ → Session → ℕ → Update → Type 0
IsOwnClose id s client update = (update ≡ Close id) × (client ≡ s.client)

-- the call is a tick that isn't refused and reaches the session's deadline
abbrev pub IsItsTick : Tree → Session → Update → Type 0
IsItsTick t s update = (update ≡ Tick) × (is_exhausted t Tick ≡ false) × (s.deadline ≤ t.time + 1)

-- a session ends only by its own client's close, or at a tick that isn't refused and reaches its
-- deadline
abbrev pub EndsOnlySo : Type 0
EndsOnlySo =
    (t : Tree) (client : ℕ) (update : Update) (id : ℕ) (s : Session)
    → finite.get t.sessions id ≡ Some s → finite.get (step t client update).0.sessions id ≡ None
    → IsOwnClose id s client update ⊎ IsItsTick t s update

-- the session, if the tick doesn't reach its deadline
abbrev pub if_not_due : ℕ → Session → Option Session
if_not_due tick s = if nat_le s.deadline tick then None else Some s

-- A tick that isn't refused ends exactly the sessions whose deadline it reaches. Its reply counts
-- them, and the nodes it removed as stale.
abbrev pub TickEndsTheDue : Type 0
TickEndsTheDue =
    (t : Tree) (client : ℕ) → is_exhausted t Tick ≡ false
    → ((id : ℕ) → finite.get (step t client Tick).0.sessions id ≡ option_and_then (if_not_due (t.time + 1)) (finite.get t.sessions id))
    × ((step t client Tick).1 ≡ reply.Ticked (t.time + 1) (length (due_sessions t.sessions (t.time + 1))) (length (stale_next t)))

-- the end of a session removes exactly the nodes that it owns
abbrev pub EndTakesItsOwn : Type 0
EndTakesItsOwn =
    (t : Tree) (id : ℕ) (path : Path)
    → has_node (without_session t id).nodes path ≡ node_has (λ n. not (n.owner == id)) t.nodes path

-- the session exists and was opened or renewed at this tick
abbrev pub IsFresh : Tree → ℕ → Type 0
IsFresh t id = (s : Session) × (finite.get t.sessions id ≡ Some s) × (s.deadline ≡ t.time + s.timeout)

-- a successful open or ping gives the session its whole timeout
abbrev pub OpenAndPingRenew : Type 0
OpenAndPingRenew =
    (t : Tree) (client : ℕ) (ticks id timeout : ℕ)
    → ((step t client (Open ticks)).1 ≡ reply.Opened id timeout → IsFresh (step t client (Open ticks)).0 id)
    × ((step t client (Ping id)).1 ≡ reply.Pinged → IsFresh (step t client (Ping id)).0 id)

-- 1 if the call is a tick that isn't refused, else 0
abbrev pub one_if_tick : Tree → ℕ → Update → ℕ
one_if_tick t client Tick = if is_success (step t client Tick).1 then 1 else 0
one_if_tick t client update = 0

-- the number of ticks among these calls that aren't refused
abbrev pub ticks_in : Tree → List (ℕ × Update) → ℕ
ticks_in t [] = 0
ticks_in t (call ∷ calls) = one_if_tick t call.0 call.1 + ticks_in (step t call.0 call.1).0 calls

-- the session's client doesn't close it by one of these calls
abbrev pub NeverCloses : ℕ → ℕ → List (ℕ × Update) → Type 0
NeverCloses client id [] = Unit {0}
NeverCloses client id (call ∷ calls) = (call.0 ≡ client → call.1 ≡ Close id → ⊥) × NeverCloses client id calls

-- After any calls from an initial tree, a session that its client doesn't close is alive. That
-- holds while it has had fewer ticks than its timeout since its open or last ping.
abbrev pub LivesItsTimeout : Type 0
LivesItsTimeout =
    (limits : TreeLimits) → AreLimits limits
    → (before calls : List (ℕ × Update)) (id : ℕ) (s : Session)
    → finite.get (after_calls (opening_within limits) before).sessions id ≡ Some s → IsFresh (after_calls (opening_within limits) before) id
    → NeverCloses s.client id calls → ticks_in (after_calls (opening_within limits) before) calls < s.timeout
    → IsSome (finite.get (after_calls (after_calls (opening_within limits) before) calls).sessions id)
