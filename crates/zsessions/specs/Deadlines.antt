-- Writing deadlines, and when no deadline has passed.
use Rattle.std.specs.Prelude.{◌≡◌, ℕ, ◌+◌, ◌<◌, ◌≤◌, Bool, false, Some, ◌==◌, if◌then◌else◌}
use Rattle.ztree.specs.declared.limits.TheConstants.{DEADLINE_BOUND}
use Rattle.std.specs.Option.{option_map_or}
use Rattle.std.specs.FinMap.{get, insert}
use Rattle.ztree.specs.Tree.{Sessions}
use Rattle.ztree.specs.Lawful.{AllSessions}
use Rattle.ztree.specs.Sessions.{renewed_session}
use Rattle.ztree.specs.declared.session.Session.{Session}

-- the sessions with one deadline written, if the session exists
abbrev pub with_deadline : Sessions → ℕ → ℕ → Sessions
with_deadline sessions id deadline =
    option_map_or (λ s. insert sessions id (record s { deadline = deadline }))
    (get sessions id) sessions

-- the sessions with one renewed at tick `now`, if it exists: its deadline is its timeout from then
-- on
abbrev pub with_renewed : Sessions → ℕ → ℕ → Sessions
with_renewed sessions id now =
    option_map_or (λ s. insert sessions id (renewed_session now s)) (get sessions id) sessions

-- the same if the condition holds, else unchanged
abbrev pub renewed_if : Bool → Sessions → ℕ → ℕ → Sessions
renewed_if is_so sessions id now = if is_so then with_renewed sessions id now else sessions

-- the session exists and belongs to this client
abbrev pub is_held_by : Sessions → ℕ → ℕ → Bool
is_held_by sessions client id =
    option_map_or (λ (s : Session). s.client == client) (get sessions id) false

-- the deadline of the session, if renewed at tick `now`, is below its bound
abbrev pub HasTimeFor : Sessions → ℕ → ℕ → Type 0
HasTimeFor sessions id now =
    (s : Session) → get sessions id ≡ Some s → now + s.timeout < DEADLINE_BOUND

-- no deadline is before the tick
abbrev pub NoneLate : Sessions → ℕ → Type 0
NoneLate sessions tick = AllSessions (λ id s. tick ≤ s.deadline) sessions
