-- One log of updates that explains what callers saw of all heads. It makes their calls linearizable
-- (Herlihy and Wing, "Linearizability: A Correctness Condition for Concurrent Objects", 1990,
-- section 2): updates take effect in the order of the log, and a query after as many of them as its
-- place says.
use Rattle.std.specs.Prelude.{◌≡◌, ℕ, ◌+◌, ◌<◌, ◌≤◌, Option, Some, List, [], ◌∷◌, ◌++◌, length}
use Rattle.zcalls.specs.declared.call.Call.{Call}
use Rattle.zcalls.specs.declared.call.Call.TheVariants as call
use Rattle.zcalls.specs.declared.call.Update.{Update}
use Rattle.zcalls.specs.declared.reply.Reply.{Reply}
use Rattle.zcalls.specs.Cached.{Plain}
use Rattle.zcalls.specs.Lists.{Among, ComesBefore}
use Rattle.zheads.specs.Heads.{Note, Seen, Begun, Acknowledged}

-- the state after updates of client 0, one after the other
abbrev pub state_from : {P : Type 0} → Plain P → P → List Update → P
state_from plain p [] = p
state_from plain p (update ∷ updates) = state_from plain (plain.update p 0 update).0 updates

-- the state after a log, from the initial state
abbrev pub state_of : {P : Type 0} → Plain P → List Update → P
state_of plain log = state_from plain plain.opening log

-- the log's entry of this number, counted from 1, is this update; before it are these
abbrev pub IsEntryAfter : List Update → ℕ → List Update → Update → Type 0
IsEntryAfter log n before update = (after : List Update) × (log ≡ before ++ update ∷ after) × (n ≡ length before + 1)

-- a call has its place in the log, and the reply that the service gives there
abbrev pub FitsAt : {P : Type 0} → Plain P → List Update → ℕ → Option Reply → Call → Type 0
FitsAt plain log place reply (call.Update update) =
    (before : List Update) × IsEntryAfter log place before update × (reply ≡ Some (plain.update (state_of plain before) 0 update).1)
FitsAt plain log place reply (call.Query query) =
    (before after : List Update) × (log ≡ before ++ after) × (place ≡ length before) × (reply ≡ Some (plain.ask (state_of plain before) query))

abbrev pub Fits : {P : Type 0} → Plain P → List Update → Note → Type 0
Fits plain log note = FitsAt plain log note.place note.reply note.call

-- a place is no later than that of a call; it is earlier if the call is an update
abbrev pub IsNoLater : ℕ → ℕ → Call → Type 0
IsNoLater place other (call.Update update) = place < other
IsNoLater place other (call.Query query) = place ≤ other

-- the log explains what callers saw
pub record IsOneLog {P : Type 0} (plain : Plain P) (seen : List Seen) (log : List Update) : Type 0 where
  -- each acknowledged update is the entry of its place, with the service's reply after the entries
  -- before it. Each acknowledged query has the service's reply after as many entries as its place
  pub fits : (note : Note) → Among (Acknowledged note) seen → Fits plain log note
  -- what was acknowledged before another call began has no later place; if that call is an update,
  -- it has an earlier one
  pub in_time : (first second : Note) → ComesBefore (Acknowledged first) (Begun second) seen → IsNoLater first.place second.place second.call
  -- each entry is an update that began, with this place
  pub made : (n : ℕ) (before : List Update) (update : Update)
      → IsEntryAfter log n before update → (note : Note) × Among (Begun note) seen × (note.call ≡ call.Update update) × (note.place ≡ n)
