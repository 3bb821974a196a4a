-- Laws of the entry step, over any sequential step and all states with cached replies. Each is the
-- contract of a function in `src/laws.rt`.
use Rattle.std.specs.Prelude.{◌≡◌, ◌<◌, ◌≤◌, ℕ, List, [], ◌∷◌, ◌++◌, Some}
use Rattle.std.specs.FinMap.{get}
use Rattle.zcalls.specs.declared.call.Call.{Call}
use Rattle.zcalls.specs.declared.call.Call.TheVariants.{Update, Query}
use Rattle.zcalls.specs.declared.call.Entry.{Entry}
use Rattle.zcalls.specs.declared.reply.Reply.{Reply}
use Rattle.zcalls.specs.Cached.{Plain, PlainStep, CachedState, nothing_cached, last_of, entry_step, after_entries}
use Rattle.zcalls.specs.Lists.{Among, NoTwo}
use Rattle.zcalls.specs.Operation.{Operation, IsSameCall, operation_of, AreOneUpdate}
use Rattle.zcalls.specs.Acts.{acts_from, acts_of, after_log}

-- the number of a client's last call that acted, or 0 if none did
abbrev pub last_number : {P : Type 0} → CachedState P → ℕ → ℕ
last_number s client = last_of (get s.kept client)

-- where nothing is cached, an entry with a number from 1 on acts by the sequential step
abbrev pub FirstEntriesAct : {P : Type 0} → PlainStep P → Type 0
FirstEntriesAct {P} step =
    (p : P) (e : Entry) → 0 < e.number
    → ((entry_step step (nothing_cached p) e).0.plain ≡ (step p e.client e.update).0)
    × ((entry_step step (nothing_cached p) e).1 ≡ Some (step p e.client e.update).1)

-- a repeated entry that had a reply gets the same reply, and then changes nothing
abbrev pub RetryChangesNothing : {P : Type 0} → PlainStep P → Type 0
RetryChangesNothing {P} step =
    (s : CachedState P) (e : Entry) (reply : Reply)
    → (entry_step step s e).1 ≡ Some reply → entry_step step (entry_step step s e).0 e ≡ ((entry_step step s e).0, Some reply)

-- the number of a client's last call that acted never falls, whatever entries are applied
abbrev pub KeptNumbersRise : {P : Type 0} → PlainStep P → Type 0
KeptNumbersRise {P} step =
    (s : CachedState P) (entries : List Entry) (client : ℕ)
    → last_number s client ≤ last_number (after_entries (entry_step step) s entries) client

-- an entry whose number isn't above its client's last one changes nothing
abbrev pub LowNumbersChangeNothing : {P : Type 0} → PlainStep P → Type 0
LowNumbersChangeNothing {P} step =
    (s : CachedState P) (e : Entry) → e.number ≤ last_number s e.client → (entry_step step s e).0 ≡ s

-- no call acts twice, whatever entries are applied
abbrev pub NoCallActsTwice : {P : Type 0} → PlainStep P → Type 0
NoCallActsTwice {P} step = (s : CachedState P) (entries : List Entry) → NoTwo AreOneUpdate (acts_from step s entries)

-- the list has this call of a client, with this reply
abbrev pub HasReply : List (Operation × Reply) → ℕ → ℕ → Reply → Type 0
HasReply acts client number reply =
    (o : Operation) × (o.client ≡ client) × (o.number ≡ number) × Among (o, reply) acts

-- after any log, a reply to an entry is the one its call got when it acted, in the log or now
abbrev pub RepliesAreOfActs : {P : Type 0} → Plain P → Type 0
RepliesAreOfActs plain =
    (log : List Entry) (e : Entry) (reply : Reply)
    → (entry_step plain.update (after_log plain log) e).1 ≡ Some reply
    → HasReply (acts_of plain (log ++ e ∷ [])) e.client e.number reply

-- the reply of a call that acted is returned again after any entries, until a higher number of its
-- client acts
abbrev pub RepliesStayUntilTheNext : {P : Type 0} → PlainStep P → Type 0
RepliesStayUntilTheNext {P} step =
    (s : CachedState P) (e : Entry) (entries : List Entry) (reply : Reply)
    → (entry_step step s e).1 ≡ Some reply
    → last_number (after_entries (entry_step step) (entry_step step s e).0 entries) e.client ≤ e.number
    → (entry_step step (after_entries (entry_step step) (entry_step step s e).0 entries) e).1 ≡ Some reply

-- the sequential state after a client's call
abbrev pub after_call : {P : Type 0} → PlainStep P → P → ℕ → Call → P
after_call step p client (Update update) = (step p client update).0
after_call step p client (Query query) = p

-- the sequential state after these calls alone, in order
abbrev pub after_acts : {P : Type 0} → PlainStep P → P → List (Operation × Reply) → P
after_acts step p [] = p
after_acts step p (act ∷ acts) = after_acts step (after_call step p act.0.client act.0.call) acts

-- over any entries, the sequential state is the one after the calls that acted, in order
abbrev pub OnlyActsCount : {P : Type 0} → PlainStep P → Type 0
OnlyActsCount {P} step =
    (s : CachedState P) (entries : List Entry)
    → (after_entries (entry_step step) s entries).plain ≡ after_acts step s.plain (acts_from step s entries)

-- a call that has a reply has the same one each time, whatever entries are applied in between
abbrev pub SameReplyEachTime : {P : Type 0} → PlainStep P → Type 0
SameReplyEachTime {P} step =
    (s : CachedState P) (e again : Entry) (entries : List Entry) (reply other : Reply)
    → IsSameCall (operation_of e) (operation_of again)
    → (entry_step step s e).1 ≡ Some reply
    → (entry_step step (after_entries (entry_step step) (entry_step step s e).0 entries) again).1 ≡ Some other
    → other ≡ reply
