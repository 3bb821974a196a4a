-- Which entries act, as calls with their replies. A repeated entry doesn't act.
use Rattle.std.specs.Prelude.{List, [], ◌∷◌, ◌++◌, if◌then◌else◌, nat_lt}
use Rattle.std.specs.FinMap.{get}
use Rattle.zcalls.specs.declared.call.Entry.{Entry}
use Rattle.zcalls.specs.declared.reply.Reply.{Reply}
use Rattle.zcalls.specs.Cached.{Plain, PlainStep, CachedState, nothing_cached, last_of, entry_step, after_entries}
use Rattle.zcalls.specs.Operation.{Operation, operation_of}

-- the call of an entry with its reply, if the entry acts
abbrev pub act_of : {P : Type 0} → PlainStep P → CachedState P → Entry → List (Operation × Reply)
act_of step s e =
    if nat_lt (last_of (get s.kept e.client)) e.number then (operation_of e, (step s.plain e.client e.update).1) ∷ [] else []

-- the calls that act among these entries, applied from a state on
abbrev pub acts_from : {P : Type 0} → PlainStep P → CachedState P → List Entry → List (Operation × Reply)
acts_from step s [] = []
acts_from step s (e ∷ es) = act_of step s e ++ acts_from step (entry_step step s e).0 es

-- the calls that act in a log, applied from the service's initial state
abbrev pub acts_of : {P : Type 0} → Plain P → List Entry → List (Operation × Reply)
acts_of plain log = acts_from plain.update (nothing_cached plain.opening) log

-- the state of a service with cached replies after a log
abbrev pub after_log : {P : Type 0} → Plain P → List Entry → CachedState P
after_log plain log = after_entries (entry_step plain.update) (nothing_cached plain.opening) log
