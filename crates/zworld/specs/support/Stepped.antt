-- What the processes do, by what they held before and hold after. An event is that of the
-- definition, resolved by what became of it, up to what is on channels into failed servers.
use Rattle.std.specs.Prelude.{◌≡◌, ℕ, Bool, true, not, List, [], ◌++◌}
use Rattle.std.specs.declared.alloc.Global.{Global}
use Rattle.std.specs.declared.vec.Vec.{Vec}
use Rattle.zprotocol.specs.server.Machine.{cached_tree}
use Rattle.zprotocol.specs.declared.world.event.Event.{Event}
use Rattle.zprotocol.specs.declared.world.history.CallEvent.{CallEvent}
use Rattle.zprotocol.specs.declared.world.outcome.Outcome.{Outcome}
use Rattle.zprotocol.specs.declared.world.settled.Settled.{Settled}
use Rattle.zprotocol.specs.world.History.{History}
use Rattle.zprotocol.specs.world.Events.{is_enabled, happens}
use Rattle.zprotocol.specs.world.Reading.{read, is_fitting}
use Rattle.zprotocol.specs.world.Settle.{settle, settling_end}
use Rattle.zprotocol.specs.world.support.Alike.{IsAlike}
use Rattle.zworld.specs.declared.did.Did.{Did}
use Rattle.zworld.specs.declared.did.Did.TheVariants as became
use Rattle.zworld.specs.declared.did.IdleCause.{IdleCause}
use Rattle.zworld.specs.Held.{Held, kept_world, world_of}
use Rattle.zworld.specs.Did.{is_idle, outcome_of, HasCause}
use Rattle.zworld.specs.Steps.{AreActed}

-- what callers saw, as it is passed on from one event to the next
abbrev pub Seen : Type 0
Seen = Vec CallEvent Global

-- the event is enabled
abbrev pub CanHappen : Held → Event → Type 0
CanHappen held event = is_enabled (kept_world held []) event ≡ true

-- the event leads from what was held to what is held, whatever the history before it, and the
-- history continues with this
abbrev pub Leads : Held → Event → History → Held → Type 0
Leads old event reported new =
    (history : History) → IsAlike (happens cached_tree (kept_world old history) event) (kept_world new (history ++ reported))

-- the event was done, and the history continues with this
pub record HasStepped (old new : Held) (event : Event) (did : Did) (reported : History) : Type 0 where
  -- it is idle exactly where it wasn't enabled, and then nothing changed
  pub idle : is_idle did ≡ not (is_enabled (kept_world old []) event)
  pub same : is_idle did ≡ true → new ≡ old
  pub caused : HasCause old event did
  -- the outcome fits the event
  pub fits : is_fitting cached_tree (kept_world old []) event (outcome_of did) ≡ true
  -- it is the event of the definition, resolved by its outcome
  pub leads : Leads old (read cached_tree (kept_world old []) event (outcome_of did)) reported new

-- it can't be done, for this reason
abbrev pub IsIdle : Held → Event → IdleCause → Type 0
IsIdle held event why = HasStepped held held event (became.Idle why) []

-- the event was done, and the history continues with what it recorded
abbrev pub GoesBy : Held → Held → Event → (before after : History) → Did → Type 0
GoesBy old new event before after did = (reported : History) × (after ≡ before ++ reported) × HasStepped old new event did reported

-- the same, as what callers saw is passed on
abbrev pub Goes : Held → Held → Event → (before after : Seen) → Did → Type 0
Goes old new event before after did = GoesBy old new event before.items after.items did

-- settling came to this: it learnt these outcomes, and the history continues with this
pub record SettlesBy (old new : Held) (limit : ℕ) (settled : Settled) (learnt : List Outcome) (reported : History) : Type 0 where
  -- it ended as the definition does, whatever outcomes would follow, and used none of those
  pub ended : (history : History) (rest : List Outcome)
      → settled ≡ settling_end (settle cached_tree (world_of old history) limit (learnt ++ rest))
  pub left : (history : History) (rest : List Outcome)
      → (settle cached_tree (world_of old history) limit (learnt ++ rest)).outcomes ≡ rest
  -- it leads to what is held
  pub leads : (history : History) (rest : List Outcome)
      → IsAlike (settle cached_tree (world_of old history) limit (learnt ++ rest)).world (kept_world new (history ++ reported))

-- settling came to this, and the history continues with the responses that clients received; where
-- it was strict, no server ran out of memory
abbrev pub Settles : Bool → Held → Held → ℕ → (before after : History) → Settled → Type 0
Settles strict old new limit before after settled =
    (learnt : List Outcome) × (reported : History) × (after ≡ before ++ reported) × SettlesBy old new limit settled learnt reported
    × (strict ≡ true → AreActed learnt)
