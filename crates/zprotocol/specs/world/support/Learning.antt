-- Outcomes that are learnt as events are done: a program settles, or resolves events, without
-- knowing the outcomes beforehand. One fact is preserved. The definition, given the outcomes learnt
-- so far and any others, is where the program is, given those others.
use Rattle.std.specs.Prelude.{◌≡◌, Bool, true, false, ◌&&◌, nat_lt, List, [], ◌∷◌, ◌++◌, suc, ℕ}
use Rattle.zprotocol.specs.server.Machine.{Does}
use Rattle.zprotocol.specs.declared.world.event.Event.{Event}
use Rattle.zprotocol.specs.declared.world.outcome.Outcome.{Outcome}
use Rattle.zprotocol.specs.world.World.{World}
use Rattle.zprotocol.specs.world.Events.{is_enabled, happens}
use Rattle.zprotocol.specs.world.Reading.{read, read_all}
use Rattle.zprotocol.specs.world.Settle.{Settling, with_event, with_try, with_tries, is_over, passes}

-- the settling that began there continues here, whatever outcomes follow those learnt so far
abbrev pub GoesOn : {M : Type 0} → (List Outcome → Settling M) → (Settling M → Settling M) → List Outcome → Settling M → Type 0
GoesOn whole from learnt s = (rest : List Outcome) → whole (learnt ++ rest) ≡ from (record s { outcomes = rest })

-- the event is done when it is tried
abbrev pub is_done : {M : Type 0} → Settling M → Event → Bool
is_done s event = nat_lt 0 s.left && is_enabled s.world event

-- the outcome of an event that is done is learnt
abbrev pub DoneIsLearnt : {M : Type 0} → Does M → Type 0
DoneIsLearnt {M} machine =
    (whole : List Outcome → Settling M) (from : Settling M → Settling M) (learnt : List Outcome) (s : Settling M) (event : Event)
    (outcome : Outcome)
    → is_done s event ≡ true → GoesOn whole (λ t. from (with_try machine t event)) learnt s
    → GoesOn whole from (learnt ++ outcome ∷ []) (with_event machine s (read machine s.world event outcome))

-- an event that isn't done teaches nothing
abbrev pub IdleIsPassed : {M : Type 0} → Does M → Type 0
IdleIsPassed {M} machine =
    (whole : List Outcome → Settling M) (from : Settling M → Settling M) (learnt : List Outcome) (s : Settling M) (event : Event)
    → is_done s event ≡ false → GoesOn whole (λ t. from (with_try machine t event)) learnt s → GoesOn whole from learnt s

-- a pass begins where settling isn't over
abbrev pub PassBegins : {M : Type 0} → Does M → Type 0
PassBegins {M} machine =
    (whole : List Outcome → Settling M) (from : Settling M → Settling M) (learnt : List Outcome) (s : Settling M)
    (deliveries : List Event) (more : ℕ)
    → is_over s deliveries ≡ false → GoesOn whole (λ t. from (passes machine deliveries (suc more) t)) learnt s
    → GoesOn whole (λ t. from (passes machine deliveries more (with_tries machine t deliveries))) learnt s

-- and no more passes are made where it is over
abbrev pub PassesEnd : {M : Type 0} → Does M → Type 0
PassesEnd {M} machine =
    (whole : List Outcome → Settling M) (from : Settling M → Settling M) (learnt : List Outcome) (s : Settling M)
    (deliveries : List Event) (more : ℕ)
    → is_over s deliveries ≡ true → GoesOn whole (λ t. from (passes machine deliveries more t)) learnt s
    → GoesOn whole from learnt s

-- the resolving of events that began there continues here
abbrev pub ReadsOn : {M : Type 0} → Does M → (List Outcome → List Event) → List Outcome → List Event → World M → List Event → Type 0
ReadsOn machine whole learnt readings w events =
    (rest : List Outcome) → whole (learnt ++ rest) ≡ readings ++ read_all machine w events rest

-- one more event is resolved by its outcome
abbrev pub ReadingIsLearnt : {M : Type 0} → Does M → Type 0
ReadingIsLearnt {M} machine =
    (whole : List Outcome → List Event) (learnt : List Outcome) (readings : List Event) (w : World M) (event : Event)
    (events : List Event) (outcome : Outcome)
    → ReadsOn machine whole learnt readings w (event ∷ events)
    → ReadsOn machine whole (learnt ++ outcome ∷ []) (readings ++ read machine w event outcome ∷ [])
    (happens machine w (read machine w event outcome)) events
