-- Settling is a run within its limit, and where it ends quiet nothing can be taken.
use Rattle.std.proofs.Common.{◌≡◌, ℕ, ◌+◌, ◌<◌, ◌≤◌, zero, suc, Bool, true, false, if◌then◌else◌, List, [], ◌∷◌, ◌++◌, length}
use Rattle.std.proofs.Common.{refl, sym, ap, ◌∙◌, inl, inr, arith, length-append, eqb-true}
use mathlib.Core.Bool.{true≢false}
use Rattle.std.proofs.lemmas.Bool.{ltb-true, lt-ltb}
use Rattle.std.proofs.lemmas.Bool.Decides.{nat_tests}
use Rattle.std.specs.Prelude.{◌⊎◌, ◌&&◌, ◌||◌, not, ◌==◌, nat_lt}
use Rattle.std.specs.List.{list_any}
use Rattle.zprotocol.specs.server.Machine.{Does}
use Rattle.zprotocol.specs.declared.world.event.Event.{Event}
use Rattle.zprotocol.specs.declared.world.settled.Settled.TheVariants.{Quiet, Limit}
use Rattle.zprotocol.specs.world.World.{World}
use Rattle.zprotocol.specs.world.Events.{is_enabled, happens, run}
use Rattle.zprotocol.specs.declared.world.outcome.Outcome.{Outcome}
use Rattle.zprotocol.specs.world.Reading.{read}
use Rattle.zprotocol.specs.world.Settle.{Settling, opening_settling, settle, settling_end, deliveries, retry_events}
use Rattle.zprotocol.specs.world.Settle.{with_event, with_try, with_tries, is_over, passes, next_outcome}

-- what holds of both outcomes of two tests holds of their choice
of_both : {A : Type 0} (P : A → Type 0) (a b : Bool) (x y : A) → (a ≡ true → b ≡ true → P x) → P y → P (if a && b then x else y)
of_both P true true x y first second = first refl refl
of_both P true false x y first second = second
of_both P false b x y first second = second

-- where the second test fails, so do both
no_choice : {A : Type 0} (a : Bool) (x y : A) → (if a && false then x else y) ≡ y
no_choice true x y = refl
no_choice false x y = refl

-- where a choice of two is false, so are both
neither : (a b : Bool) → (a || not b) ≡ false → (a ≡ false) × (b ≡ true)
neither false true e = (refl, refl)
neither false false e = absurd (true≢false e)
neither true b e = absurd (true≢false e)

-- the same of two as they are
neither_of : (a b : Bool) → (a || b) ≡ false → (a ≡ false) × (b ≡ false)
neither_of false b none = (refl, none)
neither_of true b none = absurd (true≢false none)

-- what is over has spent its limit, or has nothing that can be taken
spent_or_idle : (spent any : Bool) → (spent || not any) ≡ true → (spent ≡ true) ⊎ (any ≡ false)
spent_or_idle true any over = inl refl
spent_or_idle false false over = inr refl
spent_or_idle false true over = absurd (true≢false (sym over))

-- what is over below its limit has nothing that can be taken
nothing_is_left : (spent any : Bool) → (if spent then Limit else Quiet) ≡ Quiet → (spent || not any) ≡ true → any ≡ false
nothing_is_left spent false quiet over = refl
nothing_is_left false true quiet over = absurd (true≢false (sym over))
nothing_is_left true true quiet over = let none : ⊥ = cc in absurd none

module _ {M : Type 0} (machine : Does M) where
  -- a run of one more event
  run_more : (w : World M) (events : List Event) (event : Event) → run machine w (events ++ event ∷ []) ≡ happens machine (run machine w events) event
  run_more w [] event = refl
  run_more w (first ∷ events) event = run_more (happens machine w first) events event

  -- the next event as it is read
  abbrev as_read : Settling M → Event → Event
  as_read s event = read machine s.world event (next_outcome s.outcomes)

  -- a tried event is done, where one more may be, or nothing is
  either : (P : Settling M → Type 0) (s : Settling M) (event : Event) → (0 < s.left → P (with_event machine s (as_read s event)))
      → P s → P (with_try machine s event)
  either P s event done idle =
      of_both P (nat_lt 0 s.left) (is_enabled s.world event) (with_event machine s (as_read s event)) s
      (λ some enabled. done (ltb-true 0 s.left some)) idle

  -- a fact that a tried event preserves
  abbrev Keeps : (Settling M → Type 0) → Type 0
  Keeps P = (s : Settling M) (event : Event) → P s → P (with_try machine s event)

  -- is preserved by events in turn
  each_keeps : (P : Settling M → Type 0) → Keeps P → (s : Settling M) (events : List Event) → P s → P (with_tries machine s events)
  each_keeps P keeps s [] holds = holds
  each_keeps P keeps s (event ∷ events) holds = each_keeps P keeps (with_try machine s event) events (keeps s event holds)

  -- by passes
  passes_keep : (P : Settling M → Type 0) → Keeps P → (events : List Event) (more : ℕ) (s : Settling M) → P s → P (passes machine events more s)
  passes_keep P keeps events zero s holds = holds
  passes_keep P keeps events (suc more) s holds =
      elim (is_over s events) as (λ over. P (elim over [ true ↦ s | false ↦ passes machine events more (with_tries machine s events) ])) [
        | true ↦ holds
        | false ↦ passes_keep P keeps events more (with_tries machine s events) (each_keeps P keeps s events holds)
      ]

  -- the settling before its last passes
  abbrev asked_again : World M → ℕ → List Outcome → Settling M
  asked_again w limit outcomes = with_tries machine (passes machine (deliveries w.master.clients) limit (opening_settling w limit outcomes))
      (retry_events w.master.clients)

  -- so it holds there
  asked_again_keeps : (P : Settling M → Type 0) → Keeps P → (w : World M) (limit : ℕ) (outcomes : List Outcome)
      → P (opening_settling w limit outcomes)
      → P (asked_again w limit outcomes)
  asked_again_keeps P keeps w limit outcomes holds =
      each_keeps P keeps _ (retry_events w.master.clients) (passes_keep P keeps (deliveries w.master.clients) limit
      (opening_settling w limit outcomes) holds)

  -- and at the end
  settle_keeps : (P : Settling M → Type 0) → Keeps P → (w : World M) (limit : ℕ) (outcomes : List Outcome) → P (opening_settling w limit outcomes)
      → P (settle machine w limit outcomes)
  settle_keeps P keeps w limit outcomes holds =
      passes_keep P keeps (deliveries w.master.clients) limit (asked_again w limit outcomes) (asked_again_keeps P keeps w limit outcomes holds)

  -- the world is where the events lead
  abbrev IsRun : World M → Settling M → Type 0
  IsRun w s = s.world ≡ run machine w s.events

  is_run : (w : World M) → Keeps (IsRun w)
  is_run w s event here =
      either (IsRun w) s event (λ some. ap (λ u. happens machine u (as_read s event)) here ∙ sym (run_more w s.events (as_read s event))) here

  -- settling is a run
  pub settling_is_a_run : (w : World M) (limit : ℕ) (outcomes : List Outcome)
      → (settle machine w limit outcomes).world ≡ run machine w (settle machine w limit outcomes).events
  settling_is_a_run w limit outcomes = settle_keeps (IsRun w) (is_run w) w limit outcomes refl

  -- what is done and what may still be done add up
  abbrev AddsUp : ℕ → Settling M → Type 0
  AddsUp limit s = s.left + length s.events ≡ limit

  adds_up : (limit : ℕ) → Keeps (AddsUp limit)
  adds_up limit s event here = either (AddsUp limit) s event (λ some. grind (arith, length-append, here, some)) here

  -- settling stays within its limit
  pub settling_keeps_its_limit : (w : World M) (limit : ℕ) (outcomes : List Outcome)
      → (settle machine w limit outcomes).left + length (settle machine w limit outcomes).events ≡ limit
  settling_keeps_its_limit w limit outcomes = settle_keeps (AddsUp limit) (adds_up limit) w limit outcomes (omega arith)

  -- no more may be done after an event than before it
  falls : (n : ℕ) → Keeps (λ s. s.left ≤ n)
  falls n s event here = either (λ t. t.left ≤ n) s event (λ some. omega (arith, here)) here

  -- an enabled event is done, where one more may be
  is_done : (s : Settling M) (event : Event) → 0 < s.left → is_enabled s.world event ≡ true → (with_try machine s event).left + 1 ≡ s.left
  is_done s event some enabled = rw (lt-ltb 0 s.left some, enabled) (omega (arith, some))

  -- an event that isn't enabled is not
  is_idle : (s : Settling M) (event : Event) → is_enabled s.world event ≡ false → with_try machine s event ≡ s
  is_idle s event idle = rw idle (no_choice (nat_lt 0 s.left) _ s)

  -- nor is one where no more may be done
  is_spent : (s : Settling M) (event : Event) → s.left ≡ 0 → with_try machine s event ≡ s
  is_spent s event none = ap (λ n. if nat_lt 0 n && is_enabled s.world event then with_event machine s (as_read s event) else s) none

  -- so tries of events that aren't enabled do nothing
  pub none_is_done : (s : Settling M) (events : List Event) → list_any (is_enabled s.world) events ≡ false → with_tries machine s events ≡ s
  none_is_done s [] none = refl
  none_is_done s (event ∷ events) none =
      let both = neither_of (is_enabled s.world event) (list_any (is_enabled s.world) events) none in
      ap (λ t. with_tries machine t events) (is_idle s event both.0) ∙ none_is_done s events both.1

  -- nor do any where no more may be done
  pub none_may_be_done : (s : Settling M) (events : List Event) → s.left ≡ 0 → with_tries machine s events ≡ s
  none_may_be_done s [] none = refl
  none_may_be_done s (event ∷ events) none = ap (λ t. with_tries machine t events) (is_spent s event none) ∙ none_may_be_done s events none

  -- where it is over, a pass does nothing
  pub over_does_nothing : (s : Settling M) (events : List Event) → is_over s events ≡ true → with_tries machine s events ≡ s
  over_does_nothing s events over = elim (spent_or_idle (s.left == 0) (list_any (is_enabled s.world) events) over) [
    | inl spent ↦ none_may_be_done s events (eqb-true s.left 0 spent)
    | inr idle ↦ none_is_done s events idle
  ]

  -- a first event that can be taken, or a later one
  goes_on : (s : Settling M) (event : Event) (events : List Event) (b : Bool) → is_enabled s.world event ≡ b
      → 0 < s.left → (b || list_any (is_enabled s.world) events) ≡ true
      → (list_any (is_enabled s.world) events ≡ true → (with_tries machine s events).left < s.left)
      → (with_tries machine (with_try machine s event) events).left < s.left
  goes_on s event events true enabled some any later =
      let t = with_try machine s event in
      let below : (with_tries machine t events).left ≤ t.left = each_keeps (λ u. u.left ≤ t.left) (falls t.left) t events (omega arith) in
      omega (arith, below, is_done s event some enabled)
  goes_on s event events false idle some any later = rw (is_idle s event idle) (later any)

  -- a pass takes one message at least, where one can be taken and one more may be
  pub pass_takes : (s : Settling M) (events : List Event) → 0 < s.left → list_any (is_enabled s.world) events ≡ true
      → (with_tries machine s events).left < s.left
  pass_takes s [] some any = absurd (true≢false (sym any))
  pass_takes s (event ∷ events) some any = goes_on s event events (is_enabled s.world event) refl some any (pass_takes s events some)

  -- a further pass is made where it isn't over
  over_or_on : (events : List Event) (more : ℕ) (s : Settling M) → s.left ≤ more + 1 → (over : Bool) → is_over s events ≡ over
      → ((with_tries machine s events).left ≤ more → is_over (passes machine events more (with_tries machine s events)) events ≡ true)
      → is_over (elim over [ true ↦ s | false ↦ passes machine events more (with_tries machine s events) ]) events ≡ true
  over_or_on events more s few true over later = over
  over_or_on events more s few false over later =
      let both = neither (s.left == 0) (list_any (is_enabled s.world) events) over in
      let some : 0 < s.left = grind (arith, nat_tests, both.0) in
      later (omega (arith, few, pass_takes s events some both.1))

  -- passes end where it is over
  passes_over : (events : List Event) (more : ℕ) (s : Settling M) → s.left ≤ more → is_over (passes machine events more s) events ≡ true
  passes_over events zero s few = let none : (s.left == 0) ≡ true = grind (arith, nat_tests, few) in rw none refl
  passes_over events (suc more) s few = over_or_on events more s (omega (arith, few)) (is_over s events) refl
      (passes_over events more (with_tries machine s events))

  -- so passes that are made once more do nothing
  pub passes_twice : (events : List Event) (more limit : ℕ) (s : Settling M) → s.left ≤ more
      → passes machine events limit (passes machine events more s) ≡ passes machine events more s
  passes_twice events more zero s few = refl
  passes_twice events more (suc limit) s few =
      let done = passes machine events more s in
      ap (λ over. elim over [ true ↦ done | false ↦ passes machine events limit (with_tries machine done events) ])
      (passes_over events more s few)

  -- where settling ends quiet, no message can be taken
  pub quiet_has_nothing_to_take : (w : World M) (limit : ℕ) (outcomes : List Outcome) → settling_end (settle machine w limit outcomes) ≡ Quiet
      → list_any (is_enabled (settle machine w limit outcomes).world) (deliveries w.master.clients) ≡ false
  quiet_has_nothing_to_take w limit outcomes quiet =
      let few = asked_again_keeps (λ s. s.left ≤ limit) (falls limit) w limit outcomes (omega arith) in
      nothing_is_left ((settle machine w limit outcomes).left == 0) _ quiet (passes_over (deliveries w.master.clients)
      limit (asked_again w limit outcomes) few)
