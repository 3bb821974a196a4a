-- Where a run or a settling runs out of memory.
use Rattle.std.specs.Prelude.{◌&&◌}
use Rattle.zworld.specs.declared.did.Did.TheVariants as became
use Rattle.std.proofs.Common.{◌≡◌, ◌<◌, ◌-◌, ℕ, Bool, true, false, not, if◌then◌else◌, List, [], ◌∷◌, ◌++◌, inl, inr}
use Rattle.std.proofs.Common.{refl, sym, ap, ◌∙◌, subst, true≢false}
use Rattle.ztree.specs.Tree.{Tree}
use Rattle.zcalls.specs.Cached.{CachedState}
use Rattle.zprotocol.specs.declared.world.event.Event.{Event}
use Rattle.zprotocol.specs.declared.world.event.Event.TheVariants.{Begin, Retry, Take, Ignore, Fail, Order}
use Rattle.zprotocol.specs.world.History.{History}
use Rattle.zprotocol.specs.world.World.{World}
use Rattle.zprotocol.specs.world.Events.{is_enabled}
use Rattle.zworld.specs.declared.did.Did.{Did}
use Rattle.zworld.specs.Held.{Held, kept_world, world_of}
use Rattle.zworld.specs.Did.{is_idle, is_short}
use Rattle.zworld.specs.Steps.{HasRunOut, CanWantMemoryToSettle, can_want_memory, is_of_settling}
use Rattle.zworld.specs.support.Past.{LeadRead}
use Rattle.zworld.specs.support.Settling.{CanRunOut, StillOrCould}
use Rattle.zworld.specs.support.Stepped.{HasStepped}
use Rattle.zworld.proofs.Going.{has_run, can_anyway}

-- events of which some were done, and the next can want memory
pub has_run_out : (v w : World (CachedState Tree)) (events front back : List Event) (event : Event) (history : History) → LeadRead v front w
    → events ≡ front ++ event ∷ back → history ≡ w.history → can_want_memory w event ≡ true → HasRunOut v events history
has_run_out v w events front back event history leads cut same can =
    let ran = has_run v w front leads in (
      front,
      back,
      event,
      cut,
      ran.0,
      ran.1,
      ap (λ (x : World (CachedState Tree)). x.history) ran.2 ∙ sym same,
      ap (λ x. can_want_memory x event) ran.2 ∙ can,
    )

-- an enabled event of settling can want memory
enabled_can : (w : World (CachedState Tree)) (event : Event) → is_of_settling event ≡ true → is_enabled w event ≡ true → can_want_memory w event ≡ true
enabled_can w (Retry c) is on = on
enabled_can w (Take from to) is on = on
enabled_can w (Begin c call) is on = absurd (true≢false (sym is))
enabled_can w (Ignore from to) is on = absurd (true≢false (sym is))
enabled_can w (Fail s) is on = absurd (true≢false (sym is))
enabled_can w (Order order) is on = absurd (true≢false (sym is))

-- so settling can run out of memory there
pub can_run_out : (held : Held) (event : Event) (left : ℕ) → 0 < left → is_of_settling event ≡ true
    → is_enabled (kept_world held []) event ≡ true → CanRunOut held left
can_run_out held event left some is on = (some, event, is, enabled_can (kept_world held []) event is on)

-- where it can at the second point, it can at the first
pub could_at_first : (old new : Held) (left more : ℕ) → StillOrCould old new left more → CanRunOut new more → CanRunOut old left
could_at_first old new left more (inl (same, stays)) can = subst (λ h. CanRunOut h left) same (subst (λ n. CanRunOut new n) stays can)
could_at_first old new left more (inr could) can = could

-- from one point to another, and on to a third
pub still_or_could : (old mid new : Held) (left less more : ℕ) → StillOrCould old mid left less → StillOrCould mid new less more
    → StillOrCould old new left more
still_or_could old mid new left less more (inr could) second = inr could
still_or_could old mid new left less more (inl first) (inl second) = inl (second.0 ∙ first.0, second.1 ∙ first.1)
still_or_could old mid new left less more (inl first) (inr can) = inr (could_at_first old mid left less (inl first) can)

-- an event that is tried changes nothing, or was enabled
pub tried_or_could : (old new : Held) (event : Event) (did : Did) (reported : History) (left more : ℕ) → HasStepped old new event did reported → 0 < left
    → is_of_settling event ≡ true → more ≡ (if is_idle did then left else left - 1) → StillOrCould old new left more
tried_or_could old new event did reported left more stepped some is rest = by_idle (is_idle did) refl
  where
    not-false : (b : Bool) → false ≡ not b → b ≡ true
    not-false true e = refl
    not-false false e = absurd (true≢false (sym e))

    by_idle : (idle : Bool) → is_idle did ≡ idle → StillOrCould old new left more
    by_idle true idle = inl (stepped.same idle, rest ∙ ap (λ b. if b then left else left - 1) idle)
    by_idle false active =
        inr (can_run_out old event left some is (not-false (is_enabled (kept_world old []) event) (sym active ∙ stepped.idle)))

-- what is said of it doesn't hang on the history
pub can_run_out_anyway : (held : Held) (history : History) (left : ℕ) → CanRunOut held left → CanWantMemoryToSettle (world_of held history) left
can_run_out_anyway held history left (some, event, is, can) = (some, event, is, can_anyway held history event ∙ can)

-- an event at which a server ran out of memory, and none may, was enabled
pub short_is_enabled : (old new : Held) (event : Event) (did : Did) (reported : History) (strict : Bool)
    → HasStepped old new event did reported → (strict && is_short did) ≡ true
    → is_enabled (kept_world old []) event ≡ true
short_is_enabled old new event did reported strict stepped short = not_idle (is_enabled (kept_world old []) event)
    (sym (active did (second strict short)) ∙ stepped.idle)
  where
    second : (strict : Bool) → (strict && is_short did) ≡ true → is_short did ≡ true
    second true both = both
    second false both = absurd (true≢false (sym both))

    active : (did : Did) → is_short did ≡ true → is_idle did ≡ false
    active (became.Idle cause) short = absurd (true≢false (sym short))
    active became.Done short = refl
    active became.Unheard short = refl
    active became.Stopped short = refl

    not_idle : (b : Bool) → false ≡ not b → b ≡ true
    not_idle true e = refl
    not_idle false e = absurd (true≢false (sym e))
