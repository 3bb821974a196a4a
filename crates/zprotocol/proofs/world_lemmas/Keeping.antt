-- A world that preserves what failed servers held does the same as one that lets go of it.
use Rattle.std.proofs.Common.{◌≡◌, ℕ, Bool, true, false, if◌then◌else◌, List, [], ◌∷◌, refl, sym, ap, ◌∙◌}
use Rattle.zprotocol.specs.server.Machine.{Does}
use Rattle.zprotocol.specs.declared.world.event.Event.{Event}
use Rattle.zprotocol.specs.world.World.{World, opening_world}
use Rattle.zprotocol.specs.world.Events.{has_failed, is_enabled, let_go, happens, run}
use Rattle.zprotocol.specs.world.Keeping.{keeps, run_keeping}
use Rattle.zprotocol.proofs.world_lemmas.Alike.{have_the_same_enabled, alike_let_go, alike_gone, alike_acts}

-- once let go of is let go of
pub let_go_twice : {M : Type 0} (w : World M) → let_go (let_go w) ≡ let_go w
let_go_twice w = sym (alike_let_go w (let_go w) (alike_gone w))

module _ {M : Type 0} (machine : Does M) (w : World M) where
  pub keeping_enabled : (event : Event) → is_enabled (let_go w) event ≡ is_enabled w event
  keeping_enabled event = sym (have_the_same_enabled machine w (let_go w) event (alike_gone w))

  -- an event
  pub keeping_happens : (event : Event) → happens machine (let_go w) event ≡ let_go (keeps machine w event)
  keeping_happens event = by (is_enabled w event) refl
    where
      by : (b : Bool) → is_enabled w event ≡ b → happens machine (let_go w) event ≡ let_go (keeps machine w event)
      by true is = rw (keeping_enabled event ∙ is, is) (sym (alike_let_go _ _ (alike_acts machine w (let_go w) event (alike_gone w) is)))
      by false is = rw (keeping_enabled event ∙ is, is) refl

-- what happened has let go of what failed servers held, if that was so before
pub happened_lets_go : {M : Type 0} (machine : Does M) (w : World M) (event : Event) → let_go (happens machine (let_go w) event)
    ≡ happens machine (let_go w) event
happened_lets_go machine w event =
    ap let_go (keeping_happens machine w event) ∙ let_go_twice (keeps machine w event) ∙ sym (keeping_happens machine w event)

-- a run
pub keeping_runs : {M : Type 0} (machine : Does M) (w : World M) (events : List Event) → run machine (let_go w) events
    ≡ let_go (run_keeping machine w events)
keeping_runs machine w [] = refl
keeping_runs machine w (event ∷ events) =
    ap (λ u. run machine u events) (keeping_happens machine w event) ∙ keeping_runs machine (keeps machine w event) events

-- a link is empty whether or not it is let go of
none_either_way : {A : Type 0} (b : Bool) → ◌≡◌ {A = List A} (if b then [] else []) []
none_either_way true = refl
none_either_way false = refl

-- an opening holds nothing that is let go of
pub opening_let_go : {M : Type 0} (machine : Does M) (servers clients : ℕ) → let_go (opening_world machine servers clients)
    ≡ opening_world machine servers clients
opening_let_go machine servers clients =
    λ i. record (opening_world machine servers clients)
    { links = λ from to. none_either_way (has_failed (opening_world machine servers clients) to) i }

-- a run from an opening is what is left of the one that preserves
pub run_lets_go : {M : Type 0} (machine : Does M) (servers clients : ℕ) (events : List Event)
    → run machine (opening_world machine servers clients) events ≡ let_go (run_keeping machine (opening_world machine servers clients) events)
run_lets_go machine servers clients events =
    ap (λ w. run machine w events) (sym (opening_let_go machine servers clients))
    ∙ keeping_runs machine (opening_world machine servers clients) events
