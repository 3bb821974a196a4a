-- A server that takes an order to retire is as one that failed at that moment.
use Rattle.std.proofs.Common.{◌≡◌, ℕ, Bool, true, false, if◌then◌else◌, List, ◌∷◌, ◌++◌, refl, sym, ap, ◌∙◌, inl, inr}
use mathlib.Core.Bool.{true≢false}
use Rattle.std.specs.Prelude.{not, ◌==◌}
use Rattle.zcalls.proofs.Among.{test}
use Rattle.zprotocol.specs.declared.message.Message.TheVariants as message
use Rattle.zprotocol.specs.declared.process.Process.{Process}
use Rattle.zprotocol.specs.declared.process.Process.TheVariants.{Master, Server, Client}
use Rattle.zprotocol.specs.server.Machine.{Does}
use Rattle.zprotocol.specs.server.View.{MessageOf}
use Rattle.zprotocol.specs.declared.world.event.Event.TheVariants.{Take, Fail}
use Rattle.zprotocol.specs.world.Links.{is_same, messages_to, without_front}
use Rattle.zprotocol.specs.world.World.{World}
use Rattle.zprotocol.specs.Places.{is_server}
use Rattle.zprotocol.specs.world.Does.{stop_effect, last_post}
use Rattle.zprotocol.specs.world.Events.{has_failed, did_in, happens, is_enabled}
use Rattle.zprotocol.specs.world.support.Alike.{IsAlike}
use Rattle.zprotocol.proofs.world_lemmas.Alike.{alike_let_go}
use Rattle.zprotocol.proofs.world_lemmas.Tests.{both}

-- no more than a test that holds
not_true : (b : Bool) → not b ≡ true → b ≡ false
not_true false is = refl
not_true true is = absurd (true≢false (sym is))

module _ {M : Type 0} (machine : Does M) (w : World M) (s : ℕ) (more : List (MessageOf M)) where
  -- the world without the order
  abbrev taken : World M
  taken = record w { links = without_front w.links Master (Server s) }

  -- who hasn't failed is another one
  another : (to : Process) → has_failed (did_in w (Server s) stop_effect) to ≡ false → is_same to (Server s) ≡ false
  another Master alive = refl
  another (Client c) alive = refl
  another (Server t) alive = elim (test (t == s)) [
    | inl same ↦ absurd (true≢false (sym (ap (λ b. if b then true else w.failed t) same) ∙ alive))
    | inr other ↦ other
  ]

  -- what is on links into others stays
  same_elsewhere : (from to : Process) → is_same to (Server s) ≡ false → w.links from to ≡ without_front w.links Master (Server s) from to
  same_elsewhere from to other = elim (test (is_same from Master)) [ inl is ↦ rw (is, other) refl | inr not ↦ rw not refl ]

  -- who stops with the order in flight, and who has taken it
  stopped_alike : IsAlike (did_in w (Server s) stop_effect) (did_in taken (Server s) stop_effect)
  stopped_alike = record {
    rest = refl;
    servers = λ t alive. refl;
    links = λ from to alive.
        ap (λ link. if is_same from (Server s) then link ++ messages_to to last_post else link)
        (same_elsewhere from to (another to alive));
  }

  -- a retired server has failed
  pub retired_have_failed : w.links Master (Server s) ≡ message.Retire ∷ more → is_enabled w (Fail s) ≡ true
      → happens machine w (Fail s) ≡ happens machine w (Take Master (Server s))
  retired_have_failed front enabled =
      let alive : w.failed s ≡ false = not_true (w.failed s) (both (is_server s) (not (w.failed s)) enabled).1 in
      let takes : is_enabled w (Take Master (Server s)) ≡ true = rw (front, alive) refl in
      rw (enabled, takes, front) (alike_let_go _ _ stopped_alike)
