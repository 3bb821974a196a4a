-- In every run from an opening the master stays within its bounds, so it gives few epochs.
use Rattle.std.proofs.Common.{◌≡◌, ℕ, ◌+◌, ◌<◌, ◌≤◌, true, List, [], ◌∷◌, Option, Some, None, length, refl, sym, inl, inr, arith}
use mathlib.Core.Bool.{true≢false}
use Rattle.std.specs.Prelude.{is_none}
use Rattle.std.specs.List.{AllByRecursion}
use Rattle.zcalls.proofs.Among.{test}
use Rattle.zprotocol.specs.declared.limits.TheConstants.{MAX_SERVERS}
use Rattle.zprotocol.specs.declared.process.Process.{Process}
use Rattle.zprotocol.specs.declared.process.Process.TheVariants.{Master, Server, Client}
use Rattle.zprotocol.specs.server.Machine.{Does, cached_tree}
use Rattle.zprotocol.specs.server.View.{Transfer, MessageOf}
use Rattle.zprotocol.specs.server.Table.{is_retirement, server_step}
use Rattle.zprotocol.specs.master.Laws.{IsRisingFrom, IsBounded}
use Rattle.zprotocol.specs.master.Order.{server_of}
use Rattle.zprotocol.specs.master.Table.{order_fault}
use Rattle.zprotocol.proofs.master_lemmas.Bounds.{opening_is_bounded, messages_keep, orders_keep}
use Rattle.zprotocol.specs.declared.world.event.Event.{Event}
use Rattle.zprotocol.specs.declared.world.event.Event.TheVariants.{Begin, Retry, Take, Ignore, Fail, Order}
use Rattle.zprotocol.specs.world.Links.{without_front}
use Rattle.zprotocol.specs.world.World.{World, opening_world}
use Rattle.zprotocol.specs.Places.{is_server}
use Rattle.zprotocol.specs.world.Does.{Hear, server_effect, stop_effect}
use Rattle.zprotocol.specs.world.Events.{is_enabled, does_in, front_step, acts, happens, run}
use Rattle.zprotocol.proofs.world_lemmas.Effects.{by_choice}
use Rattle.zprotocol.specs.world.Laws.{world_after, EpochsAreFew}
use Rattle.zprotocol.specs.world.support.Within.{IsServer}
use Rattle.zprotocol.proofs.world_lemmas.Tests.{both}
use Rattle.zprotocol.proofs.world_lemmas.Visited.{at_least_one, at_most, after_within}

-- no fault
is_none_of : {A : Type 0} (o : Option A) → is_none o ≡ true → o ≡ None
is_none_of None none = refl
is_none_of (Some x) none = absurd (true≢false (sym none))

module _ {M : Type 0} (machine : Does M) where
  taken_keeps : (w : World M) (from to : Process) (m : MessageOf M) → IsBounded w.master → IsBounded (does_in machine w to (Hear from m)).master
  taken_keeps w from Master m bounded = messages_keep w.master from m bounded
  taken_keeps w from (Server s) m bounded =
      by_choice (λ (x : World M). IsBounded x.master) (is_retirement from m) w (Server s) stop_effect
      (server_effect (server_step machine (w.servers s) from m)) bounded bounded
  taken_keeps w from (Client c) m bounded = bounded

  front_keeps : (w : World M) (from to : Process) (link : List (MessageOf M)) → IsBounded w.master
      → IsBounded (front_step machine w from to link).master
  front_keeps w from to [] bounded = bounded
  front_keeps w from to (m ∷ more) bounded = taken_keeps (record w { links = without_front w.links from to }) from to m bounded

  acts_keeps : (w : World M) (event : Event) → IsBounded w.master → is_enabled w event ≡ true → IsBounded (acts machine w event).master
  acts_keeps w (Begin c call) bounded enabled = bounded
  acts_keeps w (Retry c) bounded enabled = bounded
  acts_keeps w (Take from to) bounded enabled = front_keeps w from to (w.links from to) bounded
  acts_keeps w (Ignore from to) bounded enabled = bounded
  acts_keeps w (Fail s) bounded enabled = bounded
  acts_keeps w (Order order) bounded enabled =
      let free = both (is_server (server_of order)) (is_none (order_fault w.master order)) enabled in
      orders_keep (Transfer M) w.master order (is_none_of (order_fault w.master order) free.1) bounded

  happens_keeps : (w : World M) (event : Event) → IsBounded w.master → IsBounded (happens machine w event).master
  happens_keeps w event bounded = elim (test (is_enabled w event)) [
    | inl enabled ↦ rw enabled (acts_keeps w event bounded enabled)
    | inr idle ↦ rw idle bounded
  ]

  run_keeps : (w : World M) (events : List Event) → IsBounded w.master → IsBounded (run machine w events).master
  run_keeps w [] bounded = bounded
  run_keeps w (event ∷ events) bounded = run_keeps (happens machine w event) events (happens_keeps w event bounded)

-- numbers of servers that rise are few
few_from : (first : ℕ) (numbers : List ℕ) → IsRisingFrom first numbers → AllByRecursion IsServer numbers → first ≤ MAX_SERVERS + 1
    → length numbers + first ≤ MAX_SERVERS + 1
few_from first [] rising all low = omega (arith, low)
few_from first (number ∷ numbers) rising all low =
    let limit : number ≤ MAX_SERVERS = at_most number all.0 in
    let rest : length numbers + (number + 1) ≤ MAX_SERVERS + 1 = few_from (number + 1) numbers rising.1 all.1 (omega (arith, limit)) in
    let above : first ≤ number = rising.0 in
    omega (arith, rest, above)

few_used : (numbers : List ℕ) → IsRisingFrom 0 numbers → AllByRecursion IsServer numbers → length numbers ≤ MAX_SERVERS
few_used [] rising all = omega arith
few_used (number ∷ numbers) rising all =
    let some : 0 < number = at_least_one number all.0 in
    let few : length (number ∷ numbers) + 1 ≤ MAX_SERVERS + 1 = few_from 1 (number ∷ numbers) (some, rising.1) all (omega arith) in
    omega (arith, few)

pub epochs_are_few : EpochsAreFew
epochs_are_few servers clients events is =
    let bounded : IsBounded (world_after servers clients events).master =
    run_keeps cached_tree (opening_world cached_tree servers clients) events (opening_is_bounded servers clients) in
    let few : length (world_after servers clients events).master.used ≤ MAX_SERVERS =
    few_used (world_after servers clients events).master.used bounded.rising (after_within servers clients events is).used in
    omega (arith, bounded.epochs, few)
