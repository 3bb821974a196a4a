-- A row of a process is its event of the world: it is enabled, and does in the world what the row says.
use Rattle.std.proofs.Common.{◌≡◌, ◌⊎◌, ℕ, Bool, true, false, List, ◌∷◌, Option, Some, None, refl, sym, ap, ◌∙◌, subst, inl, inr}
use Rattle.std.specs.Prelude.{◌&&◌, is_some, is_none, if◌then◌else◌}
use mathlib.Core.Bool.{true≢false}
use Rattle.zprotocol.specs.declared.message.Message.TheVariants as message
use Rattle.zprotocol.specs.declared.process.Process.{Process}
use Rattle.zprotocol.specs.declared.process.Process.TheVariants.{Master, Server, Client}
use Rattle.zprotocol.specs.Places.{is_server}
use Rattle.zprotocol.specs.server.Machine.{Does}
use Rattle.zprotocol.specs.server.Memory.{is_query}
use Rattle.zprotocol.specs.server.View.{ServerView, MessageOf, Post}
use Rattle.zprotocol.specs.declared.master.order.Order.{Order}
use Rattle.zprotocol.specs.master.Order.{server_of}
use Rattle.zprotocol.specs.master.Table.{order_fault}
use Rattle.zprotocol.specs.declared.world.event.Event.TheVariants as event
use Rattle.zprotocol.specs.declared.world.outcome.Outcome.TheVariants.{Acted, Stopped, Unheard}
use Rattle.zprotocol.specs.world.History.{History}
use Rattle.zprotocol.specs.world.World.{World}
use Rattle.zprotocol.specs.world.Does as given
use Rattle.zprotocol.specs.world.Does.{Standing, AtServer, Out, Input, Hear, Obey, Stop, Effect, idle_effect, stop_effect}
use Rattle.zprotocol.specs.world.Events.{is_enabled, is_request, acts, let_go}
use Rattle.zprotocol.proofs.world_lemmas.Tests.{both}
use Rattle.zprotocol.specs.declared.traces.trace.Act.{Act}
use Rattle.zprotocol.specs.declared.traces.trace.Act.TheVariants.{Took, Began, Retried, Ordered, Left, Halted}
use Rattle.zprotocol.specs.traces.Deeds.{Stamped, takes_part, standing_in, is_to_leave, may_drop, done, row_of, Row}
use Rattle.zprotocol.specs.traces.Traces.{event_of}
use Rattle.zprotocol.proofs.traces_lemmas.Deeds.{no_delivery}
use Rattle.zprotocol.proofs.traces_lemmas.Effects.{Arrives, IsRowOf, and_false, idles, row_by, enabled_row, delivered, some_if, incarnations}
use Rattle.zprotocol.proofs.traces_lemmas.Effects.{DoesSo, does_so, does_happen, ends}

-- a query is a request
query_is_request : {M : Type 0} (m : MessageOf M) → is_query m ≡ true → is_request m ≡ true
query_is_request (message.Query number query) h = refl
query_is_request (message.Submit number update) h = refl
query_is_request other h = absurd (cc h)

-- what is some isn't none
not_none : {A : Type 0} (o : Option A) → is_some o ≡ true → is_none o ≡ false
not_none None is = absurd (true≢false (sym is))
not_none (Some x) is = refl

-- a choice
either : {A : Type 0} (b : Bool) (x y z : A) → (if b then x else y) ≡ z → ((b ≡ true) × (x ≡ z)) ⊎ ((b ≡ false) × (y ≡ z))
either true x y z is = inl (refl, is)
either false x y z is = inr (refl, is)

module _ {M : Type 0} (machine : Does M) (w : World M) where
  abbrev IsRow : Process → Act → Effect M → Type 0
  IsRow p act did = IsRowOf machine w p act did.left did.posts did.reported

  -- where one choice is none
  does_if : (p : Process) (input : Input M) (did : Effect M) (b : Bool) → (if b then done machine p (standing_in w p) input else None) ≡ Some did
      → DoesSo machine w p input did
  does_if p input did true is = does_so machine w p input did is
  does_if p input did false is = absurd (cc is)

  does_unless : (p : Process) (input : Input M) (did : Effect M) (b : Bool) → (if b then None else done machine p (standing_in w p) input) ≡ Some did
      → DoesSo machine w p input did
  does_unless p input did true is = absurd (cc is)
  does_unless p input did false is = does_so machine w p input did is

  -- a server fails
  fails : (s : ℕ) (act : Act) (did : Effect M) → event_of (Server s) act ≡ Some (event.Fail s) → DoesSo machine w (Server s) Stop did
      → IsRow (Server s) act did
  fails s act did is so =
      enabled_row machine w (Server s) act (event.Fail s) did is so.part so.part
      (ends machine w (Server s) Halted act did _ (ap (λ (e : Effect M). e.left) (sym so.same)) (does_happen machine w (Server s) Halted Stop did so))

  -- a server that drops a query takes part, and it is a query
  drops_part : (s : ℕ) (part : Bool) (v : ServerView M) (from : Process) (m : MessageOf M)
      → may_drop machine (Server s) (if part then AtServer v else Out) from m ≡ true → (part ≡ true) × (is_request m ≡ true)
  drops_part s true v from m is = (refl, query_is_request m (both (is_query m) _ is).0)
  drops_part s false v from m is = absurd (true≢false (sym is))

  -- a query is dropped
  drops : (s : ℕ) (from : Process) (m : MessageOf M) (more : List (MessageOf M)) → w.links from (Server s) ≡ m ∷ more
      → may_drop machine (Server s) (standing_in w (Server s)) from m ≡ true
      → IsRow (Server s) (Took from Unheard) (idle_effect (standing_in w (Server s)))
  drops s from m more front may =
      let part = drops_part s (takes_part w (Server s)) (w.servers s) from m may in
      let alive : w.failed s ≡ false = incarnations w (Server s) part.0 in
      let enabled : is_enabled w (event.Ignore from (Server s)) ≡ true = rw (front, alive) (rw part.1 refl) in
      enabled_row machine w (Server s) (Took from Unheard) (event.Ignore from (Server s)) (idle_effect (standing_in w (Server s)))
      refl enabled enabled
      (idles w (Took from Unheard) (Server s))

  -- the master refuses an order
  refused : (order : Order) → is_some (order_fault w.master order) ≡ true → IsRow Master (Ordered order) (idle_effect (standing_in w Master))
  refused order is =
      let none : (is_server (server_of order) && is_none (order_fault w.master order)) ≡ false =
      ap (λ b. is_server (server_of order) && b) (not_none (order_fault w.master order) is) ∙ and_false (is_server (server_of order)) in
      row_by machine w Master (Ordered order) (event.Order order) (idle_effect (standing_in w Master)) w refl refl
      (sym (ap (λ b. if b then let_go (acts machine w (event.Order order)) else w) none)) (idles w (Ordered order) Master)

  -- every row, where its message has come
  happens_so : (p : Process) (act : Act) (took : Option (Stamped M)) (did : Effect M) → row_of machine p (standing_in w p) act took ≡ Some did
      → Arrives w p act took → IsRow p act did
  happens_so p (Took from Acted) (Some m) did row (more, front) =
      let so = does_unless p (Hear from m.1) did (is_to_leave p from m.1) row in
      delivered machine w p (Took from Acted) from m.1 more did refl front (incarnations w p so.part)
      (does_happen machine w p (Took from Acted) (Hear from m.1) did so)
  happens_so (Server s) Left (Some m) did row (more, front) =
      let so = does_if (Server s) (Hear Master m.1) did (is_to_leave (Server s) Master m.1) row in
      delivered machine w (Server s) Left Master m.1 more did refl front (incarnations w (Server s) so.part)
      (does_happen machine w (Server s) Left (Hear Master m.1) did so)
  happens_so (Server s) (Took from Unheard) (Some m) did row (more, front) =
      let is = some_if (may_drop machine (Server s) (standing_in w (Server s)) from m.1) (idle_effect (standing_in w (Server s))) did row in
      subst (IsRow (Server s) (Took from Unheard)) is.1 (drops s from m.1 more front is.0)
  happens_so (Server s) (Took from Stopped) (Some m) did row arrives = fails s (Took from Stopped) did refl (does_if (Server s) Stop did _ row)
  happens_so (Server s) Halted None did row arrives = fails s Halted did refl (does_so machine w (Server s) Stop did row)
  happens_so Master (Ordered order) None did row arrives = elim (either (is_some (order_fault w.master order)) _ _ (Some did) row) [
    | inl is ↦ subst (IsRow Master (Ordered order)) (cc is.1) (refused order is.0)
    | inr is ↦
        let so = does_so machine w Master (Obey order) did is.1 in
        enabled_row machine w Master (Ordered order) (event.Order order) did refl refl so.accepted
        (does_happen machine w Master (Ordered order) (Obey order) did so)
  ]
  happens_so (Client c) (Began call) None did row arrives =
      let so = does_so machine w (Client c) (given.Begin call) did row in
      let enabled : is_enabled w (event.Begin c call) ≡ true = rw (so.part, so.accepted) refl in
      enabled_row machine w (Client c) (Began call) (event.Begin c call) did refl enabled enabled
      (does_happen machine w (Client c) (Began call) (given.Begin call) did so)
  happens_so (Client c) Retried None did row arrives =
      let so = does_so machine w (Client c) given.Retry did row in
      enabled_row machine w (Client c) Retried (event.Retry c) did refl so.accepted so.accepted
      (does_happen machine w (Client c) Retried given.Retry did so)
  happens_so p (Took from outcome) None did row arrives = absurd (cc (sym (no_delivery machine p (standing_in w p) from outcome) ∙ row))
  happens_so p act (Some m) did row arrives = absurd (cc row)
  happens_so p act None did row arrives = absurd (cc row)

  pub row_happens : (p : Process) (act : Act) (took : Option (Stamped M)) (left : Standing M) (posts : List (Post M)) (reported : History)
      → Row machine p (standing_in w p) act took left posts reported → Arrives w p act took → IsRowOf machine w p act left posts reported
  row_happens p act took left posts reported row arrives = happens_so p act took (record { left = left; posts = posts; reported = reported }) row arrives
