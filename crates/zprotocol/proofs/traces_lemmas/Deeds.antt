-- Deeds, and more deeds after them.
use Rattle.std.proofs.Common.{◌≡◌, ◌<◌, ℕ, Bool, true, false, List, [], ◌∷◌, ◌++◌, Option, Some, None, refl, sym, ap, ◌∙◌, subst, append_assoc, arith}
use Rattle.std.specs.Prelude.{if◌then◌else◌}
use Rattle.std.proofs.Math.Nat.{le-max_left, le-max_right}
use Rattle.std.proofs.lemmas.List.{append-nil, map-append}
use Rattle.zprotocol.specs.declared.process.Process.{Process}
use Rattle.zprotocol.specs.declared.process.Process.TheVariants.{Master, Server, Client}
use Rattle.zprotocol.specs.server.Machine.{Does}
use Rattle.zprotocol.specs.server.View.{MessageOf}
use Rattle.zprotocol.specs.declared.master.order.Order.{Order}
use Rattle.zprotocol.specs.declared.world.outcome.Outcome.{Outcome}
use Rattle.zprotocol.specs.declared.world.outcome.Outcome.TheVariants.{Acted, Stopped, Unheard}
use Rattle.zprotocol.specs.world.Links.{messages_to}
use Rattle.zprotocol.specs.world.Does as given
use Rattle.zprotocol.specs.world.Does.{Standing, Out, Input, Hear, Obey, Stop, Effect, accepts, does, idle_effect}
use Rattle.zprotocol.specs.declared.traces.trace.Act.{Act}
use Rattle.zprotocol.specs.declared.traces.trace.Act.TheVariants.{Took, Began, Retried, Ordered, Left, Halted}
use Rattle.zprotocol.specs.traces.Deeds.{Stamped, is_to_leave, may_drop, may_stop_at, refuses, done, row_of, Row, Deed}
use Rattle.zprotocol.specs.traces.Deeds.{IsStamped, stamp_of, GoesBy, trace_by, taken_from, takes, stamped, puts, reported_by}
use Rattle.zprotocol.specs.traces.Deeds.{left_by, last_by}

module _ {M : Type 0} where
  pub left_append : (standing : Standing M) (deeds more : List (Deed M)) → left_by standing (deeds ++ more) ≡ left_by (left_by standing deeds) more
  left_append standing [] more = refl
  left_append standing (d ∷ deeds) more = left_append d.left deeds more

  pub last_append : (last : ℕ) (deeds more : List (Deed M)) → last_by last (deeds ++ more) ≡ last_by (last_by last deeds) more
  last_append last [] more = refl
  last_append last (d ∷ deeds) more = last_append d.event.stamp deeds more

  pub takes_append : (from : Process) (deeds more : List (Deed M)) → takes from (deeds ++ more) ≡ takes from deeds ++ takes from more
  takes_append from [] more = refl
  takes_append from (d ∷ deeds) more =
      ap (λ l. taken_from from d.event.act d.took ++ l) (takes_append from deeds more)
      ∙ sym (append_assoc (taken_from from d.event.act d.took) (takes from deeds) (takes from more))

  pub puts_append : (to : Process) (deeds more : List (Deed M)) → puts to (deeds ++ more) ≡ puts to deeds ++ puts to more
  puts_append to [] more = refl
  puts_append to (d ∷ deeds) more =
      ap (λ l. stamped d.event.stamp (messages_to to d.posts) ++ l) (puts_append to deeds more)
      ∙ sym (append_assoc (stamped d.event.stamp (messages_to to d.posts)) (puts to deeds) (puts to more))

  pub reported_append : (deeds more : List (Deed M)) → reported_by (deeds ++ more) ≡ reported_by deeds ++ reported_by more
  reported_append [] more = refl
  reported_append (d ∷ deeds) more =
      ap (λ l. d.reported ++ l) (reported_append deeds more) ∙ sym (append_assoc d.reported (reported_by deeds) (reported_by more))

  pub trace_append : (deeds more : List (Deed M)) → trace_by (deeds ++ more) ≡ trace_by deeds ++ trace_by more
  trace_append deeds more = map-append (λ (d : Deed M). d.event) deeds more

  -- one deed more: what each of these is then
  pub left_more : (standing : Standing M) (deeds : List (Deed M)) (d : Deed M) → left_by standing (deeds ++ d ∷ []) ≡ d.left
  left_more standing deeds d = left_append standing deeds (d ∷ [])

  pub last_more : (last : ℕ) (deeds : List (Deed M)) (d : Deed M) → last_by last (deeds ++ d ∷ []) ≡ d.event.stamp
  last_more last deeds d = last_append last deeds (d ∷ [])

  pub takes_more : (from : Process) (deeds : List (Deed M)) (d : Deed M) → takes from (deeds ++ d ∷ [])
      ≡ takes from deeds ++ taken_from from d.event.act d.took
  takes_more from deeds d = takes_append from deeds (d ∷ []) ∙ ap (λ l. takes from deeds ++ l) (append-nil (taken_from from d.event.act d.took))

  pub puts_more : (to : Process) (deeds : List (Deed M)) (d : Deed M) → puts to (deeds ++ d ∷ []) ≡ puts to deeds
      ++ stamped d.event.stamp (messages_to to d.posts)
  puts_more to deeds d = puts_append to deeds (d ∷ []) ∙ ap (λ l. puts to deeds ++ l) (append-nil (stamped d.event.stamp (messages_to to d.posts)))

  pub reported_more : (deeds : List (Deed M)) (d : Deed M) → reported_by (deeds ++ d ∷ []) ≡ reported_by deeds ++ d.reported
  reported_more deeds d = reported_append deeds (d ∷ []) ∙ ap (λ l. reported_by deeds ++ l) (append-nil d.reported)

  pub trace_more : (deeds : List (Deed M)) (d : Deed M) → trace_by (deeds ++ d ∷ []) ≡ trace_by deeds ++ d.event ∷ []
  trace_more deeds d = trace_append deeds (d ∷ [])

  -- a process continues from where deeds left it
  pub goes_append : (machine : Does M) (p : Process) (standing : Standing M) (last : ℕ) (deeds more : List (Deed M))
      → GoesBy machine p standing last deeds
      → GoesBy machine p (left_by standing deeds) (last_by last deeds) more → GoesBy machine p standing last (deeds ++ more)
  goes_append machine p standing last [] more goes on = on
  goes_append machine p standing last (d ∷ deeds) more goes on = (goes.0, goes.1, goes_append machine p d.left d.event.stamp deeds more goes.2 on)

  pub goes_more : (machine : Does M) (p : Process) (standing : Standing M) (last : ℕ) (deeds : List (Deed M)) (d : Deed M)
      → GoesBy machine p standing last deeds
      → Row machine p (left_by standing deeds) d.event.act d.took d.left d.posts d.reported
      → IsStamped p (last_by last deeds) (stamp_of d.took) d.event.stamp
      → GoesBy machine p standing last (deeds ++ d ∷ [])
  goes_more machine p standing last deeds d goes row is = goes_append machine p standing last deeds (d ∷ []) goes (row, is, tt)

-- a stamp is above both
pub rises : (p : Process) (last message stamp : ℕ) → IsStamped p last message stamp → (last < stamp) × (message < stamp)
rises Master last message stamp is = (omega (arith, is, le-max_left last message), omega (arith, is, le-max_right last message))
rises (Server s) last message stamp is = (omega (arith, is, le-max_left last message), omega (arith, is, le-max_right last message))
rises (Client c) last message stamp is = (omega (arith, is, le-max_left last message), omega (arith, is, le-max_right last message))

-- a message is taken where it says so
pub no_delivery : {M : Type 0} (machine : Does M) (p : Process) (standing : Standing M) (from : Process) (outcome : Outcome)
    → row_of machine p standing (Took from outcome) None ≡ None
no_delivery machine p standing from Acted = refl
no_delivery machine p standing from Stopped = refl
no_delivery machine p standing from Unheard = refl

-- what holds wherever a process does something with an input, drops a query or refuses an order, holds of each row
module _ {M : Type 0} (machine : Does M) (p : Process) (standing : Standing M) (P : Effect M → Type 0)
    (does_so : (input : Input M) → accepts p input standing ≡ true → P (does machine p input standing))
    (drops : (from : Process) (m : MessageOf M) → may_drop machine p standing from m ≡ true → P (idle_effect standing))
    (refused : (order : Order) → refuses p standing order ≡ true → P (idle_effect standing)) (did : Effect M) where
  chosen : (b : Bool) (x y : Option (Effect M)) → (b ≡ true → x ≡ Some did → P did) → (y ≡ Some did → P did) → (if b then x else y) ≡ Some did → P did
  chosen true x y first second is = first refl is
  chosen false x y first second is = second is

  this : (e : Effect M) → P e → Some e ≡ Some did → P did
  this e has is = let same : e ≡ did = cc is in subst P same has

  none : None ≡ Some did → P did
  none is = absurd (cc is)

  done_has : (input : Input M) → done machine p standing input ≡ Some did → P did
  done_has input is = chosen (accepts p input standing) _ None (λ can. this _ (does_so input can)) none is

  pub row_has : (act : Act) (took : Option (Stamped M)) → row_of machine p standing act took ≡ Some did → P did
  row_has (Took from Acted) (Some m) row = chosen (is_to_leave p from m.1) None _ (λ leaves. none) (done_has (Hear from m.1)) row
  row_has (Took from Unheard) (Some m) row = chosen (may_drop machine p standing from m.1) _ None (λ may. this _ (drops from m.1 may)) none row
  row_has (Took from Stopped) (Some m) row = chosen (may_stop_at machine p standing from m.1) _ None (λ may. done_has Stop) none row
  row_has Left (Some m) row = chosen (is_to_leave p Master m.1) _ None (λ leaves. done_has (Hear Master m.1)) none row
  row_has Halted None row = done_has Stop row
  row_has (Ordered order) None row = chosen (refuses p standing order) _ _ (λ is. this _ (refused order is)) (done_has (Obey order)) row
  row_has (Began call) None row = done_has (given.Begin call) row
  row_has Retried None row = done_has given.Retry row
  row_has act took row = none row

-- who takes no part does nothing
module _ {M : Type 0} (machine : Does M) where
  pub out_accepts : (p : Process) (input : Input M) → accepts p input Out ≡ false
  out_accepts Master (Hear from m) = refl
  out_accepts Master (Obey order) = refl
  out_accepts Master input = refl
  out_accepts (Server s) (Hear from m) = refl
  out_accepts (Server s) Stop = refl
  out_accepts (Server s) input = refl
  out_accepts (Client c) (Hear from m) = refl
  out_accepts (Client c) (given.Begin call) = refl
  out_accepts (Client c) given.Retry = refl
  out_accepts (Client c) input = refl

  out_drops : (p from : Process) (m : MessageOf M) → may_drop machine p Out from m ≡ false
  out_drops Master from m = refl
  out_drops (Server s) from m = refl
  out_drops (Client c) from m = refl

  out_refuses : (p : Process) (order : Order) → refuses {M = M} p Out order ≡ false
  out_refuses Master order = refl
  out_refuses (Server s) order = refl
  out_refuses (Client c) order = refl

  pub out_ends : (p : Process) (last : ℕ) (deeds : List (Deed M)) → GoesBy machine p Out last deeds → deeds ≡ []
  out_ends p last [] goes = refl
  out_ends p last (d ∷ deeds) goes =
      absurd (row_has machine p Out (λ did. ⊥) (λ input is. cc (is, out_accepts p input)) (λ from m is. cc (is, out_drops p from m))
      (λ order is. cc (is, out_refuses p order)) (record { left = d.left; posts = d.posts; reported = d.reported }) d.event.act d.took goes.0)
