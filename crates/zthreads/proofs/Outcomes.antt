-- Which orders have their outcome said, after what the master did.
use Rattle.std.proofs.Common.{◌≡◌, ◌≤◌, List, [], ◌∷◌, ◌++◌, Option, None, Some, length, map, refl, sym, ap, ◌∙◌, arith}
use Rattle.std.proofs.lemmas.List.{append-nil, map-append}
use Rattle.zprotocol.specs.declared.master.order_fault.OrderFault.{OrderFault}
use Rattle.zprotocol.specs.master.View.{MasterView}
use Rattle.zprotocol.specs.master.Table.{order_fault}
use Rattle.zprotocol.specs.declared.master.order.Order.{Order}
use Rattle.zchannels.specs.declared.outcome.OrderOutcome.{OrderOutcome}
use Rattle.zchannels.specs.declared.console.Inbox.{Inbox}
use Rattle.zchannels.specs.Console.{said, taken_of}
use Rattle.zchannels.specs.Outcomes.{AreSaid, order_of}
use Rattle.zthreads.specs.declared.owed.Owed.{Owed}
use Rattle.zthreads.specs.declared.owed.Owed.TheVariants.{Nothing, Deed, Word}
use Rattle.zthreads.specs.Outcomes.{outcome_at, outcome_by, unsaid}

order_of-outcome_by : (order : Order) (fault : Option OrderFault) → order_of (outcome_by order fault) ≡ order
order_of-outcome_by order None = refl
order_of-outcome_by order (Some fault) = refl

-- what the master says to an order is the outcome of that order
pub order_of-outcome_at : (v : MasterView) (order : Order) → order_of (outcome_at v order) ≡ order
order_of-outcome_at v order = order_of-outcome_by order (order_fault v order)

-- of one order at most the outcome isn't said
pub few_unsaid : (owed : Owed) → length (unsaid owed) ≤ 1
few_unsaid Nothing = omega arith
few_unsaid (Deed order) = omega arith
few_unsaid (Word outcome) = omega arith

module _ (a b : Inbox) where
  -- nothing more was said or received
  pub said_same : (orders : List Order) → taken_of b ≡ taken_of a → said b ≡ said a → AreSaid a orders → AreSaid b orders
  said_same orders taken same are = taken ∙ are ∙ ap (λ (l : List OrderOutcome). map order_of l ++ orders) (sym same)

  -- one more order was received
  pub said_next : (order : Order) → taken_of b ≡ taken_of a ++ order ∷ [] → said b ≡ said a → AreSaid a [] → AreSaid b (order ∷ [])
  said_next order taken same are =
      taken
      ∙ ap (λ l. l ++ order ∷ []) (are ∙ append-nil (map order_of (said a)) ∙ ap (λ (l : List OrderOutcome). map order_of l) (sym same))

  -- the outcome of the last one was said
  pub said_more : (outcome : OrderOutcome) → taken_of b ≡ taken_of a → said b ≡ said a ++ outcome ∷ []
      → AreSaid a (order_of outcome ∷ []) → AreSaid b []
  said_more outcome taken more are =
      taken
      ∙ are
      ∙ sym (map-append order_of (said a) (outcome ∷ []))
      ∙ ap (λ (l : List OrderOutcome). map order_of l) (sym more)
      ∙ sym (append-nil (map order_of (said b)))
