-- The outcomes of the orders that the master followed, and when it sent them.
use Rattle.std.specs.Prelude.{◌≡◌, false, List, [], ◌∷◌, ◌++◌}
use Rattle.zprotocol.specs.master.View.{MasterView}
use Rattle.zprotocol.specs.declared.traces.trace.TraceEvent.{TraceEvent}
use Rattle.zprotocol.specs.world.Does.{AtMaster}
use Rattle.zprotocol.specs.declared.master.order.Order.{Order}
use Rattle.zchannels.specs.declared.outcome.OrderOutcome.{OrderOutcome}
use Rattle.zchannels.specs.Outcomes.{order_of}
use Rattle.zthreads.specs.declared.endpoint.Endpoint.{Endpoint}
use Rattle.zthreads.specs.Endpoints.{IsAt, is_cut_of, SameEndpoint, trace_of}
use Rattle.zthreads.specs.declared.owed.Owed.{Owed}
use Rattle.zthreads.specs.declared.owed.Owed.TheVariants.{Nothing, Deed, Word}
use Rattle.zthreads.specs.Acts.{orders_in}
use Rattle.zthreads.specs.Outcomes.{outcome_at}

-- from the one endpoint to the other the trace, which isn't cut, continues
pub record IsContinued (a b : Endpoint) : Type 0 where
  pub whole : is_cut_of a ≡ false
  pub rest : List TraceEvent
  pub trace : trace_of b ≡ trace_of a ++ rest

-- it does so, unless the trace is cut
abbrev pub GoesOn : Endpoint → Endpoint → Type 0
GoesOn a b = is_cut_of b ≡ false → IsContinued a b

-- at that earlier endpoint it had followed exactly these orders
pub record HadFollowed (at now : Endpoint) (before : List Order) : Type 0 where
  pub rest : List TraceEvent
  pub trace : trace_of now ≡ trace_of at ++ rest
  pub followed : orders_in (trace_of at) ≡ before

-- The master's thread, whose endpoint is this now, returned this outcome once: its view was then
-- one where its table says so. It had followed exactly these orders before, unless its trace is
-- cut.
pub record WasSaid (now : Endpoint) (before : List Order) (outcome : OrderOutcome) : Type 0 where
  pub at : Endpoint
  pub view : MasterView
  pub same : SameEndpoint at now
  pub stood : IsAt at (AtMaster view)
  pub table : outcome ≡ outcome_at view (order_of outcome)
  pub had : is_cut_of now ≡ false → HadFollowed at now before

-- each of these was returned so, one after the other, once those orders were followed
abbrev pub WereSaid : Endpoint → List Order → List OrderOutcome → Type 0
WereSaid now before [] = Unit {0}
WereSaid now before (o ∷ os) = WasSaid now before o × WereSaid now (before ++ order_of o ∷ []) os

-- the outcomes that were sent, with the one that is still to be sent
abbrev pub spoken : List OrderOutcome → Owed → List OrderOutcome
spoken outcomes Nothing = outcomes
spoken outcomes (Deed order) = outcomes
spoken outcomes (Word outcome) = outcomes ++ outcome ∷ []
