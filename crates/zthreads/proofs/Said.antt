-- What was said stays said while the trace continues, and one thing more is said.
use Rattle.std.proofs.Common.{List, [], ◌∷◌, ◌++◌, map, sym, ap, ◌∙◌, subst, append_assoc}
use Rattle.std.proofs.lemmas.List.{append-nil}
use Rattle.zprotocol.specs.world.History.{History}
use Rattle.zprotocol.specs.declared.traces.trace.Act.{Act}
use Rattle.zprotocol.specs.declared.master.order.Order.{Order}
use Rattle.zchannels.specs.declared.outcome.OrderOutcome.{OrderOutcome}
use Rattle.zchannels.specs.Outcomes.{order_of}
use Rattle.zthreads.specs.declared.endpoint.Endpoint.{Endpoint}
use Rattle.zthreads.specs.Endpoints.{IsEntered, SameBooks, SameEndpoint, stamp_of_endpoint, trace_of}
use Rattle.zthreads.proofs.Wires.{same_endpoint}
use Rattle.zthreads.specs.declared.owed.Owed.{Owed}
use Rattle.zthreads.specs.declared.owed.Owed.TheVariants.{Nothing, Deed, Word}
use Rattle.zthreads.specs.Said.{GoesOn, spoken, WasSaid, WereSaid}

module _ (a b : Endpoint) where
  pub goes_same : SameBooks a b → GoesOn a b
  goes_same same cut = record { whole = sym same.is_cut ∙ cut; rest = []; trace = same.trace ∙ sym (append-nil (trace_of a)) }

  pub goes_more : (act : Act) (reported : History) → IsEntered a b (stamp_of_endpoint b) act reported → GoesOn a b
  goes_more act reported did cut =
      let e = did cut in
      record { whole = e.whole; rest = record { stamp = b.stamp; act = act } ∷ []; trace = e.trace }

  still_said : (before : List Order) (outcome : OrderOutcome) → SameEndpoint a b → GoesOn a b → WasSaid a before outcome → WasSaid b before outcome
  still_said before outcome same goes was = record {
    at = was.at;
    view = was.view;
    same = same_endpoint was.at a b was.same same;
    stood = was.stood;
    table = was.table;
    had = λ cut.
        let on = goes cut in
        let past = was.had on.whole in
        record {
          rest = past.rest ++ on.rest;
          trace = on.trace ∙ ap (λ l. l ++ on.rest) past.trace ∙ append_assoc (trace_of was.at) past.rest on.rest;
          followed = past.followed;
        };
  }

  pub all_still_said : (before : List Order) (outcomes : List OrderOutcome) → SameEndpoint a b → GoesOn a b → WereSaid a before outcomes
      → WereSaid b before outcomes
  all_still_said before [] same goes were = tt
  all_still_said before (o ∷ os) same goes were =
      (still_said before o same goes were.0, all_still_said (before ++ order_of o ∷ []) os same goes were.1)

pub goes_both : (a b c : Endpoint) → GoesOn a b → GoesOn b c → GoesOn a c
goes_both a b c first second cut =
    let late = second cut in
    let early = first late.whole in
    record {
      whole = early.whole;
      rest = early.rest ++ late.rest;
      trace = late.trace ∙ ap (λ l. l ++ late.rest) early.trace ∙ append_assoc (trace_of a) early.rest late.rest;
    }

-- one thing more was said
pub one_more_said : (now : Endpoint) (before : List Order) (outcomes : List OrderOutcome) (outcome : OrderOutcome)
    → WereSaid now before outcomes → WasSaid now (before ++ map order_of outcomes) outcome → WereSaid now before (outcomes ++ outcome ∷ [])
one_more_said now before [] outcome were was = (subst (λ orders. WasSaid now orders outcome) (append-nil before) was, tt)
one_more_said now before (o ∷ os) outcome were was = (
  were.0,
  one_more_said now (before ++ order_of o ∷ []) os outcome were.1
      (subst (λ orders. WasSaid now orders outcome) (sym (append_assoc before (order_of o ∷ []) (map order_of os))) was),
)

-- the first ones of what was said were said
first_said : (now : Endpoint) (before : List Order) (first rest : List OrderOutcome) → WereSaid now before (first ++ rest) → WereSaid now before first
first_said now before [] rest were = tt
first_said now before (o ∷ os) rest were = (were.0, first_said now (before ++ order_of o ∷ []) os rest were.1)

pub words_said : (now : Endpoint) (outcomes : List OrderOutcome) (owed : Owed) → WereSaid now [] (spoken outcomes owed) → WereSaid now [] outcomes
words_said now outcomes Nothing were = were
words_said now outcomes (Deed order) were = were
words_said now outcomes (Word outcome) were = first_said now [] outcomes (outcome ∷ []) were
