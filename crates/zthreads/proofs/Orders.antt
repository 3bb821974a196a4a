-- Which orders the master has followed, after what it did.
use Rattle.std.proofs.Common.{◌≡◌, List, [], ◌∷◌, ◌++◌, Option, sym, ap, ◌∙◌}
use Rattle.std.proofs.Common.{option_to_list, append-nil, append_assoc}
use Rattle.zprotocol.specs.world.History.{History}
use Rattle.zprotocol.specs.declared.traces.trace.Act.{Act}
use Rattle.zprotocol.specs.declared.traces.trace.TraceEvent.{TraceEvent}
use Rattle.zprotocol.specs.declared.master.order.Order.{Order}
use Rattle.zthreads.specs.declared.endpoint.Endpoint.{Endpoint}
use Rattle.zthreads.specs.Endpoints.{IsEntered, SameBooks, stamp_of_endpoint}
use Rattle.zthreads.specs.Acts.{HasFollowed, order_of, orders_in}

pub orders_more : (es : List TraceEvent) (e : TraceEvent) → orders_in (es ++ e ∷ []) ≡ orders_in es ++ order_of e.act
orders_more [] e = append-nil (order_of e.act)
orders_more (x ∷ es) e =
    ap (λ l. order_of x.act ++ l) (orders_more es e) ∙ sym (append_assoc (order_of x.act) (orders_in es) (order_of e.act))

module _ (a b : Endpoint) where
  pub followed_same : (received : List Order) (waiting : Option Order) → SameBooks a b → HasFollowed a received waiting
      → HasFollowed b received waiting
  followed_same received waiting same followed cut =
      followed (sym same.is_cut ∙ cut) ∙ ap (λ l. orders_in l ++ option_to_list waiting) (sym same.trace)

  -- it did one thing more, which took the place of what waited
  pub followed_more : (act : Act) (reported : History) (received : List Order) (waiting rest : Option Order)
      → IsEntered a b (stamp_of_endpoint b) act reported
      → option_to_list waiting ≡ order_of act ++ option_to_list rest
      → HasFollowed a received waiting → HasFollowed b received rest
  followed_more act reported received waiting rest did is followed cut =
      let e = did cut in
      let event : TraceEvent = record { stamp = b.stamp; act = act } in
      followed e.whole
      ∙ ap (λ l. orders_in a.trace.items ++ l) is
      ∙ sym (append_assoc (orders_in a.trace.items) (order_of act) (option_to_list rest))
      ∙ ap (λ l. l ++ option_to_list rest) (sym (ap (λ l. orders_in l) e.trace ∙ orders_more a.trace.items event))
