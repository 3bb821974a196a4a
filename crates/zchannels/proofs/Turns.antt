-- The outcomes that were heard are those of the first orders.
use Rattle.std.proofs.Common.{◌≡◌, List, ◌++◌, map, ap, ◌∙◌, append_assoc}
use Rattle.std.proofs.lemmas.List.{map-append}
use Rattle.zprotocol.specs.declared.master.order.Order.{Order}
use Rattle.zchannels.specs.declared.outcome.OrderOutcome.{OrderOutcome}
use Rattle.zchannels.specs.Outcomes.{order_of}

pub heard_in_turn : (said heard left : List OrderOutcome) (ordered taken unsaid rest : List Order)
    → said ≡ heard ++ left → taken ≡ map order_of said ++ unsaid → ordered ≡ taken ++ rest
    → ordered ≡ map order_of heard ++ (map order_of left ++ (unsaid ++ rest))
heard_in_turn said heard left ordered taken unsaid rest outcomes in_turn orders =
    let first = map order_of heard in
    let others = map order_of left in
    orders
    ∙ ap (λ l. l ++ rest)
    (in_turn ∙ ap (λ (l : List OrderOutcome). map order_of l ++ unsaid) outcomes ∙ ap (λ l. l ++ unsaid) (map-append order_of heard left))
    ∙ append_assoc (first ++ others) unsaid rest
    ∙ append_assoc first others (unsaid ++ rest)
