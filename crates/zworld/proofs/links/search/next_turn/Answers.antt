use Rattle.std.proofs.Common.{◌≡◌, ◌-◌, suc, sym, ◌∙◌, arith}
use Rattle.zprotocol.specs.declared.limits.TheConstants.{PROCESSES}
use Rattle.zworld.specs.links.support.Order.{IsCountFrom}
use Rattle.zworld.proofs.links_lemmas.Searches.{found_from, none_from, turns_until, turn_there}
use Rattle.zworld.proofs.links_lemmas.Sorted.{sorted_from}
use Rattle.zworld.proofs.links.search.next_turn.Goals as goal

-- nothing comes from there on
pub returns-then-more-eq0-clause-empty : goal.returns-then-more-eq0-clause-empty
returns-then-more-eq0-clause-empty g c =
    let channels = c.args.queues.now in let from = c.args.from in let to = c.args.to in let count = c.count_from-more.result in
    turns_until channels from to count c.count_from-more.ensures (record { sender = PROCESSES; receiver = 0 })
    (none_from channels from to count c.count_from-more.ensures c.if-more-eq0.true PROCESSES 0)

-- the one that was found is from these positions on
pub returns-clause-ahead : goal.returns-clause-ahead
returns-clause-ahead g c small =
    let channels = c.args.queues.now in let from = c.args.from in let to = c.args.to in let more = c.count_from-more.result in
    let searched : IsCountFrom channels from to more = search (c.count_from-more.ensures) in
    let last : suc (more - 1) ≡ more = omega (arith, c.if-more-eq0.false) in
    let places = c.turn.ensures.places in
    let reached = found_from channels from to more searched c.index-queues-more.result (more - 1) last c.index-queues-more.is in
    (omega (arith, reached.0, places.0), λ back. omega (arith, reached.1 (omega (arith, back, places.0)), places.1))

-- so are all after it, and nothing is on the channels before it
pub returns-clause-empty : goal.returns-clause-empty
returns-clause-empty g c =
    let channels = c.args.queues.now in let queue = c.index-queues-more.result in let more = c.count_from-more.result in
    let searched : IsCountFrom channels c.args.from c.args.to more = search (c.count_from-more.ensures) in
    let last : suc (more - 1) ≡ more = omega (arith, c.if-more-eq0.false) in
    let end = c.turn.result in
    let places = c.turn.ensures.places in
    turns_until channels c.args.from c.args.to more searched end
    (sorted_from channels queue (more - 1) more last searched.within c.index-queues-more.is end.sender end.receiver c.requires
    (omega (arith, places.0), λ _. omega (arith, places.1)))

-- and it holds something
pub returns-clause-held : goal.returns-clause-held
returns-clause-held g c p q is there small =
    let channels = c.args.queues.now in let more = c.count_from-more.result in
    let searched : IsCountFrom channels c.args.from c.args.to more = search (c.count_from-more.ensures) in
    let last : suc (more - 1) ≡ more = omega (arith, c.if-more-eq0.false) in
    let places = c.turn.ensures.places in
    turn_there channels p q (more - 1) c.index-queues-more.result (omega (arith, last, searched.within)) c.index-queues-more.is
    (sym (is ∙ places.0)) (sym (there ∙ places.1))
