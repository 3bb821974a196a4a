use Rattle.std.proofs.Common.{◌≡◌, ap, sym, ◌∙◌, ◌-◌, arith}
use Rattle.std.proofs.lemmas.List.{get_or_default}
use Rattle.zworld.specs.links.Places.{is_between}
use Rattle.zworld.proofs.links_lemmas.Sorted.{gap_at, found_at}
use Rattle.zworld.proofs.links.search.find.Goals as goal

-- nothing comes from there on
pub returns-then-count-eq0-clause-gap : goal.returns-then-count-eq0-clause-gap
returns-then-count-eq0-clause-gap g c =
    gap_at c.args.queues.now c.args.from c.args.to c.count_from-count.result c.requires c.count_from-count.ensures
    (λ d some read. absurd (omega (arith, some, c.if-count-eq0.true)))

-- what does isn't between these positions
pub returns-then-not-is_between-clause-gap : goal.returns-then-not-is_between-clause-gap
returns-then-not-is_between-clause-gap g c =
    let channels = c.args.queues.now in let count = c.count_from-count.result in
    gap_at channels c.args.from c.args.to count c.requires c.count_from-count.ensures (λ d some read.
    ap (λ channel. is_between channel c.args.from c.args.to)
    (read ∙ get_or_default channels (count - 1) d c.index-queues-count.result (omega (arith, some, c.count_from-count.ensures.within))
    ∙ sym c.index-queues-count.is)
    ∙ sym c.is_between.ensures ∙ c.if-not-is_between.true)

pub returns-clause-found : goal.returns-clause-found
returns-clause-found g c =
    let count = c.count_from-count.result in
    let tested : c.is_between.result ≡ is_between c.index-queues-count.result c.args.from c.args.to = search (c.is_between.ensures) in
    found_at c.args.queues.now c.args.from c.args.to count c.requires c.count_from-count.ensures c.index-queues-count.result
    (count - 1) (omega (arith, c.if-count-eq0.false)) c.index-queues-count.is (sym tested ∙ c.if-not-is_between.false)
