use Rattle.std.proofs.Common.{eqb}
use Rattle.std.proofs.lemmas.List.Filters.{dedup_is}
use Rattle.zwatches.proofs.Reporting.{rising_lists}
use Rattle.zwatches.proofs.firing.make_rising.Goals as goal

pub returns : goal.returns
returns c =
    rising_lists c.args.numbers.now.items c.sort_unstable.new.self.items c.dedup.new.self.items
    c.sort_unstable.ensures.permutation c.sort_unstable.ensures.sorted (dedup_is eqb _ _ c.dedup.ensures.filtered)
