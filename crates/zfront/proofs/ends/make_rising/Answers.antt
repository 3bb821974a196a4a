use Rattle.std.proofs.lemmas.List.Filters.{dedup_is}
use Rattle.std.specs.Cmp.Lexicographic.{nat_list_eq_equiv, texts_ties, lists_equiv, lists_ties}
use Rattle.zpath.specs.Grammar.{name_cmp}
use Rattle.ztree.proofs.Sorted.{paths_total, same_path}
use Rattle.zfront.proofs.Rising.{rising-dedup}
use Rattle.zfront.proofs.ends.make_rising.Goals as goal

pub returns : goal.returns
returns c =
    rising-dedup paths_total same_path (lists_equiv nat_list_eq_equiv) (lists_ties name_cmp texts_ties)
    c.args.paths.now.items c.sort_unstable.new.self.items c.dedup.new.self.items
    c.sort_unstable.ensures.permutation c.sort_unstable.ensures.sorted (dedup_is _ _ _ c.dedup.ensures.filtered)
