use Rattle.std.proofs.Common.{◌∙◌, ap}
use Rattle.ztree.specs.Tree.{Tree}
use Rattle.zsnapshots.specs.export.Counts.{counts_of}
use Rattle.zdurable.proofs.looking.folder_stat.Goals as goal

pub returns-clause-stat : goal.returns-clause-stat
returns-clause-stat g c =
    let counted = c.in_ok-tree.ensures ∙ ap (λ (t : Tree). counts_of t) c.in_ok-machine.ensures.tree in
    let journal = c.in_ok-looked.ensures.size in (
      c.in_ok-looked.looked.found.tree.tree,
      c.in_ok-looked.looked.found.snapshot,
      c.in_ok-looked.ensures.look,
      λ i.
          record { tree = counted i; journal = journal i; snapshot = c.in_ok-looked.looked.found.snapshot },
    )
