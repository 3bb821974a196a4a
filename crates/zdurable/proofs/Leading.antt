-- The log of a front whose changes became durable.
use Rattle.std.proofs.Common.{◌≡◌, true, sym, ap, ◌∙◌}
use Rattle.ztree.specs.Tree.{Tree}
use Rattle.zfront.specs.Front.{FrontView}
use Rattle.zsnapshots.specs.folder.States.{after}
use Rattle.zsnapshots.proofs.folder_lemmas.States.{go_on}
use Rattle.zfront_laws.proofs.Inputs.{every_change_is_made, every_front_is_its_trees, every_front_is_one_tree}
use Rattle.zdurable.specs.Making.{HasKept, kept_since, log_since}
use Rattle.zdurable.specs.Laws.{WhatIsKeptStandsInALog}
use Rattle.zdurable.proofs.Logs.{tree-log}

-- what is still to be stored leads from the tree that is durable to the front's own
pub leads_to : (t : Tree) (v : FrontView) → HasKept t v → v.tree ≡ after t v.made
leads_to t v has =
    let leads = every_front_is_its_trees has.limits has.start has.secret has.times true has.steps v has.runs in
    sym leads.1
    ∙ tree-log (log_since t v has) has.start
    ∙ ap (after has.start) (every_change_is_made has.limits has.start has.secret has.times has.steps v has.runs)
    ∙ go_on has.start (kept_since t v has) v.made
    ∙ ap (λ (u : Tree). after u v.made) (sym has.all)

pub what_is_kept_stands_in_a_log : WhatIsKeptStandsInALog
what_is_kept_stands_in_a_log t v has start before leads = (
  every_front_is_one_tree has.limits has.start has.secret has.times true start before has.steps v leads has.runs,
  has.all,
  every_change_is_made has.limits has.start has.secret has.times has.steps v has.runs,
  leads_to t v has,
)
