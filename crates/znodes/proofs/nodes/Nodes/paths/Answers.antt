use Rattle.std.proofs.Common.{◌≡◌, subst}
use Rattle.std.specs.Prelude.{IfOk}
use Rattle.zpath.specs.Grammar.{path_cmp}
use Rattle.znodes.proofs.index_lemmas.Finds.{path_cmp_total, path_cmp_same}
use Rattle.zslots.proofs.Listing.{same_domain}
use Rattle.znodes.proofs.Shown.{has_node-found}
use Rattle.znodes.proofs.nodes.Nodes.paths.Goals as goal

pub returns : goal.returns
returns c =
    subst (λ ks. IfOk c.paths.result (λ paths. paths.items ≡ ks))
    (same_domain path_cmp path_cmp_total path_cmp_same c.self.inside.index.ids
    c.args.self.now.nodes
    (has_node-found c.self.inside c.self.invariant.linked c.args.self.now c.self.view_is))
    c.paths.ensures
