-- The view of a tree in memory, coded by its parts: proofs distinguish two views by their codes.
use Rattle.std.specs.Prelude.{Bool, refl}
use Rattle.std.specs.Coded.{Coded, code_by, coded×, coded_bool}
use Rattle.ztree.specs.Tree.{Tree}
use Rattle.ztree.specs.support.Codes.{coded_tree}
use Rattle.ztree_service.specs.Local.{LocalTreeView}

abbrev pub coded_local_tree : Coded LocalTreeView
coded_local_tree = code_by (Tree × Bool) (coded× coded_tree coded_bool) (λ v. (v.tree, v.is_broken)) (λ p. record { tree = p.0; is_broken = p.1 }) (λ _. refl)
