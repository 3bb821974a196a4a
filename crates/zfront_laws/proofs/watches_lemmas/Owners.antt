-- Who owns nodes: after an update each owner owned one before, or the update names it.
use Rattle.std.proofs.Common.{◌+◌, ℕ, Bool, List, [], ◌∷◌}
use Rattle.std.specs.List.{AllByRecursion}
use Rattle.std.specs.FinMap as finite
use Rattle.ztree.specs.declared.term.Term.{Term}
use Rattle.ztree.specs.declared.node.Node.{Node}
use Rattle.ztree.specs.Lawful.{AllNodes}
use Rattle.ztree.specs.Tree.{Tree, Path, Nodes, new_node, parent_of, with_node, with_child, without_child, with_data, with_acl}
use Rattle.zcalls.specs.declared.call.Create.{Create}
use Rattle.zcalls.specs.declared.call.Delete.{Delete}
use Rattle.zcalls.specs.declared.call.SetData.{SetData}
use Rattle.zcalls.specs.declared.call.SetAcl.{SetAcl}
use Rattle.zcalls.specs.declared.call.Part.{Part}
use Rattle.zcalls.specs.declared.call.Part.TheVariants as part
use Rattle.zcalls.specs.Part.{create_step, delete_step, set_step, acl_step, part_step, made_path, owner_of, term_of}
use Rattle.zcalls.specs.Multi.{run}
use Rattle.zcalls.proofs.Bounds.{all_insert, all_remove, all_changed}
use Rattle.zcalls.proofs.Leaving.{Leaves, create_step-leaves, delete_step-leaves, set_step-leaves, acl_step-leaves, check_step-leaves}
use Rattle.zcalls.proofs.Leaving.{reported_as_part-leaves, and_then-leaves}

-- each node's owner has the property
abbrev pub OwnersAre : (ℕ → Type 0) → Nodes → Type 0
OwnersAre Q nodes = AllNodes (λ n. Q n.owner) nodes

module _ (Q : ℕ → Type 0) where
  -- a node is made
  pub made : (t : Tree) (at : Path) (bytes : List ℕ) (owner : ℕ) (term : Term) (sequential : Bool) → OwnersAre Q t.nodes → Q owner
      → OwnersAre Q (with_node t at bytes owner term sequential).nodes
  made t at bytes owner term sequential all mine =
      let P : Node → Type 0 = λ n. Q n.owner in
      let new = new_node bytes owner term (t.zxid + 1) t.time in
      let more = all_insert P t.nodes at new all mine in
      all_changed P P (finite.insert t.nodes at new) (parent_of at) (with_child (t.zxid + 1) sequential) more (λ n has. has)
      (λ n is. more (parent_of at) n is)

  pub created : (t : Tree) (client : ℕ) (create : Create) → OwnersAre Q t.nodes → Q (owner_of create.kind.lifetime)
      → Leaves (λ u. OwnersAre Q u.nodes) (create_step t client create)
  created t client create all mine =
      create_step-leaves (λ u. OwnersAre Q u.nodes) t client create
      (λ none. made t (made_path t.nodes create.kind create.path) create.bytes (owner_of create.kind.lifetime)
      (term_of create.kind.lifetime) create.kind.is_sequential all mine)

  pub deleted : (t : Tree) (delete : Delete) → OwnersAre Q t.nodes → Leaves (λ u. OwnersAre Q u.nodes) (delete_step t delete)
  deleted t delete all =
      let P : Node → Type 0 = λ n. Q n.owner in
      let fewer = all_remove P t.nodes delete.path all in
      delete_step-leaves (λ u. OwnersAre Q u.nodes) t delete
      (λ none. all_changed P P (finite.remove t.nodes delete.path) (parent_of delete.path) (without_child (t.zxid + 1))
      fewer (λ n has. has) (λ n is. fewer (parent_of delete.path) n is))

  pub set : (t : Tree) (to : SetData) → OwnersAre Q t.nodes → Leaves (λ u. OwnersAre Q u.nodes) (set_step t to)
  set t to all =
      let P : Node → Type 0 = λ n. Q n.owner in
      set_step-leaves (λ u. OwnersAre Q u.nodes) t to
      (all_changed P P t.nodes to.path (with_data to.bytes (t.zxid + 1) t.time) all (λ n has. has) (λ n is. all to.path n is))

  pub acl : (t : Tree) (to : SetAcl) → OwnersAre Q t.nodes → Leaves (λ u. OwnersAre Q u.nodes) (acl_step t to)
  acl t to all =
      let P : Node → Type 0 = λ n. Q n.owner in
      acl_step-leaves (λ u. OwnersAre Q u.nodes) t to
      (all_changed P P t.nodes to.path with_acl all (λ n has. has) (λ n is. all to.path n is))

  -- the owners that a part names
  abbrev pub PartNames : Part → Type 0
  PartNames (part.Create create) = Q (owner_of create.kind.lifetime)
  PartNames other = Unit {0}

  part_done : (t : Tree) (client : ℕ) (p : Part) → PartNames p → OwnersAre Q t.nodes → Leaves (λ u. OwnersAre Q u.nodes) (part_step t client p)
  part_done t client (part.Create create) names all = reported_as_part-leaves (λ u. OwnersAre Q u.nodes) (create_step t client create)
      (created t client create all names)
  part_done t client (part.Delete delete) names all = reported_as_part-leaves (λ u. OwnersAre Q u.nodes) (delete_step t delete) (deleted t delete all)
  part_done t client (part.SetData to) names all = reported_as_part-leaves (λ u. OwnersAre Q u.nodes) (set_step t to) (set t to all)
  part_done t client (part.Check check) names all = check_step-leaves (λ u. OwnersAre Q u.nodes) t check all

  pub ran : (parts : List Part) (t : Tree) (client : ℕ) → AllByRecursion PartNames parts → OwnersAre Q t.nodes
      → Leaves (λ u. OwnersAre Q u.nodes) (run t client parts)
  unfolding run
  ran [] t client names all = all
  ran (p ∷ parts) t client names all =
      and_then-leaves (λ u. OwnersAre Q u.nodes) (part_step t client p) (λ u. run u client parts) (part_done t client p names.0 all)
      (λ u left. ran parts u client names.1 left)
