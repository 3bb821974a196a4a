-- What is returned of a node: its stat after a write, and how many children it has.
use Rattle.std.proofs.Common.{◌≡◌, ◌+◌, Bool, length, cond, false, Option, Some, None, Ok, sym, ap, ◌∙◌}
use Rattle.std.specs.FinMap as finite
use Rattle.std.specs.FinMap.{get-insert}
use Rattle.std.specs.Option.{option_map, option_map_or}
use Rattle.std.proofs.lemmas.Cmp.{eq_by_cmp_equiv}
use Rattle.ztree.specs.declared.node.Node.{Node}
use Rattle.ztree.specs.declared.node.Stat.{Stat}
use Rattle.zcalls.specs.declared.call.SetData.{SetData}
use Rattle.zcalls.specs.declared.call.SetAcl.{SetAcl}
use Rattle.zcalls.specs.declared.change.ChangeReply.TheVariants.{Set}
use Rattle.zcalls.specs.Part.{set_step, acl_step, has_other_version, has_other_acl, unless_other, with_node_set}
use Rattle.zcalls.proofs.Tables.{fresh-unless_other}
use Rattle.ztree.specs.Tree.{Tree, Nodes, Path, with_change_at, with_data, with_acl, children, stat_of, stat_at, with_data_at, with_acl_at}
use Rattle.ztree.proofs.Nodes.{changed_at-some}
use Rattle.ztree.proofs.Sorted.{paths_total}

get-inserted_here : (nodes : Nodes) (path : Path) (n : Node) → finite.get (finite.insert nodes path n) path ≡ Some n
get-inserted_here nodes path n =
    get-insert paths_total nodes path n path ∙ ap (λ b. cond b (Some n) (finite.get nodes path)) ((eq_by_cmp_equiv paths_total).refl path)

-- a write of a node that is done, and the stat that it reports
written-done : (t : Tree) (path : Path) (is_other : Node → Bool) (write : Node → Node) (n : Node) (stat : Stat) → finite.get t.nodes path ≡ Some n
    → option_map_or is_other (finite.get t.nodes path) false ≡ false
    → stat_at (with_change_at t.nodes path write) path ≡ Some stat
    → unless_other is_other (finite.get t.nodes path) (λ n. with_node_set t path (write n)) ≡ Ok (record t { nodes = with_change_at t.nodes path write }, Set stat)
written-done t path is_other write n stat there fresh reported =
    let nodes = finite.insert t.nodes path (write n) in
    let is : with_change_at t.nodes path write ≡ nodes = changed_at-some t.nodes path write n there in
    let same : Some (stat_of nodes path (write n)) ≡ Some stat =
    sym (ap (option_map (stat_of nodes path)) (get-inserted_here t.nodes path (write n))) ∙ sym (ap (λ m. stat_at m path) is) ∙ reported in
    let now : stat_of nodes path (write n) ≡ stat = cc same in
    fresh-unless_other is_other (λ n. with_node_set t path (write n)) (finite.get t.nodes path) n there fresh
    ∙ (λ i. Ok (record t { nodes = sym is i }, Set (now i)))

-- a write of an access control list that is done
pub acl_step-done : (t : Tree) (set : SetAcl) (n : Node) (stat : Stat) → finite.get t.nodes set.path ≡ Some n
    → option_map_or (has_other_acl set.version) (finite.get t.nodes set.path) false ≡ false
    → stat_at (with_acl_at t set.path).nodes set.path ≡ Some stat → acl_step t set ≡ Ok (with_acl_at t set.path, Set stat)
unfolding acl_step
acl_step-done t set = written-done t set.path (has_other_acl set.version) with_acl

-- a set that is done
pub set_step-done : (t : Tree) (set : SetData) (n : Node) (stat : Stat) → finite.get t.nodes set.path ≡ Some n
    → option_map_or (has_other_version set.version) (finite.get t.nodes set.path) false ≡ false
    → stat_at (with_data_at t set.path set.bytes).nodes set.path ≡ Some stat → set_step t set ≡ Ok (with_data_at t set.path set.bytes, Set stat)
unfolding set_step
set_step-done t set = written-done t set.path (has_other_version set.version) (with_data set.bytes (t.zxid + 1) t.time)

pub reported_children : (nodes : Nodes) (path : Path) (stat : Stat) → stat_at nodes path ≡ Some stat → stat.children ≡ length (children nodes path)
reported_children nodes path stat e = by (finite.get nodes path) e
  where
    by : (o : Option Node) → option_map (stat_of nodes path) o ≡ Some stat → stat.children ≡ length (children nodes path)
    by None e = cc
    by (Some n) e = let same : stat_of nodes path n ≡ stat = cc e in sym (ap (λ (s : Stat). s.children) same)
