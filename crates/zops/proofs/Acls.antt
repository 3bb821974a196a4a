-- A write of an access control list, as it is tested, and the stat that it reports.
use Rattle.std.proofs.Common.{◌≡◌, Bool, true, false, if◌then◌else◌, Option, Some, None, Ok, Err, refl, sym, ap, ◌∙◌}
use Rattle.std.specs.Prelude.{is_some}
use Rattle.std.specs.FinMap as finite
use Rattle.std.specs.Option.{option_map, option_map_or}
use Rattle.ztree.specs.declared.node.Node.{Node}
use Rattle.ztree.specs.declared.node.Stat.{Stat}
use Rattle.ztree.specs.Tree.{Tree, with_change_at, with_acl, with_acl_at, stat_of, stat_at}
use Rattle.ztree.proofs.Maps.{get-insert-here}
use Rattle.ztree.proofs.Nodes.{changed_at-some}
use Rattle.ztree.proofs.Sorted.{paths_total, same_path}
use Rattle.zcalls.specs.declared.call.SetAcl.{SetAcl}
use Rattle.zcalls.specs.declared.change.ChangeReply.TheVariants.{Set}
use Rattle.zcalls.specs.declared.refusal.Refusal.TheVariants.{NoNode, BadVersion}
use Rattle.zcalls.specs.Part.{acl_step, has_other_acl, unless_other, with_node_set}

module _ {A : Type 0} where
  pub absent-unless_other : (is_other : Node → Bool) (o : Option Node) (act : Node → A) → is_some o ≡ false → unless_other is_other o act ≡ Err NoNode
  absent-unless_other is_other None act e = refl
  absent-unless_other is_other (Some n) act e = cc

  pub stale-unless_other : (is_other : Node → Bool) (o : Option Node) (act : Node → A) → option_map_or is_other o false ≡ true → unless_other is_other o act ≡ Err BadVersion
  stale-unless_other is_other None act e = cc
  stale-unless_other is_other (Some n) act e = ap (λ b. if b then Err BadVersion else Ok (act n)) e

  fresh-unless_other : (is_other : Node → Bool) (o : Option Node) (act : Node → A) (n : Node) → o ≡ Some n → option_map_or is_other o false ≡ false → unless_other is_other o act ≡ Ok (act n)
  fresh-unless_other is_other o act n is e =
      ap (λ o. unless_other is_other o act) is
      ∙ ap (λ b. if b then Err BadVersion else Ok (act n)) (sym (ap (λ o. option_map_or is_other o false) is) ∙ e)

-- a write that is done, and the stat that it reports
pub acl_step-done : (t : Tree) (set : SetAcl) (n : Node) (stat : Stat) → finite.get t.nodes set.path ≡ Some n
    → option_map_or (has_other_acl set.version) (finite.get t.nodes set.path) false ≡ false
    → stat_at (with_acl_at t set.path).nodes set.path ≡ Some stat → acl_step t set ≡ Ok (with_acl_at t set.path, Set stat)
unfolding acl_step
acl_step-done t set n stat there fresh reported =
    let nodes = finite.insert t.nodes set.path (with_acl n) in
    let is : with_change_at t.nodes set.path with_acl ≡ nodes = changed_at-some t.nodes set.path with_acl n there in
    let same : Some (stat_of nodes set.path (with_acl n)) ≡ Some stat =
    sym (ap (option_map (stat_of nodes set.path)) (get-insert-here paths_total same_path t.nodes set.path (with_acl n))) ∙ sym (ap (λ m. stat_at m set.path) is) ∙ reported in
    let now : stat_of nodes set.path (with_acl n) ≡ stat = cc same in
    fresh-unless_other (has_other_acl set.version) (finite.get t.nodes set.path) (λ n. with_node_set t set.path (with_acl n)) n there fresh
    ∙ (λ i. Ok (record t { nodes = sym is i }, Set (now i)))
