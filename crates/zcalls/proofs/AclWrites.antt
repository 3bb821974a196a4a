-- A write of an access control list is counted at its node, and changes nothing else.
use Rattle.std.proofs.Common.{◌≡◌, Bool, true, false, cond, if◌then◌else◌, Option, Some, None, Ok, Err, refl, sym, ap, ◌∙◌}
use Rattle.std.specs.Option.{option_map}
use Rattle.std.specs.Ordering.{eq_by_cmp}
use Rattle.std.specs.FinMap.{get, insert, get-insert}
use Rattle.zpath.specs.Grammar.{path_cmp}
use Rattle.ztree.specs.declared.node.Node.{Node}
use Rattle.ztree.specs.declared.node.Stat.{Stat}
use Rattle.ztree.specs.Tree.{Tree, Path, with_acl}
use Rattle.ztree.proofs.Sorted.{paths_total}
use Rattle.zcalls.specs.declared.call.SetAcl.{SetAcl as ToSet}
use Rattle.zcalls.specs.declared.call.Update.TheVariants.{SetAcl}
use Rattle.zcalls.specs.declared.refusal.Refusal.TheVariants.{BadVersion, Exhausted}
use Rattle.zcalls.specs.declared.reply.Reply.{Reply}
use Rattle.zcalls.specs.declared.reply.Reply.TheVariants as reply
use Rattle.zcalls.specs.Part.{acl_step, unless_other, has_other_acl, with_node_set}
use Rattle.zcalls.specs.Step.{step, update_result, change_result, is_exhausted}
use Rattle.zcalls.specs.Laws.{AclIsCounted}
use Rattle.zcalls.proofs.Sessions.{or_refused}
use Rattle.zcalls.proofs.Traced.{one_path}

module _ (t : Tree) (set : ToSet) (stat : Stat) (path : Path) where
  -- the node at a path after the write
  abbrev counted : Option Node
  counted = if eq_by_cmp path_cmp path set.path then option_map with_acl (get t.nodes path) else get t.nodes path

  -- where the call was answered with a stat, the node at the path is counted so
  abbrev IsCounted : Tree × Reply → Type 0
  IsCounted did = did.1 ≡ reply.Set stat → get did.0.nodes path ≡ counted

  written : (n : Node) → get t.nodes set.path ≡ Some n → get (insert t.nodes set.path (with_acl n)) path ≡ counted
  written n there = get-insert paths_total t.nodes set.path (with_acl n) path ∙ by (eq_by_cmp path_cmp path set.path) refl
    where
      by : (b : Bool) → eq_by_cmp path_cmp path set.path ≡ b → cond b (Some (with_acl n)) (get t.nodes path) ≡ (if b then option_map with_acl (get t.nodes path) else get t.nodes path)
      by true same = sym (ap (option_map with_acl) (ap (get t.nodes) (one_path path set.path same) ∙ there))
      by false other = refl

  on_node : (o : Option Node) → get t.nodes set.path ≡ o → IsCounted (change_result t (unless_other (has_other_acl set.version) o (λ n. with_node_set t set.path (with_acl n))))
  on_node None there answered = cc
  on_node (Some n) there answered = by (has_other_acl set.version n) answered
    where
      by : (b : Bool) → IsCounted (change_result t (if b then Err BadVersion else Ok (with_node_set t set.path (with_acl n))))
      by true answered = cc
      by false answered = written n there

pub acl_is_counted : AclIsCounted
unfolding step acl_step
acl_is_counted t client set stat path = by (is_exhausted t (SetAcl set))
  where
    by : (b : Bool) → IsCounted t set stat path (or_refused t Exhausted (update_result t client (SetAcl set)) b)
    by true answered = cc
    by false answered = on_node t set stat path (get t.nodes set.path) refl answered
