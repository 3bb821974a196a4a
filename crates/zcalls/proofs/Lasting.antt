-- A node that no one owns lasts, whatever is called, until it is deleted or a tick finds it stale.
use Rattle.std.proofs.Common.{◌≡◌, ℕ, ◌+◌, ◌<◌, Bool, true, false, cond, not, ◌||◌, List, [], ◌∷◌, Some, Result, Ok, Err, refl, ap, ◌∙◌, arith}
use Rattle.std.specs.Prelude.{is_some, nat_le, ◌==◌}
use Rattle.std.specs.Ordering.{eq_by_cmp}
use Rattle.std.specs.List.{list_any}
use Rattle.std.specs.Option.{option_map_or}
use Rattle.std.specs.FinMap as finite
use Rattle.std.proofs.lemmas.Bool.Decides.{nat_tests}
use Rattle.zpath.specs.Grammar.{path_cmp}
use Rattle.ztree.specs.declared.term.Term.{Term}
use Rattle.ztree.specs.declared.node.Node.{Node}
use Rattle.ztree.specs.Tree.{Tree, Nodes, Path, parent_of, has_node, new_node, with_child, with_node, without_node, with_data, with_acl, with_next_zxid}
use Rattle.ztree.specs.Sessions.{with_session, with_renewed_session, without_session}
use Rattle.ztree.specs.Lawful.{IsLawful}
use Rattle.ztree.proofs.Sorted.{paths_total}
use Rattle.std.specs.FinMap.{get-insert}
use Rattle.ztree.proofs.Maps.{is_there}
use Rattle.ztree.proofs.Ending.{has_node-changed, has_node-dropped, has_node-ended}
use Rattle.zcalls.specs.declared.call.Part.{Part}
use Rattle.zcalls.specs.declared.call.Part.TheVariants as part
use Rattle.zcalls.specs.declared.call.Update.{Update}
use Rattle.zcalls.specs.declared.call.Update.TheVariants.{Create, Delete, SetData, SetAcl, Multi, Open, Ping, Close, Tick}
use Rattle.zcalls.specs.declared.change.ChangeReply.{ChangeReply}
use Rattle.zcalls.specs.declared.refusal.Refusal.{Refusal}
use Rattle.zcalls.specs.declared.refusal.Refusal.TheVariants.{SessionGone, TooManySessions, Exhausted}
use Rattle.zcalls.specs.declared.reply.Reply.{Reply}
use Rattle.zcalls.specs.declared.reply.Reply.TheVariants as reply
use Rattle.zcalls.specs.Part.{create_step, delete_step, set_step, acl_step, part_step, is_gone}
use Rattle.zcalls.specs.Multi.{Run, run}
use Rattle.zcalls.specs.Step.{step, update_result, change_result, multi_result, granted_timeout, is_exhausted}
use Rattle.zcalls.specs.TtlLaws.{part_deletes, may_remove, LastsUntilRemoved}
use Rattle.zcalls.proofs.Leaving.{Leaves, create_step-leaves, delete_step-leaves, set_step-leaves, acl_step-leaves, check_step-leaves, reported_as_part-leaves, and_then-leaves}
use Rattle.zcalls.proofs.Owners.{is_own}
use Rattle.zcalls.proofs.Sessions.{or_refused}

module _ (path : Path) where
  -- a node is at the path
  abbrev Has : Tree → Type 0
  Has t = has_node t.nodes path ≡ true

  inserted-has : (t : Tree) (at : Path) (new : Node) → Has t → has_node (finite.insert t.nodes at new) path ≡ true
  inserted-has t at new here = ap is_some (get-insert paths_total t.nodes at new path) ∙ by (eq_by_cmp path_cmp path at)
    where
      by : (b : Bool) → is_some (cond b (Some new) (finite.get t.nodes path)) ≡ true
      by true = refl
      by false = here

  added-has : (t : Tree) (at : Path) (bytes : List ℕ) (owner : ℕ) (term : Term) (sequential : Bool) → Has t → Has (with_node t at bytes owner term sequential)
  added-has t at bytes owner term sequential here =
      let new = new_node bytes owner term (t.zxid + 1) t.time in
      has_node-changed (finite.insert t.nodes at new) (parent_of at) (with_child (t.zxid + 1) sequential) path ∙ inserted-has t at new here

  dropped-has : (t : Tree) (at : Path) → eq_by_cmp path_cmp path at ≡ false → Has t → Has (without_node t at)
  dropped-has t at other here = has_node-dropped t at path ∙ ap (λ b. cond b false (has_node t.nodes path)) other ∙ here

  part-has : (t : Tree) (client : ℕ) (wanted : Part) → part_deletes path wanted ≡ false → Has t → Leaves Has (part_step t client wanted)
  part-has t client (part.Create create) other here =
      reported_as_part-leaves Has (create_step t client create) (create_step-leaves Has t client create (λ e. added-has t _ _ _ _ _ here))
  part-has t client (part.Delete delete) other here =
      reported_as_part-leaves Has (delete_step t delete) (delete_step-leaves Has t delete (λ e. dropped-has t delete.path other here))
  part-has t client (part.SetData set) other here =
      reported_as_part-leaves Has (set_step t set) (set_step-leaves Has t set (has_node-changed t.nodes set.path (with_data set.bytes (t.zxid + 1) t.time) path ∙ here))
  part-has t client (part.Check check) other here = check_step-leaves Has t check here

  neither : (a b : Bool) → (a || b) ≡ false → (a ≡ false) × (b ≡ false)
  neither true b e = cc
  neither false b e = (refl, e)

  run-has : (parts : List Part) (t : Tree) (client : ℕ) → list_any (part_deletes path) parts ≡ false → Has t → Leaves Has (run t client parts)
  unfolding run
  run-has [] t client others here = here
  run-has (wanted ∷ parts) t client others here =
      let both = neither (part_deletes path wanted) (list_any (part_deletes path) parts) others in
      and_then-leaves Has (part_step t client wanted) (λ u. run u client parts) (part-has t client wanted both.0 here) (λ u left. run-has parts u client both.1 left)

  change-has : (t : Tree) (did : Result (Tree × ChangeReply) Refusal) → Leaves Has did → Has t → Has (change_result t did).0
  change-has t (Err refusal) left here = here
  change-has t (Ok (u, done)) left here = left

  multi-has : (t : Tree) (did : Run) → Leaves Has did → Has t → Has (multi_result t did).0
  multi-has t (Err (number, refusal)) left here = here
  multi-has t (Ok (u, replies)) left here = left

  -- what changes no nodes, or is refused
  same-has : (t u : Tree) (why : Refusal) (reported : Reply) (b : Bool) → u.nodes ≡ t.nodes → Has t → Has (or_refused t why (u, reported) b).0
  same-has t u why reported true same here = here
  same-has t u why reported false same here = ap (λ (nodes : Nodes). has_node nodes path) same ∙ here

  renewed-nodes : (t : Tree) (id : ℕ) → (with_renewed_session t id).nodes ≡ t.nodes
  renewed-nodes t id = refl

  module _ (n : Node) (nobodys : n.owner ≡ 0) where
    -- the end of a session takes its own nodes alone
    ended-has : (t : Tree) (id : ℕ) → 0 < id → finite.get t.nodes path ≡ Some n → Has (without_session t id)
    ended-has t id some found =
        let other : (n.owner == id) ≡ false = grind (arith, nat_tests) in
        has_node-ended t id path ∙ ap (λ o. option_map_or (λ (n : Node). not (n.owner == id)) o false) found ∙ ap not other

    closed-has : (t : Tree) (client id : ℕ) (b : Bool) → IsLawful t → is_gone t.sessions client id ≡ b → finite.get t.nodes path ≡ Some n
        → Has (or_refused t SessionGone (with_next_zxid (without_session t id), reply.Closed) b).0
    closed-has t client id true lawful gone found = is_there (finite.get t.nodes path) n found
    closed-has t client id false lawful gone found =
        let own = is_own t.sessions client id gone in
        ended-has t id (lawful.ids id own.session own.there) found

    changed-has : (t : Tree) (client : ℕ) (update : Update) → IsLawful t → may_remove path update ≡ false → finite.get t.nodes path ≡ Some n → Has (update_result t client update).0
    changed-has t client (Create create) lawful stays found =
        let here = is_there (finite.get t.nodes path) n found in
        change-has t (create_step t client create) (create_step-leaves Has t client create (λ e. added-has t _ _ _ _ _ here)) here
    changed-has t client (Delete delete) lawful stays found =
        let here = is_there (finite.get t.nodes path) n found in
        change-has t (delete_step t delete) (delete_step-leaves Has t delete (λ e. dropped-has t delete.path stays here)) here
    changed-has t client (SetData set) lawful stays found =
        let here = is_there (finite.get t.nodes path) n found in
        change-has t (set_step t set) (set_step-leaves Has t set (has_node-changed t.nodes set.path (with_data set.bytes (t.zxid + 1) t.time) path ∙ here)) here
    changed-has t client (SetAcl set) lawful stays found =
        let here = is_there (finite.get t.nodes path) n found in
        change-has t (acl_step t set) (acl_step-leaves Has t set (has_node-changed t.nodes set.path with_acl path ∙ here)) here
    changed-has t client (Multi parts) lawful stays found =
        let here = is_there (finite.get t.nodes path) n found in
        multi-has t (run t client parts) (run-has parts t client stays here) here
    changed-has t client (Open ticks) lawful stays found =
        let timeout = granted_timeout t.limits.timeout ticks in
        same-has t (with_next_zxid (with_session t client timeout)) TooManySessions (reply.Opened (t.zxid + 1) timeout) (nat_le t.limits.sessions (finite.len t.sessions)) refl
        (is_there (finite.get t.nodes path) n found)
    changed-has t client (Ping id) lawful stays found =
        same-has t (with_renewed_session t id) SessionGone reply.Pinged (is_gone t.sessions client id) (renewed-nodes t id) (is_there (finite.get t.nodes path) n found)
    changed-has t client (Close id) lawful stays found = closed-has t client id (is_gone t.sessions client id) lawful refl found
    changed-has t client Tick lawful stays found = cc

pub lasts_until_removed : LastsUntilRemoved
unfolding step
lasts_until_removed t client update path lawful (n, found, nobodys) stays = by (is_exhausted t update)
  where
    by : (b : Bool) → Has path (or_refused t Exhausted (update_result t client update) b).0
    by true = is_there (finite.get t.nodes path) n found
    by false = changed-has path n nobodys t client update lawful stays found
