-- The stat of a node that a create has just made.
use Rattle.std.proofs.Common.{◌≡◌, ◌≢◌, ◌+◌, ℕ, Bool, true, false, List, [], length, Option, Some, None, refl, sym, ap, subst, inl, inr, ◌∙◌, if◌then◌else◌}
use Rattle.std.specs.Option.{option_map, option_map_or}
use Rattle.std.specs.FinMap as finite
use Rattle.zpath.specs.First.{first_that_holds}
use Rattle.zpath.proofs.First.{no_test_holds}
use Rattle.ztree.specs.declared.node.Node.{Node}
use Rattle.ztree.specs.Tree.{Tree, Path, Name, Nodes, parent_of, has_node, child_name, children, new_node, stat_with, stat_of, stat_at, with_node, with_child, with_change_at}
use Rattle.ztree.specs.Lawful.{IsLawful}
use Rattle.ztree.proofs.Sorted.{paths_total, same_path}
use Rattle.ztree.proofs.Maps.{is_there, get-insert-here, get-inserted, none_of_map}
use Rattle.ztree.proofs.Nodes.{get-insert-other, parent_is_other}
use Rattle.ztree.proofs.Children.{names_of_keys, parent_of_child}
use Rattle.zcalls.specs.declared.refusal.Refusal.{Refusal}
use Rattle.zcalls.specs.declared.refusal.Refusal.TheVariants.{Exhausted}
use Rattle.zcalls.specs.declared.call.Create.{Create}
use Rattle.zcalls.specs.declared.call.Update.TheVariants as act
use Rattle.zcalls.specs.declared.change.ChangeReply.TheVariants as did
use Rattle.zcalls.specs.declared.reply.Reply.{Reply}
use Rattle.zcalls.specs.declared.reply.Reply.TheVariants as reply
use Rattle.zcalls.specs.Part.{create_step, create_refusals, made_path, owner_of, term_of, unless_refused}
use Rattle.zcalls.specs.Step.{step, is_exhausted, change_result}
use Rattle.zcalls.proofs.Paths.{not_root, made-below_root}
use Rattle.zresponses.specs.Stats.{made_stat}
use Rattle.zresponses.specs.Laws.{now_of, MadeNodesHaveThisStat}

-- what is there after a change of one node was there before
changed-was : (nodes : Nodes) (path : Path) (f : Node → Node) (q : Path) (x : Node) → finite.get (with_change_at nodes path f) q ≡ Some x → (y : Node) × (finite.get nodes q ≡ Some y)
changed-was nodes path f q x found = by (finite.get nodes path) refl found
  where
    by : (o : Option Node) → finite.get nodes path ≡ o → finite.get (option_map_or (λ n. finite.insert nodes path (f n)) o nodes) q ≡ Some x → (y : Node) × (finite.get nodes q ≡ Some y)
    by None is found = (x, found)
    by (Some n) is found =
        elim (get-inserted paths_total same_path nodes path (f n) q x found) [
          | inl here ↦ (n, ap (finite.get nodes) here.0 ∙ is)
          | inr elsewhere ↦ (x, elsewhere.1)
        ]

module _ (t : Tree) (path : Path) (new : Node) (f : Node → Node) (below : path ≢ []) where
  -- the nodes with one more, whose parent was changed
  abbrev More : Nodes
  More = with_change_at (finite.insert t.nodes path new) (parent_of path) f

  more-here : finite.get More path ≡ Some new
  more-here = by (finite.get (finite.insert t.nodes path new) (parent_of path))
    where
      by : (o : Option Node) → finite.get (option_map_or (λ n. finite.insert (finite.insert t.nodes path new) (parent_of path) (f n)) o (finite.insert t.nodes path new)) path ≡ Some new
      by None = get-insert-here paths_total same_path t.nodes path new
      by (Some n) =
          get-insert-other (finite.insert t.nodes path new) (parent_of path) (f n) path (λ e. parent_is_other path below (sym e))
          ∙ get-insert-here paths_total same_path t.nodes path new

  -- the new one has no children
  more-leaf : IsLawful t → has_node t.nodes path ≡ false → children More path ≡ []
  more-leaf lawful free =
      sym (names_of_keys path (finite.entries More))
      ∙ none_of_map paths_total same_path (λ (e : Path × Node). child_name path e.0) More (λ q x found. by q x found (child_name path q) refl)
    where
      by : (q : Path) (x : Node) → finite.get More q ≡ Some x → (name : Option Name) → child_name path q ≡ name → child_name path q ≡ None
      by q x found None e = e
      by q x found (Some name) e =
          let parent : parent_of q ≡ path = parent_of_child path q name e in
          let was = changed-was (finite.insert t.nodes path new) (parent_of path) f q x found in
          elim (get-inserted paths_total same_path t.nodes path new q was.0 was.1) [
            | inl here ↦ absurd (parent_is_other path below (ap parent_of (sym here.0) ∙ parent))
            | inr elsewhere ↦
                let there = lawful.parents q (is_there (finite.get t.nodes q) was.0 elsewhere.1) in
                let taken : has_node t.nodes path ≡ true = is_there (finite.get t.nodes path) there.0 (ap (finite.get t.nodes) (sym parent) ∙ there.1) in
                cc
          ]

  more-stat : IsLawful t → has_node t.nodes path ≡ false → stat_at More path ≡ Some (stat_with new 0)
  more-stat lawful free =
      ap (option_map (stat_of More path)) more-here
      ∙ ap (λ (names : List Name). Some (stat_with new (length names))) (more-leaf lawful free)

-- the stat is returned wherever the path is
abbrev Reports : Create → Path → Tree × Reply → Type 0
Reports create path s = s.1 ≡ reply.Created path → stat_at s.0.nodes path ≡ Some (made_stat (now_of s.0) create)

created : (t : Tree) (client : ℕ) (create : Create) (path : Path) → IsLawful t
    → (exhausted : Bool) (refused : Option Refusal) → first_that_holds (create_refusals t client create) ≡ refused
    → Reports create path (if exhausted then (t, reply.Refused Exhausted) else
    change_result t (unless_refused refused (
      with_node t (made_path t.nodes create.kind create.path) create.bytes (owner_of create.kind.lifetime) (term_of create.kind.lifetime) create.kind.is_sequential,
      did.Created (made_path t.nodes create.kind create.path),
    )))
created t client create path lawful true refused e reported = cc
created t client create path lawful false (Some refusal) e reported = cc
created t client create path lawful false None e reported =
    let made = made_path t.nodes create.kind create.path in
    let new = new_node create.bytes (owner_of create.kind.lifetime) (term_of create.kind.lifetime) (t.zxid + 1) t.time in
    let tests = no_test_holds (create_refusals t client create) e in
    let below = made-below_root t.nodes create.kind create.path (not_root create.path tests.1.0) in
    let same : made ≡ path = cc in
    subst (λ p. stat_at (More t made new (with_child (t.zxid + 1) create.kind.is_sequential) below) p ≡ Some (stat_with new 0)) same
    (more-stat t made new (with_child (t.zxid + 1) create.kind.is_sequential) below lawful tests.1.1.1.1.1.1.0)

pub made_nodes_have_this_stat : MadeNodesHaveThisStat
unfolding step create_step
made_nodes_have_this_stat t client create path lawful reported =
    created t client create path lawful (is_exhausted t (act.Create create)) (first_that_holds (create_refusals t client create)) refl reported
