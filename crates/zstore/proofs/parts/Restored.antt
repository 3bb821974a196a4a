-- The invariant of a store while it is built of another one's rows.
use Rattle.std.proofs.Common.{◌≡◌, ◌≢◌, ◌⊎◌, inl, inr, ℕ, true, false, [], Option, Some, None, sym, ap, subst, ◌∙◌, arith}
use Rattle.std.specs.Prelude.{is_some, IfNone}
use Rattle.std.specs.Ordering.{nat_cmp}
use Rattle.std.specs.Cmp.{nat_cmp_total}
use Rattle.std.specs.FinMap as finite
use Rattle.std.specs.FinMap.{nat_cmp-IsAntisymmetric, get-empty, len-empty}
use Rattle.zpath.specs.Grammar.{IsPath, path_cmp}
use Rattle.zslots.specs.Ids.{id_cmp}
use Rattle.zslots.specs.declared.id.Id.{Id}
use Rattle.ztree.specs.declared.limits.TreeLimits.{TreeLimits}
use Rattle.ztree.specs.Limits.{AreLimits}
use Rattle.ztree.specs.declared.node.Node.{Node}
use Rattle.ztree.specs.declared.session.Session.{Session}
use Rattle.ztree.specs.Tree.{Path, Nodes, parent_of, has_node, with_change_at}
use Rattle.ztree.specs.Lawful.{IsLawful, IsPersistent}
use Rattle.ztree.proofs.Sorted.{paths_total, same_path}
use Rattle.ztree.proofs.Maps.{none_some, has_some, is_there, get-insert-here, get-inserted, len-insert-most}
use Rattle.ztree.proofs.Paths.{paths_empty, paths_inserted, root_is_path}
use Rattle.ztree.proofs.Lawful.{lawful_session}
use Rattle.znodes.specs.NodesView.{NodesView, IsOpening, Adds}
use Rattle.zstore.specs.Restored.{rooted_tree, CanBeRoot, CanPut, CanPutSession}
use Rattle.zstore.specs.support.Undoing.{Places, Owners, Notes, undos_of, release_all, AllHeld}
use Rattle.zstore.specs.support.Stored.{tree_of, NamesNodes, IsKept, AreOwners, IsStored}
use Rattle.zstore.proofs.parts.Cached.{names_with, kept_with, kept_changed}
use Rattle.zstore.proofs.parts.Alive.{owners_opened}
use Rattle.zstore.proofs.parts.Noted.{with_held, stored_plain, notes_held, none_held}

module _ (root : Node) (can : CanBeRoot root) (time zxid : ℕ) (limits : TreeLimits) (allowed : AreLimits limits) where
  abbrev nodes : Nodes
  nodes = finite.insert finite.empty [] root

  found : finite.get nodes [] ≡ Some root
  found = get-insert-here paths_total same_path finite.empty [] root

  only : (q : Path) (n : Node) → finite.get nodes q ≡ Some n → (q ≡ []) × (root ≡ n)
  only q n e = by (get-inserted paths_total same_path finite.empty [] root q n e)
    where
      by : ((q ≡ []) × (root ≡ n)) ⊎ ((q ≢ []) × (finite.get (finite.empty {R = path_cmp}) q ≡ Some n)) →
          (q ≡ []) × (root ≡ n)
      by (inl is) = is
      by (inr old) = absurd (none_some n (sym (get-empty path_cmp q) ∙ old.1))

  none : (id : ℕ) (s : Session) → finite.get (finite.empty {R = nat_cmp}) id ≡ Some s → ⊥
  none id s e = none_some s (sym (get-empty nat_cmp id) ∙ e)

  lawful_rooted : IsLawful (rooted_tree root time zxid limits)
  lawful_rooted = record {
    root = (root, found, can.nobodys);
    root_stays = λ n e. ap (λ (m : Node). m.term) (sym (only [] n e).1) ∙ can.stays;
    parents = λ q is. let n = has_some _ is in
        subst (λ p. IsPersistent (finite.get nodes (parent_of p))) (sym (only q n.0 n.1).0)
        (root, found, can.nobodys);
    owners = λ q n e. inl (ap (λ (m : Node). m.owner) (sym (only q n e).1) ∙ can.nobodys);
    ends = λ q n e. inl (ap (λ (m : Node). m.term) (sym (only q n e).1) ∙ can.stays);
    ids = λ id s e. absurd (none id s e);
    deadlines = λ id s e. absurd (none id s e);
    few_nodes = len-insert-most paths_total same_path finite.empty [] root limits.nodes (rw (len-empty path_cmp Node) allowed.some_nodes);
    few_sessions = rw (len-empty nat_cmp Session) (omega arith);
    allowed = allowed;
  }

  nothing_named : NamesNodes finite.empty finite.empty
  nothing_named = record {
    there = λ id path is. absurd (none_some path (sym (get-empty id_cmp id) ∙ is));
    alone = λ a b path is also. absurd (none_some path (sym (get-empty id_cmp a) ∙ is));
  }

  -- the root alone is stored
  pub stored_rooted : (v : NodesView) → IsOpening root v → IsStored None v finite.empty time zxid limits
  stored_rooted v opens =
      let places : Places = finite.insert finite.empty opens.id [] in
      let free = ap is_some (get-empty {X = Node} path_cmp []) in
      let kept : IsKept (finite.insert finite.empty [] root) places finite.empty time zxid limits = record {
        lawful = lawful_rooted;
        paths = paths_inserted finite.empty [] root paths_empty root_is_path;
        named = names_with finite.empty [] root finite.empty nothing_named opens.id free;
      } in
      let here = subst (λ (m : Nodes). IsKept m v.places finite.empty time zxid limits) (sym opens.nodes)
      (subst (λ (p : Places). IsKept (finite.insert finite.empty [] root) p finite.empty time zxid limits)
      (sym opens.places) kept) in
      let owners : AreOwners v.owners finite.empty = λ id.
      ap (λ (o : Owners). is_some (finite.get o id)) opens.owners ∙ ap is_some (get-empty nat_cmp id)
      ∙ sym (ap is_some (get-empty nat_cmp id)) in
      stored_plain v finite.empty time zxid limits v.held opens.held here owners

module _ (old new : NodesView) (sessions : finite.FinMap nat_cmp Session) (time zxid : ℕ) (limits : TreeLimits)
    (notes : Option Notes) (stored : IsStored notes old sessions time zxid limits) where
  -- one more node, and the mark given up
  module _ (id : Id) (path : Path) (n : Node) (adds : Adds old new id path n) where
    pub put_held : AllHeld (undos_of notes) new.held
    put_held =
        subst (AllHeld (undos_of notes)) (sym adds.held)
        (notes_held old sessions time zxid limits notes stored)

    pub put_stored : CanPut (tree_of old.nodes sessions time zxid limits) path n → IsPath path →
        IsStored None (with_held new (release_all (undos_of notes) new.held)) sessions time zxid limits
    put_stored can is_path =
        let kept = kept_with old.nodes old.places sessions time zxid limits stored.kept id path n can.free
        can.parent can.owner can.one_end can.few is_path in
        let here : IsKept new.nodes new.places sessions time zxid limits =
        subst (λ (m : Nodes). IsKept m new.places sessions time zxid limits) (sym adds.nodes)
        (subst (λ (p : Places). IsKept (finite.insert old.nodes path n) p sessions time zxid limits)
        (sym adds.places) kept) in
        let owners : AreOwners new.owners sessions =
        subst (λ (o : Owners). AreOwners o sessions) (sym adds.owners) stored.owners in
        let none = ap (release_all (undos_of notes)) adds.held
        ∙ none_held old sessions time zxid limits notes stored in
        stored_plain new sessions time zxid limits (release_all (undos_of notes) new.held) none here owners

  -- a node that was written, and the mark given up
  module _ (path : Path) (f : Node → Node)
      (writes : new ≡ record old { nodes = with_change_at old.nodes path f }) where
    pub changed_held : AllHeld (undos_of notes) new.held
    changed_held =
        subst (λ (v : NodesView). AllHeld (undos_of notes) v.held) (sym writes)
        (notes_held old sessions time zxid limits notes stored)

    pub changed_stored : ((m : Node) → ((f m).owner ≡ m.owner) × ((f m).term ≡ m.term)) →
        IsStored None (with_held new (release_all (undos_of notes) new.held)) sessions time zxid limits
    changed_stored same =
        let kept =
        subst (λ (v : NodesView). IsKept v.nodes v.places sessions time zxid limits) (sym writes)
        (kept_changed old.nodes old.places sessions time zxid limits stored.kept path f same) in
        let owners = subst (λ (v : NodesView). AreOwners v.owners sessions) (sym writes) stored.owners in
        let none = ap (λ (v : NodesView). release_all (undos_of notes) v.held) writes
        ∙ none_held old sessions time zxid limits notes stored in
        stored_plain new sessions time zxid limits (release_all (undos_of notes) new.held) none kept owners

  -- one more session
  pub kept_session : (id : ℕ) (s : Session) → CanPutSession (tree_of old.nodes sessions time zxid limits) id s →
      IsKept old.nodes old.places (finite.insert sessions id s) time zxid limits
  kept_session id s can = record {
    lawful = lawful_session (tree_of old.nodes sessions time zxid limits) id s stored.kept.lawful
        can.somebody can.lives
        (len-insert-most nat_cmp_total nat_cmp-IsAntisymmetric sessions id s limits.sessions can.few);
    paths = stored.kept.paths;
    named = stored.kept.named;
  }

  pub session_stored : (id : ℕ) (s : Session) → CanPutSession (tree_of old.nodes sessions time zxid limits) id s →
      IsStored None
      (with_held (record old { owners = finite.insert old.owners id tt })
      (release_all (undos_of notes) old.held)) (finite.insert sessions id s) time zxid limits
  session_stored id s can =
      stored_plain (record old { owners = finite.insert old.owners id tt })
      (finite.insert sessions id s) time zxid limits (release_all (undos_of notes) old.held)
      (none_held old sessions time zxid limits notes stored) (kept_session id s can)
      (owners_opened old.owners sessions id stored.owners s)

-- where none is above a path, no persistent node is
pub none_above : {A : Type 0} (found : Option A) (nodes : Nodes) (path above : Path) →
    parent_of path ≡ above → is_some found ≡ has_node nodes above →
    IfNone found
    (has_node nodes path ≡ false → IsPersistent (finite.get nodes (parent_of path)) → ⊥)
none_above (Some x) nodes path above parent found = tt
none_above None nodes path above parent found =
    λ free p. cannot (found ∙ ap (has_node nodes) (sym parent) ∙ is_there _ p.0 p.1)
  where
    cannot : false ≡ true → ⊥
    cannot e = cc
