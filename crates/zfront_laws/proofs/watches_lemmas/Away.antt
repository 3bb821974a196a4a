-- Nodes that a close or a tick has nothing to do with stay as they are.
use Rattle.std.proofs.Common.{◌≡◌, ◌≢◌, ◌∙◌, ◌+◌, ℕ, Bool, true, false, List, [], ◌∷◌, Option, Some, None, refl, sym, ap, inl, inr}
use Rattle.std.specs.Prelude.{◌⊎◌, ◌||◌, if◌then◌else◌}
use Rattle.std.specs.Cmp.{nat_cmp_total}
use Rattle.std.specs.FinMap.{nat_cmp-IsAntisymmetric}
use Rattle.std.specs.List.{list_any}
use Rattle.std.specs.Ordering.{eq_by_cmp, nat_cmp}
use Rattle.std.proofs.Math.Bool.{or-true}
use Rattle.zpath.specs.Grammar.{path_cmp}
use Rattle.std.specs.Option.{option_map, option_map_or}
use Rattle.std.specs.FinMap as finite
use Rattle.ztree.specs.declared.node.Node.{Node}
use Rattle.ztree.specs.declared.session.Session.{Session}
use Rattle.ztree.specs.Tree.{Tree, Path, Nodes, parent_of, ephemerals, without_node, without_child, with_next_zxid}
use Rattle.ztree.specs.Sessions.{without_nodes, without_session, without_sessions}
use Rattle.ztree.proofs.Ephemerals.{ephemerals-dropped, first_is_there}
use Rattle.ztree.proofs.Maps.{none_some, get-remove-elsewhere, tied}
use Rattle.ztree.proofs.Nodes.{get-insert-other}
use Rattle.ztree.proofs.Sorted.{paths_total, same_path}
use Rattle.zcalls.specs.declared.call.Update.TheVariants.{Close, Tick}
use Rattle.zcalls.specs.declared.refusal.Refusal.TheVariants.{SessionGone, Exhausted}
use Rattle.zcalls.specs.declared.reply.Reply.{Reply}
use Rattle.zcalls.specs.declared.reply.Reply.TheVariants as reply
use Rattle.zcalls.specs.Part.{is_gone}
use Rattle.zcalls.proofs.Owners.{is_own}
use Rattle.zcalls.specs.Step.{step, update_result, after_tick, counted_if, is_busy, is_exhausted, due_next, stale_next}
use Rattle.zwatches.specs.changes.Laws.{but_children, data_at}
use Rattle.zfront_laws.proofs.watches_lemmas.Holding.{same_owner}
use Rattle.zfront_laws.proofs.watches_lemmas.Taking.{Loses, all_dropped, dropped}

-- the session owns the node at the path
abbrev pub Owns : Nodes → ℕ → Path → Type 0
Owns nodes id at = (n : Node) × (finite.get nodes at ≡ Some n) × (n.owner ≡ id)

-- the path is neither the other one nor its parent
abbrev pub IsFar : Path → Path → Type 0
IsFar path at = (path ≢ at) × (path ≢ parent_of at)

-- who owns a node after some were taken away owned it before
owned_before : (zxid : ℕ) (before now : Nodes) (at : Path) (id : ℕ) → Loses zxid before now at → Owns now id at → Owns before id at
owned_before zxid before now at id loses (n, found, own) = by loses.of_data
  where
    here : data_at now at ≡ Some (but_children n)
    here = ap (option_map but_children) found

    by : (data_at now at ≡ data_at before at) ⊎ (data_at now at ≡ None) → Owns before id at
    by (inl still) =
        let was = same_owner (finite.get before at) n (sym here ∙ still) in
        (was.0, was.1, was.2 ∙ own)
    by (inr none) = absurd (none_some (but_children n) (sym none ∙ here))

-- a choice of two outcomes that leave the node
left_by : (path : Path) (t : Tree) (why : Reply) (did : Tree × Reply) (b : Bool) → finite.get did.0.nodes path ≡ finite.get t.nodes path
    → finite.get (if b then (t, why) else did).0.nodes path ≡ finite.get t.nodes path
left_by path t why did true same = refl
left_by path t why did false same = same

module _ (path : Path) where
  dropped_far : (t : Tree) (at : Path) → IsFar path at → finite.get (without_node t at).nodes path ≡ finite.get t.nodes path
  dropped_far t at far = by (finite.get fewer (parent_of at))
    where
      fewer : Nodes
      fewer = finite.remove t.nodes at

      by : (o : Option Node) → finite.get (option_map_or (λ n. finite.insert fewer (parent_of at) (without_child (t.zxid + 1) n)) o fewer) path
          ≡ finite.get t.nodes path
      by None = get-remove-elsewhere paths_total same_path t.nodes at path far.0
      by (Some n) =
          get-insert-other fewer (parent_of at) (without_child (t.zxid + 1) n) path far.1
          ∙ get-remove-elsewhere paths_total same_path t.nodes at path far.0

  -- one after the other
  all_far : (paths : List Path) (t : Tree) → ((at : Path) → list_any (eq_by_cmp path_cmp at) paths ≡ true → IsFar path at)
      → finite.get (without_nodes t paths).nodes path ≡ finite.get t.nodes path
  all_far [] t far = refl
  all_far (at ∷ paths) t far =
      all_far paths (without_node t at) (λ q among. far q (ap (λ b. eq_by_cmp path_cmp q at || b) among ∙ or-true (eq_by_cmp path_cmp q at)))
      ∙ dropped_far t at (far at (ap (λ b. b || list_any (eq_by_cmp path_cmp at) paths) (tied paths_total same_path at)))

  -- nodes of one session
  owned_far : (id : ℕ) (paths : List Path) (t : Tree) → ephemerals t.nodes id ≡ paths → ((at : Path) → Owns t.nodes id at → IsFar path at)
      → finite.get (without_nodes t paths).nodes path ≡ finite.get t.nodes path
  owned_far id [] t is far = refl
  owned_far id (at ∷ paths) t is far =
      owned_far id paths (without_node t at) (ephemerals-dropped id t at paths is)
      (λ q owns. far q (owned_before (t.zxid + 1) t.nodes (without_node t at).nodes q id (dropped t at q) owns))
      ∙ dropped_far t at (far at (first_is_there id t.nodes at paths is))

  -- and of several
  ended_far : (ids : List ℕ) (t : Tree)
      → ((id : ℕ) (at : Path) → list_any (eq_by_cmp nat_cmp id) ids ≡ true → Owns t.nodes id at → IsFar path at)
      → finite.get (without_sessions t ids).nodes path ≡ finite.get t.nodes path
  ended_far [] t far = refl
  ended_far (first ∷ ids) t far =
      let u = without_session t first in
      ended_far ids u
      (λ id at among owns.
      far id at (ap (λ b. eq_by_cmp nat_cmp id first || b) among ∙ or-true (eq_by_cmp nat_cmp id first))
      (owned_before (t.zxid + 1) t.nodes u.nodes at id (all_dropped (ephemerals t.nodes first) t at) owns))
      ∙ owned_far first (ephemerals t.nodes first) t refl
      (λ at owns. far first at (ap (λ b. b || list_any (eq_by_cmp nat_cmp first) ids) (tied nat_cmp_total nat_cmp-IsAntisymmetric first)) owns)

  -- ---- a close and a tick

  abbrev closed : Tree → ℕ → Tree × Reply
  closed t id = (with_next_zxid (without_session t id), reply.Closed)

  closed_by : (t : Tree) (id : ℕ) → ((s : Session) → finite.get t.sessions id ≡ Some s → (at : Path) → Owns t.nodes id at → IsFar path at)
      → (gone : Bool) → is_gone t.sessions 0 id ≡ gone
      → finite.get (if gone then (t, reply.Refused SessionGone) else closed t id).0.nodes path
      ≡ finite.get t.nodes path
  closed_by t id far true is = refl
  closed_by t id far false is =
      let own = is_own t.sessions 0 id is in
      owned_far id (ephemerals t.nodes id) t refl (far own.session own.there)

  pub close_leaves : (t : Tree) (id : ℕ) → ((s : Session) → finite.get t.sessions id ≡ Some s → (at : Path) → Owns t.nodes id at → IsFar path at)
      → finite.get (step t 0 (Close id)).0.nodes path ≡ finite.get t.nodes path
  unfolding step
  close_leaves t id far =
      left_by path t (reply.Refused Exhausted) (update_result t 0 (Close id)) (is_exhausted t (Close id))
      (closed_by t id far (is_gone t.sessions 0 id) refl)

  counted_leaves : (b : Bool) (u : Tree) → finite.get (counted_if b u).nodes path ≡ finite.get u.nodes path
  counted_leaves true u = refl
  counted_leaves false u = refl

  pub tick_leaves : (t : Tree)
      → ((id : ℕ) (at : Path) → list_any (eq_by_cmp nat_cmp id) (due_next t) ≡ true → Owns t.nodes id at → IsFar path at)
      → ((at : Path) → list_any (eq_by_cmp path_cmp at) (stale_next t) ≡ true → IsFar path at)
      → finite.get (step t 0 Tick).0.nodes path ≡ finite.get t.nodes path
  unfolding step
  tick_leaves t ends stale =
      left_by path t (reply.Refused Exhausted) (update_result t 0 Tick) (is_exhausted t Tick)
      (counted_leaves (is_busy (due_next t) (stale_next t)) (after_tick t (due_next t) (stale_next t))
      ∙ all_far (stale_next t) (without_sessions t (due_next t)) stale ∙ ended_far (due_next t) t ends)
