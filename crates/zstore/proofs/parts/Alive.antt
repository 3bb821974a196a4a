-- The invariant of a store while sessions are opened, renewed and ended, and the nodes that a
-- session owns.
use Rattle.std.proofs.Common.{◌≡◌, ◌≢◌, ◌⊎◌, inl, inr, ℕ, ◌<◌, Bool, true, false, cond, [], Option, Some, None, refl, sym, ap, ◌∙◌, arith}
use Rattle.std.specs.Prelude.{is_some, IsSome, IfSome, ◌==◌}
use Rattle.std.specs.Option.{option_and_then, option_map_or}
use Rattle.std.specs.Ordering.{nat_cmp, eq_by_cmp}
use Rattle.std.specs.Cmp.{nat_cmp_total, unsigned_Decides}
use Rattle.std.specs.FinMap as finite
use Rattle.std.specs.FinMap.{nat_cmp-IsAntisymmetric, get-insert, get-remove}
use Rattle.zslots.specs.declared.id.Id.{Id}
use Rattle.ztree.specs.declared.limits.TreeLimits.{TreeLimits}
use Rattle.ztree.specs.declared.node.Node.{Node}
use Rattle.ztree.specs.declared.session.Session.{Session}
use Rattle.ztree.specs.Tree.{Path, Nodes, Sessions, ephemerals, with_change_at}
use Rattle.ztree.specs.Sessions.{renewed_session, with_renewed_session}
use Rattle.ztree.specs.Lawful.{IsOwner}
use Rattle.ztree.proofs.Sorted.{paths_total, same_path}
use Rattle.ztree.proofs.Maps.{not_none, has_some, same_or_other, get-insert-here, get-insert-elsewhere, none_of_map}
use Rattle.ztree.proofs.Nodes.{changed_at-some}
use Rattle.ztree.proofs.Ephemerals.{path_if_owned}
use Rattle.ztree.proofs.Lawful.{lawful_touched}
use Rattle.ztree.proofs.LawfulEnd.{lawful_forgotten}
use Rattle.znodes.specs.NodesView.{NodesView, path_of, AtNode}
use Rattle.zstore.specs.support.Undoing.{Owners, Places, Notes}
use Rattle.zstore.specs.support.Stored.{tree_of, IsKept, AreOwners, IsStored}
use Rattle.zstore.proofs.ids.Naming.{path_there}

-- two changes that make the same of a node that is there are one
pub same_change : (nodes : Nodes) (path : Path) (n : Node) (f g : Node → Node) →
    finite.get nodes path ≡ Some n → f n ≡ g n →
    with_change_at nodes path f ≡ with_change_at nodes path g
same_change nodes path n f g found same = changed_at-some nodes path f n found
    ∙ ap (finite.insert nodes path) same ∙ sym (changed_at-some nodes path g n found)

module _ (owners : Owners) (sessions : Sessions) (id : ℕ) (same : AreOwners owners sessions) where
  pub owners_opened : (s : Session) →
      AreOwners (finite.insert owners id tt) (finite.insert sessions id s)
  owners_opened s k =
      ap is_some (get-insert nat_cmp_total owners id tt k) ∙ by (eq_by_cmp nat_cmp k id)
      ∙ sym (ap is_some (get-insert nat_cmp_total sessions id s k))
    where
      by : (b : Bool) →
          is_some (cond b (Some tt) (finite.get owners k)) ≡ is_some
          (cond b (Some s) (finite.get sessions k))
      by true = refl
      by false = same k

  pub owners_ended : AreOwners (finite.remove owners id) (finite.remove sessions id)
  owners_ended k =
      ap is_some (get-remove nat_cmp_total owners id k) ∙ by (eq_by_cmp nat_cmp k id)
      ∙ sym (ap is_some (get-remove nat_cmp_total sessions id k))
    where
      by : (b : Bool) →
          is_some (cond b None (finite.get owners k)) ≡ is_some
          (cond b None (finite.get sessions k))
      by true = refl
      by false = same k

  owners_written : (x y : Session) → finite.get sessions id ≡ Some x →
      AreOwners owners (finite.insert sessions id y)
  owners_written x y found k = by (same_or_other nat_cmp_total nat_cmp-IsAntisymmetric k id)
    where
      by : (k ≡ id) ⊎ (k ≢ id) →
          is_some (finite.get owners k) ≡ is_some (finite.get (finite.insert sessions id y) k)
      by (inl is) = same k ∙ ap (λ n. is_some (finite.get sessions n)) is ∙ ap is_some found
          ∙ sym (ap (λ n. is_some (finite.get (finite.insert sessions id y) n)) is
          ∙ ap is_some (get-insert-here nat_cmp_total nat_cmp-IsAntisymmetric sessions id y))
      by (inr other) = same k
          ∙ sym (ap is_some
          (get-insert-elsewhere nat_cmp_total nat_cmp-IsAntisymmetric sessions id y k other))

  pub owners_touched : (time : ℕ) →
      AreOwners owners
      (option_map_or (λ (s : Session). finite.insert sessions id (renewed_session time s))
      (finite.get sessions id) sessions)
  owners_touched time = by (finite.get sessions id) refl
    where
      by : (o : Option Session) → finite.get sessions id ≡ o →
          AreOwners owners
          (option_map_or (λ (s : Session). finite.insert sessions id (renewed_session time s)) o
          sessions)
      by None found = same
      by (Some x) found = owners_written x (renewed_session time x) found

module _ (nodes : Nodes) (places : Places) (sessions : Sessions) (time zxid : ℕ) (limits : TreeLimits)
    (kept : IsKept nodes places sessions time zxid limits) where
  pub kept_touched : (id : ℕ) → ((s : Session) → finite.get sessions id ≡ Some s → 0 < s.timeout) →
      IsKept nodes places (with_renewed_session (tree_of nodes sessions time zxid limits) id).sessions time
      zxid limits
  kept_touched id some =
      record {
        lawful = lawful_touched (tree_of nodes sessions time zxid limits) id kept.lawful some;
        paths = kept.paths;
        named = kept.named;
      }

  pub kept_ended : (id : ℕ) → ephemerals nodes id ≡ [] →
      IsKept nodes places (finite.remove sessions id) time zxid limits
  kept_ended id none =
      record {
        lawful = lawful_forgotten (tree_of nodes sessions time zxid limits) id kept.lawful none;
        paths = kept.paths;
        named = kept.named;
      }

  -- who has no session owns nothing
  pub owns_nothing : (id : ℕ) → 0 < id → finite.get sessions id ≡ None → ephemerals nodes id ≡ []
  owns_nothing id above gone =
      none_of_map paths_total same_path (path_if_owned id) nodes
      (λ q x found. by q x (kept.lawful.owners q x found) (x.owner == id) refl)
    where
      by : (q : Path) (x : Node) → IsOwner sessions x.owner → (b : Bool) → (x.owner == id) ≡ b →
          cond b (Some q) None ≡ None
      by q x owner false other = refl
      by q x (inl nobody) true is =
          let same = (unsigned_Decides x.owner id).0 is in
          absurd (omega (arith, above, nobody, same))
      by q x (inr lives) true is =
          let same = (unsigned_Decides x.owner id).0 is in
          absurd (not_none _ lives (ap (finite.get sessions) same ∙ gone))

-- a node that a session owns, by what the nodes say
pub is_owned : (v : NodesView) (sessions : Sessions) (time zxid : ℕ) (limits : TreeLimits) (notes : Option Notes) →
    IsStored notes v sessions time zxid limits → (session : ℕ) (r : Option Id) →
    IfSome r (λ id. IsSome (path_of v id)) → IfSome r (λ id. AtNode v id (λ n. n.owner ≡ session))
    → IfSome r
    (λ id. (path : Path) × (finite.get v.places id ≡ Some path) × (n : Node) × (finite.get
    v.nodes path ≡ Some n) × (n.owner ≡ session))
is_owned v sessions time zxid limits notes stored session None live owned = tt
is_owned v sessions time zxid limits notes stored session (Some id) live owned =
    let at = path_there _ live in
    let n = has_some _ (stored.kept.named.there id at.0 at.1) in
    (at.0, at.1, n.0, n.1, owned n.0 (ap (option_and_then (finite.get v.nodes)) at.1 ∙ n.1))
