-- Whom a node belongs to, as it is tested.
use Rattle.std.proofs.Common.{◌≡◌, ◌⊎◌, inl, inr, ℕ, true, false, Option, Some, None, IsSome, refl, ap, arith}
use Rattle.std.specs.Prelude.{not, is_some, ◌==◌}
use Rattle.std.specs.Option.{option_map_or}
use Rattle.std.specs.FinMap as finite
use Rattle.std.proofs.lemmas.Bool.Decides.{nat_tests}
use Rattle.ztree.specs.declared.term.Term.TheVariants.{Unlimited}
use Rattle.ztree.specs.declared.node.Node.{Node}
use Rattle.ztree.specs.declared.session.Session.{Session}
use Rattle.ztree.specs.Tree.{Nodes, Sessions, Path, has_node}
use Rattle.ztree.specs.Lawful.{IsPersistent, IsOwner}
use Rattle.zcalls.specs.declared.call.Lifetime.{Lifetime}
use Rattle.zcalls.specs.declared.call.Lifetime.TheVariants.{Persistent, WithTtl, Ephemeral, Container}
use Rattle.zcalls.specs.Part.{node_has, is_owned, is_gone, has_no_owner, owner_of, term_of}

-- who isn't owned by a session is owned by no one
nobody : (owner : ℕ) → not (owner == 0) ≡ false → owner ≡ 0
nobody owner e = grind (arith, nat_tests)

-- a node that is there and isn't owned is persistent
pub persistent : (nodes : Nodes) (path : Path) → has_node nodes path ≡ true → node_has is_owned nodes path ≡ false → IsPersistent (finite.get nodes path)
persistent nodes path = by (finite.get nodes path)
  where
    by : (o : Option Node) → is_some o ≡ true → option_map_or is_owned o false ≡ false → IsPersistent o
    by None there unowned = cc
    by (Some n) there unowned = (n, refl, nobody n.owner unowned)

-- a session that isn't gone to a client is there, and is the client's
pub record IsOwn (sessions : Sessions) (client id : ℕ) : Type 0 where
  pub session : Session
  pub there : finite.get sessions id ≡ Some session
  pub own : session.client ≡ client

same_client : (a b : ℕ) → not (a == b) ≡ false → a ≡ b
same_client a b e = grind (arith, nat_tests)

pub is_own : (sessions : Sessions) (client id : ℕ) → is_gone sessions client id ≡ false → IsOwn sessions client id
is_own sessions client id = by (finite.get sessions id) refl
  where
    by : (o : Option Session) → finite.get sessions id ≡ o → option_map_or (λ (s : Session). not (s.client == client)) o true ≡ false → IsOwn sessions client id
    by None e here = cc
    by (Some s) e here = record { session = s; there = e; own = same_client s.client client here }

-- so it is there
session_there : (sessions : Sessions) (client id : ℕ) → is_gone sessions client id ≡ false → IsSome (finite.get sessions id)
session_there sessions client id here = ap is_some (is_own sessions client id here).there

-- the owner of a node that is made is no one, or a session that is there
pub owner_lives : (sessions : Sessions) (client : ℕ) (lifetime : Lifetime) → has_no_owner sessions client lifetime ≡ false → IsOwner sessions (owner_of lifetime)
owner_lives sessions client Persistent here = inl refl
owner_lives sessions client (WithTtl ttl) here = inl refl
owner_lives sessions client (Ephemeral session) here = inr (session_there sessions client session here)
owner_lives sessions client Container here = inl refl

-- no lifetime has both an owner and a term that a tick ends
pub one_end : (lifetime : Lifetime) → (term_of lifetime ≡ Unlimited) ⊎ (owner_of lifetime ≡ 0)
one_end Persistent = inl refl
one_end (WithTtl ttl) = inr refl
one_end (Ephemeral session) = inl refl
one_end Container = inr refl
