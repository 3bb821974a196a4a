-- What is found in the sample trees: what the worked rows ask for.
use Rattle.std.proofs.Common.{◌≡◌, ◌≢◌, inl, inr, ℕ, ◌<◌, [], Some, None, sym, ap, ◌∙◌, arith}
use Rattle.std.specs.Ordering.{nat_cmp}
use Rattle.std.specs.Cmp.{nat_cmp_total}
use Rattle.std.specs.FinMap as finite
use Rattle.std.specs.FinMap.{nat_cmp-IsAntisymmetric, get-empty, len-empty}
use Rattle.zpath.specs.Grammar.{path_cmp}
use Rattle.ztree.specs.declared.term.Term.TheVariants.{Unlimited, Timed, Container}
use Rattle.ztree.specs.declared.node.Node.{Node}
use Rattle.ztree.specs.declared.session.Session.{Session}
use Rattle.ztree.specs.support.Samples.{at_a, some_node, some_session}
use Rattle.ztree.specs.Tree.{Path}
use Rattle.ztree.specs.Lawful.{IsOwner, HasOneEnd, IsPersistent}
use Rattle.ztree.proofs.Sorted.{paths_total, same_path}
use Rattle.ztree.proofs.Maps.{same_some, not_none, get-insert-here, get-insert-elsewhere, len-insert-most}
use Rattle.zstore.specs.support.Samples.{plain, ephemeral, rooted, with_ephemeral, owned_container}

root_is_above : ◌≢◌ {A = Path} [] at_a
root_is_above e = cc

child_is_below : ◌≢◌ {A = Path} at_a []
child_is_below e = cc

pub root_there : finite.get rooted.nodes [] ≡ Some plain
root_there = get-insert-here paths_total same_path finite.empty [] plain

pub none_at_a : finite.get rooted.nodes at_a ≡ None
none_at_a =
    get-insert-elsewhere paths_total same_path finite.empty [] plain at_a child_is_below
    ∙ get-empty path_cmp at_a

pub session_there : finite.get rooted.sessions 9 ≡ Some some_session
session_there = get-insert-here nat_cmp_total nat_cmp-IsAntisymmetric finite.empty 9 some_session

-- no other session is there
pub no_session : (id : ℕ) → id ≢ 9 → finite.get rooted.sessions id ≡ None
no_session id other =
    get-insert-elsewhere nat_cmp_total nat_cmp-IsAntisymmetric finite.empty 9 some_session id other
    ∙ get-empty nat_cmp id

pub one_node : finite.len rooted.nodes < 4096
one_node =
    let one = len-insert-most paths_total same_path finite.empty [] plain 1
    (rw (len-empty path_cmp Node) (omega arith)) in
    omega (arith, one)

pub one_session : finite.len rooted.sessions < 1024
one_session =
    let one = len-insert-most nat_cmp_total nat_cmp-IsAntisymmetric finite.empty 9 some_session 1
    (rw (len-empty nat_cmp Session) (omega arith)) in
    omega (arith, one)

pub not_owner : IsOwner rooted.sessions 8 → ⊥
not_owner (inl nobody) = absurd (omega (arith, nobody))
not_owner (inr lives) = not_none _ lives (no_session 8 (λ e. absurd (omega (arith, e))))

pub timed_ends : (ttl : ℕ) → Timed ttl ≡ Unlimited → ⊥
timed_ends ttl e = cc

pub container_ends : Container ≡ Unlimited → ⊥
container_ends e = cc

pub two_ends : HasOneEnd some_node → ⊥
two_ends (inl stays) = absurd (timed_ends 12 stays)
two_ends (inr nobodys) = absurd (omega (arith, nobodys))

pub owned_container_ends : HasOneEnd owned_container → ⊥
owned_container_ends (inl stays) = absurd (container_ends stays)
owned_container_ends (inr nobodys) = absurd (omega (arith, nobodys))

pub ephemeral_there : finite.get with_ephemeral.nodes at_a ≡ Some ephemeral
ephemeral_there = get-insert-here paths_total same_path rooted.nodes at_a ephemeral

pub root_still : finite.get with_ephemeral.nodes [] ≡ Some plain
root_still =
    get-insert-elsewhere paths_total same_path rooted.nodes at_a ephemeral [] root_is_above
    ∙ root_there

pub not_persistent : IsPersistent (finite.get with_ephemeral.nodes at_a) → ⊥
not_persistent found =
    let same = ap (λ (n : Node). n.owner)
    (same_some ephemeral found.0 (sym ephemeral_there ∙ found.1)) in
    absurd (omega (arith, same, found.2))
