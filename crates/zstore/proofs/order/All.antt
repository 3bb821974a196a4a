-- Nodes can be taken away in any order.
use Rattle.std.proofs.Common.{◌≡◌, ◌+◌, Bool, true, false, cond, ◌||◌, List, [], ◌∷◌, length, refl, sym, ap, ◌∙◌, arith}
use Rattle.std.specs.Ordering.{eq_by_cmp}
use Rattle.std.specs.Cmp.{eq_by_cmp_equiv}
use Rattle.zpath.specs.Grammar.{path_cmp}
use Rattle.ztree.specs.Tree.{Tree, Path, without_node}
use Rattle.ztree.specs.Sessions.{without_nodes}
use Rattle.ztree.specs.Laws.{has_path, NoneTwice}
use Rattle.ztree.proofs.Sorted.{paths_total, same_path}
use Rattle.ztree.proofs.Maps.{tied, tied_same}
use Rattle.zstore.proofs.order.Any.{without_both}

-- the paths without the first that is this one
abbrev pub less_one : Path → List Path → List Path
less_one p [] = []
less_one p (q ∷ qs) = cond (eq_by_cmp path_cmp p q) qs (q ∷ less_one p qs)

-- one of them can go first
first_by : (t : Tree) (p q : Path) (qs : List Path) →
    ((u : Tree) → has_path qs p ≡ true →
    (without_nodes u qs ≡ without_nodes (without_node u p) (less_one p qs))
    × (length qs ≡ length (less_one p qs) + 1)) → (b : Bool) →
    eq_by_cmp path_cmp p q ≡ b → (b || has_path qs p) ≡ true →
    (without_nodes t (q ∷ qs) ≡ without_nodes (without_node t p) (cond b qs (q ∷ less_one p qs)))
    × (length (q ∷ qs) ≡ length (cond b qs (q ∷ less_one p qs)) + 1)
first_by t p q qs further true is has = (
  ap (λ r. without_nodes (without_node t r) qs) (sym (tied_same paths_total same_path p q is)),
  omega arith,
)
first_by t p q qs further false is has =
    let rest = further (without_node t q) has in
    let count = rest.1 in (
      rest.0 ∙ ap (λ u. without_nodes u (less_one p qs)) (without_both t q p),
      omega (arith, count),
    )

one_first : (p : Path) (qs : List Path) (t : Tree) → has_path qs p ≡ true →
    (without_nodes t qs ≡ without_nodes (without_node t p) (less_one p qs))
    × (length qs ≡ length (less_one p qs) + 1)
one_first p [] t has = cc
one_first p (q ∷ qs) t has =
    first_by t p q qs (one_first p qs) (eq_by_cmp path_cmp p q) refl has

-- who is among the others
less_by : (p r q : Path) (qs : List Path) → eq_by_cmp path_cmp r p ≡ false →
    has_path (less_one p qs) r ≡ has_path qs r → (b : Bool) → eq_by_cmp path_cmp p q ≡ b →
    has_path (cond b qs (q ∷ less_one p qs)) r ≡ (eq_by_cmp path_cmp r q || has_path qs r)
less_by p r q qs other further true is =
    ap (λ b. b || has_path qs r) (sym other
    ∙ ap (eq_by_cmp path_cmp r) (tied_same paths_total same_path p q is))
less_by p r q qs other further false is = ap (λ b. eq_by_cmp path_cmp r q || b) further

less-others : (p r : Path) (qs : List Path) → eq_by_cmp path_cmp r p ≡ false →
    has_path (less_one p qs) r ≡ has_path qs r
less-others p r [] other = refl
less-others p r (q ∷ qs) other =
    less_by p r q qs other (less-others p r qs other) (eq_by_cmp path_cmp p q) refl

less-itself_by : (p q : Path) (qs : List Path) → has_path qs q ≡ false →
    (NoneTwice path_cmp qs → has_path (less_one p qs) p ≡ false) → NoneTwice path_cmp qs →
    (b : Bool) → eq_by_cmp path_cmp p q ≡ b →
    has_path (cond b qs (q ∷ less_one p qs)) p ≡ false
less-itself_by p q qs free further apart true is =
    ap (has_path qs) (tied_same paths_total same_path p q is) ∙ free
less-itself_by p q qs free further apart false is =
    ap (λ b. b || has_path (less_one p qs) p) is ∙ further apart

less-itself : (p : Path) (qs : List Path) → NoneTwice path_cmp qs →
    has_path (less_one p qs) p ≡ false
less-itself p [] apart = refl
less-itself p (q ∷ qs) apart =
    less-itself_by p q qs apart.0 (less-itself p qs) apart.1 (eq_by_cmp path_cmp p q) refl

less-apart_by : (p q : Path) (qs : List Path) → has_path qs q ≡ false →
    NoneTwice path_cmp (less_one p qs) → NoneTwice path_cmp qs → (b : Bool) →
    eq_by_cmp path_cmp p q ≡ b → NoneTwice path_cmp (cond b qs (q ∷ less_one p qs))
less-apart_by p q qs free further apart true is = apart
less-apart_by p q qs free further apart false is =
    let other = (eq_by_cmp_equiv paths_total).symm q p ∙ is in
    (less-others p q qs other ∙ free, further)

less-apart : (p : Path) (qs : List Path) → NoneTwice path_cmp qs →
    NoneTwice path_cmp (less_one p qs)
less-apart p [] apart = tt
less-apart p (q ∷ qs) apart =
    less-apart_by p q qs apart.0 (less-apart p qs apart.1) apart.1 (eq_by_cmp path_cmp p q) refl

-- the same nodes, each once, can be taken away in either order
pub in_any_order : (ps qs : List Path) (t : Tree) → NoneTwice path_cmp ps →
    NoneTwice path_cmp qs → ((path : Path) → has_path ps path ≡ has_path qs path) →
    (without_nodes t ps ≡ without_nodes t qs) × (length ps ≡ length qs)
in_any_order [] [] t once also same = (refl, refl)
in_any_order [] (q ∷ qs) t once also same =
    let bad : false ≡ true = same q
    ∙ ap (λ b. b || has_path qs q) (tied paths_total same_path q) in cc
in_any_order (p ∷ ps) qs t once also same =
    let has = sym (same p) ∙ ap (λ b. b || has_path ps p) (tied paths_total same_path p) in
    let first = one_first p qs t has in
    let rest =
    in_any_order ps (less_one p qs) (without_node t p) once.1 (less-apart p qs also)
    (λ path. by path (eq_by_cmp path_cmp path p) refl (same path)) in
    let count = rest.1 in
    let more = first.1 in
    (rest.0 ∙ sym first.0, omega (arith, count, more))
  where
    by : (path : Path) (b : Bool) → eq_by_cmp path_cmp path p ≡ b →
        (eq_by_cmp path_cmp path p || has_path ps path) ≡ has_path qs path →
        has_path ps path ≡ has_path (less_one p qs) path
    by path true is all =
        let here = tied_same paths_total same_path path p is in
        ap (has_path ps) here ∙ once.0 ∙ sym (ap (has_path (less_one p qs)) here
        ∙ less-itself p qs also)
    by path false is all = sym (ap (λ b. b || has_path ps path) is) ∙ all
        ∙ sym (less-others p path qs is)
