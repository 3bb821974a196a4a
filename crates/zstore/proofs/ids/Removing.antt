-- How the Ids of nodes that go one after the other name them.
use Rattle.std.proofs.Common.{◌≡◌, ◌≢◌, Bool, true, false, ◌||◌, List, [], ◌∷◌, length, Some, refl, sym, ap, subst, ◌∙◌, arith}
use Rattle.std.specs.Ordering.{eq_by_cmp}
use Rattle.std.specs.List.{AllByRecursion}
use Rattle.std.specs.FinMap as finite
use Rattle.std.specs.FinMap.{FinMap}
use Rattle.zpath.specs.Grammar.{path_cmp}
use Rattle.zslots.specs.declared.id.Id.{Id}
use Rattle.zslots.specs.Ids.{Ids, id_cmp}
use Rattle.zslots.proofs.Maps.{get-remove-elsewhere}
use Rattle.ztree.specs.Tree.{Tree, Path, Nodes, has_node, without_node}
use Rattle.ztree.specs.Room.{HasRoomForLosses}
use Rattle.ztree.specs.Lawful.{AllNodes}
use Rattle.ztree.specs.Laws.{has_path}
use Rattle.ztree.proofs.Sorted.{paths_total, same_path}
use Rattle.ztree.proofs.Maps.{same_some, tied, tied_same}
use Rattle.ztree.proofs.Ending.{found-dropped}
use Rattle.znodes.specs.NodesView.{AreAt}

abbrev Places : Type 0
Places = FinMap id_cmp Path

-- the first of some Ids names the first of their paths
pub record NamesFirst (places : Places) (id : Id) (ids : Ids) (paths : List Path) : Type 0 where
  pub first : Path
  pub others : List Path
  pub both : paths ≡ first ∷ others
  pub at : finite.get places id ≡ Some first
  pub rest : AreAt places ids others

pub names_first : (places : Places) (id : Id) (ids : Ids) (paths : List Path) → AreAt places (id ∷ ids) paths → NamesFirst places id ids paths
names_first places id ids [] named = absurd named
names_first places id ids (path ∷ paths) named = record { first = path; others = paths; both = refl; at = named.0; rest = named.1 }

pub no_ids : (places : Places) (paths : List Path) → AreAt places [] paths → paths ≡ []
no_ids places [] named = refl
no_ids places (path ∷ paths) named = absurd named

-- Ids name no other paths
pub same_paths : (places : Places) (ids : Ids) (p q : List Path) → AreAt places ids p → AreAt places ids q → p ≡ q
same_paths places [] p q a b = no_ids places p a ∙ sym (no_ids places q b)
same_paths places (id ∷ ids) [] q a b = absurd a
same_paths places (id ∷ ids) (x ∷ p) [] a b = absurd b
same_paths places (id ∷ ids) (x ∷ p) (y ∷ q) a b =
    let first = same_some x y (sym a.0 ∙ b.0) in
    let rest = same_paths places ids p q a.1 b.1 in
    λ i. first i ∷ rest i

pub count_paths : (places : Places) (ids : Ids) (paths : List Path) → AreAt places ids paths → length ids ≡ length paths
count_paths places [] [] named = refl
count_paths places [] (path ∷ paths) named = absurd named
count_paths places (id ∷ ids) [] named = absurd named
count_paths places (id ∷ ids) (path ∷ paths) named = let rest = count_paths places ids paths named.1 in omega (arith, rest)

not_either : (a b : Bool) → (a || b) ≡ false → (a ≡ false) × (b ≡ false)
not_either true b e = cc
not_either false b e = (refl, e)

-- an Id forgotten, the others name what they named
pub others_named : (places : Places) (id : Id) (path : Path) → finite.get places id ≡ Some path → (ids : Ids) (paths : List Path) → has_path paths path ≡ false → AreAt places ids paths → AreAt (finite.remove places id) ids paths
others_named places id path at [] [] other named = tt
others_named places id path at [] (q ∷ paths) other named = absurd named
others_named places id path at (i ∷ ids) [] other named = absurd named
others_named places id path at (i ∷ ids) (q ∷ paths) other named =
    let parts = not_either (eq_by_cmp path_cmp path q) (has_path paths path) other in
    let apart : i ≢ id = λ same.
    let here : path ≡ q = same_some path q (sym at ∙ ap (finite.get places) (sym same) ∙ named.0) in
    let clash : false ≡ true = sym parts.0 ∙ ap (eq_by_cmp path_cmp path) (sym here) ∙ tied paths_total same_path path in
    cc in
    (get-remove-elsewhere places id i apart ∙ named.0, others_named places id path at ids paths parts.1 named.1)

-- Ids of which each path has its node still
pub still_named : (old new : Places) (nodes : Nodes) → ((id : Id) (path : Path) → finite.get old id ≡ Some path → has_node nodes path ≡ true → finite.get new id ≡ Some path) → (ids : Ids) (paths : List Path) → AllByRecursion (λ path. has_node nodes path ≡ true) paths → AreAt old ids paths → AreAt new ids paths
still_named old new nodes keeps [] [] there named = tt
still_named old new nodes keeps [] (path ∷ paths) there named = absurd named
still_named old new nodes keeps (id ∷ ids) [] there named = absurd named
still_named old new nodes keeps (id ∷ ids) (path ∷ paths) there named =
    (keeps id path named.0 there.0, still_named old new nodes keeps ids paths there.1 named.1)

-- room for one loss fewer, once one was taken
pub room-dropped : (t : Tree) (path : Path) (ids : Ids) (id : Id) → AllNodes (HasRoomForLosses (length (id ∷ ids))) t.nodes → AllNodes (HasRoomForLosses (length ids)) (without_node t path).nodes
room-dropped t path ids id room q m found =
    let n = found-dropped t path q m found in
    let before = room q n.0 n.1 in
    let bound = n.2.bound in
    omega (arith, before, bound)

-- what holds of some paths holds of others that are the same
module _ (P : Path → Type 0) where
  of_all : (paths : List Path) (q : Path) → AllByRecursion P paths → has_path paths q ≡ true → P q
  of_all [] q all has = cc
  of_all (path ∷ paths) q all has = by (eq_by_cmp path_cmp q path) refl has (of_all paths q all.1)
    where
      by : (b : Bool) → eq_by_cmp path_cmp q path ≡ b → (b || has_path paths q) ≡ true → (has_path paths q ≡ true → P q) → P q
      by true same h rest = subst P (sym (tied_same paths_total same_path q path same)) all.0
      by false other h rest = rest h

  each_of : (paths : List Path) → ((q : Path) → has_path paths q ≡ true → P q) → AllByRecursion P paths
  each_of [] each = tt
  each_of (path ∷ paths) each = (
    each path (ap (λ b. b || has_path paths path) (tied paths_total same_path path)),
    each_of paths (λ q has. each q (ap (λ b. eq_by_cmp path_cmp q path || b) has ∙ either (eq_by_cmp path_cmp q path))),
  )
    where
      either : (b : Bool) → (b || true) ≡ true
      either true = refl
      either false = refl

  pub all_alike : (ps qs : List Path) → ((q : Path) → has_path ps q ≡ has_path qs q) → AllByRecursion P qs → AllByRecursion P ps
  all_alike ps qs same all = each_of ps (λ q has. of_all qs q all (sym (same q) ∙ has))
