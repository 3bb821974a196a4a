-- The paths that different Ids name: each path is there once.
use Rattle.std.proofs.Common.{◌≡◌, inl, inr, Bool, true, false, ◌||◌, List, [], ◌∷◌, Some, refl, sym, ap, ◌∙◌}
use mathlib.Core.Path.{subst}
use Rattle.std.specs.Ordering.{eq_by_cmp}
use Rattle.zpath.specs.Grammar.{path_cmp}
use Rattle.zslots.specs.declared.id.Id.{Id}
use Rattle.zslots.specs.Ids.{Ids, IsIn, NotIn, NoTwo}
use Rattle.zslots.proofs.Members.{never_both}
use Rattle.ztree.specs.Tree.{Path}
use Rattle.ztree.specs.Laws.{has_path, NoneTwice}
use Rattle.ztree.proofs.Sorted.{paths_total, same_path}
use Rattle.ztree.proofs.Maps.{same_some, tied, tied_same}
use Rattle.znodes.specs.declared.nodes.Nodes.TheInside.{Inside}
use Rattle.znodes.specs.NodesView.{NodesView, AreAt, path_of}
use Rattle.znodes.specs.support.Rows.{IsLinked}
use Rattle.znodes.specs.support.Fields.{view_of}
use Rattle.znodes.specs.support.Reading.{paths_at}
use Rattle.znodes.proofs.Linked.{live-row, parent-named}

-- the paths that Ids name
module _ (s : Inside) (linked : IsLinked s.slots.items s.index.ids s.owners) (v : NodesView) (shown : view_of s ≡ v) where
  -- a path is that of one Id alone
  one-id : (a b : Id) (path : Path) → path_of v a ≡ Some path → path_of v b ≡ Some path → a ≡ b
  one-id a b path e f = same_some a b (sym (parent-named s v shown linked a path e) ∙ parent-named s v shown linked b path f)

  -- the Id names a path
  abbrev pub HasPath : Id → Type 0
  HasPath id = (path : Path) × (path_of v id ≡ Some path)

  -- the paths of these Ids
  pub record TheirPaths (ids : Ids) : Type 0 where
    pub paths : List Path
    pub named : AreAt v.places ids paths
    pub of_ids : (path : Path) → has_path paths path ≡ true → (id : Id) × IsIn id ids × (path_of v id ≡ Some path)
    pub all_ids : (id : Id) → IsIn id ids → (path : Path) → path_of v id ≡ Some path → has_path paths path ≡ true
    pub once : NoneTwice path_cmp paths

  not_again : (id : Id) (ids : Ids) → NotIn id ids → (path : Path) → path_of v id ≡ Some path → (rest : TheirPaths ids) → (b : Bool) → has_path rest.paths path ≡ b → b ≡ false
  not_again id ids free path at rest false is = refl
  not_again id ids free path at rest true is =
      let other = rest.of_ids path is in
      absurd (never_both id ids (subst (λ i. IsIn i ids) (one-id other.0 id path other.2 at) other.1) free)

  pub their-paths : (ids : Ids) → NoTwo ids → ((id : Id) → IsIn id ids → HasPath id) → TheirPaths ids
  their-paths [] apart all_named = record { paths = []; named = tt; of_ids = λ path e. cc; all_ids = λ id has path e. absurd has; once = tt }
  their-paths (id ∷ ids) apart all_named =
      let first = all_named id (inl refl) in
      let rest = their-paths ids apart.1 (λ i has. all_named i (inr has)) in
      record {
        paths = first.0 ∷ rest.paths;
        named = (first.1, rest.named);
        of_ids = λ path e. at_first path first.0 first.1 (rest.of_ids path) (eq_by_cmp path_cmp path first.0) refl e;
        all_ids = λ i has path e. all i path has first.0 first.1 rest e;
        once = (not_again id ids apart.0 first.0 first.1 rest (has_path rest.paths first.0) refl, rest.once);
      }
    where
      at_first : (path here : Path) → path_of v id ≡ Some here → {more : Bool} → (more ≡ true → (i : Id) × IsIn i ids × (path_of v i ≡ Some path)) → (b : Bool) → eq_by_cmp path_cmp path here ≡ b → (b || more) ≡ true → (i : Id) × IsIn i (id ∷ ids) × (path_of v i ≡ Some path)
      at_first path here at rest true same e = (id, inl refl, at ∙ ap Some (sym (tied_same paths_total same_path path here same)))
      at_first path here at rest false same e = let found = rest e in (found.0, inr found.1, found.2)

      all : (i : Id) (path : Path) → IsIn i (id ∷ ids) → (here : Path) → path_of v id ≡ Some here → (rest : TheirPaths ids) → path_of v i ≡ Some path → (eq_by_cmp path_cmp path here || has_path rest.paths path) ≡ true
      all i path (inl is) here at rest e =
          let same : path ≡ here = same_some path here (sym e ∙ ap (path_of v) is ∙ at) in
          ap (λ q. eq_by_cmp path_cmp q here || has_path rest.paths path) same ∙ ap (λ b. b || has_path rest.paths path) (tied paths_total same_path here)
      all i path (inr has) here at rest e = ap (λ b. eq_by_cmp path_cmp path here || b) (rest.all_ids i has path e) ∙ either (eq_by_cmp path_cmp path here)
        where
          either : (b : Bool) → (b || true) ≡ true
          either true = refl
          either false = refl

  -- they are read from the rows
  pub paths-read : (ids : Ids) (paths : List Path) → AreAt v.places ids paths → paths_at s.slots.items ids ≡ paths
  paths-read [] [] at = refl
  paths-read [] (path ∷ paths) at = absurd at
  paths-read (id ∷ ids) [] at = absurd at
  paths-read (id ∷ ids) (path ∷ paths) at =
      let row = live-row s.slots.items id path (ap (λ (w : NodesView). path_of w id) shown ∙ at.0) in
      rw (row.1) (λ i. row.2 i ∷ paths-read ids paths at.1 i)
