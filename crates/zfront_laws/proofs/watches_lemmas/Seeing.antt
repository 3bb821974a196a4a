-- What a watch sees at the path of an event that fires it.
use Rattle.std.proofs.Common.{◌≡◌, ◌∙◌, Bool, true, false, List, [], ◌∷◌, refl, sym, ap, subst, inl, inr}
use mathlib.Core.Bool.{true≢false}
use Rattle.std.specs.Prelude.{◌⊎◌, ◌||◌, ◌&&◌, map}
use Rattle.std.specs.List.{list_any}
use Rattle.std.specs.Option.{option_map}
use Rattle.std.specs.FinMap as finite
use Rattle.ztree.specs.declared.node.Node.{Node}
use Rattle.ztree.specs.Tree.{Nodes, Path}
use Rattle.ztree.proofs.Maps.{tied_same}
use Rattle.zcalls.specs.Lists.{Among}
use Rattle.zjute.specs.declared.event.EventKind.{EventKind}
use Rattle.zjute.specs.declared.event.EventKind.TheVariants as kind
use Rattle.zwatches.specs.changes.Laws.{but_children, reports_data}
use Rattle.zwatches.specs.declared.kind.Kind.{Kind}
use Rattle.zwatches.specs.declared.kind.Kind.TheVariants.{Data, Missing, Children, EachData, EachChildren, Recursive}
use Rattle.zwatches.specs.declared.watch.Watch.{Watch}
use Rattle.zwatches.specs.Watches.{Place, place, place_of}
use Rattle.zwatches.specs.Events.{above, fired_at, fires, from_root, is_at}
use Rattle.zwatches.specs.Laws.{is_below, is_of_data}
use Rattle.zwatches.proofs.Order.{places_total, same_place}
use Rattle.zfront_laws.specs.watches.Watching.{IsSameAt}
use Rattle.zfront_laws.proofs.watches_lemmas.Standing.{recursive_fires}
use Rattle.zfront_laws.proofs.watches_lemmas.Waiting.{reports_loss}

-- where nothing changes for the watch, what is read of the node at the path stays
abbrev pub Sees : {X : Type 0} → (Node → X) → Path → Watch → Type 0
Sees f path w = (before now : Nodes) → IsSameAt w.kind w.path before now
    → option_map f (finite.get now path) ≡ option_map f (finite.get before path)

-- a watch that is fired sees there what the event reports
abbrev pub IsSeen : EventKind → Path → Watch → Type 0
IsSeen k path w =
    ((reports_data k ≡ true) × Sees but_children path w) ⊎ ((reports_loss k ≡ true) × Sees (λ (n : Node). n.pzxid) path w)

-- ---- at which position it is

found_at : (w : Watch) (places : List Place) → list_any (λ at. is_at at w) places ≡ true → (at : Place) × Among at places × (place_of w ≡ at)
found_at w [] is = absurd (true≢false (sym is))
found_at w (at ∷ places) is = by (is_at at w) refl is (found_at w places)
  where
    by : (b : Bool) → is_at at w ≡ b → (b || list_any (λ at. is_at at w) places) ≡ true
        → (list_any (λ at. is_at at w) places ≡ true → (p : Place) × Among p places × (place_of w ≡ p))
        → (p : Place) × Among p (at ∷ places) × (place_of w ≡ p)
    by true here holds further = (at, inl refl, tied_same places_total same_place (place_of w) at here)
    by false here holds further = let rest = further holds in (rest.0, inr rest.1, rest.2)

above_recursive : (paths : List Path) (at : Place) → Among at (map (λ p. place p Recursive) paths) → at.kind ≡ Recursive
above_recursive [] at none = absurd none
above_recursive (path ∷ paths) at (inl here) = ap (λ (p : Place). p.kind) (sym here)
above_recursive (path ∷ paths) at (inr there) = above_recursive paths at there

abbrev Near : Path → Watch → Type 0
Near path w = (w.kind ≡ Recursive) ⊎ (w.path ≡ path)

-- ---- what it sees

both_true : (a b : Bool) → (a && b) ≡ true → (a ≡ true) × (b ≡ true)
both_true true b is = (refl, is)
both_true false b is = absurd (true≢false (sym is))

of_data : (k : EventKind) → is_of_data k ≡ true → reports_data k ≡ true
of_data kind.NodeCreated is = refl
of_data kind.NodeDeleted is = refl
of_data kind.NodeDataChanged is = refl
of_data other is = absurd (true≢false (sym is))

module _ (k : EventKind) (path : Path) (w : Watch) where
  same_at : (of : Kind) → place_of w ≡ place path of → (before now : Nodes) → IsSameAt w.kind w.path before now → IsSameAt of path before now
  same_at of is before now = subst (λ (p : Place). IsSameAt p.kind p.path before now) is

  data_seen : reports_data k ≡ true → (of : Kind) → place_of w ≡ place path of
      → ((before now : Nodes) → IsSameAt of path before now → option_map but_children (finite.get now path) ≡ option_map but_children (finite.get before path))
      → IsSeen k path w × Near path w
  data_seen reports of is sees = (
    inl (reports, λ before now same. sees before now (same_at of is before now same)),
    inr (ap (λ (p : Place). p.path) is),
  )

  children_seen : reports_loss k ≡ true → (of : Kind) → place_of w ≡ place path of
      → ((before now : Nodes) → IsSameAt of path before now → option_map (λ (n : Node). n.pzxid) (finite.get now path) ≡ option_map (λ (n : Node). n.pzxid) (finite.get before path))
      → IsSeen k path w × Near path w
  children_seen reports of is sees = (
    inr (reports, λ before now same. sees before now (same_at of is before now same)),
    inr (ap (λ (p : Place). p.path) is),
  )

  recursive_seen : w.kind ≡ Recursive → fires k path w ≡ true → IsSeen k path w × Near path w
  recursive_seen is fired =
      let parts = both_true (is_of_data k) (is_below w.path path) (sym (recursive_fires w k path is) ∙ fired) in (
        inl (
          of_data k parts.0,
          λ before now same. subst (λ of. IsSameAt of w.path before now) is same path parts.1,
        ),
        inl is,
      )

  above_seen : (at : Place) → Among at (above path) → place_of w ≡ at → fires k path w ≡ true → IsSeen k path w × Near path w
  above_seen at among is fired =
      recursive_seen (ap (λ (p : Place). p.kind) is ∙ above_recursive (from_root path) at among) fired

fired_by : (k : EventKind) (path : Path) (w : Watch) → fires k path w ≡ true → (at : Place) → Among at (fired_at k path) → place_of w ≡ at
    → IsSeen k path w × Near path w
fired_by kind.NodeCreated path w fired at (inl here) is =
    data_seen kind.NodeCreated path w refl Data (is ∙ sym here) (λ before now same. same)
fired_by kind.NodeCreated path w fired at (inr (inl here)) is =
    data_seen kind.NodeCreated path w refl Missing (is ∙ sym here) (λ before now same. same)
fired_by kind.NodeCreated path w fired at (inr (inr (inl here))) is =
    data_seen kind.NodeCreated path w refl EachData (is ∙ sym here) (λ before now same. same)
fired_by kind.NodeCreated path w fired at (inr (inr (inr there))) is = above_seen kind.NodeCreated path w at there is fired
fired_by kind.NodeDataChanged path w fired at (inl here) is =
    data_seen kind.NodeDataChanged path w refl Data (is ∙ sym here) (λ before now same. same)
fired_by kind.NodeDataChanged path w fired at (inr (inl here)) is =
    data_seen kind.NodeDataChanged path w refl EachData (is ∙ sym here) (λ before now same. same)
fired_by kind.NodeDataChanged path w fired at (inr (inr there)) is = above_seen kind.NodeDataChanged path w at there is fired
fired_by kind.NodeDeleted path w fired at (inl here) is =
    data_seen kind.NodeDeleted path w refl Data (is ∙ sym here) (λ before now same. same)
fired_by kind.NodeDeleted path w fired at (inr (inl here)) is =
    children_seen kind.NodeDeleted path w refl Children (is ∙ sym here) (λ before now same. same)
fired_by kind.NodeDeleted path w fired at (inr (inr (inl here))) is =
    data_seen kind.NodeDeleted path w refl EachData (is ∙ sym here) (λ before now same. same)
fired_by kind.NodeDeleted path w fired at (inr (inr (inr (inl here)))) is =
    children_seen kind.NodeDeleted path w refl EachChildren (is ∙ sym here) (λ before now same. same)
fired_by kind.NodeDeleted path w fired at (inr (inr (inr (inr there)))) is = above_seen kind.NodeDeleted path w at there is fired
fired_by kind.NodeChildrenChanged path w fired at (inl here) is =
    children_seen kind.NodeChildrenChanged path w refl Children (is ∙ sym here) (λ before now same. same)
fired_by kind.NodeChildrenChanged path w fired at (inr (inl here)) is =
    children_seen kind.NodeChildrenChanged path w refl EachChildren (is ∙ sym here) (λ before now same. same)
fired_by kind.NodeChildrenChanged path w fired at (inr (inr none)) is = absurd none
fired_by other path w fired at none is = absurd none

pub fired_sees : (k : EventKind) (path : Path) (w : Watch) → fires k path w ≡ true → IsSeen k path w
fired_sees k path w fired = let found = found_at w (fired_at k path) fired in (fired_by k path w fired found.0 found.1 found.2).0

-- it is at the path, unless it is recursive
pub fired_near : (k : EventKind) (path : Path) (w : Watch) → fires k path w ≡ true → (w.kind ≡ Recursive) ⊎ (w.path ≡ path)
fired_near k path w fired = let found = found_at w (fired_at k path) fired in (fired_by k path w fired found.0 found.1 found.2).1
