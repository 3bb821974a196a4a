-- Watches that stay: once told of all events, they know what they wait for as it is.
use Rattle.std.proofs.Common.{◌≡◌, ◌≢◌, ◌∙◌, Bool, true, false, List, [], ◌∷◌, Option, Some, None, refl, sym, ap, inl, inr}
use Rattle.std.specs.Prelude.{◌⊎◌, ◌||◌, ◌&&◌, not, if◌then◌else◌}
use mathlib.Core.Bool.{true≢false}
use Rattle.std.specs.List.{AllByRecursion}
use Rattle.std.specs.Option.{option_map, option_map_or}
use Rattle.std.specs.FinMap as finite
use Rattle.ztree.specs.declared.node.Node.{Node}
use Rattle.ztree.specs.Tree.{Path, Nodes}
use Rattle.ztree.proofs.Maps.{same_or_other, get-insert-here, get-remove-here, get-remove-elsewhere}
use Rattle.ztree.proofs.Nodes.{get-insert-other}
use Rattle.ztree.proofs.Sorted.{paths_total, same_path}
use Rattle.zjute.specs.declared.event.EventKind.{EventKind}
use Rattle.zwatches.specs.changes.Events.{event}
use Rattle.zwatches.specs.changes.Laws.{Misses}
use Rattle.zwatches.specs.declared.changes.event.Event.{Event}
use Rattle.zwatches.specs.declared.watch.Watch.{Watch}
use Rattle.zwatches.specs.Events.{fires}
use Rattle.zwatches.specs.Watches.{fires_once}
use Rattle.zfront_laws.specs.watches.Watching.{is_told, makes, told, with_node}

-- the node at the path is as it is now, and any other is as it was
get-with_node-here : (now : Nodes) (path : Path) (before : Nodes) → finite.get (with_node now path before) path ≡ finite.get now path
get-with_node-here now path before = by (finite.get now path)
  where
    by : (o : Option Node) → finite.get (option_map_or (λ n. finite.insert before path n) o (finite.remove before path)) path ≡ o
    by None = get-remove-here paths_total same_path before path
    by (Some n) = get-insert-here paths_total same_path before path n

get-with_node-other : (now : Nodes) (path : Path) (before : Nodes) (q : Path) → q ≢ path → finite.get (with_node now path before) q ≡ finite.get before q
get-with_node-other now path before q other = by (finite.get now path)
  where
    by : (o : Option Node) → finite.get (option_map_or (λ n. finite.insert before path n) o (finite.remove before path)) q ≡ finite.get before q
    by None = get-remove-elsewhere paths_total same_path before path q other
    by (Some n) = get-insert-other before path n q other

-- a watch is told of events, one after the other
abbrev pub told_all : Nodes → List Event → Watch → Nodes → Nodes
told_all now [] w before = before
told_all now (e ∷ es) w before = told_all now es w (told now e w before)

-- a watch that waits for one change is told nothing
pub told_once : (now : Nodes) (es : List Event) (w : Watch) (before : Nodes) → fires_once w.kind ≡ true → told_all now es w before ≡ before
told_once now [] w before once = refl
told_once now (e ∷ es) w before once =
    ap (λ b. told_all now es w (if not b && (fires e.kind e.path w || makes e w) then with_node now e.path before else before)) once
    ∙ told_once now es w before once

-- any other is told of an event that fires it
pub told_fired : (e : Event) (w : Watch) → fires_once w.kind ≡ false → fires e.kind e.path w ≡ true → is_told e w ≡ true
told_fired e w each fired =
    ap (λ b. not b && (fires e.kind e.path w || makes e w)) each ∙ ap (λ b. b || makes e w) fired

-- one of the events tells the watch of the node at this path
abbrev pub Tells : List Event → Watch → Path → Type 0
Tells [] w q = ⊥
Tells (e ∷ es) w q = ((is_told e w ≡ true) × (e.path ≡ q)) ⊎ Tells es w q

module _ (now : Nodes) (w : Watch) (q : Path) where
  -- what is as it is now stays so
  told_stays : (e : Event) (before : Nodes) → finite.get before q ≡ finite.get now q → finite.get (told now e w before) q ≡ finite.get now q
  told_stays e before same = by (is_told e w)
    where
      near : (q ≡ e.path) ⊎ (q ≢ e.path) → finite.get (with_node now e.path before) q ≡ finite.get now q
      near (inl here) =
          ap (λ p. finite.get (with_node now e.path before) p) here ∙ get-with_node-here now e.path before
          ∙ ap (λ p. finite.get now p) (sym here)
      near (inr other) = get-with_node-other now e.path before q other ∙ same

      by : (b : Bool) → finite.get (if b then with_node now e.path before else before) q ≡ finite.get now q
      by true = near (same_or_other paths_total same_path q e.path)
      by false = same

  told_all_stays : (es : List Event) (before : Nodes) → finite.get before q ≡ finite.get now q → finite.get (told_all now es w before) q ≡ finite.get now q
  told_all_stays [] before same = same
  told_all_stays (e ∷ es) before same = told_all_stays es (told now e w before) (told_stays e before same)

  told_here : (e : Event) (before : Nodes) → is_told e w ≡ true → e.path ≡ q → finite.get (told now e w before) q ≡ finite.get now q
  told_here e before tells at =
      ap (λ b. finite.get (if b then with_node now e.path before else before) q) tells
      ∙ ap (λ p. finite.get (with_node now e.path before) p) (sym at)
      ∙ get-with_node-here now e.path before
      ∙ ap (λ p. finite.get now p) at

  -- the node of which it is told is known as it is
  pub told_all_tells : (es : List Event) (before : Nodes) → Tells es w q → finite.get (told_all now es w before) q ≡ finite.get now q
  told_all_tells [] before none = absurd none
  told_all_tells (e ∷ es) before (inl here) = told_all_stays es (told now e w before) (told_here e before here.0 here.1)
  told_all_tells (e ∷ es) before (inr there) = told_all_tells es (told now e w before) there

  -- and one of which it isn't told, as it was
  untold : (e : Event) (before : Nodes) → (is_told e w ≡ true → e.path ≢ q) → finite.get (told now e w before) q ≡ finite.get before q
  untold e before not_here = by (is_told e w) not_here
    where
      by : (b : Bool) → (b ≡ true → e.path ≢ q) → finite.get (if b then with_node now e.path before else before) q ≡ finite.get before q
      by true other = get-with_node-other now e.path before q (λ same. other refl (sym same))
      by false other = refl

  pub told_all_leaves : (es : List Event) (before : Nodes) → (Tells es w q → ⊥) → finite.get (told_all now es w before) q ≡ finite.get before q
  told_all_leaves [] before none = refl
  told_all_leaves (e ∷ es) before none =
      told_all_leaves es (told now e w before) (λ there. none (inr there))
      ∙ untold e before (λ tells at. none (inl (tells, at)))

-- ---- whether it is told of a node

tells_or_not : (es : List Event) (w : Watch) (q : Path) → Tells es w q ⊎ (Tells es w q → ⊥)
tells_or_not [] w q = inr (λ none. none)
tells_or_not (e ∷ es) w q = by (is_told e w) refl (same_or_other paths_total same_path e.path q) (tells_or_not es w q)
  where
    by : (b : Bool) → is_told e w ≡ b → (e.path ≡ q) ⊎ (e.path ≢ q) → Tells es w q ⊎ (Tells es w q → ⊥) → Tells (e ∷ es) w q ⊎ (Tells (e ∷ es) w q → ⊥)
    by b is at (inl there) = inl (inr there)
    by true is (inl at) (inr none) = inl (inl (is, at))
    by true is (inr other) (inr none) = inr (λ either. elim either as (λ x. ⊥) [ inl here ↦ other here.1 | inr there ↦ none there ])
    by false is at (inr none) = inr (λ either. elim either as (λ x. ⊥) [ inl here ↦ true≢false (sym here.0 ∙ is) | inr there ↦ none there ])

-- none is at the path
abbrev pub IsNowhere : Path → List Event → Type 0
IsNowhere q es = AllByRecursion (λ e. e.path ≢ q) es

pub untold_nowhere : (es : List Event) (w : Watch) (q : Path) → IsNowhere q es → Tells es w q → ⊥
untold_nowhere [] w q nowhere none = none
untold_nowhere (e ∷ es) w q nowhere (inl here) = nowhere.0 here.1
untold_nowhere (e ∷ es) w q nowhere (inr there) = untold_nowhere es w q nowhere.1 there

-- each is at another path
abbrev pub AreApart : List Event → Type 0
AreApart [] = Unit {0}
AreApart (e ∷ es) = IsNowhere e.path es × AreApart es

-- What is read of each node is known to a watch that is told of events, where it knew the nodes of before. For if it isn't
-- told of a node, this is as before
module _ {X : Type 0} (f : Node → X) (now earlier before : Nodes) (w : Watch) (q : Path) (all : List Event)
    (same : option_map f (finite.get earlier q) ≡ option_map f (finite.get before q))
    (rest : (Tells all w q → ⊥) → option_map f (finite.get now q) ≡ option_map f (finite.get earlier q)) where
  pub knows : option_map f (finite.get now q) ≡ option_map f (finite.get (told_all now all w before) q)
  knows = by (tells_or_not all w q)
    where
      by : Tells all w q ⊎ (Tells all w q → ⊥) → option_map f (finite.get now q) ≡ option_map f (finite.get (told_all now all w before) q)
      by (inl told) = ap (option_map f) (sym (told_all_tells now w q all before told))
      by (inr none) = rest none ∙ same ∙ ap (option_map f) (sym (told_all_leaves now w q all before none))

-- events that don't tell it of a node don't report what it is told of
pub untold_misses : (reports : EventKind → Bool) (w : Watch) (q : Path) → ((k : EventKind) → reports k ≡ true → is_told (event k q) w ≡ true)
    → (es : List Event) → (Tells es w q → ⊥) → Misses reports q es
untold_misses reports w q tells [] none = tt
untold_misses reports w q tells (e ∷ es) none = (
  λ does at. none (inl (ap (λ p. is_told (event e.kind p) w) at ∙ tells e.kind does, at)),
  untold_misses reports w q tells es (λ there. none (inr there)),
)
