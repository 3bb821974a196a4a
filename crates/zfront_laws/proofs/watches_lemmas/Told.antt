-- After a look all watches know the nodes.
use Rattle.std.proofs.Common.{◌≡◌, ◌∙◌, Bool, true, false, List, [], ◌∷◌, Option, Some, None, refl, sym, ap, subst, inl, inr}
use mathlib.Core.Bool.{true≢false}
use Rattle.std.specs.Prelude.{◌⊎◌, is_some}
use Rattle.std.specs.Option.{option_map}
use Rattle.std.specs.FinMap as finite
use Rattle.ztree.specs.declared.node.Node.{Node}
use Rattle.ztree.specs.Tree.{Tree, Nodes, Path, has_node}
use Rattle.zcalls.specs.Lists.{Among}
use Rattle.zjute.specs.declared.event.EventKind.TheVariants.{NodeDeleted, NodeChildrenChanged}
use Rattle.zwatches.specs.declared.changes.event.Event.{Event}
use Rattle.zwatches.specs.changes.Events.{event}
use Rattle.zwatches.specs.changes.Laws.{but_children, data_at, children_at}
use Rattle.zwatches.specs.declared.kind.Kind.{Kind}
use Rattle.zwatches.specs.declared.kind.Kind.TheVariants.{Data, Missing, Children, EachData, EachChildren, Recursive}
use Rattle.zwatches.specs.declared.watch.Watch.{Watch}
use Rattle.zwatches.specs.Watches.{fires_once}
use Rattle.zwatches.specs.Events.{fires}
use Rattle.zwatches.proofs.Worked.{ends_once}
use Rattle.zfront.specs.Front.{FrontView}
use Rattle.zfront_laws.specs.watches.Watching.{IsSameAt, is_told}
use Rattle.zfront_laws.proofs.watches_lemmas.Keeping.{IsRight, no_data, there_children, there_data}
use Rattle.zfront_laws.proofs.watches_lemmas.Looking.{gone_seen, less_seen, seen_now}
use Rattle.zfront_laws.proofs.watches_lemmas.Standing.{In, Unfired, fires_data, fires_children, fires_each_data, fires_each_children, fires_recursive}
use Rattle.zfront_laws.proofs.watches_lemmas.Taking.{Loses}
use Rattle.zfront_laws.proofs.watches_lemmas.Telling.{Tells, knows, told_all, told_fired, told_once}
use Rattle.zfront_laws.proofs.watches_lemmas.Watched.{Covers}

-- a watch that events don't end is told of each that fires it
tells_if : (e : Event) (w : Watch) (b : Bool) → fires_once w.kind ≡ b → fires e.kind e.path w ≡ true → (fires_once w.kind ≡ true → ⊥) → is_told e w ≡ true
tells_if e w true once fired stays = absurd (stays once)
tells_if e w false each fired stays = told_fired e w each fired

reached : (w : Watch) (es : List Event) → Unfired w es → (e : Event) → Among e es → fires e.kind e.path w ≡ true → Tells es w e.path
reached w [] unfired e none fired = none
reached w (first ∷ es) unfired e (inl here) fired =
    let it : fires first.kind first.path w ≡ true = ap (λ (e : Event). fires e.kind e.path w) here ∙ fired in
    inl (
      tells_if first w (fires_once w.kind) refl it
          (λ once. true≢false (sym it ∙ sym (ends_once first.kind first.path w once) ∙ unfired.0)),
      ap (λ (e : Event). e.path) here,
    )
reached w (first ∷ es) unfired e (inr there) fired = inr (reached w es unfired.1 e there fired)

none_read : {X : Type 0} (f : Node → X) (o : Option Node) → option_map f o ≡ None → o ≡ None
none_read f None is = refl
none_read f (Some n) is = absurd (cc is)

some_read : (o : Option Node) (none : o ≡ None) (z : _) → option_map (λ (n : Node). n.pzxid) o ≡ Some z → ⊥
some_read o none z last = absurd (cc (sym (ap (option_map (λ (n : Node). n.pzxid)) none) ∙ last))

module _ (old : FrontView) (t : Tree) (paths : List Path) (covers : Covers old t paths)
    (loses : (path : Path) → Loses t.zxid old.tree.nodes t.nodes path) (w : Watch) (stood : In old.tables w)
    (before : Nodes) (unfired : Unfired w (seen_now t paths)) where
  abbrev es : List Event
  es = seen_now t paths

  abbrev known : Nodes
  known = told_all t.nodes es w before

  module _ (q : Path) (goes : fires NodeDeleted q w ≡ true) where
    -- it is told of a node that is gone
    gone_tells : has_node old.tree.nodes q ≡ true → finite.get t.nodes q ≡ None → Tells es w q
    gone_tells there none = by (covers.all w q stood goes there)
      where
        by : Among q paths ⊎ (finite.get t.nodes q ≡ finite.get old.tree.nodes q) → Tells es w q
        by (inl among) = reached w es unfired (event NodeDeleted q) (gone_seen t q paths none among) goes
        by (inr same) = absurd (true≢false (sym there ∙ ap is_some (sym same ∙ none)))

    was_none : (Tells es w q → ⊥) → finite.get t.nodes q ≡ None → finite.get old.tree.nodes q ≡ None
    was_none untold none = by (finite.get old.tree.nodes q) refl
      where
        by : (o : Option Node) → finite.get old.tree.nodes q ≡ o → finite.get old.tree.nodes q ≡ None
        by None is = is
        by (Some n) is = absurd (untold (gone_tells (ap is_some is) none))

    data_known : data_at old.tree.nodes q ≡ data_at before q → data_at t.nodes q ≡ data_at known q
    data_known same = knows but_children t.nodes old.tree.nodes before w q es same (λ untold. by untold (loses q).of_data)
      where
        by : (Tells es w q → ⊥) → (data_at t.nodes q ≡ data_at old.tree.nodes q) ⊎ (data_at t.nodes q ≡ None)
            → data_at t.nodes q ≡ data_at old.tree.nodes q
        by untold (inl still) = still
        by untold (inr none) =
            none ∙ sym (ap (option_map but_children) (was_none untold (none_read but_children (finite.get t.nodes q) none)))

    -- and of one that lost a child
    was_there : children_at t.nodes q ≡ Some t.zxid → has_node old.tree.nodes q ≡ true
    was_there last = by (loses q).of_data
      where
        by : (data_at t.nodes q ≡ data_at old.tree.nodes q) ⊎ (data_at t.nodes q ≡ None) → has_node old.tree.nodes q ≡ true
        by (inl still) =
            sym (there_data old.tree.nodes q) ∙ ap is_some (sym still) ∙ there_data t.nodes q
            ∙ sym (there_children t.nodes q) ∙ ap is_some last
        by (inr none) = absurd (some_read (finite.get t.nodes q) (none_read but_children (finite.get t.nodes q) none) t.zxid last)

    children_known : fires NodeChildrenChanged q w ≡ true → children_at old.tree.nodes q ≡ children_at before q → children_at t.nodes q ≡ children_at known q
    children_known changes same = knows (λ n. n.pzxid) t.nodes old.tree.nodes before w q es same (λ untold. by untold (loses q).of_children)
      where
        less : (Tells es w q → ⊥) → children_at t.nodes q ≡ Some t.zxid
            → Among q paths ⊎ (finite.get t.nodes q ≡ finite.get old.tree.nodes q) → children_at t.nodes q ≡ children_at old.tree.nodes q
        less untold last (inl among) =
            absurd (untold (reached w es unfired (event NodeChildrenChanged q) (less_seen t q paths last among) changes))
        less untold last (inr still) = ap (option_map (λ (n : Node). n.pzxid)) still

        by : (Tells es w q → ⊥)
            → (children_at t.nodes q ≡ children_at old.tree.nodes q) ⊎ ((children_at t.nodes q ≡ None) ⊎ (children_at t.nodes q ≡ Some t.zxid))
            → children_at t.nodes q ≡ children_at old.tree.nodes q
        by untold (inl still) = still
        by untold (inr (inl none)) =
            none ∙ sym (ap (option_map (λ (n : Node). n.pzxid)) (was_none untold (none_read (λ n. n.pzxid) (finite.get t.nodes q) none)))
        by untold (inr (inr last)) = less untold last (covers.all w q stood goes (was_there last))

  missing_known : w.kind ≡ Missing → has_node before w.path ≡ false → data_at old.tree.nodes w.path ≡ data_at before w.path
      → data_at t.nodes w.path ≡ data_at before w.path
  missing_known is none same = by (loses w.path).of_data
    where
      by : (data_at t.nodes w.path ≡ data_at old.tree.nodes w.path) ⊎ (data_at t.nodes w.path ≡ None) → data_at t.nodes w.path ≡ data_at before w.path
      by (inl still) = still ∙ same
      by (inr gone) = gone ∙ sym (no_data before w.path none)

  known_at : (k : Kind) → w.kind ≡ k → IsRight k w.path before → IsSameAt k w.path before old.tree.nodes → IsSameAt k w.path known t.nodes
  known_at Data is right same = data_known w.path (fires_data w NodeDeleted is refl) same
  known_at Missing is right same =
      subst (λ ns. data_at t.nodes w.path ≡ data_at ns w.path) (sym (told_once t.nodes es w before (ap fires_once is))) (missing_known is right same)
  known_at Children is right same =
      children_known w.path (fires_children w NodeDeleted is refl) (fires_children w NodeChildrenChanged is refl) same
  known_at EachData is right same = data_known w.path (fires_each_data w NodeDeleted is refl) same
  known_at EachChildren is right same =
      children_known w.path (fires_each_children w NodeDeleted is refl) (fires_each_children w NodeChildrenChanged is refl) same
  known_at Recursive is right same = λ below under. data_known below (fires_recursive w NodeDeleted below is under refl) (same below under)

  pub look_told : IsRight w.kind w.path before → IsSameAt w.kind w.path before old.tree.nodes → IsSameAt w.kind w.path known t.nodes
  look_told right same = known_at w.kind refl right same
