-- A watch that an update's event fires has a change: what it waits for differs from what it knows.
use Rattle.std.proofs.Common.{◌≡◌, ◌∙◌, ◌+◌, ◌<◌, ℕ, Bool, true, false, List, Option, Some, None, refl, sym, ap, subst}
use Rattle.std.proofs.Common.{inl, inr, arith, if◌then◌else◌}
use mathlib.Core.Bool.{true≢false}
use Rattle.std.specs.Prelude.{◌⊎◌, is_some}
use Rattle.std.specs.Option.{option_map}
use Rattle.std.specs.FinMap as finite
use Rattle.ztree.specs.declared.node.Node.{Node}
use Rattle.ztree.specs.Lawful.{IsLawful}
use Rattle.ztree.specs.Tree.{Tree, Path, Nodes, has_node}
use Rattle.ztree.proofs.Maps.{none_some, same_some}
use Rattle.zcalls.specs.Lists.{Among}
use Rattle.zcalls.specs.declared.call.Update.{Update as Act}
use Rattle.zcalls.specs.declared.call.Update.TheVariants as act
use Rattle.zcalls.specs.declared.reply.Reply.{Reply}
use Rattle.zcalls.specs.declared.reply.Reply.TheVariants as reply
use Rattle.zcalls.specs.CallRuns.{is_change}
use Rattle.zcalls.specs.Step.{step}
use Rattle.zcalls.proofs.Taking.{changes_take_one_zxid}
use Rattle.zwatches.specs.declared.changes.event.Event.{Event}
use Rattle.zwatches.specs.changes.Events.{events_of}
use Rattle.zwatches.specs.changes.Laws.{but_children, data_at, children_at, reports_data}
use Rattle.zwatches.specs.declared.kind.Kind.{Kind}
use Rattle.zwatches.specs.declared.kind.Kind.TheVariants.{Data, Missing, Children, EachData, EachChildren, Recursive}
use Rattle.zwatches.specs.declared.watch.Watch.{Watch}
use Rattle.zwatches.specs.Watches.{fires_once}
use Rattle.zwatches.specs.Events.{fires}
use Rattle.zops.specs.RestoredLaws.{IsSettled}
use Rattle.zfront_laws.specs.watches.Watching.{Scene, tree_of, IsSameAt, takes_more}
use Rattle.zfront_laws.proofs.watches_lemmas.Keeping.{IsRight, there_children, there_data}
use Rattle.zfront_laws.proofs.watches_lemmas.Scenes.{is_lawful, is_older}
use Rattle.zfront_laws.proofs.watches_lemmas.Seeing.{IsSeen, Sees, fired_near, fired_sees}
use Rattle.zfront_laws.proofs.watches_lemmas.Single.{IsSingle, OfMulti, Stood, single_or_multi}
use Rattle.zfront_laws.proofs.watches_lemmas.Telling.{AreApart}
use Rattle.zfront_laws.proofs.watches_lemmas.Touching.{Dated, update_touches}
use Rattle.zfront_laws.proofs.watches_lemmas.Waiting.{reports_loss}

-- an update with an event is a change
pub changes_with_events : (u : Act) (reported : Reply) (e : Event) → Among e (events_of u reported) → is_change reported ≡ true
changes_with_events (act.Create create) (reply.Created path) e among = refl
changes_with_events (act.Delete delete) reply.Deleted e among = refl
changes_with_events (act.SetData set) (reply.Set stat) e among = refl
changes_with_events (act.Multi parts) (reply.Multi replies) e among = refl
changes_with_events u reported e among = absurd among

late_and_early : (a b z : ℕ) → a ≡ z → b < z → a ≡ b → ⊥
late_and_early a b z late early same = absurd (omega (arith, late, early, same))

-- what is read of a node differs after a change that has touched it
module _ {X : Type 0} (f : Node → X) (zxid_of : Node → ℕ) (reads : (m n : Node) → f m ≡ f n → zxid_of m ≡ zxid_of n) (z : ℕ)
    (old now : Nodes) (path : Path) (dated : Dated zxid_of z now path)
    (older : (n : Node) → finite.get old path ≡ Some n → zxid_of n < z) where
  differs : Stood old now path → option_map f (finite.get now path) ≡ option_map f (finite.get old path) → ⊥
  differs = by (finite.get old path) refl (finite.get now path) refl
    where
      by : (o : Option Node) → finite.get old path ≡ o → (p : Option Node) → finite.get now path ≡ p
          → (is_some o ≡ true) ⊎ (is_some p ≡ true) → option_map f p ≡ option_map f o → ⊥
      by None was None is (inl none) same = true≢false (sym none)
      by None was None is (inr none) same = true≢false (sym none)
      by None was (Some n) is stood same = none_some (f n) (sym same)
      by (Some m) was None is stood same = none_some (f m) same
      by (Some m) was (Some n) is stood same =
          late_and_early (zxid_of n) (zxid_of m) z (dated n is) (older m was) (reads n m (same_some (f n) (f m) same))

-- where nothing changes for a watch that isn't told, what is read of the node is as it was
module _ {X : Type 0} (f : Node → X) (path : Path) (w : Watch) (sees : Sees f path w) (old before known now : Nodes) where
  pub seen_same : IsSameAt w.kind w.path before old → finite.get known path ≡ finite.get before path → IsSameAt w.kind w.path known now
      → option_map f (finite.get now path) ≡ option_map f (finite.get old path)
  seen_same was untold same = sees known now same ∙ ap (option_map f) untold ∙ sym (sees before old was)

-- a watch that takes no more was set over a node, and is there where its node is
once_there : (k : Kind) (path : Path) (before now : Nodes) → takes_more k ≡ false → IsRight k path before → IsSameAt k path before now
    → has_node now path ≡ true
once_there Data path before now is right same = sym (there_data now path) ∙ ap is_some same ∙ there_data before path ∙ right
once_there Children path before now is right same = sym (there_children now path) ∙ ap is_some same ∙ there_children before path ∙ right
once_there Missing path before now is right same = absurd (true≢false is)
once_there EachData path before now is right same = absurd (true≢false is)
once_there EachChildren path before now is right same = absurd (true≢false is)
once_there Recursive path before now is right same = absurd (true≢false is)

takes_one : (k : Kind) → takes_more k ≡ false → fires_once k ≡ true
takes_one Data is = refl
takes_one Children is = refl
takes_one Missing is = absurd (true≢false is)
takes_one EachData is = absurd (true≢false is)
takes_one EachChildren is = absurd (true≢false is)
takes_one Recursive is = absurd (true≢false is)

at_its_path : (path : Path) (w : Watch) → takes_more w.kind ≡ false → (w.kind ≡ Recursive) ⊎ (w.path ≡ path) → w.path ≡ path
at_its_path path w is (inl recursive) = absurd (true≢false (sym (ap takes_more recursive) ∙ is))
at_its_path path w is (inr same) = same

module _ (s : Scene) (settled : IsSettled s.start) (u : Act) (e : Event) (w : Watch) (before known : Nodes) where
  abbrev t : Tree
  t = tree_of s

  abbrev now : Nodes
  now = (step t 0 u).0.nodes

  abbrev es : List Event
  es = events_of u (step t 0 u).1

  next : is_change (step t 0 u).1 ≡ true → (step t 0 u).0.zxid ≡ t.zxid + 1
  next is = changes_take_one_zxid t 0 u ∙ ap (λ b. t.zxid + (if b then 1 else 0)) is

  data_differs : Among e es → reports_data e.kind ≡ true → Stood t.nodes now e.path → data_at now e.path ≡ data_at t.nodes e.path → ⊥
  data_differs among reports =
      let change = changes_with_events u (step t 0 u).1 e among in
      differs but_children (λ n. n.mzxid) (λ m n is. ap (λ (n : Node). n.mzxid) is) (t.zxid + 1) t.nodes now e.path
      ((update_touches t u e.path).0 (e, among, reports, refl))
      (λ n found. subst (λ z. n.mzxid < z) (next change) (is_older s settled u e.path n change found).mzxid)

  children_differ : Among e es → reports_loss e.kind ≡ true → Stood t.nodes now e.path → children_at now e.path ≡ children_at t.nodes e.path → ⊥
  children_differ among reports =
      let change = changes_with_events u (step t 0 u).1 e among in
      differs (λ n. n.pzxid) (λ n. n.pzxid) (λ m n is. is) (t.zxid + 1) t.nodes now e.path
      ((update_touches t u e.path).1 (e, among, reports, refl))
      (λ n found. subst (λ z. n.pzxid < z) (next change) (is_older s settled u e.path n change found).pzxid)

  changed : Among e es → fires e.kind e.path w ≡ true → IsSameAt w.kind w.path before t.nodes → Stood t.nodes now e.path
      → finite.get known e.path ≡ finite.get before e.path → IsSameAt w.kind w.path known now → ⊥
  changed among fired was stood untold same = by (fired_sees e.kind e.path w fired)
    where
      by : IsSeen e.kind e.path w → ⊥
      by (inl (reports, sees)) = data_differs among reports stood (seen_same but_children e.path w sees t.nodes before known now was untold same)
      by (inr (reports, sees)) =
          children_differ among reports stood (seen_same (λ (n : Node). n.pzxid) e.path w sees t.nodes before known now was untold same)

  -- a watch has a change where an event fires it, or it takes more of a multi
  pub has_changed : IsLawful (step t 0 u).0 → Among e es → fires e.kind e.path w ≡ true → IsRight w.kind w.path before
      → IsSameAt w.kind w.path before t.nodes → (fires_once w.kind ≡ true → known ≡ before)
      → (AreApart es → finite.get known e.path ≡ finite.get before e.path)
      → (IsSameAt w.kind w.path known now → ⊥) ⊎ ((takes_more w.kind ≡ true) × OfMulti u)
  has_changed lawful among fired right was once untold = by (single_or_multi t u (is_lawful s settled) lawful)
    where
      in_multi : OfMulti u → (b : Bool) → takes_more w.kind ≡ b → (IsSameAt w.kind w.path known now → ⊥) ⊎ ((takes_more w.kind ≡ true) × OfMulti u)
      in_multi multi true more = inr (more, multi)
      in_multi multi false one =
          let there = subst (λ path. has_node t.nodes path ≡ true) (at_its_path e.path w one (fired_near e.kind e.path w fired))
          (once_there w.kind w.path before t.nodes one right was) in
          inl (changed among fired was (inl there) (ap (λ (nodes : Nodes). finite.get nodes e.path) (once (takes_one w.kind one))))

      by : OfMulti u ⊎ IsSingle t.nodes now es → (IsSameAt w.kind w.path known now → ⊥) ⊎ ((takes_more w.kind ≡ true) × OfMulti u)
      by (inl multi) = in_multi multi (takes_more w.kind) refl
      by (inr single) = inl (changed among fired was (single.stood e among) (untold single.apart))
