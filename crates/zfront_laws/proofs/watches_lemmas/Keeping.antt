-- What a watch knows after an update, and that all of it is as it is.
use Rattle.std.proofs.Common.{◌≡◌, ◌∙◌, true, false, List, Option, Some, None, refl, sym, ap, subst}
use Rattle.std.specs.Prelude.{is_some}
use Rattle.std.specs.Option.{option_map}
use Rattle.std.specs.FinMap as finite
use Rattle.ztree.specs.declared.node.Node.{Node}
use Rattle.ztree.specs.Tree.{Tree, Path, Nodes, has_node}
use Rattle.zcalls.specs.declared.call.Update.{Update}
use Rattle.zcalls.specs.Step.{step}
use Rattle.zjute.specs.declared.event.EventKind.{EventKind}
use Rattle.zwatches.specs.declared.changes.event.Event.{Event}
use Rattle.zwatches.specs.changes.Events.{event, events_of}
use Rattle.zwatches.specs.changes.Laws.{but_children, data_at, children_at, takes_away, reports_data, reports_children}
use Rattle.zwatches.proofs.changes_lemmas.Changes.{events_report_every_change}
use Rattle.zwatches.specs.declared.kind.Kind.{Kind}
use Rattle.zwatches.specs.declared.kind.Kind.TheVariants.{Data, Missing, Children, EachData, EachChildren, Recursive}
use Rattle.zwatches.specs.declared.watch.Watch.{Watch}
use Rattle.zwatches.specs.Watches.{fires_once}
use Rattle.zfront_laws.specs.watches.Watching.{IsSameAt, is_told}
use Rattle.zfront_laws.proofs.watches_lemmas.Waiting.{reports_creation, reports_loss, update_leaves}
use Rattle.zfront_laws.proofs.watches_lemmas.Standing.{Unfired, misses}
use Rattle.zfront_laws.proofs.watches_lemmas.Standing.{fires_data, fires_missing, fires_children, fires_each_data, fires_recursive, told_each_children}
use Rattle.zfront_laws.proofs.watches_lemmas.Telling.{knows, told_all, told_fired, told_once, untold_misses}

-- where a watch of this kind was set, if it waits for one change: where its node was, or wasn't
abbrev pub IsRight : Kind → Path → Nodes → Type 0
IsRight Data path before = has_node before path ≡ true
IsRight Missing path before = has_node before path ≡ false
IsRight Children path before = has_node before path ≡ true
IsRight other path before = Unit {0}

-- a node by what is read of it
pub there_data : (nodes : Nodes) (path : Path) → is_some (data_at nodes path) ≡ has_node nodes path
there_data nodes path = by (finite.get nodes path)
  where
    by : (o : Option Node) → is_some (option_map but_children o) ≡ is_some o
    by None = refl
    by (Some n) = refl

pub there_children : (nodes : Nodes) (path : Path) → is_some (children_at nodes path) ≡ has_node nodes path
there_children nodes path = by (finite.get nodes path)
  where
    by : (o : Option Node) → is_some (option_map (λ (n : Node). n.pzxid) o) ≡ is_some o
    by None = refl
    by (Some n) = refl

pub no_data : (nodes : Nodes) (path : Path) → has_node nodes path ≡ false → data_at nodes path ≡ None
no_data nodes path none = by (finite.get nodes path) none
  where
    by : (o : Option Node) → is_some o ≡ false → option_map but_children o ≡ None
    by None is = refl
    by (Some n) is = absurd (cc is)

-- what an update whose events end no watch leaves: what the watch waits for is as it was, or it was told of it
module _ (t : Tree) (u : Update) (stays : takes_away u ≡ false) (before : Nodes) (w : Watch) (unfired : Unfired w (events_of u (step t 0 u).1)) where
  abbrev now : Nodes
  now = (step t 0 u).0.nodes

  abbrev es : List Event
  es = events_of u (step t 0 u).1

  abbrev known : Nodes
  known = told_all now es w before

  -- a watch that waits for one change is told nothing
  once : (k : Kind) → w.kind ≡ k → fires_once k ≡ true → before ≡ known
  once k is one = sym (told_once now es w before (ap fires_once is ∙ one))

  data_stays : w.kind ≡ Data → data_at t.nodes w.path ≡ data_at before w.path → data_at now w.path ≡ data_at before w.path
  data_stays is same =
      (events_report_every_change t 0 u w.path stays).of_data
      (misses reports_data w (ap fires_once is) (λ k. fires_data w k is) es unfired)
      ∙ same

  missing_stays : w.kind ≡ Missing → has_node before w.path ≡ false → data_at t.nodes w.path ≡ data_at before w.path
      → data_at now w.path ≡ data_at before w.path
  missing_stays is none same =
      let was : has_node t.nodes w.path ≡ false = sym (there_data t.nodes w.path) ∙ ap is_some same ∙ there_data before w.path ∙ none in
      let still = (update_leaves t 0 u w.path stays).missing was (misses reports_creation w (ap fires_once is) (λ k. fires_missing w k is) es unfired) in
      no_data now w.path still ∙ sym (no_data before w.path none)

  children_stay : w.kind ≡ Children → has_node before w.path ≡ true → children_at t.nodes w.path ≡ children_at before w.path
      → children_at now w.path ≡ children_at before w.path
  children_stay is some same =
      let was : has_node t.nodes w.path ≡ true = sym (there_children t.nodes w.path) ∙ ap is_some same ∙ there_children before w.path ∙ some in
      ((update_leaves t 0 u w.path stays).there was (misses reports_loss w (ap fires_once is) (λ k. fires_children w k is) es unfired)).1
      ∙ same

  -- a watch that stays is told of each change
  data_known : (q : Path) → ((k : EventKind) → reports_data k ≡ true → is_told (event k q) w ≡ true) → data_at t.nodes q ≡ data_at before q
      → data_at now q ≡ data_at known q
  data_known q tells same =
      knows but_children now t.nodes before w q es same
      (λ none. (events_report_every_change t 0 u q stays).of_data (untold_misses reports_data w q tells es none))

  children_known : (q : Path) → ((k : EventKind) → reports_children k ≡ true → is_told (event k q) w ≡ true)
      → children_at t.nodes q ≡ children_at before q → children_at now q ≡ children_at known q
  children_known q tells same =
      knows (λ n. n.pzxid) now t.nodes before w q es same
      (λ none. (events_report_every_change t 0 u q stays).of_children (untold_misses reports_children w q tells es none))

  stays_at : (k : Kind) → w.kind ≡ k → IsRight k w.path before → IsSameAt k w.path before t.nodes → IsSameAt k w.path known now
  stays_at Data is right same = subst (λ ns. IsSameAt Data w.path ns now) (once Data is refl) (data_stays is same)
  stays_at Missing is right same = subst (λ ns. IsSameAt Missing w.path ns now) (once Missing is refl) (missing_stays is right same)
  stays_at Children is right same = subst (λ ns. IsSameAt Children w.path ns now) (once Children is refl) (children_stay is right same)
  stays_at EachData is right same =
      data_known w.path (λ k reports. told_fired (event k w.path) w (ap fires_once is) (fires_each_data w k is reports)) same
  stays_at EachChildren is right same = children_known w.path (λ k reports. told_each_children w k is reports) same
  stays_at Recursive is right same = λ below under.
      data_known below (λ k reports. told_fired (event k below) w (ap fires_once is) (fires_recursive w k below is under reports)) (same below under)

  pub unfired_stays : IsRight w.kind w.path before → IsSameAt w.kind w.path before t.nodes → IsSameAt w.kind w.path known now
  unfired_stays right same = stays_at w.kind refl right same

-- events that a watch is told leave where it was set
pub told_right : (nodes : Nodes) (told : List Event) (w : Watch) (before : Nodes) (k : Kind) → w.kind ≡ k → IsRight k w.path before
    → IsRight k w.path (told_all nodes told w before)
told_right nodes told w before Data is right = subst (IsRight Data w.path) (sym (told_once nodes told w before (ap fires_once is))) right
told_right nodes told w before Missing is right = subst (IsRight Missing w.path) (sym (told_once nodes told w before (ap fires_once is))) right
told_right nodes told w before Children is right = subst (IsRight Children w.path) (sym (told_once nodes told w before (ap fires_once is))) right
told_right nodes told w before EachData is right = tt
told_right nodes told w before EachChildren is right = tt
told_right nodes told w before Recursive is right = tt
