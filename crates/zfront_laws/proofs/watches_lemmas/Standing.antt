-- The watches that remain set where events are reported: no event reported ends them.
use Rattle.std.proofs.Common.{◌≡◌, ◌∙◌, ℕ, Bool, true, false, List, [], ◌∷◌, refl, sym, ap, inl, inr}
use Rattle.std.proofs.Math.Bool.{or-true}
use mathlib.Core.Bool.{true≢false}
use Rattle.std.specs.Prelude.{◌⊎◌, ◌||◌, ◌&&◌, not, ◌==◌, if◌then◌else◌}
use Rattle.std.specs.List.{AllByRecursion, list_any}
use Rattle.std.specs.FinSet.{contains, insert, contains-insert}
use Rattle.std.specs.Ordering.{eq_by_cmp}
use Rattle.ztree.specs.Tree.{Path}
use Rattle.ztree.proofs.Maps.{tied}
use Rattle.zjute.specs.declared.event.EventKind.{EventKind}
use Rattle.zjute.specs.declared.event.EventKind.TheVariants as kind
use Rattle.zwatches.specs.declared.changes.event.Event.{Event}
use Rattle.zwatches.specs.changes.Events.{event}
use Rattle.zwatches.specs.changes.Laws.{Misses, reports_children, reports_data}
use Rattle.zwatches.specs.declared.kind.Kind.{Kind}
use Rattle.zwatches.specs.declared.kind.Kind.TheVariants.{Data, Missing, Children, EachData, EachChildren, Recursive}
use Rattle.zwatches.specs.declared.watch.Watch.{Watch}
use Rattle.zjute.specs.declared.watch_type.WatchType.{WatchType}
use Rattle.zwatches.specs.Laws.{is_below, is_of_data}
use Rattle.zwatches.specs.Removal.{is_meant}
use Rattle.zwatches.specs.Watches.{Place, Watches, fires_once, place, place_of, place_cmp, watch, watch_cmp}
use Rattle.zwatches.specs.Events.{above, ends, fires, is_at, without, unfired}
use Rattle.zwatches.specs.Events as watches
use Rattle.zwatches.proofs.Covering.{covers_below}
use Rattle.zwatches.proofs.Order.{places_total, same_place, watches_total}
use Rattle.zwatches.proofs.Worked.{contains-kept, ends_once, unfired_leaves}
use Rattle.zconnections.specs.Tables.{TablesView, is_open, sent, closing, closed, with_chunk, chunk}
use Rattle.zconnections.specs.Reporting.{event_frame, sent_on, unwatched, in_order, reported, reported_all}
use Rattle.zresponses.specs.effects.Watching as effects
use Rattle.zfront_laws.specs.watches.Watching.{is_told, makes}
use Rattle.zfront_laws.proofs.watches_lemmas.Telling.{told_fired}
use Rattle.zfront_laws.proofs.watches_lemmas.Waiting.{reports_creation, reports_loss}

-- the tables have this watch
abbrev pub In : TablesView → Watch → Type 0
In t w = contains t.watches w ≡ true

-- what is sent leaves watches and attachments
pub sent_watches : (c : ℕ) (bytes : List ℕ) (t : TablesView) → (sent c bytes t).watches ≡ t.watches
sent_watches c bytes t = elim (is_open t c) as (λ b. (if b then with_chunk (chunk c bytes) t else t).watches ≡ t.watches) [
  | true ↦ refl
  | false ↦ refl
]

pub sent_attachments : (c : ℕ) (bytes : List ℕ) (t : TablesView) → (sent c bytes t).attachments ≡ t.attachments
sent_attachments c bytes t = elim (is_open t c) as (λ b. (if b then with_chunk (chunk c bytes) t else t).attachments ≡ t.attachments) [
  | true ↦ refl
  | false ↦ refl
]

sent_on_watches : (cs bytes : List ℕ) (t : TablesView) → (sent_on cs bytes t).watches ≡ t.watches
sent_on_watches [] bytes t = refl
sent_on_watches (c ∷ cs) bytes t = sent_on_watches cs bytes (sent c bytes t) ∙ sent_watches c bytes t

sent_on_attachments : (cs bytes : List ℕ) (t : TablesView) → (sent_on cs bytes t).attachments ≡ t.attachments
sent_on_attachments [] bytes t = refl
sent_on_attachments (c ∷ cs) bytes t = sent_on_attachments cs bytes (sent c bytes t) ∙ sent_attachments c bytes t

pub reported_attachments : (e : Event) (t : TablesView) → (reported e t).attachments ≡ t.attachments
reported_attachments e t = sent_on_attachments (in_order (watches.reported t.watches e.kind e.path)) (event_frame e) (unwatched e t)

reported_watches : (e : Event) (t : TablesView) → (reported e t).watches ≡ unfired t.watches e.kind e.path
reported_watches e t = sent_on_watches (in_order (watches.reported t.watches e.kind e.path)) (event_frame e) (unwatched e t)

pub reported_all_attachments : (es : List Event) (t : TablesView) → (reported_all es t).attachments ≡ t.attachments
reported_all_attachments [] t = refl
reported_all_attachments (e ∷ es) t = reported_all_attachments es (reported e t) ∙ reported_attachments e t

-- a watch that is set after an event was set before, and isn't ended
pub reported_leaves : (e : Event) (t : TablesView) (w : Watch) → In (reported e t) w → In t w × (ends e.kind e.path w ≡ false)
reported_leaves e t w stands = unfired_leaves t.watches e.kind e.path w (ap (λ table. contains table w) (sym (reported_watches e t)) ∙ stands)

abbrev pub Unfired : Watch → List Event → Type 0
Unfired w es = AllByRecursion (λ e. ends e.kind e.path w ≡ false) es

pub reported_all_leaves : (es : List Event) (t : TablesView) (w : Watch) → In (reported_all es t) w → In t w × Unfired w es
reported_all_leaves [] t w stands = (stands, tt)
reported_all_leaves (e ∷ es) t w stands =
    let rest = reported_all_leaves es (reported e t) w stands in
    let first = reported_leaves e t w rest.0 in
    (first.0, (first.1, rest.1))

-- an event at a watch's position fires it
at_place : (w : Watch) (path : Path) (k : Kind) → place_of w ≡ place path k → is_at (place path k) w ≡ true
at_place w path k is = ap (λ p. eq_by_cmp place_cmp p (place path k)) is ∙ tied places_total same_place (place path k)

placed : (w : Watch) (k : Kind) → w.kind ≡ k → place_of w ≡ place w.path k
placed w k is = ap (place w.path) is

any_first : (w : Watch) (at : Place) (rest : List Place) → is_at at w ≡ true → list_any (λ p. is_at p w) (at ∷ rest) ≡ true
any_first w at rest is = ap (λ b. b || list_any (λ p. is_at p w) rest) is

any_later : (w : Watch) (at : Place) (rest : List Place) → list_any (λ p. is_at p w) rest ≡ true → list_any (λ p. is_at p w) (at ∷ rest) ≡ true
any_later w at rest is = ap (λ b. is_at at w || b) is ∙ or-true (is_at at w)

pub fires_data : (w : Watch) (k : EventKind) → w.kind ≡ Data → reports_data k ≡ true → fires k w.path w ≡ true
fires_data w kind.NodeCreated is reports =
    any_first w (place w.path Data) (place w.path Missing ∷ place w.path EachData ∷ above w.path) (at_place w w.path Data (placed w Data is))
fires_data w kind.NodeDeleted is reports =
    any_first w (place w.path Data) (place w.path Children ∷ place w.path EachData ∷ place w.path EachChildren ∷ above w.path) (at_place w w.path Data (placed w Data is))
fires_data w kind.NodeDataChanged is reports =
    any_first w (place w.path Data) (place w.path EachData ∷ above w.path) (at_place w w.path Data (placed w Data is))
fires_data w other is reports = absurd (cc reports)

pub fires_missing : (w : Watch) (k : EventKind) → w.kind ≡ Missing → reports_creation k ≡ true → fires k w.path w ≡ true
fires_missing w kind.NodeCreated is reports =
    any_later w (place w.path Data) (place w.path Missing ∷ place w.path EachData ∷ above w.path)
    (any_first w (place w.path Missing) (place w.path EachData ∷ above w.path) (at_place w w.path Missing (placed w Missing is)))
fires_missing w other is reports = absurd (cc reports)

pub fires_children : (w : Watch) (k : EventKind) → w.kind ≡ Children → reports_loss k ≡ true → fires k w.path w ≡ true
fires_children w kind.NodeDeleted is reports =
    any_later w (place w.path Data) (place w.path Children ∷ place w.path EachData ∷ place w.path EachChildren ∷ above w.path)
    (any_first w (place w.path Children) (place w.path EachData ∷ place w.path EachChildren ∷ above w.path) (at_place w w.path Children (placed w Children is)))
fires_children w kind.NodeChildrenChanged is reports =
    any_first w (place w.path Children) (place w.path EachChildren ∷ []) (at_place w w.path Children (placed w Children is))
fires_children w other is reports = absurd (cc reports)

-- the same of a watch that stays
pub fires_each_data : (w : Watch) (k : EventKind) → w.kind ≡ EachData → reports_data k ≡ true → fires k w.path w ≡ true
fires_each_data w kind.NodeCreated is reports =
    any_later w (place w.path Data) (place w.path Missing ∷ place w.path EachData ∷ above w.path)
    (any_later w (place w.path Missing) (place w.path EachData ∷ above w.path)
    (any_first w (place w.path EachData) (above w.path) (at_place w w.path EachData (placed w EachData is))))
fires_each_data w kind.NodeDeleted is reports =
    any_later w (place w.path Data) (place w.path Children ∷ place w.path EachData ∷ place w.path EachChildren ∷ above w.path)
    (any_later w (place w.path Children) (place w.path EachData ∷ place w.path EachChildren ∷ above w.path)
    (any_first w (place w.path EachData) (place w.path EachChildren ∷ above w.path) (at_place w w.path EachData (placed w EachData is))))
fires_each_data w kind.NodeDataChanged is reports =
    any_later w (place w.path Data) (place w.path EachData ∷ above w.path)
    (any_first w (place w.path EachData) (above w.path) (at_place w w.path EachData (placed w EachData is)))
fires_each_data w other is reports = absurd (cc reports)

pub fires_each_children : (w : Watch) (k : EventKind) → w.kind ≡ EachChildren → reports_loss k ≡ true → fires k w.path w ≡ true
fires_each_children w kind.NodeDeleted is reports =
    any_later w (place w.path Data) (place w.path Children ∷ place w.path EachData ∷ place w.path EachChildren ∷ above w.path)
    (any_later w (place w.path Children) (place w.path EachData ∷ place w.path EachChildren ∷ above w.path)
    (any_later w (place w.path EachData) (place w.path EachChildren ∷ above w.path)
    (any_first w (place w.path EachChildren) (above w.path) (at_place w w.path EachChildren (placed w EachChildren is)))))
fires_each_children w kind.NodeChildrenChanged is reports =
    any_later w (place w.path Children) (place w.path EachChildren ∷ [])
    (any_first w (place w.path EachChildren) [] (at_place w w.path EachChildren (placed w EachChildren is)))
fires_each_children w other is reports = absurd (cc reports)

-- and it is told when its node is made
pub told_each_children : (w : Watch) (k : EventKind) → w.kind ≡ EachChildren → reports_children k ≡ true → is_told (event k w.path) w ≡ true
told_each_children w kind.NodeCreated is reports =
    ap (λ b. not b && (fires kind.NodeCreated w.path w || makes (event kind.NodeCreated w.path) w)) (ap fires_once is)
    ∙ ap (λ b. fires kind.NodeCreated w.path w || b) (at_place w w.path EachChildren (placed w EachChildren is))
    ∙ or-true (fires kind.NodeCreated w.path w)
told_each_children w kind.NodeDeleted is reports =
    told_fired (event kind.NodeDeleted w.path) w (ap fires_once is) (fires_each_children w kind.NodeDeleted is refl)
told_each_children w kind.NodeChildrenChanged is reports =
    told_fired (event kind.NodeChildrenChanged w.path) w (ap fires_once is) (fires_each_children w kind.NodeChildrenChanged is refl)
told_each_children w other is reports = absurd (cc reports)

-- a recursive watch is fired at its path and below it
pub recursive_fires : (w : Watch) (k : EventKind) (below : Path) → w.kind ≡ Recursive → fires k below w ≡ (is_of_data k && is_below w.path below)
recursive_fires w k below is =
    ap (λ of. fires k below (watch w.path of w.connection)) is ∙ covers_below k w.path below w.connection

of_data : (k : EventKind) → reports_data k ≡ true → is_of_data k ≡ true
of_data kind.NodeCreated reports = refl
of_data kind.NodeDeleted reports = refl
of_data kind.NodeDataChanged reports = refl
of_data other reports = absurd (cc reports)

pub fires_recursive : (w : Watch) (k : EventKind) (below : Path) → w.kind ≡ Recursive → is_below w.path below ≡ true → reports_data k ≡ true
    → fires k below w ≡ true
fires_recursive w k below is there reports =
    recursive_fires w k below is ∙ ap (λ b. b && is_below w.path below) (of_data k reports) ∙ there

-- so events that end none report nothing of the path of a watch that waits for one change
pub misses : (reports : EventKind → Bool) (w : Watch) → fires_once w.kind ≡ true → ((k : EventKind) → reports k ≡ true → fires k w.path w ≡ true) → (es : List Event)
    → Unfired w es → Misses reports w.path es
misses reports w once fire [] unfired = tt
misses reports w once fire (e ∷ es) unfired = (
  λ does same.
      true≢false (sym (fire e.kind does) ∙ ap (λ path. fires e.kind path w) (sym same) ∙ sym (ends_once e.kind e.path w once) ∙ unfired.0),
  misses reports w once fire es unfired.1,
)

-- tables with no watch more
abbrev pub Fewer : TablesView → TablesView → Type 0
Fewer old new = (w : Watch) → In new w → In old w

both_true : (a b : Bool) → (a && b) ≡ true → a ≡ true
both_true true b is = refl
both_true false b is = absurd (cc is)

pub without_fewer : (table : Watches) (c : ℕ) (w : Watch) → contains (without table c) w ≡ true → contains table w ≡ true
without_fewer table c w is = both_true _ _ (sym (contains-kept table (λ w. not (w.connection == c)) w) ∙ is)

pub unwatched_fewer : (c : ℕ) (type : WatchType) (path : Path) (t : TablesView) → Fewer t (effects.unwatched c type path t)
unwatched_fewer c type path t w is =
    both_true _ _ (sym (contains-kept t.watches (λ w. not (is_meant c type path w)) w) ∙ is)

pub closed_fewer : (c : ℕ) (t : TablesView) → Fewer t (closed c t)
closed_fewer c t w = elim (is_open t c) as (λ b. In (if b then closing c t else t) w → In t w) [
  | true ↦ λ is. without_fewer t.watches c w is
  | false ↦ λ is. is
]

-- a watch that is set
pub insert_leaves : (t : Watches) (mine w : Watch) → contains (insert t mine) w ≡ true → (eq_by_cmp watch_cmp w mine ≡ true) ⊎ (contains t w ≡ true)
insert_leaves t mine w is = by (eq_by_cmp watch_cmp w mine) refl (sym (contains-insert watches_total t mine w) ∙ is)
  where
    by : (b : Bool) → eq_by_cmp watch_cmp w mine ≡ b → (b || contains t w) ≡ true → (eq_by_cmp watch_cmp w mine ≡ true) ⊎ (contains t w ≡ true)
    by true is found = inl is
    by false is found = inr found
