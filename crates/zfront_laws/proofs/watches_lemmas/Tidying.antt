-- A server at a scene, where sessions are swept, and where it looks.
use Rattle.std.proofs.Common.{◌≡◌, ◌∙◌, ℕ, Bool, true, false, List, [], ◌∷◌, Option, Some, None, refl, sym, ap, subst, inl, inr}
use Rattle.std.proofs.Math.Bool.{or-true}
use mathlib.Core.Bool.{true≢false}
use Rattle.std.specs.Prelude.{◌⊎◌, ◌||◌, is_some, map}
use Rattle.std.specs.List.{AllByRecursion, list_any}
use Rattle.std.specs.FinMap as finite
use Rattle.std.specs.Option.{option_map, option_map_or}
use Rattle.std.specs.Ordering.{eq_by_cmp, nat_cmp}
use Rattle.std.proofs.lemmas.List.{append-nil}
use Rattle.ztree.specs.declared.node.Node.{Node}
use Rattle.ztree.specs.Lawful.{IsLawful, IsOwner}
use Rattle.ztree.specs.Tree.{Path, Tree, Sessions, has_node}
use Rattle.zcalls.specs.Lists.{Among}
use Rattle.zcalls.specs.declared.reply.Reply.{Reply}
use Rattle.zwatches.specs.changes.Laws.{but_children}
use Rattle.zwatches.specs.declared.changes.event.Event.{Event}
use Rattle.zwatches.specs.declared.watch.Watch.{Watch}
use Rattle.zwatches.specs.Events.{fires}
use Rattle.zconnections.specs.Tables.{TablesView, closed, connection_of, moved}
use Rattle.zconnections.specs.Reporting.{reported_all}
use Rattle.zconnections.specs.Sweeping.{forgotten, is_gone, made_one, some_made_one, swept_all}
use Rattle.zconnections.specs.Sweeping as tables
use Rattle.zfront.specs.Front.{FrontView, with_tables, gone_from, swept, takes_nodes, took_unnamed, looked, looked_if, tidied_if}
use Rattle.zfront_laws.specs.watches.Watching.{Scene, Asking, Fired, tree_of, May, IsSameAt}
use Rattle.zfront_laws.proofs.watches_lemmas.Changing.{seen_same}
use Rattle.zfront_laws.proofs.watches_lemmas.Holding.{knowing, none_lost, told_holds}
use Rattle.zfront_laws.proofs.watches_lemmas.Looking.{IsSeenIn, seen_apart, seen_caused, seen_now}
use Rattle.zfront_laws.proofs.watches_lemmas.Marks.{Marked, all_gone, apart_from, gone_made, removed_mark}
use Rattle.zfront_laws.proofs.watches_lemmas.Moving.{attachments_move}
use Rattle.zfront_laws.proofs.watches_lemmas.Reaching.{AtIf, Reaches, Arrives, moves_if, stays, still, closes}
use Rattle.zfront_laws.proofs.watches_lemmas.Scenes.{fired_happens, is_lawful}
use Rattle.zfront_laws.proofs.watches_lemmas.Seeing.{IsSeen, Sees, fired_sees}
use Rattle.zfront_laws.proofs.watches_lemmas.Standing.{Fewer, In}
use Rattle.zfront_laws.proofs.watches_lemmas.Taking.{Loses, loses_nothing}
use Rattle.zfront_laws.proofs.watches_lemmas.Telling.{AreApart, IsNowhere, told_all_leaves, untold_nowhere}
use Rattle.zfront_laws.proofs.watches_lemmas.Told.{look_told}
use Rattle.zfront_laws.proofs.watches_lemmas.Watched.{Covers}

-- what is read of a node is there where it is
there_read : {X : Type 0} (f : Node → X) (o : Option Node) → is_some (option_map f o) ≡ is_some o
there_read f None = refl
there_read f (Some n) = refl

-- ---- sessions that ended are swept

-- one of these sessions is gone, and made a node
abbrev pub Gone : List ℕ → FrontView → Type 0
Gone ids v = (id : ℕ) × (finite.get v.tree.sessions id ≡ None) × (list_any (eq_by_cmp nat_cmp id) ids ≡ true)
    × (made_one v.tables.attachments id ≡ true)

-- why a look gets due
becomes_due : (reported : List Reply) (ids : List ℕ) (v : FrontView) → (list_any takes_nodes reported ≡ true) ⊎ Gone ids v
    → took_unnamed reported ids v ≡ true
becomes_due reported ids v (inl some) = ap (λ b. b || some_made_one v.tables.attachments (gone_from ids v)) some
becomes_due reported ids v (inr (id, none, listed, made)) =
    ap (λ b. list_any takes_nodes reported || b) (gone_made v.tree.sessions ids v.tables.attachments id none listed made)
    ∙ or-true (list_any takes_nodes reported)

pub owned_there : (m : Sessions) (id : ℕ) → IsOwner m id → (id ≡ 0) ⊎ (finite.contains_key m id ≡ true)
owned_there m id (inl nobody) = inl nobody
owned_there m id (inr there) = inr there

-- a session that is gone is forgotten
forgets : {Asks : Asking} (since : Option FrontView) (id : ℕ) (v : FrontView) (s : Scene) → is_gone v.tree.sessions id ≡ true → AtIf since v s
    → Arrives Asks since (with_tables (forgotten id v.tables) v) s []
forgets since id v s gone there =
    moves_if since v s (forgotten id v.tables) there (attachments_move v.tables (finite.remove v.tables.attachments id))
    (λ all path n found. mark n.owner (owned_there v.tree.sessions n.owner (lawful.owners path n found)) (all path n found))
  where
    lawful : IsLawful v.tree
    lawful = subst IsLawful there.tree (is_lawful s there.settled)

    mark : (owner : ℕ) → (owner ≡ 0) ⊎ (finite.contains_key v.tree.sessions owner ≡ true) → Marked v.tables.attachments owner
        → Marked (finite.remove v.tables.attachments id) owner
    mark owner (inl nobody) was = inl nobody
    mark owner (inr lives) (inl nobody) = inl nobody
    mark owner (inr lives) (inr made) =
        inr (removed_mark v.tables.attachments id owner (apart_from v.tree.sessions owner id lives gone) ∙ made)

-- its connection is closed
pub moves_away : {Asks : Asking} (since : Option FrontView) (id : ℕ) (v : FrontView) (s : Scene) → AtIf since v s → Arrives Asks since (with_tables (moved id v.tables) v) s []
moves_away {Asks} since id v s there =
    elim (connection_of v.tables.attachments id) as (λ o. Arrives Asks since (with_tables (option_map_or (λ c. closed c v.tables) o v.tables) v) s []) [
      | None ↦ stays since v s there
      | Some c ↦ closes since v s c there
    ]

sweeps : {Asks : Asking} (since : Option FrontView) (ids : List ℕ) (v : FrontView) (s : Scene) → AllByRecursion (λ id. is_gone v.tree.sessions id ≡ true) ids
    → AtIf since v s → Arrives Asks since (with_tables (swept_all ids v.tables) v) s []
sweeps since [] v s all there = stays since v s there
sweeps since (id ∷ ids) v s all there =
    let u = with_tables (moved id v.tables) v in
    let w = with_tables (tables.swept id v.tables) v in
    let done = with_tables (swept_all ids w.tables) v in
    still since since u done s [] (moves_away since id v s there)
    (λ next here. still since since w done next [] (forgets since id u next all.0 here) (λ last this. sweeps since ids w last all.1 this))

-- ---- a look

module _ (old v : FrontView) (paths : List Path) (covers : Covers old v.tree paths) (s : Scene) (loses : (path : Path) → Loses v.tree.zxid old.tree.nodes v.tree.nodes path) (there : AtIf (Some old) v s) where
  abbrev t : Tree
  t = tree_of s

  abbrev es : List Event
  es = seen_now t paths

  abbrev last : Scene
  last = record s { set_at = knowing t.nodes es s.set_at; tables = reported_all es s.tables }

  -- a watch that a deletion fires knew the node
  gone_changed : {X : Type 0} (f : Node → X) (e : Event) (w : Watch) (first : List Event) → Sees f e.path w → In s.tables w
      → has_node old.tree.nodes e.path ≡ true → finite.get t.nodes e.path ≡ None → IsNowhere e.path first
      → IsSameAt w.kind w.path (knowing t.nodes first s.set_at w) t.nodes → ⊥
  gone_changed f e w first sees stands was none nowhere same =
      true≢false (sym was ∙ sym (there_read f (finite.get old.tree.nodes e.path)) ∙ ap is_some (sym kept) ∙ ap (λ o. is_some (option_map f o)) none)
    where
      kept : option_map f (finite.get t.nodes e.path) ≡ option_map f (finite.get old.tree.nodes e.path)
      kept =
          seen_same f e.path w sees old.tree.nodes (s.set_at w) (knowing t.nodes first s.set_at w) t.nodes (there.holds.seen w stands)
          (told_all_leaves t.nodes w e.path first (s.set_at w) (untold_nowhere first w e.path nowhere)) same

  changed : (e : Event) (w : Watch) (first : List Event) → In s.tables w → fires e.kind e.path w ≡ true
      → has_node old.tree.nodes e.path ≡ true → finite.get t.nodes e.path ≡ None → IsNowhere e.path first
      → IsSameAt w.kind w.path (knowing t.nodes first s.set_at w) t.nodes → ⊥
  changed e w first stands fired was none nowhere same = by (fired_sees e.kind e.path w fired)
    where
      by : IsSeen e.kind e.path w → ⊥
      by (inl (reports, sees)) = gone_changed but_children e w first sees stands was none nowhere same
      by (inr (reports, sees)) = gone_changed (λ n. n.pzxid) e w first sees stands was none nowhere same

  may : (Asks : Asking) (first : List Event) (e : Event) (u : TablesView) → Among e es → Fewer s.tables u → (AreApart es → IsNowhere e.path first)
      → May Asks (Fired e) (record s { set_at = knowing t.nodes first s.set_at; tables = u })
  may Asks first e u among fewer apart = by cause.0
    where
      cause : IsSeenIn t e × Among e.path paths
      cause = seen_caused t paths e among

      by : IsSeenIn t e → May Asks (Fired e) (record s { set_at = knowing t.nodes first s.set_at; tables = u })
      by (inl (deleted, none)) =
          inl (
            inr (deleted, none),
            λ w stands fired. inl (
                changed e w first (fewer w stands) fired (covers.there e.path cause.1) none
                (apart (seen_apart t paths covers.once))),
          )
      by (inr lost) = inr lost

  looks_by : {Asks : Asking} → Reaches Asks (looked paths v) s []
  looks_by {Asks} = record {
    happenings = map (λ e. Fired e) es;
    scene = last;
    happens = fired_happens Asks es s (may Asks);
    log = sym (append-nil s.log);
    there = record {
      settled = there.settled;
      base = there.base;
      tables = ap (λ (t : Tree). reported_all (seen_now t paths) s.tables) there.tree ∙ ap (reported_all (seen_now v.tree paths)) there.tables;
      tree = there.tree;
      holds = told_holds old t s.set_at s.tables es
          (λ w stands unfired right same.
          look_told old t paths (subst (λ (t : Tree). Covers old t paths) (sym there.tree) covers) (subst (λ (t : Tree). (path : Path) → Loses t.zxid old.tree.nodes t.nodes path) (sym there.tree) loses) w
          (there.holds.none w stands) (s.set_at w) unfired right same)
          there.holds;
    };
  }

-- what calls took away since the earlier front, and why a look gets due then
abbrev pub Lost : FrontView → List ℕ → FrontView → Bool → Type 0
Lost old ids v took =
    (v.tree.nodes ≡ old.tree.nodes)
    ⊎ (((path : Path) → Loses v.tree.zxid old.tree.nodes v.tree.nodes path) × ((took ≡ true) ⊎ Gone ids v))

looks_if : {Asks : Asking} (due : Bool) (old v : FrontView) (paths : List Path) → Covers old v.tree paths → (s : Scene) → AtIf (Some old) v s
    → (v.tree.nodes ≡ old.tree.nodes) ⊎ (((path : Path) → Loses v.tree.zxid old.tree.nodes v.tree.nodes path) × (due ≡ true))
    → Reaches Asks (looked_if due paths v) s []
looks_if false old v paths covers s there (inl same) =
    stays None v s (record {
      settled = there.settled;
      base = there.base;
      tables = there.tables;
      tree = there.tree;
      holds = none_lost old (tree_of s) s.set_at s.tables (ap (λ (t : Tree). t.nodes) there.tree ∙ same) there.holds;
    })
looks_if false old v paths covers s there (inr (loses, due)) = absurd (true≢false (sym due))
looks_if true old v paths covers s there (inl same) =
    looks_by old v paths covers s
    (λ path. subst (λ nodes. Loses v.tree.zxid old.tree.nodes nodes path) (sym same) (loses_nothing v.tree.zxid old.tree.nodes path)) there
looks_if true old v paths covers s there (inr (loses, due)) = looks_by old v paths covers s loses there

-- after calls that ended sessions
pub tidies : {Asks : Asking} (reported : List Reply) (ids : List ℕ) (old v : FrontView) (paths : List Path) → Covers old v.tree paths → (s : Scene)
    → AtIf (Some old) v s → Lost old ids v (list_any takes_nodes reported) → Reaches Asks (tidied_if true reported ids paths v) s []
tidies reported ids old v paths covers s there lost =
    still (Some old) None (swept ids v) (tidied_if true reported ids paths v) s []
    (sweeps (Some old) (gone_from ids v) v s (all_gone v.tree.sessions ids) there)
    (λ next here. looks_if (took_unnamed reported ids v) old (swept ids v) paths covers next here (due lost))
  where
    due : Lost old ids v (list_any takes_nodes reported)
        → (v.tree.nodes ≡ old.tree.nodes) ⊎ (((path : Path) → Loses v.tree.zxid old.tree.nodes v.tree.nodes path) × (took_unnamed reported ids v ≡ true))
    due (inl same) = inl same
    due (inr (loses, why)) = inr (loses, becomes_due reported ids v why)
