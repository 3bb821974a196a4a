-- The watches are within the limits of the tables, whatever happens.
use Rattle.std.proofs.Common.{◌≡◌, ◌∙◌, ℕ, true, false, List, [], ◌∷◌, refl, sym, ap, subst}
use Rattle.std.specs.Prelude.{if◌then◌else◌}
use Rattle.std.specs.FinSet.{insert}
use Rattle.ztree.specs.Tree.{Path}
use Rattle.zconnections.specs.buffers.Inputs.InputView.{Opened, Came, Ended, Tick}
use Rattle.zconnections.specs.Reporting.{event_frame, in_order, sent_on, unwatched as unfired, reported}
use Rattle.zconnections.specs.Tables.{TablesView, chunk, closed, closing, is_open, sent, with_chunk}
use Rattle.zwatches.specs.declared.changes.event.Event.{Event}
use Rattle.zwatches.specs.declared.kind.Kind.{Kind}
use Rattle.zwatches.specs.declared.limits.WatchLimits.{WatchLimits}
use Rattle.zwatches.specs.declared.watch.Watch.{Watch}
use Rattle.zwatches.specs.Events as watch
use Rattle.zwatches.specs.Limits.{IsWithin, KeepsLimits, with_watch}
use Rattle.zwatches.specs.Watches.{is_full, watch as watch_of}
use Rattle.zwatches.proofs.Within.{limits_are_kept}
use Rattle.zresponses.specs.Stats as zxids
use Rattle.zresponses.specs.effects.Frames.{answer_frame, response_frame}
use Rattle.zresponses.specs.effects.Watching.{waiting}
use Rattle.zfront.specs.Restoring.{beginning}
use Rattle.zfront_laws.specs.Runs.{Step, Takes, Sent, Took}
use Rattle.zfront_laws.specs.watches.Laws.{Arriving, Brings, BringsAll, none_asked, opening_scene}
use Rattle.zfront_laws.specs.watches.Limits.{EveryFrontKeepsItsLimits}
use Rattle.zfront_laws.specs.watches.Watching.{Asking, Happening, Scene, Happens, May, after, tree_of}
use Rattle.zfront_laws.specs.watches.Watching.{Served, Fired, Set, Dropped, Missed, Answered, Greeted, Said, Closed, Moved}
use Rattle.zfront_laws.proofs.watches_lemmas.Running.{every_watch_is_reported}

-- tables with these limits, whose watches are within them
abbrev Limited : WatchLimits → TablesView → Type 0
Limited limits t = (t.limits ≡ limits) × IsWithin limits t.watches

module _ (limits : WatchLimits) where
  keeps : KeepsLimits limits
  keeps = limits_are_kept limits

  -- ---- single changes

  sends : (c : ℕ) (bytes : List ℕ) (t : TablesView) → Limited limits t → Limited limits (sent c bytes t)
  sends c bytes t is = elim (is_open t c) as (λ b. Limited limits (if b then with_chunk (chunk c bytes) t else t)) [ true ↦ is | false ↦ is ]

  sends_on : (cs bytes : List ℕ) (t : TablesView) → Limited limits t → Limited limits (sent_on cs bytes t)
  sends_on [] bytes t is = is
  sends_on (c ∷ cs) bytes t is = sends_on cs bytes (sent c bytes t) (sends c bytes t is)

  reports : (e : Event) (t : TablesView) → Limited limits t → Limited limits (reported e t)
  reports e t is =
      sends_on (in_order (watch.reported t.watches e.kind e.path)) (event_frame e) (unfired e t) (is.0, keeps.fires t.watches e.kind e.path is.1)

  closes : (c : ℕ) (t : TablesView) → Limited limits t → Limited limits (closed c t)
  closes c t is = elim (is_open t c) as (λ b. Limited limits (if b then closing c t else t)) [
    | true ↦ (is.0, keeps.forgets t.watches c is.1)
    | false ↦ is
  ]

  waits : (c : ℕ) (kind : Kind) (path : Path) (t : TablesView) → Limited limits t → Limited limits (waiting c kind path t)
  waits c kind path t is = (there ∙ is.0, subst (IsWithin limits) (sym (set ∙ ap (λ l. with_watch l t.watches mine) is.0)) (keeps.sets t.watches mine is.1))
    where
      mine : Watch
      mine = watch_of path kind c

      there : (waiting c kind path t).limits ≡ t.limits
      there = elim (is_full t.limits t.watches mine) as (λ b. (if b then t else record t { watches = insert t.watches mine }).limits ≡ t.limits) [
        | true ↦ refl
        | false ↦ refl
      ]

      set : (waiting c kind path t).watches ≡ with_watch t.limits t.watches mine
      set = elim (is_full t.limits t.watches mine) as (λ b. (if b then t else record t { watches = insert t.watches mine }).watches
          ≡ (if b then t.watches else insert t.watches mine)) [
            | true ↦ refl
            | false ↦ refl
          ]

  -- ---- happenings, and steps

  happens : (Asks : Asking) (h : Happening) (s : Scene) → May Asks h s → Limited limits s.tables → Limited limits (after h s).tables
  happens Asks (Served call reply) s may is = is
  happens Asks (Fired e) s may is = reports e s.tables is
  happens Asks (Set c kind path) s may is = waits c kind path s.tables is
  happens Asks (Dropped c type path) s may is = (is.0, keeps.removes s.tables.watches c type path is.1)
  happens Asks (Missed c e) s may is = sends c (event_frame e) s.tables is
  happens Asks (Answered c xid answer) s may is = sends c (answer_frame (zxids.told s.base (tree_of s).zxid) xid answer) s.tables is
  happens Asks (Greeted c greeting timeout session password) s may is = sends c (response_frame greeting timeout session password) s.tables is
  happens Asks (Said c bytes) s may is = closes c (sent c bytes s.tables) (sends c bytes s.tables is)
  happens Asks (Closed c) s may is = closes c s.tables is
  happens Asks (Moved t) s may is = (may.limits ∙ is.0, subst (IsWithin limits) (sym may.watches) is.1)

  all_happen : (Asks : Asking) (hs : List Happening) (s t : Scene) → Happens Asks hs s t → Limited limits s.tables → Limited limits t.tables
  all_happen Asks [] s t same is = subst (λ (u : Scene). Limited limits u.tables) (sym same) is
  all_happen Asks (h ∷ hs) s t happen is = all_happen Asks hs (after h s) t happen.1 (happens Asks h s happen.0 is)

  brings : (step : Step) (s t : Scene) → Brings step s t → Limited limits s.tables → Limited limits t.tables
  brings (Takes (Opened c)) s t same is = subst (λ (u : Scene). Limited limits u.tables) (sym same) is
  brings (Takes (Ended c)) s t same is =
      subst (λ (u : Scene). Limited limits u.tables) (sym same) (is.0, keeps.forgets s.tables.watches c is.1)
  brings (Takes (Came c bytes)) s t has is = all_happen (Arriving c bytes s) has.0 s t has.1 is
  brings (Takes Tick) s t has is = all_happen none_asked has.0 s t has.1 is
  brings Sent s t same is = subst (λ (u : Scene). Limited limits u.tables) (sym same) is
  brings Took s t same is = subst (λ (u : Scene). Limited limits u.tables) (sym same) is

  brings_all : (steps : List Step) (s t : Scene) → BringsAll steps s t → Limited limits s.tables → Limited limits t.tables
  brings_all [] s t same is = subst (λ (u : Scene). Limited limits u.tables) (sym same) is
  brings_all (step ∷ steps) s t brought is = brings_all steps brought.0 t brought.2 (brings step s brought.0 brought.1 is)

pub every_front_keeps_its_limits : EveryFrontKeepsItsLimits
every_front_keeps_its_limits limits t secret times is_kept start before steps v settled left runs =
    let first = opening_scene times.base start before (beginning limits t secret times is_kept).tables in
    let done = every_watch_is_reported limits t secret times is_kept start before steps v settled left runs in
    subst (Limited limits) done.2 (brings_all limits steps first done.0 done.1 (refl, (limits_are_kept limits).begins))
