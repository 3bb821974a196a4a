-- A server at a scene, at any steps.
use Rattle.std.proofs.Common.{◌≡◌, ◌∙◌, ℕ, Bool, true, false, List, [], ◌∷◌, ◌++◌, None, refl, sym, ap, subst, inl, inr, drop, append_assoc}
use Rattle.std.specs.FinMap as finite
use Rattle.std.specs.FinSet as sets
use Rattle.std.specs.FinSet.{contains}
use Rattle.std.specs.Option.{option_map_or}
use Rattle.std.proofs.lemmas.List.{append-nil}
use Rattle.ztree.specs.Lawful.{IsOwner}
use Rattle.ztree.specs.Tree.{Tree}
use Rattle.zops.specs.RestoredLaws.{IsSettled}
use Rattle.zprotocol.specs.world.FromTree.{CanStart}
use Rattle.zresponses.specs.declared.clock.Clock.{Clock}
use Rattle.ztree_service.specs.log.Logs.{Log, Leads}
use Rattle.zconnections.specs.buffers.Inputs.InputView.{Opened, Came, Ended, Tick}
use Rattle.zconnections.specs.buffers.Streams as streams
use Rattle.zconnections.specs.buffers.Streams.{phase_of}
use Rattle.zwatches.specs.declared.watch.Watch.{Watch}
use Rattle.zwatches.specs.Watches.{Watches, watch_cmp}
use Rattle.zconnections.specs.declared.attachments.attachment.Attachment.{Attachment}
use Rattle.zconnections.specs.Sweeping.{made_one}
use Rattle.zconnections.specs.Tables.{TablesView, session_in}
use Rattle.zconnections.specs.Tables as tables
use Rattle.zwatches.specs.declared.limits.WatchLimits.{WatchLimits}
use Rattle.zfront.specs.Front.{FrontView}
use Rattle.zfront.specs.Inputs as inputs
use Rattle.zfront.specs.Inputs.{without_first}
use Rattle.zfront.specs.Restoring.{all_taken, beginning}
use Rattle.zfront_laws.specs.Logs.{step_log, run_log}
use Rattle.zfront_laws.specs.Runs.{Step, Takes, Sent, Took, KeepsFew, Does, Runs}
use Rattle.zfront_laws.proofs.Bare.{IsBare}
use Rattle.zfront_laws.proofs.Inputs.{goes, every_front_is_one_tree}
use Rattle.zfront_laws.proofs.Restored.{is_bare, is_few, is_fine, sits}
use Rattle.zfront_laws.proofs.Seated.{Has}
use Rattle.zfront_laws.proofs.Steps.{Fine}
use Rattle.zfront_laws.specs.watches.Watching.{Scene}
use Rattle.zfront_laws.specs.watches.Laws.{Brings, BringsAll, EveryWatchIsReported, none_asked, opening_scene}
use Rattle.zfront_laws.proofs.watches_lemmas.Coming.{comes}
use Rattle.zfront_laws.proofs.watches_lemmas.Marks.{Marked, unchanged, without_seat_keeps}
use Rattle.zfront_laws.proofs.watches_lemmas.Owners.{OwnersAre}
use Rattle.zfront_laws.proofs.watches_lemmas.Reaching.{At, shuts}
use Rattle.zfront_laws.proofs.watches_lemmas.Scenes.{can_start}
use Rattle.zfront_laws.proofs.watches_lemmas.Standing.{without_fewer}
use Rattle.zfront_laws.proofs.watches_lemmas.Ticking.{ticks}

-- a step brings a scene, whose log has these calls more, and the server is there
abbrev Brought : Step → FrontView → Scene → Log → Type 0
Brought step v s more = (t : Scene) × Brings step s t × (t.log ≡ s.log ++ more) × At v t

became : (step : Step) (new like : FrontView) (s : Scene) → new ≡ like → Brought step like s [] → Brought step new s []
became step new like s is has = subst (λ (v : FrontView). Brought step v s []) (sym is) has

brings : (step : Step) (old new : FrontView) (s : Scene) → KeepsFew old → Fine old → At old s → (does : Does step old new)
    → Brought step new s (step_log step old new does)
brings (Takes (Opened c)) old new s few fine there is =
    let to : TablesView → TablesView = λ t. record t { streams = finite.insert t.streams c streams.opened } in
    became (Takes (Opened c)) new (inputs.opened c old) s is (
      record s { tables = to s.tables },
      refl,
      sym (append-nil s.log),
      shuts None old s to there (λ w stands. stands) (unchanged s.tables.attachments),
    )
brings (Takes (Came c bytes)) old new s few fine there has =
    let done = comes bytes c old new s few fine there has in
    (done.scene, (done.happenings, done.happens), done.log, done.there)
brings (Takes (Ended c)) old new s few fine there is =
    became (Takes (Ended c)) new (inputs.ended c old) s is (
      record s { tables = tables.ended c s.tables },
      refl,
      sym (append-nil s.log),
      shuts None old s (tables.ended c) there (λ w stands. without_fewer s.tables.watches c w stands)
          (without_seat_keeps (session_in (phase_of s.tables.streams c)) s.tables),
    )
brings (Takes Tick) old new s few fine there has =
    let done = ticks {Asks = none_asked} old new s there has in
    (done.scene, (done.happenings, done.happens), done.log, done.there)
brings Sent old new s few fine there is =
    let to : TablesView → TablesView = λ t. record t { unsent = drop 1 t.unsent } in
    became Sent new (without_first old) s is (
      record s { tables = to s.tables },
      refl,
      sym (append-nil s.log),
      shuts None old s to there (λ w stands. stands) (unchanged s.tables.attachments),
    )
brings Took old new s few fine there is =
    became Took new (all_taken old) s is (
      s,
      refl,
      sym (append-nil s.log),
      record { settled = there.settled; base = there.base; tables = there.tables; tree = there.tree; holds = there.holds },
    )

brings_all : (steps : List Step) (old new : FrontView) (s : Scene) → KeepsFew old → Fine old → At old s → (runs : Runs steps old new)
    → (t : Scene) × BringsAll steps s t × (t.log ≡ s.log ++ run_log steps old new runs) × At new t
brings_all [] old new s few fine there is = (s, refl, sym (append-nil s.log), subst (λ (v : FrontView). At v s) (sym is) there)
brings_all (step ∷ steps) old new s few fine there runs =
    let middle = runs.0 in
    let went = goes step old middle few runs.1 in
    let one = brings step old middle s few fine there runs.1 in
    let rest = brings_all steps middle new one.0 (went.few few) (went.seats fine) one.3 runs.2 in
    let more = run_log steps middle new runs.2 in (
      rest.0,
      (one.0, one.1, rest.1),
      rest.2 ∙ ap (λ log. log ++ more) one.2 ∙ append_assoc s.log (step_log step old middle runs.1) more,
      rest.3,
    )

-- ---- a server that begins

no_watches : {P : Type 0} (t : TablesView) (w : Watch) → IsBare t → contains t.watches w ≡ true → P
no_watches t w bare is =
    absurd (cc (sym (sets.contains-empty watch_cmp w) ∙ sym (ap (λ (table : Watches). contains table w) bare.watches) ∙ is))

module _ (limits : WatchLimits) (t : Tree) (secret : List ℕ) (times : Clock) (is_kept : Bool) (start : Tree) (before : Log) (settled : IsSettled start) (left : Leads start before t) where
  abbrev v : FrontView
  v = beginning limits t secret times is_kept

  abbrev opens : Scene
  opens = opening_scene times.base start before v.tables

  bare : IsBare v.tables
  bare = is_bare limits t secret times is_kept

  can : CanStart t
  can = subst CanStart left.1 (can_start opens settled)

  -- each owner of a node is a session of the tree, and each of these has a attachment that is marked
  owners : OwnersAre (Marked v.tables.attachments) t.nodes
  owners path n found = by (can.lawful.owners path n found)
    where
      marks : Has v.tables.attachments n.owner → made_one v.tables.attachments n.owner ≡ true
      marks has = ap (λ o. option_map_or (λ (s : Attachment). s.made_ephemeral) o false) has.1 ∙ (bare.apart n.owner has.0 has.1).marked

      by : IsOwner t.sessions n.owner → Marked v.tables.attachments n.owner
      by (inl nobody) = inl nobody
      by (inr some) = inr (marks (sits limits t secret times is_kept n.owner some))

  begins : At v opens
  begins = record {
    settled = settled;
    base = refl;
    tables = refl;
    tree = left.1;
    holds = record {
      right = λ w stands. no_watches v.tables w bare stands;
      seen = λ w stands. no_watches v.tables w bare stands;
      none = tt;
      owners = subst (λ (u : Tree). OwnersAre (Marked v.tables.attachments) u.nodes) (sym left.1) owners;
    };
  }

pub every_watch_is_reported : EveryWatchIsReported
every_watch_is_reported limits t secret times is_kept start before steps v settled left runs =
    let first = beginning limits t secret times is_kept in
    let done = brings_all steps first v (opening_scene times.base start before first.tables) (is_few limits t secret times is_kept)
    (is_fine limits t secret times is_kept (can limits t secret times is_kept start before settled left)) (begins limits t secret times is_kept start before settled left) runs in (
      done.0,
      done.1,
      done.3.tables,
      done.2,
      subst (λ log. Leads start log v.tree) (sym done.2) (every_front_is_one_tree limits t secret times is_kept start before steps v left runs),
      done.3.holds.seen,
    )
