-- What is sent and received on a connection at all steps: those before its opening, and those after
-- it.
use Rattle.std.proofs.Common.{◌≡◌, inl, inr, ◌∙◌, ℕ, true, false, List, [], ◌∷◌, ◌++◌, Option, None, Some, refl, sym, ap, subst, append_assoc}
use Rattle.std.specs.FinMap as finite
use Rattle.std.specs.FinSet.{contains, contains-empty}
use Rattle.std.specs.Ordering.{nat_cmp}
use Rattle.ztree.proofs.Maps.{none_some}
use Rattle.ztree.specs.Tree.{Tree}
use Rattle.zconnections.specs.declared.buffers.phase.Phase.{Phase}
use Rattle.zconnections.specs.declared.buffers.phase.Phase.TheVariants.{Silent, Speaking, Closing}
use Rattle.zconnections.specs.buffers.Inputs.InputView.{Opened}
use Rattle.zconnections.specs.buffers.Outbox.{ChunkView}
use Rattle.zconnections.specs.buffers.Streams.{StreamRows, StreamView, phase_of}
use Rattle.zwatches.specs.Watches.{Watches, watch_cmp}
use Rattle.zresponses.specs.declared.clock.Clock.{Clock}
use Rattle.ztree_service.specs.log.Logs.{Log, Leads}
use Rattle.ztree_service.proofs.log_lemmas.Incarnations.{leads_more}
use Rattle.zconnections.specs.Tables.{TablesView, may_send, is_open}
use Rattle.zfront.specs.Front.{FrontView}
use Rattle.zfront.specs.Inputs as inputs
use Rattle.zfront.specs.Restoring.{beginning}
use Rattle.zfront_laws.specs.Logs.{run_log}
use Rattle.zfront_laws.specs.Runs.{Takes, KeepsFew}
use Rattle.zfront_laws.proofs.Bare.{IsBare, unseated}
use Rattle.zfront_laws.proofs.Inputs.{goes, run_goes}
use Rattle.zfront_laws.proofs.Restored.{is_bare, is_few}
use Rattle.zfront_laws.specs.frames.Talk.{Quiet}
use Rattle.zfront_laws.specs.frames.Laws.{on, came_on, went_on, Talks, EveryConnectionIsAnswered}
use Rattle.zfront_laws.proofs.frames_lemmas.Free.{Free}
use Rattle.zfront_laws.proofs.frames_lemmas.Talking.{unworded}
use Rattle.zfront_laws.proofs.frames_lemmas.Reading.{Holds, bytes_in}
use Rattle.zfront_laws.proofs.frames_lemmas.Behind.{runs_behind}
use Rattle.zfront_laws.proofs.frames_lemmas.Before.{IsAway, Known, opens, runs_before}

-- what a connection that is there shows
shows : (clock : Clock) (secret : List ℕ) (start : Tree) (c : ℕ) (came : List ℕ) (went : List ChunkView) (log : Log) (phase : Option Phase) (bytes : List ℕ) → Holds clock secret start c came went log phase bytes
    → Talks clock secret start c log came went (may_send phase)
shows clock secret start c came went log None bytes has = absurd has
shows clock secret start c came went log (Some Silent) bytes has = record {
  frames = [];
  rest = bytes;
  talk = Quiet;
  cuts = has.0;
  chunks = has.3;
  answers = unworded clock secret start came log [] Quiet has.2 (0, refl);
  ends = λ is_on. has.1;
  closes = refl;
}
shows clock secret start c came went log (Some (Speaking session)) bytes has = record {
  frames = has.0 ∷ has.1;
  rest = bytes;
  talk = has.2;
  cuts = has.3;
  chunks = has.8;
  answers = unworded clock secret start came log (has.0 ∷ has.1) has.2 has.5 (session, has.6);
  ends = λ is_on. has.4;
  closes = has.7;
}
shows clock secret start c came went log (Some Closing) bytes has = record {
  frames = has.0;
  rest = has.1;
  talk = has.2;
  cuts = has.3;
  chunks = has.6;
  answers = has.4;
  ends = λ is_on. absurd (cc is_on);
  closes = has.5;
}

-- a server that begins has no connections
bare_away : (c : ℕ) (t : TablesView) → IsBare t → IsAway c t × Free c t
bare_away c t bare = (
  ap (λ (rows : StreamRows). (finite.get rows c, on c t.unsent)) bare.streams
      ∙ ap (λ (chunks : List ChunkView). (finite.get (finite.empty {X = StreamView} {R = nat_cmp}) c, on c chunks)) bare.unsent
      ∙ ap (λ (o : Option StreamView). (o, [])) (finite.get-empty nat_cmp c),
  record {
    seat = λ session sits. absurd (none_some c (sym (unseated t bare session) ∙ sits));
    watch = λ w waits own.
        let clash : false ≡ true = sym (contains-empty watch_cmp w) ∙ sym (ap (λ (table : Watches). contains table w) bare.watches) ∙ waits in
        absurd (cc clash);
  },
)

-- it is there or not
away_where : (clock : Clock) (secret : List ℕ) (start : Tree) (c : ℕ) (log : Log) (v : FrontView) → Known c clock secret start log v.tables
    → phase_of v.tables.streams c ≡ None → IsAway c v.tables
away_where clock secret start c log v (inl there) none =
    absurd (subst (λ phase. Holds clock secret start c there.0 (there.1 ++ on c v.tables.unsent) log phase (bytes_in (finite.get v.tables.streams c)))
    none there.2)
away_where clock secret start c log v (inr away) none = away

pub every_connection_is_answered : EveryConnectionIsAnswered
every_connection_is_answered limits t secret times is_kept start past before behind old v c left earlier once none stays later =
    let first = beginning limits t secret times is_kept in
    let opened = inputs.opened c old in
    let few = is_few limits t secret times is_kept in
    let new = bare_away c first.tables (is_bare limits t secret times is_kept) in
    let begun = runs_before c times secret start before past first old few (left.1, refl, refl) new.1 (inr new.0) earlier once in
    let now = run_log before first old earlier in
    let more = run_log behind opened v later in
    let away = away_where times secret start c (past ++ now) old begun.0 none in
    let opening = opens c times secret start (past ++ now) old away begun.1 in
    let few_then : KeepsFew opened = (goes (Takes (Opened c)) old opened begun.3 refl).few begun.3 in
    let done = runs_behind times secret start c behind [] [] (past ++ now) opened v few_then begun.2 opening.0 opening.1 stays later in
    let shown = shows times secret start c (came_on c behind opened v later) (went_on c behind opened v later) ((past ++ now) ++ more)
    (phase_of v.tables.streams c) (bytes_in (finite.get v.tables.streams c)) done in
    let so_far = leads_more start t old.tree past now left (run_goes before first old few earlier).leads in
    let all = leads_more start old.tree v.tree (past ++ now) more so_far (run_goes behind opened v few_then later).leads in
    subst (λ (log : Log). Leads start log v.tree
    × Talks times secret start c log (came_on c behind opened v later) (went_on c behind opened v later) (is_open v.tables c))
    (append_assoc past now more) (all, shown)
