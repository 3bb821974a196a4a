-- Bytes that come on a connection: its frames are answered, and the rest is stored.
use Rattle.std.proofs.Common.{◌≡◌, inl, inr, ◌∙◌, ℕ, ◌+◌, Bool, true, false, List, [], ◌∷◌, ◌++◌, length, Option, None}
use Rattle.std.proofs.Common.{Some, refl, sym, ap, subst, append_assoc}
use Rattle.std.specs.Prelude.{nat_lt, ◌||◌, if◌then◌else◌}
use Rattle.std.specs.FinMap as finite
use Rattle.std.specs.Option.{MatchOption, option_map}
use Rattle.std.proofs.lemmas.List.{append-nil}
use Rattle.ztree.specs.Tree.{Tree}
use Rattle.zjute.specs.Frames.{next_of, IsEnd}
use Rattle.zconnections.specs.declared.buffers.phase.Phase.{Phase}
use Rattle.zconnections.specs.declared.buffers.phase.Phase.TheVariants.{Silent, Speaking, Closing}
use Rattle.zconnections.specs.buffers.Outbox.{ChunkView}
use Rattle.zconnections.specs.buffers.Streams.{StreamView, bytes_of, held_of, phase_of, with_bytes}
use Rattle.zresponses.specs.declared.clock.Clock.{Clock}
use Rattle.ztree_service.specs.log.Logs.{Log}
use Rattle.zconnections.specs.Tables.{TablesView, may_send, is_open, closed, sent}
use Rattle.zfront.specs.declared.limits.TheConstants.{MAX_KEPT}
use Rattle.zfront.specs.Front.{FrontView, with_tables}
use Rattle.zfront.specs.Reading.{Cuts, HandlesAll, is_too_long, kept, keeps, word_asked, ComesBy, ComesIf, emptied}
use Rattle.zfront.specs.Words.{word_in, text_of_word}
use Rattle.zfront_laws.specs.Logs.{bytes_log, came_log, frames_log}
use Rattle.zfront_laws.specs.Runs.{KeepsFew}
use Rattle.zfront_laws.proofs.Coming as coming
use Rattle.zfront_laws.specs.frames.Talk.{Talk, Quiet, Answers, Closes, chunks_of, is_closed, tree_behind, Greeted, SaysText, IsTalk}
use Rattle.zfront_laws.specs.frames.Laws.{on}
use Rattle.zfront_laws.proofs.frames_lemmas.Views.{view, phase_in, run, shut_open, view-sent, view-closed, changed-here, phase_with}
use Rattle.zfront_laws.proofs.frames_lemmas.Free.{speaks, Free, free-sent, free-closed}
use Rattle.zfront_laws.proofs.frames_lemmas.Talking.{answered_as, greeted_as, greeted_deeper}
use Rattle.zfront_laws.proofs.frames_lemmas.Cutting.{cuts_more, cuts_both, cuts_word}
use Rattle.zfront_laws.proofs.frames_lemmas.Greeting.{went, greets_all}
use Rattle.zfront_laws.proofs.frames_lemmas.Reading.{Holds, HoldsAt, bytes_in, Heard, Stands, heard_holds, heard_closed, heard_more}
use Rattle.zfront_laws.proofs.frames_lemmas.Others.{now_kept}
use Rattle.zfront_laws.proofs.frames_lemmas.Own as own

-- the state of a connection after its first frames
standing : (session : ℕ) (first : List ℕ) (frames : List (List ℕ)) (talk : Talk) (phase : Option Phase) (ends : Bool) → is_closed talk ≡ ends
    → phase ≡ (if is_closed talk then Some Closing else Some (Speaking session)) → Stands session (first ∷ frames) talk phase
standing session first frames talk phase true ends leaves = inl (
  ends,
  leaves
      ∙ ap (λ (b : Bool). if b then Some Closing else Some (Speaking session)) ends,
)
standing session first frames talk phase false still leaves =
    inr (inl (still, leaves ∙ ap (λ (b : Bool). if b then Some Closing else Some (Speaking session)) still, (first, frames, refl)))

-- a stream with other bytes
free_with : (c : ℕ) (bytes : List ℕ) (t : TablesView) → Free c t → Free c (record t { streams = with_bytes t.streams c bytes })
free_with c bytes t free = record {
  seat = λ session is. phase_with c t.streams bytes ∙ free.seat session is;
  watch = λ w is own. ap speaks (phase_with c t.streams bytes) ∙ free.watch w is own;
}

-- a server with this clock and this secret, whose tree this log leaves
abbrev pub IsBehind : Clock → List ℕ → Tree → Log → FrontView → Type 0
IsBehind clock secret start log v = (tree_behind start log ≡ v.tree) × (v.clock ≡ clock) × (v.secret ≡ secret)

module _ (clock : Clock) (secret : List ℕ) (start : Tree) (c : ℕ) where
  -- what is so then
  abbrev pub After : List ℕ → List ChunkView → Log → FrontView → Type 0
  After came taken log new = HoldsAt clock secret start c came taken log (view c new.tables) × Free c new.tables

  -- the rest is stored
  module _ (came : List ℕ) (taken : List ChunkView) (log : Log) (rest : List ℕ) where
    kept_as : (t : TablesView) → Heard clock secret start c came (taken ++ on c t.unsent) log rest (phase_of t.streams c) → is_open t c ≡ true
        → IsEnd rest → (o : Option StreamView) → finite.get t.streams c ≡ o
        → HoldsAt clock secret start c came taken log (option_map (λ (s : StreamView). record s { bytes = rest }) o, on c t.unsent)
    kept_as t heard is_on ends None none =
        let clash : false ≡ true = sym (ap (λ x. may_send (phase_in x)) none) ∙ is_on in
        absurd (cc clash)
    kept_as t heard is_on ends (Some s) there =
        heard_holds clock secret start c came (taken ++ on c t.unsent) log rest rest (Some s.phase)
        (subst (Heard clock secret start c came (taken ++ on c t.unsent) log rest) (ap phase_in there) heard) (λ on. (refl, ends))

    kept_by : (over : Bool) (t : TablesView) → Heard clock secret start c came (taken ++ on c t.unsent) log rest (phase_of t.streams c)
        → is_open t c ≡ true → IsEnd rest → Free c t
        → HoldsAt clock secret start c came taken log (view c (if over then closed c t else record t { streams = with_bytes t.streams c rest }))
        × Free c (if over then closed c t else record t { streams = with_bytes t.streams c rest })
    kept_by true t heard is_on ends free = (
      subst (HoldsAt clock secret start c came taken log) (sym (view-closed c t ∙ shut_open c (view c t) is_on))
          (heard_holds clock secret start c came (taken ++ (on c t.unsent ++ chunks_of c Closes)) log rest [] (Some Closing)
          (heard_closed clock secret start c came (taken ++ on c t.unsent) (taken ++ (on c t.unsent ++ chunks_of c Closes)) log rest
          (phase_of t.streams c) heard is_on (sym (append_assoc taken (on c t.unsent) (chunks_of c Closes))))
          (λ never. absurd (cc never))),
      free-closed c c t free,
    )
    kept_by false t heard is_on ends free = (
      subst (λ o. HoldsAt clock secret start c came taken log (o, on c t.unsent)) (sym (changed-here (λ s. record s { bytes = rest }) t.streams c))
          (kept_as t heard is_on ends (finite.get t.streams c) refl),
      free_with c rest t free,
    )

    keeps_by : (on_now : Bool) (v : FrontView) → is_open v.tables c ≡ on_now
        → Heard clock secret start c came (taken ++ on c v.tables.unsent) log rest (phase_of v.tables.streams c)
        → (is_open v.tables c ≡ true → IsEnd rest) → Free c v.tables
        → After came taken log (if on_now then with_tables (kept rest c v.tables) v else v)
    keeps_by true v is_on heard ends free =
        kept_by (is_too_long (next_of rest) || nat_lt MAX_KEPT (held_of v.tables.streams + length rest)) v.tables heard is_on (ends is_on) free
    keeps_by false v shut heard ends free = (
      heard_holds clock secret start c came (taken ++ on c v.tables.unsent) log rest (bytes_in (finite.get v.tables.streams c))
          (phase_of v.tables.streams c) heard
          (λ on. let clash : true ≡ false = sym on ∙ shut in absurd (cc clash)),
      free,
    )

    finish : (middle new : FrontView) → Heard clock secret start c came (taken ++ on c middle.tables.unsent) log rest (phase_of middle.tables.streams c)
        → (is_open middle.tables c ≡ true → IsEnd rest) → Free c middle.tables → new ≡ keeps rest c middle → After came taken log new
    finish middle new heard ends free is =
        subst (After came taken log) (sym is) (keeps_by (is_open middle.tables c) middle refl heard ends free)

  module _ (came bytes : List ℕ) (taken : List ChunkView) (log : Log) where
    -- a text is said
    says : (text : List ℕ) (kept_bytes : List ℕ) (old new : FrontView) → phase_of old.tables.streams c ≡ Some Silent
        → Holds clock secret start c came (taken ++ on c old.tables.unsent) log (Some Silent) kept_bytes
        → IsTalk clock secret start (came ++ bytes) log [] (Answers text Closes) → Free c old.tables
        → new ≡ with_tables (closed c (sent c text old.tables)) old → After (came ++ bytes) taken log new
    says text kept_bytes old new silent has talks free is =
        let u = sent c text old.tables in
        let talk = Answers text Closes in
        let done = went c talk Silent old.tables (closed c u) (ap may_send silent) (λ still. silent)
        (view-closed c u ∙ ap (run c Closes) (view-sent c text old.tables)) in
        let chunks : taken ++ on c (closed c u).unsent ≡ chunks_of c talk =
        ap (λ ps. taken ++ ps) done.chunks ∙ sym (append_assoc taken (on c old.tables.unsent) (chunks_of c talk))
        ∙ ap (λ ps. ps ++ chunks_of c talk) has.3 in
        subst (After (came ++ bytes) taken log) (sym is) (
          subst (λ (phase : Option Phase). Holds clock secret start c (came ++ bytes) (taken ++ on c (closed c u).unsent) log phase
              (bytes_in (finite.get (closed c u).streams c))) (sym done.leaves)
              ([], came ++ bytes, talk, refl, talks, refl, chunks),
          free-closed c c u (free-sent c c text old.tables free),
        )

    -- no frame is there yet, or the first of them greets
    silent_reads : (kept_bytes rest : List ℕ) (frames : List (List ℕ)) (old middle new : FrontView) → IsBehind clock secret start log old
        → phase_of old.tables.streams c ≡ Some Silent
        → Holds clock secret start c came (taken ++ on c old.tables.unsent) log (Some Silent) kept_bytes → word_in (kept_bytes ++ bytes) ≡ None
        → Free c old.tables → Cuts (kept_bytes ++ bytes) frames rest → (handles : HandlesAll frames c old middle)
        → (is_open middle.tables c ≡ true → IsEnd rest) → new ≡ keeps rest c middle
        → After (came ++ bytes) taken (log ++ frames_log frames c old middle handles) new
    silent_reads kept_bytes rest [] old middle new reported silent has none free cuts same ends is =
        let heard : Heard clock secret start c (came ++ bytes) (taken ++ on c old.tables.unsent) (log ++ []) rest (phase_of old.tables.streams c) = record {
          session = 0;
          frames = [];
          talk = Quiet;
          cuts = ap (λ xs. xs ++ bytes) has.0 ∙ cuts;
          word = ap (λ xs. word_in (xs ++ bytes)) has.0 ∙ none;
          greeted = refl;
          chunks = has.3;
          stands = inr (inr (silent, refl, refl));
        } in
        finish (came ++ bytes) taken (log ++ []) rest middle new
        (subst (λ (v : FrontView). Heard clock secret start c (came ++ bytes) (taken ++ on c v.tables.unsent) (log ++ []) rest
        (phase_of v.tables.streams c)) (sym same) heard) ends
        (subst (λ (v : FrontView). Free c v.tables) (sym same) free) is
    silent_reads kept_bytes rest (first ∷ frames) old middle new reported silent has none free cuts handling ends is =
        let more = frames_log (first ∷ frames) c old middle handling in
        let done = greets_all c first frames old middle silent free handling in
        let session = done.0 in
        let talk = done.1 in
        let heard : Heard clock secret start c (came ++ bytes) (taken ++ on c middle.tables.unsent) (log ++ more) rest (phase_of middle.tables.streams c) =
        record {
          session = session;
          frames = first ∷ frames;
          talk = talk;
          cuts = subst (λ xs. Cuts (xs ++ bytes) (first ∷ frames) rest) (sym has.0) cuts;
          word = ap (λ xs. word_in (xs ++ bytes)) has.0 ∙ none;
          greeted = greeted_deeper clock secret session start log more (first ∷ frames) talk
              (greeted_as reported.1 reported.2 (sym reported.0) session more (first ∷ frames) talk done.2);
          chunks =
              ap (λ ps. taken ++ ps) done.3.chunks ∙ sym (append_assoc taken (on c old.tables.unsent) (chunks_of c talk))
              ∙ ap (λ ps. ps ++ chunks_of c talk) has.3;
          stands = standing session first frames talk (phase_of middle.tables.streams c) (is_closed talk) refl done.3.leaves;
        } in
        finish (came ++ bytes) taken (log ++ more) rest middle new heard ends done.4 is

    -- frames of a session
    speaking_reads : (session : ℕ) (kept_bytes rest : List ℕ) (frames : List (List ℕ)) (old middle new : FrontView) → IsBehind clock secret start log old
        → phase_of old.tables.streams c ≡ Some (Speaking session)
        → Holds clock secret start c came (taken ++ on c old.tables.unsent) log (Some (Speaking session)) kept_bytes
        → Free c old.tables → Cuts (kept_bytes ++ bytes) frames rest → (handles : HandlesAll frames c old middle)
        → (is_open middle.tables c ≡ true → IsEnd rest) → new ≡ keeps rest c middle
        → After (came ++ bytes) taken (log ++ frames_log frames c old middle handles) new
    speaking_reads session kept_bytes rest frames old middle new reported speaking has free cuts handling ends is =
        let more = frames_log frames c old middle handling in
        let done = own.handles_all c session frames old middle speaking free handling in
        let talk = done.0 in
        let here = went c talk (Speaking session) old.tables middle.tables (ap may_send speaking) (λ still. speaking) done.2 in
        let heard = heard_more clock secret start c came (came ++ bytes) (taken ++ on c old.tables.unsent) (taken ++ on c middle.tables.unsent)
        log more session kept_bytes rest frames talk (phase_of middle.tables.streams c) has
        (λ first before before_cuts. (
          cuts_both (came ++ bytes) (first ∷ before) frames (kept_bytes ++ bytes) rest
              (cuts_more came bytes (first ∷ before) kept_bytes before_cuts) cuts,
          cuts_word came bytes first before kept_bytes before_cuts,
        ))
        (answered_as reported.1 reported.2 (sym reported.0) session more frames talk done.1)
        (ap (λ ps. taken ++ ps) here.chunks ∙ sym (append_assoc taken (on c old.tables.unsent) (chunks_of c talk))) here.leaves in
        finish (came ++ bytes) taken (log ++ more) rest middle new heard ends done.3 is

    silent_comes : (kept_bytes : List ℕ) (old new : FrontView) → KeepsFew old → IsBehind clock secret start log old → phase_of old.tables.streams c ≡ Some Silent
        → Holds clock secret start c came (taken ++ on c old.tables.unsent) log (Some Silent) kept_bytes → Free c old.tables
        → (comes : ComesBy (word_in (kept_bytes ++ bytes)) (kept_bytes ++ bytes) c old new)
        → After (came ++ bytes) taken (log ++ bytes_log (word_in (kept_bytes ++ bytes)) (kept_bytes ++ bytes) c old new comes) new
    silent_comes kept_bytes old new few reported silent has free comes =
        let all : word_in (came ++ bytes) ≡ word_in (kept_bytes ++ bytes) = ap (λ xs. word_in (xs ++ bytes)) has.0 in
        elim (word_in (kept_bytes ++ bytes)) as (λ asked. word_in (kept_bytes ++ bytes) ≡ asked
        → (comes : ComesBy asked (kept_bytes ++ bytes) c old new)
        → After (came ++ bytes) taken (log ++ bytes_log asked (kept_bytes ++ bytes) c old new comes) new) [
          | None ↦ λ none read.
              silent_reads kept_bytes read.0 read.2.frames old read.1 new reported silent has none free read.2.cuts read.2.handles read.2.ends
              (now_kept c (kept_bytes ++ bytes) read.0 old read.1 new few read.2 read.3)
          | Some word ↦ λ asked is.
              let text = text_of_word word old in
              let talk = Answers text Closes in
              subst (λ (l : Log). After (came ++ bytes) taken l new) (sym (append-nil log))
              (says text kept_bytes old new silent has
              (subst (λ x. MatchOption x ((session : ℕ) × Greeted clock secret session start log [] talk)
              (λ y. SaysText clock secret start (text_of_word y) log [] talk)) (sym (all ∙ asked))
              (refl, (old, log, [], sym (append-nil log), sym reported.0, reported.1, reported.2, refl))) free is)
        ] refl comes

    comes_in : (phase : Option Phase) (kept_bytes : List ℕ) (old new : FrontView) → KeepsFew old → IsBehind clock secret start log old
        → phase_of old.tables.streams c ≡ phase → may_send phase ≡ true
        → Holds clock secret start c came (taken ++ on c old.tables.unsent) log phase kept_bytes → Free c old.tables
        → (comes : ComesBy (word_asked phase (kept_bytes ++ bytes)) (kept_bytes ++ bytes) c old new)
        → After (came ++ bytes) taken (log ++ bytes_log (word_asked phase (kept_bytes ++ bytes)) (kept_bytes ++ bytes) c old new comes) new
    comes_in None kept_bytes old new few reported is is_on has free comes = absurd (cc is_on)
    comes_in (Some Silent) kept_bytes old new few reported silent is_on has free comes = silent_comes kept_bytes old new few reported silent has free comes
    comes_in (Some (Speaking session)) kept_bytes old new few reported speaking is_on has free comes =
        let reads = comes.2 in
        speaking_reads session kept_bytes comes.0 reads.frames old comes.1 new reported speaking has free reads.cuts reads.handles reads.ends
        (now_kept c (kept_bytes ++ bytes) comes.0 old comes.1 new few reads comes.3)
    comes_in (Some Closing) kept_bytes old new few reported is is_on has free comes = absurd (cc is_on)

    pub comes_open : (old new : FrontView) → KeepsFew old → IsBehind clock secret start log old → is_open old.tables c ≡ true
        → HoldsAt clock secret start c came taken log (view c old.tables) → Free c old.tables → (comes : ComesIf true bytes c old new)
        → After (came ++ bytes) taken (log ++ came_log true bytes c old new comes) new
    comes_open old new few reported is_on has free comes =
        let bare = emptied c old in
        let same = phase_with c old.tables.streams [] in
        comes_in (phase_of bare.tables.streams c) (bytes_of old.tables.streams c) bare new ((coming.empties c old).few few) reported refl
        (ap may_send same ∙ is_on)
        (subst (λ (phase : Option Phase). Holds clock secret start c came (taken ++ on c old.tables.unsent) log phase (bytes_of old.tables.streams c))
        (sym same) has)
        (free_with c [] old.tables free) comes
