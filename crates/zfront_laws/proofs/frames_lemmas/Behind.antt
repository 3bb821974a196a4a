-- What is sent and received on a connection at each step after its opening.
use Rattle.std.proofs.Common.{◌≡◌, ◌≢◌, ◌⊎◌, inl, inr, ◌∙◌, ℕ, Bool, true, false, ◌&&◌, List, [], ◌∷◌, ◌++◌, take, drop}
use Rattle.std.proofs.Common.{refl, sym, ap, subst, append_assoc}
use Rattle.std.specs.Prelude.{if◌then◌else◌}
use Rattle.std.specs.List.{AllByRecursion}
use Rattle.std.specs.FinMap as finite
use Rattle.std.proofs.lemmas.Bool.{eq-eqb, ne_eqb}
use Rattle.std.proofs.lemmas.List.{append-nil, take-append-drop}
use Rattle.ztree.specs.Tree.{Tree}
use Rattle.zresponses.specs.declared.clock.Clock.{Clock}
use Rattle.ztree_service.specs.log.Logs.{Log}
use Rattle.zconnections.specs.buffers.Inputs.InputView.{Opened, Came, Ended, Tick}
use Rattle.zconnections.specs.buffers.Outbox.{ChunkView}
use Rattle.zconnections.specs.buffers.Streams.{phase_of}
use Rattle.zconnections.specs.Tables.{is_open}
use Rattle.zfront.specs.Front.{FrontView}
use Rattle.zfront.specs.Inputs.{without_first}
use Rattle.zfront.specs.Restoring.{all_taken}
use Rattle.zfront.specs.Reading.{ComesIf, Comes}
use Rattle.zfront_laws.specs.Logs.{came_log, step_log, run_log}
use Rattle.zfront_laws.specs.Runs.{Step, Takes, Sent, Took, Does, Runs, KeepsFew}
use Rattle.zfront_laws.proofs.Inputs.{goes}
use Rattle.zfront_laws.proofs.Seated.{same_number}
use Rattle.zfront_laws.specs.frames.Talk.{tree_behind}
use Rattle.zfront_laws.specs.frames.Laws.{on, came_at, sent_at, came_on, went_on, Stays}
use Rattle.zfront_laws.proofs.frames_lemmas.Views.{view, on-both}
use Rattle.zfront_laws.proofs.frames_lemmas.Free.{Free}
use Rattle.zfront_laws.proofs.frames_lemmas.Calm.{Calm, same}
use Rattle.zfront_laws.proofs.frames_lemmas.Fronts as fronts
use Rattle.zfront_laws.proofs.frames_lemmas.Others as others
use Rattle.zfront_laws.proofs.frames_lemmas.Talking.{behind-both}
use Rattle.zfront_laws.proofs.frames_lemmas.Reading.{Holds, HoldsAt, bytes_in, holds_calm}
use Rattle.zfront_laws.proofs.frames_lemmas.Coming.{After, IsBehind, comes_open}

module _ (clock : Clock) (secret : List ℕ) (start : Tree) where
  -- the log continues
  pub goes_behind : (step : Step) (log : Log) (old new : FrontView) → KeepsFew old → IsBehind clock secret start log old → (does : Does step old new)
      → IsBehind clock secret start (log ++ step_log step old new does) new
  goes_behind step log old new few reported does =
      let done = goes step old new few does in
      let more = step_log step old new does in (
        sym (behind-both start log more) ∙ ap (λ t. tree_behind t more) reported.0 ∙ done.leads.1,
        done.alike.1 ∙ reported.1,
        done.alike.0 ∙ reported.2,
      )

  module _ (c : ℕ) where
    nothing_more : (came : List ℕ) (taken : List ChunkView) (log : Log) (new : FrontView) → After clock secret start c came taken log new
        → After clock secret start c (came ++ []) (taken ++ []) log new
    nothing_more came taken log new after =
        subst (λ xs. After clock secret start c xs (taken ++ []) log new) (sym (append-nil came))
        (subst (λ ps. After clock secret start c came ps log new) (sym (append-nil taken)) after)

    -- another connection's bytes
    not_its : (d : ℕ) (bytes : List ℕ) (v : FrontView) → d ≢ c → came_at c (Takes (Came d bytes)) v ≡ []
    not_its d bytes v other = ap (λ (b : Bool). if b && is_open v.tables c then bytes else []) (ne_eqb d c other)

    module _ (came : List ℕ) (taken : List ChunkView) (log : Log) (old new : FrontView) (few : KeepsFew old)
        (reported : IsBehind clock secret start log old) (has : HoldsAt clock secret start c came taken log (view c old.tables)) (free : Free c old.tables) where
      -- a step that answers nothing on it
      calm_step : (more : Log) → Calm c old.tables new.tables → After clock secret start c (came ++ []) (taken ++ []) (log ++ more) new
      calm_step more calm =
          let done = calm free in
          nothing_more came taken (log ++ more) new
          (holds_calm clock secret start c came taken log more old.tables new.tables done.0.0 done.0.1 done.0.2 has, done.1)

      -- bytes of its own
      comes_by : (on_now : Bool) (bytes : List ℕ) → is_open old.tables c ≡ on_now → (comes : ComesIf on_now bytes c old new)
          → After clock secret start c (came ++ (if on_now then bytes else [])) taken (log ++ came_log on_now bytes c old new comes) new
      comes_by true bytes is_on comes = comes_open clock secret start c came bytes taken log old new few reported is_on has free comes
      comes_by false bytes shut is =
          subst (λ xs. After clock secret start c xs taken (log ++ []) new) (sym (append-nil came))
          (subst (λ (l : Log). After clock secret start c came taken l new) (sym (append-nil log))
          (subst (After clock secret start c came taken log) (sym is) (has, free)))

      own_comes : (bytes : List ℕ) (comes : Comes bytes c old new)
          → After clock secret start c (came ++ came_at c (Takes (Came c bytes)) old) (taken ++ [])
          (log ++ came_log (is_open old.tables c) bytes c old new comes) new
      own_comes bytes comes =
          let more = came_log (is_open old.tables c) bytes c old new comes in
          subst (λ ps. After clock secret start c (came ++ came_at c (Takes (Came c bytes)) old) ps (log ++ more) new) (sym (append-nil taken))
          (subst (λ (b : Bool). After clock secret start c (came ++ (if b && is_open old.tables c then bytes else [])) taken (log ++ more) new)
          (sym (eq-eqb c c refl)) (comes_by (is_open old.tables c) bytes refl comes))

      comes_on : (d : ℕ) (bytes : List ℕ) (comes : Comes bytes d old new) → (d ≡ c) ⊎ (d ≢ c)
          → After clock secret start c (came ++ came_at c (Takes (Came d bytes)) old) (taken ++ [])
          (log ++ came_log (is_open old.tables d) bytes d old new comes) new
      comes_on d bytes comes (inl same) =
          subst (λ (x : ℕ). (comes : Comes bytes x old new)
          → After clock secret start c (came ++ came_at c (Takes (Came x bytes)) old) (taken ++ [])
          (log ++ came_log (is_open old.tables x) bytes x old new comes) new) (sym same) (own_comes bytes) comes
      comes_on d bytes comes (inr other) =
          let more = came_log (is_open old.tables d) bytes d old new comes in
          subst (λ xs. After clock secret start c (came ++ xs) (taken ++ []) (log ++ more) new) (sym (not_its d bytes old other))
          (calm_step more (others.comes_elsewhere c d other bytes old new few comes))

      -- a chunk is sent
      sends_first : After clock secret start c (came ++ []) (taken ++ on c (take 1 old.tables.unsent)) (log ++ []) (without_first old)
      sends_first =
          let unsent = old.tables.unsent in
          let gone = on c (take 1 unsent) in
          let left = on c (drop 1 unsent) in
          let whole : taken ++ on c unsent ≡ (taken ++ gone) ++ left =
          ap (λ ps. taken ++ on c ps) (sym (take-append-drop 1 unsent)) ∙ ap (λ ps. taken ++ ps) (on-both c (take 1 unsent) (drop 1 unsent))
          ∙ sym (append_assoc taken gone left) in (
            subst (λ xs. HoldsAt clock secret start c xs (taken ++ gone) (log ++ []) (view c (without_first old).tables)) (sym (append-nil came))
                (subst (λ (l : Log). HoldsAt clock secret start c came (taken ++ gone) l (view c (without_first old).tables)) (sym (append-nil log))
                (subst (λ ps. Holds clock secret start c came ps log (phase_of old.tables.streams c) (bytes_in (finite.get old.tables.streams c)))
                whole has)),
            record { seat = free.seat; watch = free.watch },
          )

      pub step_stays : (step : Step) → Stays c step → (does : Does step old new)
          → After clock secret start c (came ++ came_at c step old) (taken ++ sent_at c step old) (log ++ step_log step old new does) new
      step_stays (Takes (Opened d)) other does = calm_step [] (others.opens_elsewhere c d other old new does)
      step_stays (Takes (Came d bytes)) stays does = comes_on d bytes does (same_number d c)
      step_stays (Takes (Ended d)) other does = calm_step [] (others.ends_elsewhere c d other old new does)
      step_stays (Takes Tick) stays does = calm_step (step_log (Takes Tick) old new does) (others.ticks c old new does)
      step_stays Sent stays is =
          subst (After clock secret start c (came ++ []) (taken ++ on c (take 1 old.tables.unsent)) (log ++ [])) (sym is) sends_first
      step_stays Took stays is = calm_step [] (fronts.becomes c old new (all_taken old) is (same c old.tables))

    -- steps after its opening
    pub runs_behind : (steps : List Step) (came : List ℕ) (taken : List ChunkView) (log : Log) (old new : FrontView) → KeepsFew old
        → IsBehind clock secret start log old → HoldsAt clock secret start c came taken log (view c old.tables) → Free c old.tables
        → AllByRecursion (Stays c) steps → (runs : Runs steps old new)
        → Holds clock secret start c (came ++ came_on c steps old new runs) (taken ++ went_on c steps old new runs) (log ++ run_log steps old new runs)
        (phase_of new.tables.streams c) (bytes_in (finite.get new.tables.streams c))
    runs_behind [] came taken log old new few reported has free stays is =
        subst (λ xs. Holds clock secret start c xs (taken ++ on c new.tables.unsent) (log ++ []) (phase_of new.tables.streams c)
        (bytes_in (finite.get new.tables.streams c))) (sym (append-nil came))
        (subst (λ (l : Log). HoldsAt clock secret start c came taken l (view c new.tables)) (sym (append-nil log))
        (subst (λ (v : FrontView). HoldsAt clock secret start c came taken log (view c v.tables)) (sym is) has))
    runs_behind (step ∷ steps) came taken log old new few reported has free stays runs =
        let middle = runs.0 in
        let now = step_log step old middle runs.1 in
        let later = run_log steps middle new runs.2 in
        let done = step_stays came taken log old middle few reported has free step stays.0 runs.1 in
        let rest = runs_behind steps (came ++ came_at c step old) (taken ++ sent_at c step old) (log ++ now) middle new
        ((goes step old middle few runs.1).few few) (goes_behind step log old middle few reported runs.1) done.0 done.1 stays.1 runs.2 in
        subst (λ xs. Holds clock secret start c xs (taken ++ (sent_at c step old ++ went_on c steps middle new runs.2)) (log ++ (now ++ later))
        (phase_of new.tables.streams c) (bytes_in (finite.get new.tables.streams c)))
        (append_assoc came (came_at c step old) (came_on c steps middle new runs.2))
        (subst (λ ps. Holds clock secret start c ((came ++ came_at c step old) ++ came_on c steps middle new runs.2) ps (log ++ (now ++ later))
        (phase_of new.tables.streams c) (bytes_in (finite.get new.tables.streams c)))
        (append_assoc taken (sent_at c step old) (went_on c steps middle new runs.2))
        (subst (λ (l : Log). Holds clock secret start c ((came ++ came_at c step old) ++ came_on c steps middle new runs.2)
        ((taken ++ sent_at c step old) ++ went_on c steps middle new runs.2) l
        (phase_of new.tables.streams c) (bytes_in (finite.get new.tables.streams c)))
        (append_assoc log now later) rest))
