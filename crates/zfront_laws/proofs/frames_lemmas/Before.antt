-- At the steps before its opening a connection is there, or nothing of it is left.
use Rattle.std.proofs.Common.{◌≡◌, ◌≢◌, ◌⊎◌, inl, inr, ◌∙◌, ℕ, Bool, true, false, not, List, [], ◌∷◌, ◌++◌, take, drop}
use Rattle.std.proofs.Common.{Option, None, Some, refl, sym, ap, subst, append_assoc, eqb}
use Rattle.std.specs.Prelude.{if◌then◌else◌}
use Rattle.std.specs.FinMap as finite
use Rattle.std.specs.FinMap.{nat_cmp-IsAntisymmetric}
use Rattle.std.specs.Cmp.{nat_cmp_total}
use Rattle.std.proofs.lemmas.List.{append-nil, take-append-drop}
use Rattle.ztree.proofs.Maps.{none_some, get-insert-here, get-remove-here}
use Rattle.zresponses.specs.declared.clock.Clock.{Clock}
use Rattle.zjute.specs.Frames.{Whole, Partial, next_of, IsEnd}
use Rattle.ztree_service.specs.log.Logs.{Log}
use Rattle.ztree.specs.Tree.{Tree}
use Rattle.zconnections.specs.declared.buffers.phase.Phase.{Phase}
use Rattle.zconnections.specs.declared.buffers.phase.Phase.TheVariants.{Speaking}
use Rattle.zconnections.specs.buffers.Inputs.InputView.{Opened, Came, Ended, Tick}
use Rattle.zconnections.specs.buffers.Outbox.{ChunkView}
use Rattle.zconnections.specs.buffers.Outbox as outbox
use Rattle.zconnections.specs.buffers.Streams.{StreamView, phase_of}
use Rattle.zconnections.specs.buffers.Streams as stream
use Rattle.zconnections.specs.Tables.{TablesView, may_send, is_open}
use Rattle.zfront.specs.Front.{FrontView}
use Rattle.zfront.specs.Inputs.{without_first}
use Rattle.zfront.specs.Inputs as inputs
use Rattle.zfront.specs.Reading.{ComesIf, Comes}
use Rattle.zfront.specs.Restoring.{all_taken}
use Rattle.zfront_laws.specs.Logs.{step_log, run_log}
use Rattle.zfront_laws.specs.Runs.{Step, Takes, Sent, Took, Does, Runs, KeepsFew}
use Rattle.zfront_laws.proofs.Inputs.{goes}
use Rattle.zfront_laws.proofs.Seated.{same_number}
use Rattle.zfront_laws.specs.frames.Laws.{on, came_at, sent_at, IsFree, GivesOnce, Stays}
use Rattle.zfront_laws.proofs.frames_lemmas.Views.{View, view, phase_in, run, run_not, on-both}
use Rattle.zfront_laws.proofs.frames_lemmas.Free.{speaks, Free, free-parted}
use Rattle.zfront_laws.proofs.frames_lemmas.Calm.{Calm, same}
use Rattle.zfront_laws.proofs.frames_lemmas.Fronts as fronts
use Rattle.zfront_laws.proofs.frames_lemmas.Others as others
use Rattle.zfront_laws.proofs.frames_lemmas.Reading.{Holds, HoldsAt, bytes_in}
use Rattle.zfront_laws.proofs.frames_lemmas.Coming.{IsBehind}
use Rattle.zfront_laws.proofs.frames_lemmas.Behind.{goes_behind, step_stays}

not_whole : (bytes rest : List ℕ) → Partial ≡ Whole bytes rest → ⊥
not_whole bytes rest is = cc is

no_frame : IsEnd []
unfolding next_of
no_frame bytes more is = not_whole bytes more is

-- the second of two lists that are both empty
second_empty : {X : Type 0} (xs ys : List X) → xs ++ ys ≡ [] → ys ≡ []
second_empty [] ys is = is
second_empty (x ∷ xs) ys is = absurd (cc is)

-- nothing of a connection is left
abbrev pub IsAway : ℕ → TablesView → Type 0
IsAway c t = view c t ≡ (None, [])

none_speaks : (phase : Option Phase) → phase ≡ None → speaks phase ≡ true → ⊥
none_speaks phase none is =
    let clash : false ≡ true = sym (ap speaks none) ∙ is in
    cc clash

module _ (c : ℕ) where
  none_left : (ps : List ChunkView) → on c (outbox.without ps c) ≡ []
  none_left [] = refl
  none_left (p ∷ ps) = by (eqb p.connection c) refl (none_left ps)
    where
      rest : List ChunkView
      rest = outbox.without ps c

      by : (b : Bool) → eqb p.connection c ≡ b → on c rest ≡ [] → on c (if not b then p ∷ rest else rest) ≡ []
      by true own none = none
      by false other none = ap (λ (e : Bool). if e then p ∷ on c rest else on c rest) other ∙ none

  ends : (old new : FrontView) → Free c old.tables → new ≡ inputs.ended c old → IsAway c new.tables × Free c new.tables
  ends old new free is =
      let t = old.tables in
      subst (λ (v : FrontView). IsAway c v.tables × Free c v.tables) (sym is) (
        ap (λ o. (o, on c (outbox.without t.unsent c))) (get-remove-here nat_cmp_total nat_cmp-IsAntisymmetric t.streams c)
            ∙ ap (λ ps. (None, ps)) (none_left t.unsent),
        free-parted c t (finite.remove t.streams c) (outbox.without t.unsent c) free,
      )

  away_calm : (old new : TablesView) → IsAway c old → Free c old → Calm c old new → IsAway c new × Free c new
  away_calm old new away free calm =
      let done = calm free in
      (done.0.2 ∙ ap (run c done.0.0) away ∙ run_not c done.0.0 (None, []) refl, done.1)

  away_shut : (t : TablesView) → IsAway c t → is_open t c ≡ false
  away_shut t away = ap (λ (w : View). may_send (phase_in w.0)) away

  sent_away : (v : FrontView) → IsAway c v.tables → IsAway c (without_first v).tables
  sent_away v away =
      let unsent = v.tables.unsent in
      let none : on c (take 1 unsent) ++ on c (drop 1 unsent) ≡ [] =
      sym (on-both c (take 1 unsent) (drop 1 unsent)) ∙ ap (on c) (take-append-drop 1 unsent) ∙ ap (λ (w : View). w.1) away in
      ap (λ (o : Option StreamView). (o, on c (drop 1 unsent))) (ap (λ (w : View). w.0) away)
      ∙ ap (λ (ps : List ChunkView). (None, ps)) (second_empty (on c (take 1 unsent)) (on c (drop 1 unsent)) none)

  module _ (clock : Clock) (secret : List ℕ) (start : Tree) where
    abbrev pub Known : Log → TablesView → Type 0
    Known log t = ((came : List ℕ) × (taken : List ChunkView) × HoldsAt clock secret start c came taken log (view c t)) ⊎ IsAway c t

    -- a connection that is opened
    pub opens : (log : Log) (old : FrontView) → IsAway c old.tables → Free c old.tables
        → HoldsAt clock secret start c [] [] log (view c (inputs.opened c old).tables) × Free c (inputs.opened c old).tables
    opens log old away free =
        let t = old.tables in
        let none : phase_of t.streams c ≡ None = ap (λ (w : View). phase_in w.0) away in
        let there = get-insert-here nat_cmp_total nat_cmp-IsAntisymmetric t.streams c stream.opened in
        let opened : view c (inputs.opened c old).tables ≡ (Some stream.opened, []) =
        ap (λ o. (o, on c t.unsent)) there ∙ ap (λ (w : View). (Some stream.opened, w.1)) away in (
          subst (HoldsAt clock secret start c [] [] log) (sym opened) (refl, no_frame, refl, refl),
          record {
            seat = λ session sits. absurd (none_some (Speaking session) (sym none ∙ free.seat session sits));
            watch = λ w waits own. absurd (none_speaks (phase_of t.streams c) none (free.watch w waits own));
          },
        )

    module _ (log : Log) (old new : FrontView) (few : KeepsFew old) (reported : IsBehind clock secret start log old) (free : Free c old.tables) where
      -- after a step
      abbrev Then : (step : Step) → Does step old new → Type 0
      Then step does = Known (log ++ step_log step old new does) new.tables × Free c new.tables

      -- nothing of it is left, and so it stays
      still_away : (step : Step) (does : Does step old new) → IsAway c new.tables × Free c new.tables → Then step does
      still_away step does done = (inr done.0, done.1)

      calm_away : (step : Step) (does : Does step old new) → IsAway c old.tables → Calm c old.tables new.tables → Then step does
      calm_away step does away calm = still_away step does (away_calm old.tables new.tables away free calm)

      opens_away : (d : ℕ) (does : Does (Takes (Opened d)) old new) → IsAway c old.tables → (d ≡ c) ⊎ (d ≢ c) → Then (Takes (Opened d)) does
      opens_away d does away (inl same) =
          let is : new ≡ inputs.opened c old = does ∙ ap (λ x. inputs.opened x old) same in
          let done = opens (log ++ []) old away free in (
            inl ([], [], subst (λ (v : FrontView). HoldsAt clock secret start c [] [] (log ++ []) (view c v.tables)) (sym is) done.0),
            subst (λ (v : FrontView). Free c v.tables) (sym is) done.1,
          )
      opens_away d does away (inr other) = calm_away (Takes (Opened d)) does away (others.opens_elsewhere c d other old new does)

      comes_away : (d : ℕ) (bytes : List ℕ) (does : Comes bytes d old new) → IsAway c old.tables → (d ≡ c) ⊎ (d ≢ c)
          → Then (Takes (Came d bytes)) does
      comes_away d bytes does away (inl same) =
          let is : new ≡ old = subst (λ (b : Bool). ComesIf b bytes c old new) (away_shut old.tables away)
          (subst (λ x. Comes bytes x old new) same does) in
          still_away (Takes (Came d bytes)) does (subst (λ (v : FrontView). IsAway c v.tables × Free c v.tables) (sym is) (away, free))
      comes_away d bytes does away (inr other) =
          calm_away (Takes (Came d bytes)) does away (others.comes_elsewhere c d other bytes old new few does)

      ends_now : (d : ℕ) (does : Does (Takes (Ended d)) old new) → (d ≡ c) ⊎ (d ≢ c) → (d ≢ c → Then (Takes (Ended d)) does)
          → Then (Takes (Ended d)) does
      ends_now d does (inl same) elsewhere = still_away (Takes (Ended d)) does (ends old new free (does ∙ ap (λ x. inputs.ended x old) same))
      ends_now d does (inr other) elsewhere = elsewhere other

      step_away : (step : Step) (does : Does step old new) → IsAway c old.tables → Then step does
      step_away (Takes (Opened d)) does away = opens_away d does away (same_number d c)
      step_away (Takes (Came d bytes)) does away = comes_away d bytes does away (same_number d c)
      step_away (Takes (Ended d)) does away =
          ends_now d does (same_number d c) (λ other. calm_away (Takes (Ended d)) does away (others.ends_elsewhere c d other old new does))
      step_away (Takes Tick) does away = calm_away (Takes Tick) does away (others.ticks c old new does)
      step_away Sent is away =
          still_away Sent is (subst (λ (v : FrontView). IsAway c v.tables × Free c v.tables) (sym is)
          (sent_away old away, record { seat = free.seat; watch = free.watch }))
      step_away Took is away = calm_away Took is away (fronts.becomes c old new (all_taken old) is (same c old.tables))

      -- the connection is there
      module _ (came : List ℕ) (taken : List ChunkView) (has : HoldsAt clock secret start c came taken log (view c old.tables)) where
        not_free : phase_of old.tables.streams c ≡ None → ⊥
        not_free none = subst (λ phase. Holds clock secret start c came (taken ++ on c old.tables.unsent) log phase
            (bytes_in (finite.get old.tables.streams c))) none has

        stays_there : (step : Step) → Stays c step → (does : Does step old new) → Then step does
        stays_there step stays does =
            let done = step_stays clock secret start c came taken log old new few reported has free step stays does in
            (inl (came ++ came_at c step old, taken ++ sent_at c step old, done.0), done.1)

        opens_there : (d : ℕ) → IsFree c (Takes (Opened d)) old → (does : Does (Takes (Opened d)) old new) → (d ≡ c) ⊎ (d ≢ c)
            → Then (Takes (Opened d)) does
        opens_there d once does (inl same) = absurd (not_free (once same))
        opens_there d once does (inr other) = stays_there (Takes (Opened d)) other does

        step_there : (step : Step) → IsFree c step old → (does : Does step old new) → Then step does
        step_there (Takes (Opened d)) once does = opens_there d once does (same_number d c)
        step_there (Takes (Came d bytes)) once does = stays_there (Takes (Came d bytes)) tt does
        step_there (Takes (Ended d)) once does =
            ends_now d does (same_number d c) (λ other. stays_there (Takes (Ended d)) other does)
        step_there (Takes Tick) once does = stays_there (Takes Tick) tt does
        step_there Sent once does = stays_there Sent tt does
        step_there Took once does = stays_there Took tt does

      step_before : Known log old.tables → (step : Step) → IsFree c step old → (does : Does step old new) → Then step does
      step_before (inl there) step once does = step_there there.0 there.1 there.2 step once does
      step_before (inr away) step once does = step_away step does away

    -- all of them
    pub runs_before : (steps : List Step) (log : Log) (old new : FrontView) → KeepsFew old → IsBehind clock secret start log old → Free c old.tables
        → Known log old.tables → (runs : Runs steps old new) → GivesOnce c steps old new runs
        → Known (log ++ run_log steps old new runs) new.tables × Free c new.tables
        × IsBehind clock secret start (log ++ run_log steps old new runs) new × KeepsFew new
    runs_before [] log old new few reported free known is once =
        subst (λ (l : Log). Known l new.tables × Free c new.tables × IsBehind clock secret start l new × KeepsFew new) (sym (append-nil log))
        (subst (λ (v : FrontView). Known log v.tables × Free c v.tables × IsBehind clock secret start log v × KeepsFew v) (sym is)
        (known, free, reported, few))
    runs_before (step ∷ steps) log old new few reported free known runs once =
        let middle = runs.0 in
        let now = step_log step old middle runs.1 in
        let done = step_before log old middle few reported free known step once.0 runs.1 in
        subst (λ (l : Log). Known l new.tables × Free c new.tables × IsBehind clock secret start l new × KeepsFew new)
        (append_assoc log now (run_log steps middle new runs.2))
        (runs_before steps (log ++ now) middle new ((goes step old middle few runs.1).few few)
        (goes_behind clock secret start step log old middle few reported runs.1) done.1 done.0 runs.2 once.1)
