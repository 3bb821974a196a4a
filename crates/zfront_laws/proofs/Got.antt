-- How whoever speaks for a session got it, whatever the steps were.
use Rattle.std.proofs.Common.{◌≡◌, ◌⊎◌, inl, inr, ◌∙◌, ℕ, List, [], ◌∷◌, ◌++◌, Option, None, Some, refl, sym, ap, subst, append_assoc}
use Rattle.std.proofs.lemmas.Bool.{eq-eqb}
use Rattle.std.proofs.lemmas.List.{append-nil}
use Rattle.std.specs.List.{AllByRecursion}
use Rattle.zconnections.specs.buffers.Inputs.InputView.{Opened, Came, Ended, Tick}
use Rattle.zconnections.specs.declared.buffers.phase.Phase.TheVariants.{Silent, Speaking}
use Rattle.zconnections.specs.buffers.Streams.{bytes_of, phase_of}
use Rattle.zconnections.specs.Tables.{is_open}
use Rattle.zfront.specs.Front.{FrontView}
use Rattle.zfront.specs.Inputs.{without_first}
use Rattle.zfront.specs.Restoring.{beginning, all_taken}
use Rattle.zfront_laws.specs.Runs.{Step, Takes, Sent, Took, KeepsFew, Does, Runs}
use Rattle.zfront_laws.specs.Given.{since_step, since_opened, IsNoOpening, HasGot, EverySessionIsGot}
use Rattle.zfront_laws.proofs.Working as working
use Rattle.zfront_laws.proofs.Given.{Gives, GotBy, IsWaiting, Spoke, ends_gives, gives_nothing, opens_gives}
use Rattle.zfront_laws.proofs.Bare.{no_phase}
use Rattle.zfront_laws.proofs.Inputs.{goes}
use Rattle.zfront_laws.proofs.Restored.{is_bare, is_few}
use Rattle.zfront_laws.proofs.Quiet.{Quiet, carries_quiet}
use Rattle.zfront_laws.proofs.Heard.{comes_if}

-- ---- any step

gives_by : (step : Step) (old new : FrontView) → KeepsFew old → Does step old new → Gives step old new
gives_by (Takes (Opened c)) old new few is = opens_gives c old new is
gives_by (Takes (Came c bytes)) old new few has = comes_if (is_open old.tables c) bytes c old new refl few has
gives_by (Takes (Ended c)) old new few is = ends_gives c old new is
gives_by (Takes Tick) old new few has =
    gives_nothing (Takes Tick) old new (λ d. tt) (λ d since. refl) (working.ticks Quiet carries_quiet old new has)
gives_by Sent old new few is =
    gives_nothing Sent old new (λ d. tt) (λ d since. refl)
    (working.becomes Quiet carries_quiet old (without_first old) new is (carries_quiet.none old.tables))
gives_by Took old new few is =
    gives_nothing Took old new (λ d. tt) (λ d since. refl)
    (working.becomes Quiet carries_quiet old (all_taken old) new is (carries_quiet.none old.tables))

-- ---- and steps, one after the other

-- the state of each connection after steps
record Stands (done : List Step) (first v : FrontView) : Type 0 where
  silent : (c : ℕ) → IsWaiting c v.tables.streams (since_opened c done None)
  speaks : (c session : ℕ) → phase_of v.tables.streams c ≡ Some (Speaking session) → HasGot c session done first v

since_more : (c : ℕ) (done : List Step) (step : Step) (since : Option (List ℕ)) → since_opened c (done ++ step ∷ []) since
    ≡ since_step c step (since_opened c done since)
since_more c [] step since = refl
since_more c (first ∷ done) step since = since_more c done step (since_step c first since)

runs_more : (done : List Step) (step : Step) (first old new : FrontView) → Runs done first old → Does step old new
    → Runs (done ++ step ∷ []) first new
runs_more [] step first old new is does = (new, subst (λ (v : FrontView). Does step v new) is does, refl)
runs_more (next ∷ done) step first old new ran does = (ran.0, ran.1, runs_more done step ran.0 old new ran.2 does)

openings_more : (c : ℕ) (steps : List Step) (step : Step) → AllByRecursion (IsNoOpening c) steps → IsNoOpening c step
    → AllByRecursion (IsNoOpening c) (steps ++ step ∷ [])
openings_more c [] step all one = (one, tt)
openings_more c (next ∷ steps) step all one = (all.0, openings_more c steps step all.1 one)

module _ (done : List Step) (step : Step) (first old new : FrontView) (does : Does step old new) (c session : ℕ) where
  -- who spoke before
  got_before : Spoke step c session old → HasGot c session done first old → HasGot c session (done ++ step ∷ []) first new
  got_before spoke got = record {
    before = got.before;
    bytes = got.bytes;
    behind = got.behind ++ step ∷ [];
    all = ap (λ steps. steps ++ step ∷ []) got.all ∙ append_assoc got.before (Takes (Came c got.bytes) ∷ got.behind) (step ∷ []);
    before_it = got.before_it;
    behind_it = got.behind_it;
    ran = got.ran;
    came = got.came;
    runs = runs_more got.behind step got.behind_it old new got.runs does;
    since = got.since;
    opened = got.opened;
    once = openings_more c got.behind step got.once spoke.0;
    silent = got.silent;
    frame = got.frame;
    more = got.more;
    whole_is = got.whole_is;
    greeting = got.greeting;
    spelled = got.spelled;
    gains = got.gains;
  }

  -- who speaks since this step
  got_now : Runs done first old → IsWaiting c old.tables.streams (since_opened c done None) → GotBy step c session old
      → HasGot c session (done ++ step ∷ []) first new
  got_now ran stood by = record {
    before = done;
    bytes = by.bytes;
    behind = [];
    all = ap (λ last. done ++ last ∷ []) by.came;
    before_it = old;
    behind_it = new;
    ran = ran;
    came = subst (λ last. Does last old new) by.came does;
    runs = refl;
    since = since;
    opened = since_more c done (Takes (Came c by.bytes)) None ∙ ap (since_step c (Takes (Came c by.bytes))) (stood by.silent) ∙ grown;
    once = tt;
    silent = by.silent;
    frame = by.frame;
    more = by.more;
    whole_is = by.first;
    greeting = by.gains.0;
    spelled = by.gains.1;
    gains = by.gains.2;
  }
    where
      since : List ℕ
      since = bytes_of old.tables.streams c ++ by.bytes

      grown : since_step c (Takes (Came c by.bytes)) (Some (bytes_of old.tables.streams c)) ≡ Some since
      grown = rw (eq-eqb c c refl) refl

stands_on : (done : List Step) (step : Step) (first old new : FrontView) → Runs done first old → Does step old new → Gives step old new
    → Stands done first old → Stands (done ++ step ∷ []) first new
stands_on done step first old new ran does gives stood = record {
  silent = λ c is. since_more c done step None ∙ gives.silent c (since_opened c done None) (stood.silent c) is;
  speaks = λ c session is. by c session (gives.speaks c session is);
}
  where
    by : (c session : ℕ) → Spoke step c session old ⊎ GotBy step c session old → HasGot c session (done ++ step ∷ []) first new
    by c session (inl spoke) = got_before done step first old new does c session spoke (stood.speaks c session spoke.1)
    by c session (inr got) = got_now done step first old new does c session ran (stood.silent c) got

all_stand : (done steps : List Step) (first old v : FrontView) → Runs done first old → KeepsFew old → Stands done first old → Runs steps old v
    → Stands (done ++ steps) first v
all_stand done [] first old v ran few stood is =
    subst (λ (u : FrontView). Stands (done ++ []) first u) (sym is) (subst (λ all. Stands all first old) (sym (append-nil done)) stood)
all_stand done (step ∷ steps) first old v ran few stood has =
    let stands = stands_on done step first old has.0 ran has.1 (gives_by step old has.0 few has.1) stood in
    subst (λ all. Stands all first v) (append_assoc done (step ∷ []) steps)
    (all_stand (done ++ step ∷ []) steps first has.0 v (runs_more done step first old has.0 ran has.1) ((goes step old has.0 few has.1).few few)
    stands has.2)

pub every_session_is_got : EverySessionIsGot
every_session_is_got limits t secret times is_kept steps v c session runs speaks =
    let first = beginning limits t secret times is_kept in
    let bare = is_bare limits t secret times is_kept in
    let stood : Stands [] first first = record {
      silent = λ d silent. absurd (no_phase first.tables bare d Silent silent);
      speaks = λ d other has. absurd (no_phase first.tables bare d (Speaking other) has);
    } in
    (all_stand [] steps first first v refl (is_few limits t secret times is_kept) stood runs).speaks c session speaks
