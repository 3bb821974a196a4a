-- A connection that gave no login makes no call, whatever the steps were.
use Rattle.std.proofs.Common.{◌≡◌, ◌≢◌, ◌⊎◌, inl, inr, ◌∙◌, ℕ, List, [], ◌∷◌, ◌++◌, Option, None, Some, refl, sym, ap, subst}
use Rattle.std.proofs.lemmas.Bool.{eq-eqb}
use Rattle.std.specs.FinMap.{get, get-empty}
use Rattle.std.specs.Option.{option_map}
use Rattle.std.specs.Ordering.{nat_cmp}
use Rattle.ztree.proofs.Maps.{none_some, same_some}
use Rattle.zconnections.specs.buffers.Inputs.InputView.{Came}
use Rattle.ztree_service.specs.log.Logs.{Log}
use Rattle.zfront.specs.Front.{FrontView}
use Rattle.zfront_laws.specs.Given.{since_opened, since_step}
use Rattle.zfront_laws.specs.Logs.{step_log}
use Rattle.zfront_laws.specs.Runs.{Step, Takes, Does, KeepsFew}
use Rattle.zfront_laws.proofs.Inputs.{every_step_goes_on}
use Rattle.zfront_laws.proofs.Restored.{is_few}
use Rattle.zguard.specs.declared.visitor.Standing.{Standing}
use Rattle.zguard.specs.declared.visitor.Standing.TheVariants as at
use Rattle.zguard.specs.Guarding.{CameView, GuardView, HeardView, VisitorView, came, heard}
use Rattle.zguard.proofs.Pieces.{Stands, stands_more}
use Rattle.zguard_laws.specs.Laws.{HasGiven, NoStrangerMakesACall}
use Rattle.zguard_laws.specs.Runs.{GuardedDoes, GuardedRuns, GuardedView, after_step, guarded_beginning, passed_step}
use Rattle.zguard_laws.proofs.Calls.{AllOpen, calls_open}
use Rattle.zguard_laws.proofs.Frames.{HasNoSecond, passed_one}
use Rattle.zguard_laws.proofs.Known.{Known, came_there, known_on, logins_stay}
use Rattle.zguard_laws.proofs.Reading.{Heard, reads_on}

-- what is known of a connection to the guard, and to the front behind it
record Stood (logins : List (List ℕ)) (c : ℕ) (since passed : Option (List ℕ)) (v : GuardedView) : Type 0 where
  logins_are : v.guard.logins ≡ logins
  known : Known logins since passed (get v.guard.visitors c)
  heard : Heard c passed v.front.tables.streams
  few : KeepsFew v.front

stands_on : (logins : List (List ℕ)) (c : ℕ) (since passed : Option (List ℕ)) (step : Step) (old new : GuardedView) → GuardedDoes step old new
    → Stood logins c since passed old → Stood logins c (since_step c step since) (since_step c (passed_step old.guard step) passed) new
stands_on logins c since passed step old new does stood =
    let now = since_step c step since in
    let went = since_step c (passed_step old.guard step) passed in
    let before = subst (λ ls. Known ls since passed (get old.guard.visitors c)) (sym stood.logins_are) stood.known in
    record {
      logins_are = ap (λ (g : GuardView). g.logins) does.1 ∙ logins_stay step old ∙ stood.logins_are;
      known = subst (λ (g : GuardView). Known logins now went (get g.visitors c)) (sym does.1)
          (subst (λ ls. Known ls now went (get (after_step step old).visitors c)) stood.logins_are (known_on c since passed step old before));
      heard = reads_on c passed old.front new.front stood.few stood.heard (passed_step old.guard step) does.0;
      few = (every_step_goes_on (passed_step old.guard step) old.front new.front stood.few does.0).1;
    }

all_stand : (logins : List (List ℕ)) (c : ℕ) (since passed : Option (List ℕ)) (steps : List Step) (old new : GuardedView) → GuardedRuns steps old new
    → Stood logins c since passed old → (went : Option (List ℕ)) × Stood logins c (since_opened c steps since) went new
all_stand logins c since passed [] old new is stood = (passed, subst (λ (v : GuardedView). Stood logins c since passed v) (sym is) stood)
all_stand logins c since passed (step ∷ steps) old new has stood =
    all_stand logins c (since_step c step since) (since_step c (passed_step old.guard step) passed) steps has.0 new has.2
    (stands_on logins c since passed step old has.0 has.1 stood)

since_more : (c : ℕ) (done : List Step) (step : Step) (since : Option (List ℕ)) → since_opened c (done ++ step ∷ []) since
    ≡ since_step c step (since_opened c done since)
since_more c [] step since = refl
since_more c (first ∷ done) step since = since_more c done step (since_step c first since)

-- ---- bytes that come

module _ (logins : List (List ℕ)) (c : ℕ) (bytes : List ℕ) (since went : Option (List ℕ)) (old : GuardedView) (new : FrontView)
    (stood : Stood logins c since went old) (does : Does (Takes (Came c (came c bytes old.guard).passed)) old.front new) where
  abbrev passes : List ℕ
  passes = (came c bytes old.guard).passed

  abbrev log : Log
  log = step_log (Takes (Came c passes)) old.front new does

  opens : ((before : List ℕ) → went ≡ Some before → HasNoSecond (before ++ passes)) → AllOpen log
  opens one = calls_open c passes went old.front new stood.heard one does

  -- it has given a login by then, or the calls open a session
  abbrev Either : Type 0
  Either = HasGiven logins (option_map (λ came. came ++ bytes) since) ⊎ AllOpen log

  there : (v : VisitorView) → get old.guard.visitors c ≡ Some v → Known logins since went (Some v) → Either
  there v is knows = by h.standing (stands_more logins v.standing knows.0 knows.1 v.bytes bytes knows.4)
    where
      h : HeardView
      h = heard logins v bytes

      passed_is : passes ≡ h.passed
      passed_is =
          ap (λ (k : CameView). k.passed) (came_there c bytes old.guard v is) ∙ ap (λ ls. (heard ls v bytes).passed) stood.logins_are

      strange : (s : Standing) → s ≢ at.Admitted → Stands logins s (knows.0 ++ bytes) (knows.1 ++ h.passed) h.bytes → AllOpen log
      strange s other stands =
          opens (λ before same.
          subst HasNoSecond (ap (λ xs. xs ++ h.passed) (same_some knows.1 before (sym knows.3 ∙ same)) ∙ ap (λ xs. before ++ xs) (sym passed_is))
          (passed_one logins s (knows.0 ++ bytes) (knows.1 ++ h.passed) h.bytes other stands))

      by : (s : Standing) → Stands logins s (knows.0 ++ bytes) (knows.1 ++ h.passed) h.bytes → Either
      by at.Silent stands = inr (strange at.Silent (λ clash. cc clash) stands)
      by at.Stranger stands = inr (strange at.Stranger (λ clash. cc clash) stands)
      by at.Admitted stands = inl (subst (HasGiven logins) (sym (ap (option_map (λ came. came ++ bytes)) knows.2)) stands.0)
      by at.Refused stands = inr (strange at.Refused (λ clash. cc clash) stands)

  decides : (o : Option VisitorView) → get old.guard.visitors c ≡ o → Known logins since went o → Either
  decides None none knows = inr (opens (λ before is. absurd (none_some before (sym knows.1 ∙ is))))
  decides (Some v) is knows = there v is knows

pub no_stranger_makes_a_call : NoStrangerMakesACall
no_stranger_makes_a_call logins limits t secret times is_kept before c bytes old new runs does =
    let first = guarded_beginning logins limits t secret times is_kept in
    let begun : Stood logins c None None first = record {
      logins_are = refl;
      known = subst (Known logins None None) (sym (get-empty nat_cmp c)) (refl, refl);
      heard = λ row found going. absurd (none_some row (sym (get-empty nat_cmp c) ∙ found));
      few = is_few limits t secret times is_kept;
    } in
    let stands = all_stand logins c None None before first old runs begun in
    let since = since_opened c before None in
    let grown : since_step c (Takes (Came c bytes)) since ≡ option_map (λ came. came ++ bytes) since = rw (eq-eqb c c refl) refl in
    subst (λ o. HasGiven logins o ⊎ AllOpen (step_log (Takes (Came c (came c bytes old.guard).passed)) old.front new does))
    (sym (since_more c before (Takes (Came c bytes)) None ∙ grown))
    (decides logins c bytes since stands.0 old new stands.1 does (get old.guard.visitors c) refl stands.1.known)
