-- What is returned to C, call by call: each call plays at most one line, and returns what was to be
-- returned or nothing.
use Rattle.std.proofs.Common.{◌≡◌, ℕ, ◌⊎◌, inl, inr, Bool, true, false, List, [], ◌∷◌, ◌++◌, length, take, drop, refl}
use Rattle.std.proofs.Common.{sym, ap, ◌∙◌, subst, append_assoc, if◌then◌else◌}
use Rattle.std.proofs.Math.Dec.{ltb}
use Rattle.std.proofs.Math.Seq.{take-append_seam}
use Rattle.std.proofs.lemmas.Bool.{ltb-true, ltb-false}
use Rattle.std.proofs.lemmas.List.{append-nil}
use Rattle.std.specs.Prelude.{string_bytes}
use Rattle.zworld.specs.Steps.{WorldView}
use Rattle.zscript.specs.Line.{ServiceWorld, script_state, answers}
use Rattle.zscript.specs.Done.{world_between}
use Rattle.zscript.specs.Script.{opening_of}
use Rattle.zscript.specs.support.Lines.{AreLinesDone}
use Rattle.zscript.proofs.Done.{done-none, done-line, done-written, done-append, done-text}
use Rattle.zc_library.specs.declared.service.Service.{Service}
use Rattle.zc_library.specs.declared.service.Service.TheVariants.{Open, OutOfMemory, Refused}
use Rattle.zc_library.specs.declared.status.Status.{Status}
use Rattle.zc_library.specs.declared.status.Status.TheVariants.{Done, Pending, Memory, NoServers}
use Rattle.zc_library.specs.Service.{IsOpened, Plays, Hears, HasReported, Reports, to_report}
use Rattle.zc_library.specs.Uses.{Call, Hear, Report, IsCalled, IsUsed, played_by, reported_by, played_lines, reported_bytes, ScriptsTextIsReported}

-- the world of a service, where it is open
abbrev IsIn : Service → ServiceWorld → Type 0
IsIn (Open script answer) world = world_between script.held ≡ world
IsIn OutOfMemory world = Unit {0}
IsIn Refused world = Unit {0}

-- lines were played between two services, and this was returned
abbrev Writes : Service → List ℕ → Service → List ℕ → Type 0
Writes old reported new text = to_report old ++ text ≡ reported ++ to_report new

record Went (old : Service) (world : ServiceWorld) (lines : List (List ℕ)) (reported : List ℕ) (new : Service) : Type 0 where
  pub after : ServiceWorld
  pub at : IsIn new after
  pub done : AreLinesDone world lines after (Writes old reported new)

-- a list is empty, or it isn't
abbrev IsNil : List ℕ → Type 0
IsNil [] = Unit {0}
IsNil (b ∷ bs) = ⊥

empty_or : (bytes : List ℕ) → (bytes ≡ []) ⊎ (bytes ≡ [] → ⊥)
empty_or [] = inl refl
empty_or (b ∷ bs) = inr (λ e. subst IsNil (sym e) tt)

-- a status other than Done plays no line
unplayed : (line : List ℕ) (status other : Status) → played_by (Hear line other) ≡ [] → status ≡ other → played_by (Hear line status) ≡ []
unplayed line status other none is = ap (λ s. played_by (Hear line s)) is ∙ none

-- nothing was done
idle : (old new : Service) (world : ServiceWorld) (lines : List (List ℕ)) (reported : List ℕ) → IsIn old world → lines ≡ [] → reported ≡ [] → new ≡ old
    → Went old world lines reported new
idle old new world lines reported at none silent same = record {
  after = world;
  at = subst (λ s. IsIn s world) (sym same) at;
  done = subst (λ ls. AreLinesDone world ls world (Writes old reported new)) (sym none)
      (done-none world (Writes old reported new) (append-nil (to_report old) ∙ (λ i. sym silent i ++ to_report (sym same i))));
}

-- a line was played, or there was no memory for it
plays : (script : WorldView) (old new : Service) (world : ServiceWorld) (line : List ℕ) (status : Status)
    → world_between script.held ≡ world → to_report old ≡ [] → Plays script new line status → Went old world (played_by (Hear line status)) [] new
plays script old (Open left answer) world line Done at none h = record {
  after = world_between left.held;
  at = refl;
  done = subst (λ w. AreLinesDone w (line ∷ []) (world_between left.held) (Writes old [] (Open left answer))) at
      (done-written (λ text. string_bytes answer ≡ text) (Writes old [] (Open left answer)) (world_between script.held)
      (world_between left.held) (line ∷ [])
      (λ text is. ap (λ t. t ++ text) none ∙ sym is)
      (done-line (world_between script.held) (world_between left.held) line (λ text. string_bytes answer ≡ text) h));
}
plays script old OutOfMemory world line Done at none h = absurd h
plays script old Refused world line Done at none h = absurd h
plays script old new world line Pending at none h = absurd h
plays script old new world line Memory at none h = record {
  after = world;
  at = subst (λ s. IsIn s world) (sym h) tt;
  done = done-none world (Writes old [] new) (append-nil (to_report old) ∙ none ∙ ap to_report (sym h));
}
plays script old new world line NoServers at none h = absurd h

-- a line was heard
hears : (old new : Service) (world : ServiceWorld) (line : List ℕ) (status : Status) → IsIn old world → Hears old new line status
    → Went old world (played_by (Hear line status)) [] new
hears (Open script answer) new world line status at h = elim (empty_or (string_bytes answer)) [
  | inl none ↦ plays script (Open script answer) new world line status at none (h.0 none)
  | inr some ↦ idle (Open script answer) new world (played_by (Hear line status)) [] at (unplayed line status Pending refl (h.1 some).0)
      refl (h.1 some).1
]
hears OutOfMemory new world line status at h = idle OutOfMemory new world (played_by (Hear line status)) [] at
    (unplayed line status Memory refl h.0) refl h.1
hears Refused new world line status at h = idle Refused new world (played_by (Hear line status)) [] at
    (unplayed line status NoServers refl h.0) refl h.1

-- the state of a service that has returned its answer
has_reported : (old new : Service) (world : ServiceWorld) → IsIn old world → HasReported old new → IsIn new world × (to_report new ≡ [])
has_reported (Open script answer) (Open left nothing) world at h = (ap (λ (w : WorldView). world_between w.held) h.0 ∙ at, h.1)
has_reported (Open script answer) OutOfMemory world at h = absurd h
has_reported (Open script answer) Refused world at h = absurd h
has_reported OutOfMemory new world at h = (subst (λ s. IsIn s world) (sym h) tt, ap to_report h)
has_reported Refused new world at h = (subst (λ s. IsIn s world) (sym h) tt, ap to_report h)

-- an answer was returned, or there was no room for it
module _ (old new : Service) (world : ServiceWorld) (before after : List ℕ) (count : ℕ) (at : IsIn old world)
    (h : Reports old new before after count) where
  abbrev by_room : (b : Bool) → ltb (length before) count ≡ b → Went old world [] (if b then [] else take count after) new
  by_room true small = idle old new world [] [] at refl refl (h.2 (ltb-true (length before) count small)).0
  by_room false fits =
      let it = h.1 (ltb-false (length before) count fits) in
      let left = has_reported old new world at it.1 in
      let whole : take count after ≡ to_report old =
      (λ i. take (h.0 i) (it.0 i)) ∙ take-append_seam (to_report old) (drop count before) in
      record {
        after = world;
        at = left.0;
        done = done-none world (Writes old (take count after) new) (λ i. sym whole i ++ sym left.1 i);
      }

  reports : Went old world [] (reported_by (Report before after count)) new
  reports = by_room (ltb (length before) count) refl

called : (old new : Service) (world : ServiceWorld) (call : Call) → IsIn old world → IsCalled old call new
    → Went old world (played_by call) (reported_by call) new
called old new world (Hear line status) at h = hears old new world line status at h
called old new world (Report before after count) at h = reports old new world before after count at h

-- what two texts report, one after the other
both_reported : (old mid new reported more a b : List ℕ) → old ++ a ≡ reported ++ mid → mid ++ b ≡ more ++ new → old ++ (a ++ b) ≡ (reported ++ more) ++ new
both_reported old mid new reported more a b first next =
    sym (append_assoc old a b) ∙ ap (λ t. t ++ b) first ∙ append_assoc reported mid b ∙ ap (λ t. reported ++ t) next ∙ sym (append_assoc reported more new)

used : (calls : List Call) (old new : Service) (world : ServiceWorld) → IsIn old world → IsUsed old calls new
    → Went old world (played_lines calls) (reported_bytes calls) new
used [] old new world at h = idle old new world [] [] at refl refl h
used (call ∷ calls) old new world at h =
    let mid = h.0 in
    let first = called old mid world call at h.1 in
    let rest = used calls mid new first.after first.at h.2 in
    record {
      after = rest.after;
      at = rest.at;
      done = done-append (Writes old (reported_by call) mid) (Writes mid (reported_bytes calls) new) (Writes old (reported_bytes (call ∷ calls)) new)
          world first.after rest.after (played_by call) (played_lines calls)
          (both_reported (to_report old) (to_report mid) (to_report new) (reported_by call) (reported_bytes calls)) first.done rest.done;
    }

-- a service that was opened
opened_in : (servers : ℕ) (opened : Service) → IsOpened servers opened → IsIn opened (opening_of servers) × (to_report opened ≡ [])
opened_in servers (Open script answer) h = (h.1, h.2)
opened_in servers OutOfMemory h = (tt, refl)
opened_in servers Refused h = (tt, refl)

pub scripts_text_is_reported : ScriptsTextIsReported
scripts_text_is_reported servers opened new calls h use_ =
    let start = opened_in servers opened h in
    let went = used calls opened new (opening_of servers) start.0 use_ in
    let text = done-text (Writes opened (reported_bytes calls) new) (opening_of servers) went.after (played_lines calls) went.done in
    (went.done.reported ++ [], sym text ∙ ap (λ t. t ++ answers (script_state (opening_of servers) (went.done.reported ++ [])) (played_lines calls)) start.1)
