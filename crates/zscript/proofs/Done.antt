-- Lines that were done: none, one, and some and then others.
use Rattle.std.proofs.Common.{◌≡◌, ℕ, List, [], ◌∷◌, ◌++◌, map, refl, sym, ap, ◌∙◌, subst, append_assoc}
use Rattle.std.proofs.lemmas.List.{append-nil}
use Rattle.zprotocol.specs.declared.world.outcome.Outcome.{Outcome}
use Rattle.zscript.specs.Line.{ServiceWorld, script_state, answers}
use Rattle.zscript.specs.Done.{IsLineDone}
use Rattle.zdevices.specs.Device.{TookBeginning}
use Rattle.zscript.specs.Outcome.{IsStopped}
use Rattle.zscript.specs.support.Lines.{after_all, AreLinesDone}
use Rattle.zscript.specs.support.PlayerView.{kept_front}
use Rattle.zscript.proofs.Cached.{answers-alike, after_all-alike}
use Rattle.zscript.proofs.Cuts.{after_all-append, answers-append}

pub done-none : (world : ServiceWorld) (writes : List ℕ → Type 0) → writes [] → AreLinesDone world [] world writes
done-none world writes none = record { reported = []; text = []; written = none; left = λ _. refl; answered = λ _. refl }

pub done-line : (old new : ServiceWorld) (line : List ℕ) (writes : List ℕ → Type 0) → IsLineDone old line new writes
    → AreLinesDone old (line ∷ []) new writes
done-line old new line writes h = record {
  reported = h.reported;
  text = h.text;
  written = h.written;
  left = h.left;
  answered = λ later. append-nil _ ∙ h.answered later;
}

-- what is written for a line that is done can be stated otherwise
pub line_done-written : (writes more : List ℕ → Type 0) (old new : ServiceWorld) (line : List ℕ)
    → ((text : List ℕ) → writes text → more text) → IsLineDone old line new writes → IsLineDone old line new more
line_done-written writes more old new line grow h = record {
  reported = h.reported;
  text = h.text;
  written = grow h.text h.written;
  left = h.left;
  answered = h.answered;
}

-- and for lines
pub done-written : (writes more : List ℕ → Type 0) (old new : ServiceWorld) (lines : List (List ℕ))
    → ((text : List ℕ) → writes text → more text) → AreLinesDone old lines new writes → AreLinesDone old lines new more
done-written writes more old new lines grow h = record {
  reported = h.reported;
  text = h.text;
  written = grow h.text h.written;
  left = h.left;
  answered = h.answered;
}

-- lines with the same stored prefixes
pub done-alike : (writes : List ℕ → Type 0) (old new : ServiceWorld) (xs ys : List (List ℕ)) → map kept_front xs ≡ map kept_front ys
    → AreLinesDone old xs new writes → AreLinesDone old ys new writes
done-alike writes old new xs ys e h = record {
  reported = h.reported;
  text = h.text;
  written = h.written;
  left = λ later. sym (after_all-alike (script_state old (h.reported ++ later)) xs ys e) ∙ h.left later;
  answered = λ later. sym (answers-alike (script_state old (h.reported ++ later)) xs ys e) ∙ h.answered later;
}

-- the answers to done lines, and to others after them
pub done-answers : (writes : List ℕ → Type 0) (old mid : ServiceWorld) (xs ys : List (List ℕ)) (outcomes : List Outcome)
    (h : AreLinesDone old xs mid writes) → answers (script_state old (h.reported ++ outcomes)) (xs ++ ys)
    ≡ h.text ++ answers (script_state mid outcomes) ys
done-answers writes old mid xs ys outcomes h =
    answers-append xs (script_state old (h.reported ++ outcomes)) ys
    ∙ (λ i. h.answered outcomes i ++ answers (h.left outcomes i) ys)

pub done-append : (writes more all : List ℕ → Type 0) (old mid new : ServiceWorld) (xs ys : List (List ℕ))
    → ((a b : List ℕ) → writes a → more b → all (a ++ b)) → AreLinesDone old xs mid writes → AreLinesDone mid ys new more
    → AreLinesDone old (xs ++ ys) new all
done-append writes more all old mid new xs ys both h k = record {
  reported = h.reported ++ k.reported;
  text = h.text ++ k.text;
  written = both h.text k.text h.written k.written;
  left = λ later.
      ap (λ t. after_all (script_state old t) (xs ++ ys)) (append_assoc h.reported k.reported later)
      ∙ after_all-append xs (script_state old (h.reported ++ (k.reported ++ later))) ys
      ∙ ap (λ s. after_all s ys) (h.left (k.reported ++ later))
      ∙ k.left later;
  answered = λ later.
      ap (λ t. answers (script_state old t) (xs ++ ys)) (append_assoc h.reported k.reported later)
      ∙ done-answers writes old mid xs ys (k.reported ++ later) h
      ∙ ap (λ t. h.text ++ t) (k.answered later);
}

-- a text was written under what was reported at its lines
pub done-text : (writes : List ℕ → Type 0) (old new : ServiceWorld) (lines : List (List ℕ)) (h : AreLinesDone old lines new writes)
    → writes (answers (script_state old (h.reported ++ [])) lines)
done-text writes old new lines h = subst writes (sym (h.answered [])) h.written

-- lines that are played, of which a beginning was written
abbrev pub done-stopped : (took : List ℕ → Type 0) (old new : ServiceWorld) (played rest lines : List (List ℕ))
    → lines ≡ played ++ rest → AreLinesDone old played new (TookBeginning took) → IsStopped old lines took
done-stopped took old new played rest lines split h = record {
  played = played;
  rest = rest;
  split = split;
  outcomes = h.reported ++ [];
  taken = done-text (TookBeginning took) old new played h;
}
