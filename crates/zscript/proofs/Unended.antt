-- What of a source that reported no end can have been played: its whole lines alone.
use Rattle.std.proofs.Common.{◌≡◌, ℕ, List, [], ◌∷◌, ◌++◌, inl, inr, refl, ◌∙◌, sym}
use Rattle.zprotocol.specs.declared.world.outcome.Outcome.{Outcome}
use Rattle.zscript.specs.Line.{opening_script, answers}
use Rattle.zdevices.specs.Device.{IsBeginning}
use Rattle.zscript.specs.Script.{whole_lines_of}
use Rattle.zscript.specs.Outcome.{AreRead}
use Rattle.zscript.specs.Laws.{UnendedLinesHaveNoAnswer}

none_in_front : (front text : List ℕ) → IsBeginning front [] → text ≡ front → text ≡ []
none_in_front [] text h e = e
none_in_front (b ∷ front) text h e = cc (h.1)

none_played : (servers : ℕ) (text front : List ℕ) (outcomes : List Outcome) (played rest : List (List ℕ)) → [] ≡ played ++ rest
    → IsBeginning front (answers (opening_script servers outcomes) played) → front ≡ text → text ≡ []
none_played servers text front outcomes [] rest e h is = none_in_front front text h (sym is)
none_played servers text front outcomes (line ∷ played) rest e h is = cc

none_read : (bytes : List ℕ) (lines : List (List ℕ)) → whole_lines_of bytes ≡ [] → AreRead ⊥ bytes lines → lines ≡ []
none_read bytes lines none (inl e) = e ∙ none
none_read bytes lines none (inr h) = absurd h.0

pub unended_lines_have_no_answer : UnendedLinesHaveNoAnswer
unended_lines_have_no_answer servers text cut =
    let none : whole_lines_of cut.bytes ≡ [] = rw cut.given refl in
    let lines = none_read cut.bytes cut.lines none cut.read in
    none_played servers text cut.stopped.taken.0 cut.stopped.outcomes cut.stopped.played cut.stopped.rest (sym lines
    ∙ cut.stopped.split) cut.stopped.taken.1 cut.stopped.taken.2
