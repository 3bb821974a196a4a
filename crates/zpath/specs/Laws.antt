-- Laws of the definitions: texts without a fault and paths correspond one to one.
use Rattle.std.specs.Prelude.{◌≡◌, ◌≢◌, ◌↔◌, ℕ, ◌<◌, ◌^◌, false, List, [], None}
use Rattle.zpath.specs.declared.limits.TheConstants.{COUNTER_DIGITS}
use Rattle.zpath.specs.Grammar.{IsPath, text_of, IsTextOfPath}
use Rattle.zpath.specs.Faults.{fault_of}
use Rattle.zpath.specs.Numbered.{numbered_path, is_over, numbered_fault}

-- two paths with the same text are the same path
abbrev pub SpellsOnePath : Type 0
SpellsOnePath = (left right : List (List ℕ)) → IsPath left → IsPath right → text_of left ≡ text_of right → left ≡ right

-- a text has no fault if and only if it is the text of some path
abbrev pub IsFaultless : Type 0
IsFaultless = (text : List ℕ) → (fault_of text ≡ None) ↔ IsTextOfPath text

-- Two paths below the root that end with different counters are different paths, whatever names
-- were requested. The counters must have at most `COUNTER_DIGITS` digits.
abbrev pub NumbersAreDistinct : Type 0
NumbersAreDistinct =
    (left right : List (List ℕ)) (a b : ℕ) → left ≢ [] → right ≢ [] → a < 10 ^ COUNTER_DIGITS → b < 10 ^ COUNTER_DIGITS →
    numbered_path left a ≡ numbered_path right b → a ≡ b

-- appending the counter is refused if and only if the resulting path is over a limit
abbrev pub RefusesWhatIsOver : Type 0
RefusesWhatIsOver =
    (path : List (List ℕ)) (counter : ℕ) →
    (numbered_fault path counter ≡ None) ↔ (is_over (numbered_path path counter) ≡ false)
