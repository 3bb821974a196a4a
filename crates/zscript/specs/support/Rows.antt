-- Scripts of the worked examples: lines, each with its answer.
use Prim.Native.String.{String}
use Rattle.std.specs.Prelude.{◌≡◌, ℕ, List, [], ◌∷◌, ◌++◌, Option, Some, codes, map}
use Rattle.std.specs.List.{flat_map}
use Rattle.zscript.specs.Line.{opening_script, answers}

-- a line, and the answer to it, each without its LF
abbrev pub Row : Type 0
Row = List ℕ × List ℕ

-- this line, and its answer
abbrev pub row : String → String → Row
row line answer = (codes line, codes answer)

-- client 1 invokes a call, its request is delivered to the head, and then there is none to deliver
abbrev pub begins : Row
begins = row "1 begin get /" "begun"

abbrev pub takes : Row
takes = row "take c1 s1" "done"

abbrev pub takes_none : Row
takes_none = row "take c1 s1" "idle"

-- the lines of a script on one server, where memory never runs out, are answered this way
abbrev pub AreAnswered : List Row → Type 0
AreAnswered rows = answers (opening_script 1 []) (map (λ row. row.0) rows) ≡ flat_map (λ row. row.1 ++ 10 ∷ []) rows

-- a text as a line, with its LF
abbrev pub text_line : String → List ℕ
text_line text = codes text ++ 10 ∷ []

-- the second call of client 1, and the third
abbrev pub call_2 : Option (ℕ × ℕ)
call_2 = Some (1, 2)

abbrev pub call_3 : Option (ℕ × ℕ)
call_3 = Some (1, 3)
