-- The answer to a script's bytes: line by line, each on the state that the lines before it left.
-- The outcomes of the events, where processes can run out of memory, are given with the bytes.
use Rattle.std.specs.Prelude.{ℕ, List, [], ◌∷◌, ◌==◌, if◌then◌else◌}
use Rattle.std.specs.List.{onto_first}
use Rattle.ztree.specs.declared.limits.TheConstants.{MAX_CLIENTS}
use Rattle.zprotocol.specs.server.Machine.{cached_tree}
use Rattle.zprotocol.specs.declared.world.outcome.Outcome.{Outcome}
use Rattle.zprotocol.specs.world.World.{opening_world}
use Rattle.zscript.specs.Line.{ServiceWorld, opening_script, answers}

-- All lines, each without its LF. What follows the last LF is a line only if it has a byte.
abbrev pub lines_of : List ℕ → List (List ℕ)
lines_of [] = []
lines_of (b ∷ bs) = if b == 10 then [] ∷ lines_of bs else onto_first b (lines_of bs)

-- A byte before the first of some lines, if there is one.
abbrev pub onto_line : ℕ → List (List ℕ) → List (List ℕ)
onto_line b [] = []
onto_line b (line ∷ lines) = (b ∷ line) ∷ lines

-- The lines that end in LF, each without it.
abbrev pub whole_lines_of : List ℕ → List (List ℕ)
whole_lines_of [] = []
whole_lines_of (b ∷ bs) = if b == 10 then [] ∷ whole_lines_of bs else onto_line b (whole_lines_of bs)

-- The world that a script with this many servers begins in.
abbrev pub opening_of : ℕ → ServiceWorld
opening_of servers = opening_world cached_tree servers MAX_CLIENTS

-- The whole answer to a script with this many servers, under the outcomes of its events.
abbrev pub text_of : ℕ → List Outcome → List ℕ → List ℕ
text_of servers outcomes bytes = answers (opening_script servers outcomes) (lines_of bytes)
