-- The promise of a script: linearizability.
use Rattle.std.specs.Prelude.{ℕ, List}
use Rattle.zprotocol.specs.declared.world.outcome.Outcome.{Outcome}
use Rattle.zprotocol.specs.world.PlainTree.{IsExplained}
use Rattle.zscript.specs.Line.{opening_script, histories}
use Rattle.zscript.specs.Script.{lines_of}

-- the history of a script's lines is linearizable over the plain tree
abbrev pub EveryScriptIsExplained : Type 0
EveryScriptIsExplained =
    (servers : ℕ) (outcomes : List Outcome) (bytes : List ℕ)
    → IsExplained (histories (opening_script servers outcomes) (lines_of bytes))
