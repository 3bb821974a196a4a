-- What a player does with bytes: with those of a block, or with those that end a line.
use Rattle.std.specs.Prelude.{ℕ, List, ◌++◌}
use Rattle.zdevices.specs.Device.{Between}
use Rattle.zscript.specs.Done.{IsLineDone}
use Rattle.zscript.specs.support.Lines.{whole_lines_after, line_left, last_line, AreLinesDone}
use Rattle.zscript.specs.support.PlayerView.{PlayerView, world_now, Reports}

-- The line that has begun, and not ended, after these bytes.
abbrev pub line_at : PlayerView → List ℕ → List ℕ
line_at p bytes = line_left p.line bytes

-- It plays the lines that end in these bytes, and their answers are written.
abbrev pub PlaysLines : {K : Type 0} → PlayerView → List ℕ → PlayerView → (K → List ℕ → K → Type 0) → K → K → Type 0
PlaysLines old bytes new took before after =
    AreLinesDone (world_now old) (whole_lines_after old.line bytes) (world_now new) (Between took before after)

-- It plays the line that the end of the script ends, and its answer is written.
abbrev pub PlaysLastLine : {K : Type 0} → PlayerView → PlayerView → (K → List ℕ → K → Type 0) → K → K → Type 0
PlaysLastLine old new took before after =
    AreLinesDone (world_now old) (last_line old.line) (world_now new) (Between took before after)

-- It plays the lines that end in these bytes, and writes or holds their answers.
abbrev pub ReportsLines : {K : Type 0} → PlayerView → List ℕ → PlayerView → (K → List ℕ → K → Type 0) → K → K → Type 0
ReportsLines old bytes new took before after =
    AreLinesDone (world_now old) (whole_lines_after old.line bytes) (world_now new)
    (λ text. Reports (Between took before after) text new.held)

-- It plays the line that ends with these bytes, and writes or holds its answer after what was held.
abbrev pub ReportsLine : {K : Type 0} → PlayerView → List ℕ → PlayerView → (K → List ℕ → K → Type 0) → K → K → Type 0
ReportsLine old end new took before after =
    IsLineDone (world_now old) (old.line ++ end) (world_now new)
    (λ text. Reports (Between took before after) (old.held ++ text) new.held)
