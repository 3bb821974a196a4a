-- How a run of the player ends, by what its devices did from its start to its end. Each names the
-- outcomes of the run's events, in order, under which the text was the one that was written.
use Rattle.std.specs.Prelude.{◌≡◌, ℕ, ◌<◌, ◌⊎◌, List, [], ◌++◌, length, codes}
use Rattle.zdevices.specs.Device.{SourceRun, SinkRun, Failed, TookBeginning}
use Rattle.zprotocol.specs.declared.world.outcome.Outcome.{Outcome}
use Rattle.zscript.specs.Line.{ServiceWorld, script_state, opening_script, answers}
use Rattle.zscript.specs.Script.{opening_of, lines_of, whole_lines_of, text_of}
use Rattle.zscript.specs.declared.fault.PlayFault.{PlayFault}
use Rattle.zscript.specs.declared.fault.PlayFault.TheVariants.{Read, Write, Memory}

-- Every line was played: the source reported its end, the sink took the text of all that it gave,
-- and neither failed.
pub record IsPlayed (servers : ℕ) (source : SourceRun) (sink : SinkRun) : Type 0 where
  pub bytes : List ℕ
  pub given : source.gave bytes
  pub outcomes : List Outcome
  pub taken : sink.took (text_of servers outcomes bytes)
  pub ended : source.ended
  pub source_sound : source.failed 0
  pub sink_sound : sink.failed 0

-- The first ones of these lines were played, and the sink took a prefix of their answers.
pub record IsStopped (world : ServiceWorld) (lines : List (List ℕ)) (took : List ℕ → Type 0) : Type 0 where
  pub played : List (List ℕ)
  pub rest : List (List ℕ)
  pub split : lines ≡ played ++ rest
  pub outcomes : List Outcome
  pub taken : TookBeginning took (answers (script_state world outcomes) played)

-- These lines of the bytes were read: each has its LF, or the source reported its end, which ends
-- the last one.
abbrev pub AreRead : Type 0 → List ℕ → List (List ℕ) → Type 0
AreRead ended bytes lines = (lines ≡ whole_lines_of bytes) ⊎ (ended × (lines ≡ lines_of bytes))

-- A fault ended the run among the lines that were read.
pub record IsCut (servers : ℕ) (source : SourceRun) (sink : SinkRun) : Type 0 where
  pub bytes : List ℕ
  pub given : source.gave bytes
  pub lines : List (List ℕ)
  pub read : AreRead source.ended bytes lines
  pub stopped : IsStopped (opening_of servers) lines sink.took

-- Some line was not played.
pub record IsCutBeforeLine (servers : ℕ) (source : SourceRun) (sink : SinkRun) : Type 0 where
  pub bytes : List ℕ
  pub given : source.gave bytes
  pub stopped : IsStopped (opening_of servers) (lines_of bytes) sink.took
  pub some : 0 < length stopped.rest

-- Each line that had its LF was answered, and no other.
pub record AnswersWholeLines (servers : ℕ) (source : SourceRun) (sink : SinkRun) : Type 0 where
  pub bytes : List ℕ
  pub given : source.gave bytes
  pub outcomes : List Outcome
  pub taken : sink.took (answers (opening_script servers outcomes) (whole_lines_of bytes))

-- Nothing was read, and nothing written.
abbrev pub IsIdle : SourceRun → SinkRun → Type 0
IsIdle source sink = source.gave [] × sink.took []

-- What each fault means. Of memory: the line at which it ran out was not played, or nothing was
-- read or written at all.
abbrev pub IsCutBy : ℕ → SourceRun → SinkRun → PlayFault → Type 0
IsCutBy servers source sink Read = AnswersWholeLines servers source sink × Failed source.failed × sink.failed 0
IsCutBy servers source sink Write = IsCut servers source sink × source.failed 0 × Failed sink.failed
IsCutBy servers source sink Memory =
    (IsCutBeforeLine servers source sink ⊎ IsIdle source sink) × source.failed 0 × sink.failed 0

-- The text of a fault.
abbrev pub play_fault_text : PlayFault → List ℕ
play_fault_text Read = codes "zk: read failed"
play_fault_text Write = codes "zk: write failed"
play_fault_text Memory = codes "zk: memory"
