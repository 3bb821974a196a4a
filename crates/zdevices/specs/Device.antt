-- What devices did between two states, in the terms that clauses use.
use Rattle.std.specs.Prelude.{◌≡◌, ℕ, ◌<◌, Bool, true, List, ◌++◌}

-- A relation between states, as a test of what was done between them.
abbrev pub Between : {S A : Type 0} → (S → A → S → Type 0) → S → S → A → Type 0
Between relation before after done = relation before done after

-- What a source did: the bytes that it gave, how often it failed, and whether it reported its end.
pub record SourceRun : Type 1 where
  pub gave : List ℕ → Type 0
  pub failed : ℕ → Type 0
  pub ended : Type 0

-- What a sink did: the bytes that it took, and how often it failed.
pub record SinkRun : Type 1 where
  pub took : List ℕ → Type 0
  pub failed : ℕ → Type 0

-- The same of a source, by its trait's members, between two of its states.
abbrev pub source_run :
    {S : Type 0} → (S → List ℕ → S → Type 0) → (S → ℕ → S → Type 0) → (S → Type 0) → S → S → SourceRun
source_run gave failed has_ended before after = record {
  gave = Between gave before after;
  failed = Between failed before after;
  ended = has_ended after;
}

-- And of a sink.
abbrev pub sink_run :
    {K : Type 0} → (K → List ℕ → K → Type 0) → (K → ℕ → K → Type 0) → K → K → SinkRun
sink_run took failed before after = record {
  took = Between took before after;
  failed = Between failed before after;
}

-- One text is a prefix of another.
abbrev pub IsBeginning : List ℕ → List ℕ → Type 0
IsBeginning front whole = (more : List ℕ) × (whole ≡ front ++ more)

-- A device failed at least once.
abbrev pub Failed : (ℕ → Type 0) → Type 0
Failed failed = (count : ℕ) × (0 < count) × failed count

-- A device took a prefix of the text.
abbrev pub TookBeginning : (List ℕ → Type 0) → List ℕ → Type 0
TookBeginning took text = (front : List ℕ) × IsBeginning front text × took front

-- A flag that a failure raises, and nothing lowers, over this many failures.
pub record Raises (before : Bool) (count : ℕ) (after : Bool) : Type 0 where
  pub kept : before ≡ true → after ≡ true
  pub raised : 0 < count → after ≡ true
  pub same : count ≡ 0 → after ≡ before
