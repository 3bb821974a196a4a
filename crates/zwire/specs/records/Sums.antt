-- What follows a tag, by the tag.
use Rattle.std.specs.Prelude.{ℕ, List, Result, Err, ◌==◌, if◌then◌else◌}
use Rattle.zcodec.specs.declared.fault.Fault.{Fault}
use Rattle.zcodec.specs.declared.fault.Fault.TheVariants.{Invalid}

-- read this at this tag, and the others at the other tags
abbrev pub at_tag : {A : Type 0} → ℕ → (List ℕ → Result (A × List ℕ) Fault) →
    (ℕ → List ℕ → Result (A × List ℕ) Fault) → ℕ → List ℕ → Result (A × List ℕ) Fault
at_tag k read others tag bytes = if tag == k then read bytes else others tag bytes

-- there are no others
abbrev pub no_tag : {A : Type 0} → ℕ → List ℕ → Result (A × List ℕ) Fault
no_tag tag bytes = Err Invalid
