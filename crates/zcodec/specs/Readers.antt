-- How the results of readers relate to their forms.
use Rattle.std.specs.Prelude.{◌≡◌, ℕ, List, [], ◌∷◌, Result, Ok, Err}
use Rattle.zcodec.specs.declared.fault.Fault.{Fault}
use Rattle.zcodec.specs.declared.fault.Fault.TheVariants.{Trailing}
use Rattle.zcodec.specs.declared.fault.ReadError.{ReadError}
use Rattle.zcodec.specs.declared.fault.ReadError.TheVariants as errors
use Rattle.zcodec.specs.Forms.{Form, ◌>>=◌}

-- the result, seen by `view`, is what the form reads
abbrev pub Reads : {X Y : Type 0} → (X → Y) → Result X Fault → Result Y Fault → Type 0
Reads view (Ok x) read = read ≡ Ok (view x)
Reads view (Err fault) read = read ≡ Err fault

-- the error is the form's fault, or memory ran out
abbrev pub Fails : {Y : Type 0} → ReadError → Result Y Fault → Type 0
Fails errors.Memory read = Unit {0}
Fails (errors.Fault fault) read = read ≡ Err fault

-- the result, seen by `view`, is what the form reads, unless memory ran out
abbrev pub Gives : {X Y : Type 0} → (X → Y) → Result X ReadError → Result Y Fault → Type 0
Gives view (Ok x) read = read ≡ Ok (view x)
Gives view (Err error) read = Fails error read

-- a value, if nothing follows it
abbrev pub ended : {A : Type 0} → A → List ℕ → Result A Fault
ended x [] = Ok x
ended x (byte ∷ bytes) = Err Trailing

-- the value that all of the bytes encode
abbrev pub whole : {A : Type 0} → Form A → List ℕ → Result A Fault
whole c bytes = c.read bytes >>= λ x. ended x.0 x.1
