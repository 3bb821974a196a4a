-- What is read of a form was spelled in it, and what is spelled is read.
use Rattle.std.proofs.Common.{◌≡◌, ℕ, List, ◌++◌, Result, Ok, Err, ap, subst, ◌∙◌}
use Rattle.std.specs.Prelude.{IfOk}
use Rattle.zcodec.specs.declared.fault.Fault.{Fault}
use Rattle.zcodec.specs.Forms.{Form}
use Rattle.zcodec.specs.Laws.{IsBytes, IsForm}
use Rattle.zcodec.specs.Readers.{Reads}

pub found : {A X : Type 0} (c : Form A) → IsForm c → (view : X → A × List ℕ) (bytes : List ℕ) (result : Result X Fault)
    → IsBytes bytes → Reads view result (c.read bytes)
    → IfOk result (λ x. c.Fits (view x).0 × (bytes ≡ c.spell (view x).0 ++ (view x).1))
found c is view bytes (Ok x) are e = let t = is.takes bytes (view x) are e in (t.1, t.0)
found c is view bytes (Err fault) are e = tt

pub again : {A X : Type 0} (c : Form A) → IsForm c → (view : X → A × List ℕ) (bytes : List ℕ) (result : Result X Fault) (it : A) (rest : List ℕ)
    → c.Fits it
    → bytes ≡ c.spell it ++ rest → Reads view result (c.read bytes) → Reads view result (Ok (it, rest))
again c is view bytes result it rest fits same e = subst (λ read. Reads view result read) (ap c.read same ∙ is.again it rest fits) e
