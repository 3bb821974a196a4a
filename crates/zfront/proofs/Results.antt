-- On texts that are written one after the other.
use Rattle.std.proofs.Common.{◌∙◌, ap, append_assoc, Result, Ok, Err, OnOk, List, ℕ, ◌++◌}
use Rattle.std.specs.Prelude.{String, string_bytes}
use Rattle.zscript_text.specs.Texts.{Writes}

-- what follows from what holds where there is no error
pub on_ok : {T E P Q : Type 0} (r : Result T E) → (P → Q) → OnOk r P → OnOk r Q
on_ok (Ok x) follows holds = follows holds
on_ok (Err e) follows holds = tt

pub writes_more : {A : Type 0} (old middle new : String A) (first more : List ℕ) → Writes old middle first
    → Writes middle new more → Writes old new (first ++ more)
writes_more old middle new first more one two =
    two ∙ ap (λ b. b ++ more) one ∙ append_assoc (string_bytes old) first more
