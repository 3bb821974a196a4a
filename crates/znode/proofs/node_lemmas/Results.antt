-- What holds of a result, if something else does.
use Rattle.std.specs.Prelude.{Result, Ok, Err, OnOk}

pub on_ok : {A E : Type 0} (r : Result A E) (P Q : Type 0) → (P → Q) → OnOk r P → OnOk r Q
on_ok (Ok x) P Q then p = then p
on_ok (Err e) P Q then p = tt
