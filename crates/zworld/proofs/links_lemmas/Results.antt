-- On results.
use Rattle.std.proofs.Common.{◌≡◌, Result, Ok, Err, sym, subst}
use Rattle.std.specs.Result.{OnOk, OnErr}

-- what follows where there is a value, and where there is an error
pub on_ok : {T E P Q : Type 0} (r : Result T E) → OnOk r P → (P → Q) → OnOk r Q
on_ok (Ok x) fact then = then fact
on_ok (Err e) fact then = tt

pub on_err : {T E P Q : Type 0} (r : Result T E) → OnErr r P → (P → Q) → OnErr r Q
on_err (Ok x) fact then = tt
on_err (Err e) fact then = then fact

-- what is one or the other
pub in_either : {T E X : Type 0} (P : X → Type 0) (r : Result T E) (new done same : X) → OnOk r (new ≡ done) → OnErr r (new ≡ same)
    → P done → P same → P new
in_either P (Ok x) new done same is not was now = subst P (sym is) was
in_either P (Err e) new done same is not was now = subst P (sym not) now
