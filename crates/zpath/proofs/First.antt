-- A table answers nothing exactly if no test holds.
use Rattle.std.proofs.Common.{◌≡◌, Bool, true, false, cond, List, [], ◌∷◌, Option, Some, None, refl}
use Rattle.std.specs.List.{AllByRecursion}
use Rattle.zpath.specs.First.{first_that_holds}

none_if : {A : Type 0} (test : Bool) (answer : A) (more : Option A) → cond test (Some answer) more ≡ None → (test ≡ false) × (more ≡ None)
none_if true answer more none = cc
none_if false answer more none = (refl, none)

pub no_test_holds : {A : Type 0} (rows : List (Bool × A)) → first_that_holds rows ≡ None → AllByRecursion (λ row. row.0 ≡ false) rows
no_test_holds [] none = tt
no_test_holds (row ∷ rows) none =
    let here = none_if row.0 row.1 (first_that_holds rows) none in
    (here.0, no_test_holds rows here.1)

pub first_that_holds-none : {A : Type 0} (rows : List (Bool × A)) → AllByRecursion (λ row. row.0 ≡ false) rows → first_that_holds rows ≡ None
first_that_holds-none [] off = refl
first_that_holds-none (row ∷ rows) off = rw off.0 (first_that_holds-none rows off.1)
