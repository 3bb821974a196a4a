-- Tables of refusals, one after the other, and what is done with a node of the expected version.
use Rattle.std.proofs.Common.{◌≡◌, Bool, true, false, cond, if◌then◌else◌, List, [], ◌∷◌, ◌++◌, Option, Some, None, Ok, Err, refl, sym, ap, ◌∙◌}
use Rattle.std.specs.Prelude.{not, is_some}
use Rattle.std.specs.Option.{option_map_or}
use Rattle.zpath.specs.First.{first_that_holds}
use Rattle.ztree.specs.declared.node.Node.{Node}
use Rattle.zcalls.specs.declared.call.Expected.{Expected}
use Rattle.zcalls.specs.declared.refusal.Refusal.TheVariants.{NoNode, BadVersion}
use Rattle.zcalls.specs.Part.{unless_other, on_version, has_other_version}

module _ {A : Type 0} where
  -- a first table decides where one of its tests holds
  pub first_of_both : (rows more : List (Bool × A)) (answer : A) → first_that_holds rows ≡ Some answer → first_that_holds (rows ++ more) ≡ Some answer
  first_of_both [] more answer e = cc
  first_of_both (row ∷ rows) more answer e = by row.0 e (first_of_both rows more answer)
    where
      by : (test : Bool) → cond test (Some row.1) (first_that_holds rows) ≡ Some answer
          → (first_that_holds rows ≡ Some answer → first_that_holds (rows ++ more) ≡ Some answer)
          → cond test (Some row.1) (first_that_holds (rows ++ more)) ≡ Some answer
      by true e rest = e
      by false e rest = rest e

  -- and where none does, the second decides
  pub second_of_both : (rows more : List (Bool × A)) → first_that_holds rows ≡ None → first_that_holds (rows ++ more) ≡ first_that_holds more
  second_of_both [] more e = refl
  second_of_both (row ∷ rows) more e = by row.0 e (second_of_both rows more)
    where
      by : (test : Bool) → cond test (Some row.1) (first_that_holds rows) ≡ None
          → (first_that_holds rows ≡ None → first_that_holds (rows ++ more) ≡ first_that_holds more)
          → cond test (Some row.1) (first_that_holds (rows ++ more)) ≡ first_that_holds more
      by true e rest = cc
      by false e rest = rest e

  -- the same for each test of a version
  module _ (is_other : Node → Bool) (act : Node → A) where
    pub absent-unless_other : (o : Option Node) → is_some o ≡ false → unless_other is_other o act ≡ Err NoNode
    absent-unless_other None e = refl
    absent-unless_other (Some n) e = cc

    pub stale-unless_other : (o : Option Node) → option_map_or is_other o false ≡ true → unless_other is_other o act ≡ Err BadVersion
    stale-unless_other None e = cc
    stale-unless_other (Some n) e = ap (λ b. if b then Err BadVersion else Ok (act n)) e

    pub fresh-unless_other : (o : Option Node) (n : Node) → o ≡ Some n → option_map_or is_other o false ≡ false → unless_other is_other o act ≡ Ok (act n)
    fresh-unless_other o n is e =
        ap (λ o. unless_other is_other o act) is
        ∙ ap (λ b. if b then Err BadVersion else Ok (act n)) (sym (ap (λ o. option_map_or is_other o false) is) ∙ e)

  pub absent-on_version : (expected : Expected) (o : Option Node) (act : Node → A) → is_some o ≡ false → on_version expected o act ≡ Err NoNode
  absent-on_version expected o act = absent-unless_other (has_other_version expected) act o

  pub stale-on_version : (expected : Expected) (o : Option Node) (act : Node → A) → option_map_or (has_other_version expected) o false ≡ true → on_version expected o act ≡ Err BadVersion
  stale-on_version expected o act = stale-unless_other (has_other_version expected) act o

  pub fresh-on_version : (expected : Expected) (o : Option Node) (act : Node → A) (n : Node) → o ≡ Some n → option_map_or (has_other_version expected) o false ≡ false → on_version expected o act ≡ Ok (act n)
  fresh-on_version expected o act = fresh-unless_other (has_other_version expected) act o

-- a node that is there
pub node_there : {A : Type 0} (o : Option A) → is_some o ≡ true → (n : A) × (o ≡ Some n)
node_there None e = cc
node_there (Some n) e = (n, refl)

-- what isn't missing is there
pub is_there : (b : Bool) → not b ≡ false → b ≡ true
is_there true e = refl
is_there false e = cc
