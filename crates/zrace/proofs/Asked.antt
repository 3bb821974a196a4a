-- The words ask for a race by the numbers that they give.
use Rattle.std.proofs.Common.{◌≡◌, ℕ, List, Option, codes, subst, sym}
use Rattle.zarguments.specs.Asked.{asked_of}
use Rattle.zrace.specs.declared.plan.Race.{Race}
use Rattle.zrace.specs.Asked.{IsRaceAsked, IsRaceOf, race_options}

module _ (words : List (List ℕ)) (numbers : Option (List ℕ)) (given : asked_of (codes "race") race_options words ≡ numbers) (race : Race) where
  pub asked-given : IsRaceOf numbers race → IsRaceAsked words race
  unfolding IsRaceAsked
  asked-given is = subst (λ (n : Option (List ℕ)). IsRaceOf n race) (sym given) is

  pub given-asked : IsRaceAsked words race → IsRaceOf numbers race
  unfolding IsRaceAsked
  given-asked asked = subst (λ (n : Option (List ℕ)). IsRaceOf n race) given asked
