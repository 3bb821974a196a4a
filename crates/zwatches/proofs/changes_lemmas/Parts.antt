-- The events of the parts of a multi, after the last part.
use Rattle.std.proofs.Common.{◌≡◌, ℕ, ◌≤◌, Bool, true, false, List, [], ◌∷◌, length, drop, refl, arith}
use Rattle.std.specs.Prelude.{min, nat_le}
use Rattle.std.proofs.lemmas.Bool.Decides.{nat_tests}
use Rattle.std.proofs.lemmas.List.{drop_all}
use Rattle.zcalls.specs.declared.call.Part.{Part}
use Rattle.zcalls.specs.declared.reply.PartReply.{PartReply}
use Rattle.zwatches.specs.changes.Events.{parts_events}

-- no more parts
no_more_parts : (parts : List Part) → parts_events parts [] ≡ []
no_more_parts [] = refl
no_more_parts (part ∷ parts) = refl

-- after the last part, or the last reply
pub none_left : (parts : List Part) (replies : List PartReply) (i : ℕ) → min (length parts) (length replies) ≤ i → parts_events (drop i parts) (drop i replies) ≡ []
none_left parts replies i end = at (nat_le (length parts) i) refl
  where
    at : (test : Bool) → nat_le (length parts) i ≡ test → parts_events (drop i parts) (drop i replies) ≡ []
    at true e = let all : length parts ≤ i = grind (arith, nat_tests) in rw (drop_all i parts all) refl
    at false e = let all : length replies ≤ i = grind (arith, nat_tests) in rw (drop_all i replies all) (no_more_parts (drop i parts))
