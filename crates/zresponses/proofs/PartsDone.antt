-- The results of the parts of a multi, after the last part.
use Rattle.std.proofs.Common.{◌≡◌, ℕ, ◌≤◌, Bool, true, false, List, [], ◌∷◌, length, drop, refl, arith}
use Rattle.std.specs.Prelude.{min, nat_le}
use Rattle.std.proofs.lemmas.Bool.Decides.{nat_tests}
use Rattle.std.proofs.lemmas.List.{drop_all}
use Rattle.zcalls.specs.declared.call.Part.{Part}
use Rattle.zcalls.specs.declared.reply.PartReply.{PartReply}
use Rattle.zjute.specs.declared.part.PartRequest.{PartRequest as AskedPart}
use Rattle.zresponses.specs.declared.clock.Clock.{Clock}
use Rattle.zresponses.specs.declared.clock.Now.{Now}
use Rattle.zresponses.specs.Results.{part_results}

module _ (clock : Clock) (now : Now) where
  -- no more parts, or no more replies
  no_parts : (asked : List AskedPart) (replies : List PartReply) → part_results clock now asked [] replies ≡ []
  no_parts [] replies = refl
  no_parts (first ∷ asked) replies = refl

  no_replies : (asked : List AskedPart) (parts : List Part) → part_results clock now asked parts [] ≡ []
  no_replies [] parts = refl
  no_replies (first ∷ asked) [] = refl
  no_replies (first ∷ asked) (part ∷ parts) = refl

  -- after the last of each
  pub none_left : (asked : List AskedPart) (parts : List Part) (replies : List PartReply) (i : ℕ)
      → min (min (length asked) (length parts)) (length replies) ≤ i
      → part_results clock now (drop i asked) (drop i parts) (drop i replies) ≡ []
  none_left asked parts replies i end = at (nat_le (length asked) i) (nat_le (length parts) i) refl refl
    where
      at : (first second : Bool) → nat_le (length asked) i ≡ first → nat_le (length parts) i ≡ second
          → part_results clock now (drop i asked) (drop i parts) (drop i replies) ≡ []
      at true second e f = let all : length asked ≤ i = grind (arith, nat_tests) in rw (drop_all i asked all) refl
      at false true e f = let all : length parts ≤ i = grind (arith, nat_tests) in rw (drop_all i parts all) (no_parts (drop i asked) (drop i replies))
      at false false e f = let all : length replies ≤ i = grind (arith, nat_tests) in rw (drop_all i replies all) (no_replies (drop i asked) (drop i parts))
