-- What a device did in two stretches, one after the other: the laws that each device owes its
-- trait.
use Rattle.std.specs.Prelude.{◌≡◌, ℕ, zero, suc, ◌<◌, ◌+◌, Bool, List, [], ◌++◌, Option, None, Some}
use Rattle.std.specs.Io.KnownBytes.{Consumes, Appends}
use Rattle.std.proofs.Common.{ap, sym, ◌∙◌, append_assoc, refl, arith, true}
use Rattle.std.proofs.lemmas.List.{append-nil}
use Rattle.zdevices.specs.Device.{Raises}

-- a flag stays where nothing failed
pub never_raises : (flag : Bool) → Raises flag 0 flag
never_raises flag = record { kept = λ e. e; raised = λ some. absurd (omega arith); same = λ _. refl }

-- failures of two stretches add up
pub raises_both : (a b c : Bool) (m n : ℕ) → Raises a m b → Raises b n c → Raises a (m + n) c
raises_both a b c m n first second = record {
  kept = λ e. second.kept (first.kept e);
  raised = λ some. some_raised some m refl;
  same = λ none. second.same (omega arith) ∙ first.same (omega arith);
}
  where
    some_raised : 0 < m + n → (k : ℕ) → k ≡ m → c ≡ true
    some_raised some zero e = second.raised (omega arith)
    some_raised some (suc k) e = second.kept (first.raised (omega arith))

-- what is left after two chunks is what is left after both together
pub left_after_both : (s t u a b : List ℕ) → s ≡ a ++ t → t ≡ b ++ u → s ≡ (a ++ b) ++ u
left_after_both s t u a b first second = first ∙ ap (λ x. a ++ x) second ∙ sym (append_assoc a b u)

-- what is held after two chunks is what was held, and both chunks
pub held_after_both : (s t u a b : List ℕ) → t ≡ s ++ a → u ≡ t ++ b → u ≡ s ++ (a ++ b)
held_after_both s t u a b first second = second ∙ ap (λ x. x ++ b) first ∙ append_assoc s a b

-- the same of a reader, where its bytes are known
pub consumes_nothing : (o : Option (List ℕ)) → Consumes o o []
consumes_nothing None = tt
consumes_nothing (Some xs) = refl

consumed : (o p q : Option (List ℕ)) (a b : List ℕ) → Consumes o p a → Consumes p q b → Consumes o q (a ++ b)
consumed None p q a b first second = tt
consumed (Some s) None q a b first second = absurd first
consumed (Some s) (Some t) None a b first second = absurd second
consumed (Some s) (Some t) (Some u) a b first second = left_after_both s t u a b first second

pub consumes_both : {R : Type 0} (remaining : R → Option (List ℕ)) (s t u : R) (a b : List ℕ) → Consumes (remaining s) (remaining t) a → Consumes (remaining t) (remaining u) b → Consumes (remaining s) (remaining u) (a ++ b)
consumes_both remaining s t u = consumed (remaining s) (remaining t) (remaining u)

-- and of a writer
pub appends_nothing : (o : Option (List ℕ)) → Appends o o []
appends_nothing None = tt
appends_nothing (Some xs) = sym (append-nil xs)

appended : (o p q : Option (List ℕ)) (a b : List ℕ) → Appends o p a → Appends p q b → Appends o q (a ++ b)
appended None p q a b first second = tt
appended (Some s) None q a b first second = absurd first
appended (Some s) (Some t) None a b first second = absurd second
appended (Some s) (Some t) (Some u) a b first second = held_after_both s t u a b first second

pub appends_both : {W : Type 0} (contents : W → Option (List ℕ)) (s t u : W) (a b : List ℕ) → Appends (contents s) (contents t) a → Appends (contents t) (contents u) b → Appends (contents s) (contents u) (a ++ b)
appends_both contents s t u = appended (contents s) (contents t) (contents u)
