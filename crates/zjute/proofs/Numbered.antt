-- Values by their numbers.
use Rattle.std.proofs.Common.{◌≡◌, ℤ, Bool, true, false, cond, List, [], ◌∷◌, Option, Some, refl, sym, ap, ◌∙◌}
use Rattle.std.specs.Ordering.{int_eq}
use Rattle.std.proofs.lemmas.Bool.Decides.{Decides-int_eq}
use Rattle.zjute.specs.declared.code.Code.TheVariants as code
use Rattle.zjute.specs.Shapes.{with_number}
use Rattle.zjute.specs.Codes.{code_of, middle_codes, late_codes, last_codes, EachHasItsNumber}

abbrev found : {A : Type 0} → A → Option A
found x = Some x

some_is : {A : Type 0} (x y : A) → found x ≡ found y → x ≡ y
some_is x y e = cc

-- what a number decodes to has this number
pub has_number : {K : Type 0} (number : K → ℤ) (ks : List K) (n : ℤ) (k : K) → with_number number ks n ≡ Some k → number k ≡ n
has_number number [] n k e = absurd cc
has_number {K} number (x ∷ xs) n k e = by (int_eq n (number x)) refl e (λ f. has_number number xs n k f)
  where
    by : (b : Bool) → int_eq n (number x) ≡ b → cond b (Some x) (with_number number xs n) ≡ Some k → (with_number number xs n ≡ Some k → number k ≡ n) → number k ≡ n
    by true same e others = ap number (sym (some_is x k e)) ∙ sym ((Decides-int_eq n (number x)).0 same)
    by false other e others = others e

-- ---- codes

pub codes_again : EachHasItsNumber
unfolding code_of middle_codes late_codes last_codes
codes_again code.Ok = refl
codes_again code.SystemError = refl
codes_again code.RuntimeInconsistency = refl
codes_again code.DataInconsistency = refl
codes_again code.ConnectionLoss = refl
codes_again code.MarshallingError = refl
codes_again code.Unimplemented = refl
codes_again code.OperationTimeout = refl
codes_again code.BadArguments = refl
codes_again code.UnknownSession = refl
codes_again code.NewConfigNoQuorum = refl
codes_again code.ReconfigInProgress = refl
codes_again code.ApiError = refl
codes_again code.NoNode = refl
codes_again code.NoAuth = refl
codes_again code.BadVersion = refl
codes_again code.NoChildrenForEphemerals = refl
codes_again code.NodeExists = refl
codes_again code.NotEmpty = refl
codes_again code.SessionExpired = refl
codes_again code.InvalidCallback = refl
codes_again code.InvalidAcl = refl
codes_again code.AuthFailed = refl
codes_again code.SessionMoved = refl
codes_again code.NotReadOnly = refl
codes_again code.EphemeralOnLocalSession = refl
codes_again code.NoWatcher = refl
codes_again code.RequestTimeout = refl
codes_again code.ReconfigDisabled = refl
codes_again code.SessionClosedRequireSaslAuth = refl
codes_again code.QuotaExceeded = refl
codes_again code.ThrottledOp = refl
