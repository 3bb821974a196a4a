-- What all bytes of the first frame are read as is spelled so, and what fits is read again.
use Rattle.std.proofs.Common.{◌≡◌, ℕ, Bool, true, false, List, [], ◌∷◌, ◌++◌, Option, Some, None, Result, Ok, Err, refl, sym, ap, subst, ◌∙◌}
use Rattle.std.specs.Prelude.{IfOk}
use Rattle.zcodec.specs.declared.fault.ReadError.{ReadError}
use Rattle.zcodec.specs.Forms.{number_at}
use Rattle.zcodec.specs.Choices.{flag}
use Rattle.zcodec.specs.Laws.{IsBytes}
use Rattle.zcodec.specs.Readers.{Gives, whole}
use Rattle.zcodec.proofs.Bytes.{bind_ok, done, ok_is}
use Rattle.zcodec.proofs.Choices.{is_flag}
use Rattle.zjute.specs.declared.connecting.ConnectRequest.{ConnectRequest}
use Rattle.zjute.specs.Jute.{int, long, buffer}
use Rattle.zjute.specs.Connecting.{flag_if_any, flag_or_end, last_flag, connect_request}
use Rattle.zjute.specs.Laws.{GreetingsAreDistinct}
use Rattle.zjute.proofs.Signed.{is_int, is_long}
use Rattle.zjute.proofs.Before.{IsFormBefore, Nothing, both_before, fields_before, last_takes, last_again}
use Rattle.zjute.proofs.Records.{is_buffer}

last_takes_flag : (bytes : List ℕ) (x : Option Bool × List ℕ) → IsBytes bytes → flag_or_end bytes ≡ Ok x → (bytes ≡ flag_if_any x.0 ++ x.1) × Unit {0}
last_takes_flag [] x are e = subst (λ (y : Option Bool × List ℕ). ([] ≡ flag_if_any y.0 ++ y.1) × Unit {0}) (ok_is (None, []) x e) (refl, tt)
last_takes_flag (byte ∷ bytes) x are e =
    let a = bind_ok (flag.read (byte ∷ bytes)) (λ x. Ok (Some x.0, x.1)) x e in
    subst (λ (y : Option Bool × List ℕ). ((byte ∷ bytes) ≡ flag_if_any y.0 ++ y.1) × Unit {0}) (ok_is (Some a.0.0, a.0.1) x a.2)
    ((is_flag.takes (byte ∷ bytes) a.0 are a.1).0, tt)

last_again_flag : (o : Option Bool) → flag_or_end (flag_if_any o ++ []) ≡ Ok (o, [])
unfolding number_at
last_again_flag None = refl
last_again_flag (Some true) = refl
last_again_flag (Some false) = refl

last_flag_is : IsFormBefore Nothing last_flag
last_flag_is = record {
  takes = last_takes_flag;
  again = λ o rest none fits.
      ap (λ (t : List ℕ). flag_or_end (flag_if_any o ++ t)) none ∙ last_again_flag o ∙ ap (λ (t : List ℕ). done (o, t)) (sym none);
}

request_is : IsFormBefore Nothing connect_request
unfolding connect_request
request_is = fields_before Nothing _ _ _
    (both_before Nothing int _ is_int (both_before Nothing long _ is_long (both_before Nothing int _ is_int (both_before Nothing long _ is_long
    (both_before Nothing buffer last_flag is_buffer last_flag_is))))) (λ f. refl) (λ c. refl)

pub connect_found : (bytes : List ℕ) (r : Result ConnectRequest ReadError) → IsBytes bytes → Gives (λ it. it) r (whole connect_request bytes)
    → IfOk r (λ it. connect_request.Fits it × (bytes ≡ connect_request.spell it))
connect_found bytes (Ok r) are given = let t = last_takes connect_request request_is bytes r are given in (t.1, t.0)
connect_found bytes (Err e) are given = tt

pub connect_again : (it : ConnectRequest) → connect_request.Fits it → whole connect_request (connect_request.spell it) ≡ Ok it
connect_again it fits = last_again connect_request request_is it fits

pub greetings_apart : GreetingsAreDistinct
greetings_apart x y fits also same = ok_is x y (sym (connect_again x fits) ∙ ap (whole connect_request) same ∙ connect_again y also)
