-- A given number of values of one form.
use Rattle.std.proofs.Common.{◌≡◌, ℕ, zero, suc, List, [], ◌∷◌, ◌++◌, length, Result, Ok, refl, sym, ap, subst, ◌∙◌, append_assoc, arith}
use Rattle.std.specs.List.{AllByRecursion, flat_map}
use Rattle.std.proofs.lemmas.List.Concat.{flat_map-cons}
use Rattle.zcodec.specs.declared.fault.Fault.{Fault}
use Rattle.zcodec.specs.Forms.{◌>>=◌, Form, times, read_times}
use Rattle.zcodec.specs.Laws.{IsBytes, IsForm}
use Rattle.zcodec.proofs.Bytes.{bytes_after, bind_ok, done, ok_is}
use Rattle.zcodec.proofs.Parts.{then_parts}

times_take : {A : Type 0} (c : Form A) → IsForm c → (n : ℕ) (bytes : List ℕ) (x : List A × List ℕ) → IsBytes bytes → read_times c n bytes ≡ Ok x
    → (bytes ≡ flat_map c.spell x.0 ++ x.1) × ((length x.0 ≡ n) × AllByRecursion c.Fits x.0)
times_take {A} c is zero bytes x are e =
    subst (λ (y : List A × List ℕ). (bytes ≡ flat_map c.spell y.0 ++ y.1) × ((length y.0 ≡ 0) × AllByRecursion c.Fits y.0)) (ok_is _ _ e) (refl, (refl, tt))
times_take {A} c is (suc n) bytes x are e =
    let a = bind_ok (c.read bytes) (λ x. read_times c n x.1 >>= λ xs. Ok (x.0 ∷ xs.0, xs.1)) x e in
    let b = bind_ok (read_times c n a.0.1) (λ xs. Ok (a.0.0 ∷ xs.0, xs.1)) x a.2 in
    let t = is.takes bytes a.0 are a.1 in
    let u = times_take c is n a.0.1 b.0 (bytes_after bytes (c.spell a.0.0) a.0.1 are t.0) b.1 in
    subst (λ (y : List A × List ℕ). (bytes ≡ flat_map c.spell y.0 ++ y.1) × ((length y.0 ≡ suc n) × AllByRecursion c.Fits y.0)) (ok_is _ _ b.2) (
      then_parts bytes (c.spell a.0.0) a.0.1 (flat_map c.spell b.0.0) b.0.1 t.0 u.0 ∙ ap (λ (text : List ℕ). text ++ b.0.1) (sym (flat_map-cons c.spell a.0.0 b.0.0)),
      (omega (arith, u.1.0), (t.1, u.1.1)),
    )

times_again : {A : Type 0} (c : Form A) → IsForm c → (n : ℕ) (xs : List A) (rest : List ℕ) → length xs ≡ n → AllByRecursion c.Fits xs
    → read_times c n (flat_map c.spell xs ++ rest) ≡ Ok (xs, rest)
times_again c is zero [] rest len fit = refl
times_again c is (suc n) [] rest len fit = absurd (omega (arith, len))
times_again c is zero (x ∷ xs) rest len fit = absurd (omega (arith, len))
times_again {A} c is (suc n) (x ∷ xs) rest len fit =
    ap (read_times c (suc n)) (ap (λ (text : List ℕ). text ++ rest) (flat_map-cons c.spell x xs) ∙ append_assoc (c.spell x) (flat_map c.spell xs) rest)
    ∙ ap (λ (r : Result (A × List ℕ) Fault). r >>= λ x. read_times c n x.1 >>= λ xs. Ok (x.0 ∷ xs.0, xs.1)) (is.again x (flat_map c.spell xs ++ rest) fit.0)
    ∙ ap (λ (r : Result (List A × List ℕ) Fault). r >>= λ xs. done (x ∷ xs.0, xs.1)) (times_again c is n xs rest (omega (arith, len)) fit.1)

pub is_times : {A : Type 0} (c : Form A) → IsForm c → (n : ℕ) → IsForm (times c n)
is_times c is n = record {
  takes = λ bytes x are e. times_take c is n bytes x are e;
  again = λ xs rest fits. times_again c is n xs rest fits.0 fits.1;
}
