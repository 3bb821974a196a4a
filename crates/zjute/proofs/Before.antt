-- Forms that are read again only where something holds of what follows: nothing follows the last.
use Rattle.std.proofs.Common.{◌≡◌, ℕ, ◌≤◌, List, [], ◌∷◌, ◌++◌, length, Result, Ok, refl, sym, ap, subst, ◌∙◌, append_assoc}
use Rattle.std.specs.Prelude.{nat_lt}
use Rattle.std.proofs.lemmas.Bool.{ltb-false, le-ltb}
use Rattle.std.proofs.lemmas.List.{append-nil}
use Rattle.zcodec.specs.declared.fault.Fault.{Fault}
use Rattle.zcodec.specs.declared.fault.Fault.TheVariants.{Long}
use Rattle.zcodec.specs.Forms.{◌>>=◌, Form, both}
use Rattle.zcodec.specs.Laws.{IsBytes, IsForm}
use Rattle.zcodec.specs.Readers.{ended, whole}
use Rattle.zcodec.proofs.Bytes.{bytes_after, bind_ok, guard_ok, done, ok_is}
use Rattle.zcodec.proofs.Parts.{then_parts}
use Rattle.zjute.specs.declared.limits.TheConstants.{MAX_FRAME}
use Rattle.zjute.specs.Jute.{left}
use Rattle.zjute.specs.Shapes.{fields}

-- what is read was spelled so; what is spelled is read again before what `Ends` holds of
pub record IsFormBefore {A : Type 0} (Ends : List ℕ → Type 0) (c : Form A) : Type 0 where
  pub takes : (bytes : List ℕ) (x : A × List ℕ) → IsBytes bytes → c.read bytes ≡ Ok x → (bytes ≡ c.spell x.0 ++ x.1) × c.Fits x.0
  pub again : (x : A) (rest : List ℕ) → Ends rest → c.Fits x → c.read (c.spell x ++ rest) ≡ Ok (x, rest)

-- anything may follow
abbrev pub Anything : List ℕ → Type 0
Anything rest = Unit {0}

-- nothing may follow
abbrev pub Nothing : List ℕ → Type 0
Nothing rest = rest ≡ []

pub before : {A : Type 0} (Ends : List ℕ → Type 0) (c : Form A) → IsForm c → IsFormBefore Ends c
before Ends c is = record { takes = is.takes; again = λ x rest ends fits. is.again x rest fits }

pub is_form : {A : Type 0} (c : Form A) → IsFormBefore Anything c → IsForm c
is_form c is = record { takes = is.takes; again = λ x rest fits. is.again x rest tt fits }

pub left_last : IsFormBefore Nothing left
unfolding left
left_last = record {
  takes = λ bytes x are e.
      let g = guard_ok (nat_lt MAX_FRAME (length bytes)) Long (Ok (bytes, [])) x e in
      subst (λ (y : List ℕ × List ℕ). (bytes ≡ y.0 ++ y.1) × (length y.0 ≤ MAX_FRAME)) (ok_is (bytes, []) x g.1)
      (sym (append-nil bytes), ltb-false MAX_FRAME (length bytes) g.0);
  again = λ bytes rest none fits.
      ap left.read (ap (λ (t : List ℕ). bytes ++ t) none ∙ append-nil bytes)
      ∙ rw (le-ltb MAX_FRAME (length bytes) fits) (ap (λ (t : List ℕ). done (bytes, t)) (sym none));
}

pub both_before : {A B : Type 0} (Ends : List ℕ → Type 0) (c : Form A) (d : Form B) → IsForm c → IsFormBefore Ends d → IsFormBefore Ends (both c d)
both_before {A} {B} Ends c d is also = record {
  takes = λ bytes x are e.
      let a = bind_ok (c.read bytes) (λ x. d.read x.1 >>= λ y. Ok ((x.0, y.0), y.1)) x e in
      let b = bind_ok (d.read a.0.1) (λ y. Ok ((a.0.0, y.0), y.1)) x a.2 in
      let t = is.takes bytes a.0 are a.1 in
      let u = also.takes a.0.1 b.0 (bytes_after bytes (c.spell a.0.0) a.0.1 are t.0) b.1 in
      subst (λ (y : (A × B) × List ℕ). (bytes ≡ (c.spell y.0.0 ++ d.spell y.0.1) ++ y.1) × (c.Fits y.0.0 × d.Fits y.0.1)) (ok_is _ _ b.2)
      (then_parts bytes (c.spell a.0.0) a.0.1 (d.spell b.0.0) b.0.1 t.0 u.0, (t.1, u.1));
  again = λ x rest ends fits.
      ap (both c d).read (append_assoc (c.spell x.0) (d.spell x.1) rest)
      ∙ ap (λ (r : Result (A × List ℕ) Fault). r >>= λ x. d.read x.1 >>= λ y. Ok ((x.0, y.0), y.1)) (is.again x.0 (d.spell x.1 ++ rest) fits.0)
      ∙ ap (λ (r : Result (B × List ℕ) Fault). r >>= λ y. done ((x.0, y.0), y.1)) (also.again x.1 rest ends fits.1);
}

pub fields_before : {A B : Type 0} (Ends : List ℕ → Type 0) (c : Form A) (to : B → A) (of : A → B) → IsFormBefore Ends c → ((x : A) → to (of x) ≡ x) → ((y : B) → of (to y) ≡ y)
    → IsFormBefore Ends (fields c to of)
fields_before {A} {B} Ends c to of is there back = record {
  takes = λ bytes z are e.
      let a = bind_ok (c.read bytes) (λ x. done (of x.0, x.1)) z e in
      let t = is.takes bytes a.0 are a.1 in
      subst (λ (y : B × List ℕ). (bytes ≡ c.spell (to y.0) ++ y.1) × c.Fits (to y.0)) (ok_is (of a.0.0, a.0.1) z a.2)
      (subst (λ (x : A). (bytes ≡ c.spell x ++ a.0.1) × c.Fits x) (sym (there a.0.0)) t);
  again = λ y rest ends fits.
      ap (λ (r : Result (A × List ℕ) Fault). r >>= λ x. done (of x.0, x.1)) (is.again (to y) rest ends fits)
      ∙ ap (λ (z : B). done (z, rest)) (back y);
}

-- ---- all of the bytes

last_ended : {A : Type 0} (x : A) (bytes : List ℕ) (y : A) → ended x bytes ≡ Ok y → (bytes ≡ []) × (x ≡ y)
last_ended x [] y e = (refl, ok_is x y e)
last_ended x (byte ∷ bytes) y e = absurd cc

pub last_takes : {A : Type 0} (c : Form A) → IsFormBefore Nothing c → (bytes : List ℕ) (y : A) → IsBytes bytes → whole c bytes ≡ Ok y → (bytes ≡ c.spell y) × c.Fits y
last_takes c is bytes y are e =
    let a = bind_ok (c.read bytes) (λ x. ended x.0 x.1) y e in
    let end = last_ended a.0.0 a.0.1 y a.2 in
    let t = is.takes bytes a.0 are a.1 in
    subst (λ x. (bytes ≡ c.spell x) × c.Fits x) end.1
    (t.0 ∙ ap (λ (rest : List ℕ). c.spell a.0.0 ++ rest) end.0 ∙ append-nil (c.spell a.0.0), t.1)

pub last_again : {A : Type 0} (c : Form A) → IsFormBefore Nothing c → (x : A) → c.Fits x → whole c (c.spell x) ≡ Ok x
last_again {A} c is x fits =
    ap (whole c) (sym (append-nil (c.spell x)))
    ∙ ap (λ (r : Result (A × List ℕ) Fault). r >>= λ x. ended x.0 x.1) (is.again x [] refl fits)
