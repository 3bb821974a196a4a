-- All of the bytes; one spelling for one value.
use Rattle.std.proofs.Common.{◌≡◌, ℕ, List, [], ◌∷◌, ◌++◌, Result, Ok, refl, sym, ap, subst, ◌∙◌}
use Rattle.std.proofs.lemmas.List.{append-nil}
use Rattle.zcodec.specs.declared.fault.Fault.{Fault}
use Rattle.zcodec.specs.Forms.{◌>>=◌, Form}
use Rattle.zcodec.specs.Readers.{ended, whole}
use Rattle.zcodec.specs.Laws.{IsBytes, IsForm}
use Rattle.zcodec.proofs.Bytes.{bind_ok, ok_is}

ended_ok : {A : Type 0} (x : A) (bytes : List ℕ) (y : A) → ended x bytes ≡ Ok y → (bytes ≡ []) × (x ≡ y)
ended_ok x [] y e = (refl, ok_is x y e)
ended_ok x (byte ∷ bytes) y e = absurd cc

-- what all of the bytes are read as is spelled so, and fits
pub whole_takes : {A : Type 0} (c : Form A) → IsForm c → (bytes : List ℕ) (y : A) → IsBytes bytes → whole c bytes ≡ Ok y → (bytes ≡ c.spell y) × c.Fits y
whole_takes c is bytes y are e =
    let a = bind_ok (c.read bytes) (λ x. ended x.0 x.1) y e in
    let end = ended_ok a.0.0 a.0.1 y a.2 in
    let t = is.takes bytes a.0 are a.1 in
    subst (λ x. (bytes ≡ c.spell x) × c.Fits x) end.1
    (t.0 ∙ ap (λ (rest : List ℕ). c.spell a.0.0 ++ rest) end.0 ∙ append-nil (c.spell a.0.0), t.1)

-- what fits and is spelled is what all of its bytes are read as
pub whole_again : {A : Type 0} (c : Form A) → IsForm c → (x : A) → c.Fits x → whole c (c.spell x) ≡ Ok x
whole_again {A} c is x fits =
    ap (whole c) (sym (append-nil (c.spell x)))
    ∙ ap (λ (r : Result (A × List ℕ) Fault). r >>= λ x. ended x.0 x.1) (is.again x [] fits)

-- two values that fit don't share a text, even where more follows
pub one_value : {A : Type 0} (c : Form A) → IsForm c → (x y : A) (after behind : List ℕ) → c.Fits x → c.Fits y → c.spell x ++ after ≡ c.spell y ++ behind → (x ≡ y) × (after ≡ behind)
one_value {A} c is x y after behind fits also same =
    let both = ok_is (x, after) (y, behind) (sym (is.again x after fits) ∙ ap c.read same ∙ is.again y behind also) in
    (ap (λ (p : A × List ℕ). p.0) both, ap (λ (p : A × List ℕ). p.1) both)

pub one_spelling : {A : Type 0} (c : Form A) → IsForm c → (x y : A) → c.Fits x → c.Fits y → c.spell x ≡ c.spell y → x ≡ y
one_spelling c is x y fits also same =
    ok_is x y (sym (whole_again c is x fits) ∙ ap (whole c) same ∙ whole_again c is y also)
