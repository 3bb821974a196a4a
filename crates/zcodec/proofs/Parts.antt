-- The forms that are made of others.
use Rattle.std.proofs.Common.{◌≡◌, ℕ, Bool, true, false, List, [], ◌++◌, Option, Some, None, Result, Ok, refl, sym, ap, subst, ◌∙◌, append_assoc}
use Rattle.std.specs.Option.{IsSomeAnd, option_map_or}
use Rattle.zcodec.specs.declared.fault.Fault.{Fault}
use Rattle.zcodec.specs.Forms.{◌>>=◌, Form, both, made, either, tagged, kind}
use Rattle.zcodec.specs.Laws.{IsForm}
use Rattle.zcodec.proofs.Bytes.{bytes_after, bind_ok, done, ok_is}

-- one text and then another
pub then_parts : (a x b y c : List ℕ) → a ≡ x ++ b → b ≡ y ++ c → a ≡ (x ++ y) ++ c
then_parts a x b y c first second = first ∙ ap (λ (t : List ℕ). x ++ t) second ∙ sym (append_assoc x y c)

pub is_both : {A B : Type 0} (c : Form A) (d : Form B) → IsForm c → IsForm d → IsForm (both c d)
is_both {A} {B} c d is also = record {
  takes = λ bytes x are e.
      let a = bind_ok (c.read bytes) (λ x. d.read x.1 >>= λ y. Ok ((x.0, y.0), y.1)) x e in
      let b = bind_ok (d.read a.0.1) (λ y. Ok ((a.0.0, y.0), y.1)) x a.2 in
      let t = is.takes bytes a.0 are a.1 in
      let u = also.takes a.0.1 b.0 (bytes_after bytes (c.spell a.0.0) a.0.1 are t.0) b.1 in
      subst (λ (y : (A × B) × List ℕ). (bytes ≡ (c.spell y.0.0 ++ d.spell y.0.1) ++ y.1) × (c.Fits y.0.0 × d.Fits y.0.1)) (ok_is _ _ b.2)
      (then_parts bytes (c.spell a.0.0) a.0.1 (d.spell b.0.0) b.0.1 t.0 u.0, (t.1, u.1));
  again = λ x rest fits.
      ap (both c d).read (append_assoc (c.spell x.0) (d.spell x.1) rest)
      ∙ ap (λ (r : Result (A × List ℕ) Fault). r >>= λ x. d.read x.1 >>= λ y. Ok ((x.0, y.0), y.1)) (is.again x.0 (d.spell x.1 ++ rest) fits.0)
      ∙ ap (λ (r : Result (B × List ℕ) Fault). r >>= λ y. done ((x.0, y.0), y.1)) (also.again x.1 rest fits.1);
}

-- what is made of a value that fits is spelled as it, and what fits is made of a value that fits
pub is_made : {A B : Type 0} (c : Form A) (to : B → A) (from : A → Result B Fault) (Fits : B → Type 0) → IsForm c
    → ((x : A) (y : B) → c.Fits x → from x ≡ Ok y → (to y ≡ x) × Fits y)
    → ((y : B) → Fits y → (from (to y) ≡ Ok y) × c.Fits (to y)) → IsForm (made c to from Fits)
is_made {A} {B} c to from Fits is back forth = record {
  takes = λ bytes z are e.
      let a = bind_ok (c.read bytes) (λ x. from x.0 >>= λ y. Ok (y, x.1)) z e in
      let b = bind_ok (from a.0.0) (λ y. Ok (y, a.0.1)) z a.2 in
      let t = is.takes bytes a.0 are a.1 in
      let same = back a.0.0 b.0 t.1 b.1 in
      subst (λ (y : B × List ℕ). (bytes ≡ c.spell (to y.0) ++ y.1) × Fits y.0) (ok_is _ _ b.2)
      (subst (λ x. bytes ≡ c.spell x ++ a.0.1) (sym same.0) t.0, same.1);
  again = λ y rest fits.
      let f = forth y fits in
      ap (λ (r : Result (A × List ℕ) Fault). r >>= λ x. from x.0 >>= λ y. Ok (y, x.1)) (is.again (to y) rest f.1)
      ∙ ap (λ (r : Result B Fault). r >>= λ y. done (y, rest)) f.0;
}

-- a record by its parts: each determines the other
pub is_record : {A B : Type 0} (c : Form A) (to : B → A) (of : A → B) → IsForm c → ((x : A) → to (of x) ≡ x) → ((y : B) → of (to y) ≡ y)
    → IsForm (made c to (λ x. Ok (of x)) (λ y. c.Fits (to y)))
is_record c to of is there back = is_made c to (λ x. Ok (of x)) (λ y. c.Fits (to y)) is
    (λ x y fits e.
    let same : to y ≡ x = ap to (sym (ok_is (of x) y e)) ∙ there x in
    (same, subst c.Fits (sym same) fits))
    (λ y fits. (ap done (back y), fits))

pub is_either : {A : Type 0} (b : Bool) (c d : Form A) → IsForm c → IsForm d → IsForm (either b c d)
is_either true c d is also = is
is_either false c d is also = also

-- each value of a tag's form has this tag
pub is_tagged : {T A : Type 0} (tag : Form T) (tag_of : A → T) (body : T → Form A) → IsForm tag
    → ((t : T) → tag.Fits t → IsForm (body t)) → ((t : T) (x : A) → tag.Fits t → (body t).Fits x → tag_of x ≡ t)
    → IsForm (tagged tag tag_of body)
is_tagged {T} {A} tag tag_of body is bodies reports = record {
  takes = λ bytes x are e.
      let a = bind_ok (tag.read bytes) (λ t. (body t.0).read t.1) x e in
      let t = is.takes bytes a.0 are a.1 in
      let u = (bodies a.0.0 t.1).takes a.0.1 x (bytes_after bytes (tag.spell a.0.0) a.0.1 are t.0) a.2 in
      let same : a.0.0 ≡ tag_of x.0 = sym (reports a.0.0 x.0 t.1 u.1) in
      subst (λ k. (bytes ≡ (tag.spell k ++ (body k).spell x.0) ++ x.1) × (tag.Fits k × (body k).Fits x.0)) same
      (then_parts bytes (tag.spell a.0.0) a.0.1 ((body a.0.0).spell x.0) x.1 t.0 u.0, (t.1, u.1));
  again = λ x rest fits.
      ap (tagged tag tag_of body).read (append_assoc (tag.spell (tag_of x)) ((body (tag_of x)).spell x) rest)
      ∙ ap (λ (r : Result (T × List ℕ) Fault). r >>= λ t. (body t.0).read t.1) (is.again (tag_of x) ((body (tag_of x)).spell x ++ rest) fits.0)
      ∙ (bodies (tag_of x) fits.0).again x rest fits.1;
}

-- a value of a kind is made of the parts that it has
pub is_kind : {A B : Type 0} (c : Form A) (into : A → B) (parts : B → Option A) → IsForm c
    → ((x : A) → parts (into x) ≡ Some x) → ((y : B) (x : A) → parts y ≡ Some x → into x ≡ y) → IsForm (kind c into parts)
is_kind {A} {B} c into parts is there back = record {
  takes = λ bytes z are e.
      let a = bind_ok (c.read bytes) (λ x. Ok (into x.0, x.1)) z e in
      let t = is.takes bytes a.0 are a.1 in
      subst (λ (y : B × List ℕ). (bytes ≡ option_map_or c.spell (parts y.0) [] ++ y.1) × IsSomeAnd (parts y.0) c.Fits) (ok_is _ _ a.2)
      (subst (λ (o : Option A). (bytes ≡ option_map_or c.spell o [] ++ a.0.1) × IsSomeAnd o c.Fits) (sym (there a.0.0)) t);
  again = λ y rest fits. kind_again y rest (parts y) refl fits;
}
  where
    kind_again : (y : B) (rest : List ℕ) (o : Option A) → parts y ≡ o → IsSomeAnd o c.Fits
        → (kind c into parts).read (option_map_or c.spell o [] ++ rest) ≡ Ok (y, rest)
    kind_again y rest None is fits = absurd fits
    kind_again y rest (Some x) has fits =
        ap (λ (r : Result (A × List ℕ) Fault). r >>= λ x. done (into x.0, x.1)) (is.again x rest fits)
        ∙ ap (λ (z : B). done (z, rest)) (back y x has)
