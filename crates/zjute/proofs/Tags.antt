-- A tag with what follows it, and values up to an end, are forms.
use Rattle.std.proofs.Common.{◌≡◌, ℕ, zero, suc, ◌<◌, ◌≤◌, List, [], ◌∷◌, ◌++◌, length, Option, Some, None, Result, Ok, sym, ap, subst, ◌∙◌, append_assoc, arith}
use Rattle.std.specs.List.{AllByRecursion, flat_map}
use Rattle.std.proofs.lemmas.List.{length-append}
use Rattle.std.proofs.lemmas.List.Concat.{flat_map-cons}
use Rattle.zcodec.specs.declared.fault.Fault.{Fault}
use Rattle.zcodec.specs.Forms.{◌>>=◌, Form}
use Rattle.zcodec.specs.Laws.{IsBytes, IsForm}
use Rattle.zcodec.proofs.Bytes.{bytes_after, bind_ok, done, ok_is}
use Rattle.zcodec.proofs.Parts.{then_parts}
use Rattle.zjute.specs.Shapes.{Spelled, read_as, by_tag, and_others, read_until, until_end}
use Rattle.zjute.proofs.Before.{IsFormBefore}

-- ---- tags

-- what is read after a tag was spelled so after this tag
abbrev pub TakesAt : {T B : Type 0} → (B → Spelled T) → T → List ℕ → B × List ℕ → Type 0
TakesAt spelled t bytes y = (bytes ≡ (spelled y.0).text ++ y.1) × ((spelled y.0).tag ≡ t) × (spelled y.0).fits

-- in a form, made into a value that is spelled in it
pub takes_as : {T A B : Type 0} (Ends : List ℕ → Type 0) (spelled : B → Spelled T) (t : T) (c : Form A) (make : A → B) → IsFormBefore Ends c
    → ((x : A) → (spelled (make x)).text ≡ c.spell x) → ((x : A) → (spelled (make x)).tag ≡ t) → ((x : A) → c.Fits x → (spelled (make x)).fits)
    → (bytes : List ℕ) (y : B × List ℕ) → IsBytes bytes → read_as c make bytes ≡ Ok y → TakesAt spelled t bytes y
takes_as Ends spelled t c make is text tag fits bytes y are e =
    let a = bind_ok (c.read bytes) (λ x. Ok (make x.0, x.1)) y e in
    let u = is.takes bytes a.0 are a.1 in
    subst (TakesAt spelled t bytes) (ok_is (make a.0.0, a.0.1) y a.2)
    (u.0 ∙ ap (λ (s : List ℕ). s ++ a.0.1) (sym (text a.0.0)), tag a.0.0, fits a.0.0 u.1)

pub again_as : {A B : Type 0} (Ends : List ℕ → Type 0) (c : Form A) (make : A → B) → IsFormBefore Ends c → (x : A) (rest : List ℕ) → Ends rest → c.Fits x
    → read_as c make (c.spell x ++ rest) ≡ Ok (make x, rest)
again_as {A} Ends c make is x rest ends fits = ap (λ (r : Result (A × List ℕ) Fault). r >>= λ x. done (make x.0, x.1)) (is.again x rest ends fits)

-- a tag with what follows it
pub is_by_tag : {T B : Type 0} (Ends : List ℕ → Type 0) (tag : Form T) (at : T → List ℕ → Result (B × List ℕ) Fault) (spelled : B → Spelled T) → IsForm tag
    → ((t : T) (bytes : List ℕ) (y : B × List ℕ) → IsBytes bytes → at t bytes ≡ Ok y → TakesAt spelled t bytes y)
    → ((y : B) (rest : List ℕ) → Ends rest → (spelled y).fits → at (spelled y).tag ((spelled y).text ++ rest) ≡ Ok (y, rest))
    → IsFormBefore Ends (by_tag tag at spelled)
is_by_tag {T} {B} Ends tag at spelled is takes_at again_at = record {
  takes = λ bytes y are e.
      let a = bind_ok (tag.read bytes) (λ t. at t.0 t.1) y e in
      let t = is.takes bytes a.0 are a.1 in
      let u = takes_at a.0.0 a.0.1 y (bytes_after bytes (tag.spell a.0.0) a.0.1 are t.0) a.2 in
      subst (λ (k : T). (bytes ≡ (tag.spell k ++ (spelled y.0).text) ++ y.1) × (tag.Fits k × (spelled y.0).fits)) (sym u.1)
      (then_parts bytes (tag.spell a.0.0) a.0.1 (spelled y.0).text y.1 t.0 u.0, (t.1, u.2));
  again = λ y rest ends fits.
      let t = (spelled y).tag in
      let body = (spelled y).text in
      ap (by_tag tag at spelled).read (append_assoc (tag.spell t) body rest)
      ∙ ap (λ (r : Result (T × List ℕ) Fault). r >>= λ t. at t.0 t.1) (is.again t (body ++ rest) fits.0)
      ∙ again_at y rest ends fits.1;
}

-- ---- up to an end

abbrev some_text : {A : Type 0} → Form (Option A) → A → List ℕ
some_text item x = item.spell (Some x)

abbrev SomeFits : {A : Type 0} → Form (Option A) → A → Type 0
SomeFits item x = item.Fits (Some x)

-- what is read up to the end was spelled so
abbrev Until : {A : Type 0} → Form (Option A) → List ℕ → List A × List ℕ → Type 0
Until item bytes x = (bytes ≡ (flat_map (some_text item) x.0 ++ item.spell None) ++ x.1) × (AllByRecursion (SomeFits item) x.0 × item.Fits None)

until_next : {A : Type 0} (item : Form (Option A)) (n : ℕ) (bytes : List ℕ) (o : Option A) (after : List ℕ) (x : List A × List ℕ)
    → ((z : List A × List ℕ) → read_until item n after ≡ Ok z → Until item after z)
    → (bytes ≡ item.spell o ++ after) × item.Fits o → and_others o after (λ rest. read_until item n rest) ≡ Ok x → Until item bytes x
until_next item n bytes None after x others t e = subst (Until item bytes) (ok_is ([], after) x e) (t.0, (tt, t.1))
until_next item n bytes (Some y) after x others t e =
    let b = bind_ok (read_until item n after) (λ xs. Ok (y ∷ xs.0, xs.1)) x e in
    let u = others b.0 b.1 in
    let texts = flat_map (some_text item) b.0.0 in
    let front : some_text item y ++ (texts ++ item.spell None) ≡ flat_map (some_text item) (y ∷ b.0.0) ++ item.spell None =
    sym (append_assoc (some_text item y) texts (item.spell None)) ∙ ap (λ (t : List ℕ). t ++ item.spell None) (sym (flat_map-cons (some_text item) y b.0.0)) in
    subst (Until item bytes) (ok_is (y ∷ b.0.0, b.0.1) x b.2) (
      then_parts bytes (some_text item y) after (texts ++ item.spell None) b.0.1 t.0 u.0 ∙ ap (λ (t : List ℕ). t ++ b.0.1) front,
      ((t.1, u.1.0), u.1.1),
    )

until_takes : {A : Type 0} (item : Form (Option A)) → IsForm item → (n : ℕ) (bytes : List ℕ) (x : List A × List ℕ) → IsBytes bytes → read_until item n bytes ≡ Ok x → Until item bytes x
until_takes item is zero bytes x are e = absurd cc
until_takes item is (suc n) bytes x are e =
    let a = bind_ok (item.read bytes) (λ x. and_others x.0 x.1 (λ rest. read_until item n rest)) x e in
    let t = is.takes bytes a.0 are a.1 in
    let after_are = bytes_after bytes (item.spell a.0.0) a.0.1 are t.0 in
    until_next item n bytes a.0.0 a.0.1 x (λ z f. until_takes item is n a.0.1 z after_are f) t a.2

until_again : {A : Type 0} (item : Form (Option A)) → IsForm item → (n : ℕ) (xs : List A) (rest : List ℕ) → length xs < n → AllByRecursion (SomeFits item) xs → item.Fits None
    → read_until item n ((flat_map (some_text item) xs ++ item.spell None) ++ rest) ≡ Ok (xs, rest)
until_again item is zero xs rest few fit end = absurd (omega (arith, few))
until_again {A} item is (suc n) [] rest few fit end =
    ap (λ (r : Result (Option A × List ℕ) Fault). r >>= λ x. and_others x.0 x.1 (λ rest. read_until item n rest)) (is.again None rest end)
until_again {A} item is (suc n) (x ∷ xs) rest few fit end =
    let texts = flat_map (some_text item) xs in
    let regrouped : (flat_map (some_text item) (x ∷ xs) ++ item.spell None) ++ rest ≡ some_text item x ++ ((texts ++ item.spell None) ++ rest) =
    ap (λ (t : List ℕ). (t ++ item.spell None) ++ rest) (flat_map-cons (some_text item) x xs)
    ∙ ap (λ (t : List ℕ). t ++ rest) (append_assoc (some_text item x) texts (item.spell None))
    ∙ append_assoc (some_text item x) (texts ++ item.spell None) rest in
    ap (read_until item (suc n)) regrouped
    ∙ ap (λ (r : Result (Option A × List ℕ) Fault). r >>= λ x. and_others x.0 x.1 (λ rest. read_until item n rest)) (is.again (Some x) ((texts ++ item.spell None) ++ rest) fit.0)
    ∙ ap (λ (r : Result (List A × List ℕ) Fault). r >>= λ xs. done (x ∷ xs.0, xs.1)) (until_again item is n xs rest (omega (arith, few)) fit.1 end)

-- each value takes some of the bytes
texts_long : {A : Type 0} (item : Form (Option A)) → ((o : Option A) → 0 < length (item.spell o)) → (xs : List A) → length xs ≤ length (flat_map (some_text item) xs)
texts_long item some [] = omega arith
texts_long item some (x ∷ xs) =
    rw (flat_map-cons (some_text item) x xs) (omega (arith, length-append (some_text item x) (flat_map (some_text item) xs), some (Some x), texts_long item some xs))

pub is_until : {A : Type 0} (item : Form (Option A)) → IsForm item → ((o : Option A) → 0 < length (item.spell o)) → IsForm (until_end item)
is_until item is some = record {
  takes = λ bytes x are e. until_takes item is (length bytes) bytes x are e;
  again = λ xs rest fits.
      let texts = flat_map (some_text item) xs in
      let end = item.spell None in
      until_again item is (length ((texts ++ end) ++ rest)) xs rest
      (omega (arith, length-append (texts ++ end) rest, length-append texts end, some None, texts_long item some xs)) fits.0 fits.1;
}
