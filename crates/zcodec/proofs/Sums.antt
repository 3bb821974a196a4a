-- Sums of kinds: each tag's form is a form, and determines its tag.
use Rattle.std.proofs.Common.{◌≡◌, ℕ, Bool, true, false, eqb, Option, Some, None, refl, sym, ap, ◌∙◌}
use Rattle.std.specs.Option.{IsSomeAnd}
use Rattle.std.specs.Int.{Width}
use Rattle.std.proofs.lemmas.Bool.{eqb-true}
use Rattle.zcodec.specs.Forms.{Form, either, invalid, kind, number, tagged}
use Rattle.zcodec.specs.Choices.{at}
use Rattle.zcodec.specs.Laws.{IsForm}
use Rattle.zcodec.proofs.Numbers.{is_invalid}
use Rattle.zcodec.proofs.Parts.{is_kind, is_either, is_tagged}

-- the forms of a sum, by their tags
pub record AreKinds {A : Type 0} (tag_of : A → ℕ) (forms : ℕ → Form A) : Type 0 where
  pub are : (t : ℕ) → IsForm (forms t)
  pub reports : (t : ℕ) (x : A) → (forms t).Fits x → tag_of x ≡ t

-- no tag is left
pub no_kinds : {A : Type 0} (tag_of : A → ℕ) → AreKinds tag_of (λ _. invalid)
no_kinds tag_of = record { are = λ t. is_invalid; reports = λ t x fits. absurd fits }

-- one more form
pub at_kinds : {A : Type 0} (tag_of : A → ℕ) (k : ℕ) (c : Form A) (others : ℕ → Form A) → IsForm c → ((x : A) → c.Fits x → tag_of x ≡ k)
    → AreKinds tag_of others → AreKinds tag_of (at k c others)
at_kinds {A} tag_of k c others is reports rest = record {
  are = λ t. is_either (eqb t k) c (others t) is (rest.are t);
  reports = λ t x fits. by t x (eqb t k) refl fits;
}
  where
    by : (t : ℕ) (x : A) (b : Bool) → eqb t k ≡ b → (either b c (others t)).Fits x → tag_of x ≡ t
    by t x true same fits = reports x fits ∙ sym (eqb-true t k same)
    by t x false other fits = rest.reports t x fits

-- one more kind, with the parts that its values are made of
pub kind_reports : {A B : Type 0} (tag_of : B → ℕ) (k : ℕ) (c : Form A) (into : A → B) (parts : B → Option A)
    → ((y : B) (x : A) → parts y ≡ Some x → into x ≡ y) → ((x : A) → tag_of (into x) ≡ k) → (y : B) → (kind c into parts).Fits y → tag_of y ≡ k
kind_reports {A} {B} tag_of k c into parts back tag y fits = by (parts y) refl fits
  where
    by : (o : Option A) → parts y ≡ o → IsSomeAnd o c.Fits → tag_of y ≡ k
    by None none fits = absurd fits
    by (Some x) has fits = ap tag_of (sym (back y x has)) ∙ tag x

pub kind_kinds : {A B : Type 0} (tag_of : B → ℕ) (k : ℕ) (c : Form A) (into : A → B) (parts : B → Option A) (others : ℕ → Form B) → IsForm c
    → ((x : A) → parts (into x) ≡ Some x) → ((y : B) (x : A) → parts y ≡ Some x → into x ≡ y) → ((x : A) → tag_of (into x) ≡ k)
    → AreKinds tag_of others → AreKinds tag_of (at k (kind c into parts) others)
kind_kinds tag_of k c into parts others is there back tag rest =
    at_kinds tag_of k (kind c into parts) others (is_kind c into parts is there back) (kind_reports tag_of k c into parts back tag) rest

pub is_sum : {A : Type 0} (w : Width) (tag_of : A → ℕ) (forms : ℕ → Form A) → IsForm (number w) → AreKinds tag_of forms → IsForm (tagged (number w) tag_of forms)
is_sum w tag_of forms is kinds = is_tagged (number w) tag_of forms is (λ t fits. kinds.are t) (λ t x fits fit. kinds.reports t x fit)
