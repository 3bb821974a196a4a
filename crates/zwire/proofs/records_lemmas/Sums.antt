-- What is read after a tag was spelled after it.
use Rattle.std.proofs.Common.{◌≡◌, ℕ, Bool, true, false, cond, eqb, List, Result, Ok, refl, sym, subst}
use Rattle.std.proofs.lemmas.Bool.{eqb-true}
use Rattle.zcodec.specs.declared.fault.Fault.{Fault}
use Rattle.zcodec.specs.Forms.{Form}
use Rattle.zcodec.specs.Laws.{IsBytes, IsForm}
use Rattle.zjute.specs.Shapes.{Spelled, read_as}
use Rattle.zjute.proofs.Before.{Anything, before}
use Rattle.zjute.proofs.Tags.{TakesAt, takes_as}
use Rattle.zwire.specs.records.Sums.{at_tag, no_tag}

-- at each tag
abbrev pub Takes : {A : Type 0} → (A → Spelled ℕ) → (ℕ → List ℕ → Result (A × List ℕ) Fault) → Type 0
Takes {A} spelled at = (t : ℕ) (bytes : List ℕ) (y : A × List ℕ) → IsBytes bytes → at t bytes ≡ Ok y → TakesAt spelled t bytes y

-- at none
pub none_take : {A : Type 0} (spelled : A → Spelled ℕ) → Takes spelled no_tag
none_take spelled t bytes y are e = absurd cc

-- at one more
pub one_takes : {A B : Type 0} (spelled : B → Spelled ℕ) (k : ℕ) (c : Form A) (make : A → B) (others : ℕ → List ℕ → Result (B × List ℕ) Fault) → IsForm c
    → ((x : A) → (spelled (make x)).text ≡ c.spell x) → ((x : A) → (spelled (make x)).tag ≡ k) → ((x : A) → c.Fits x → (spelled (make x)).fits)
    → Takes spelled others → Takes spelled (at_tag k (read_as c make) others)
one_takes spelled k c make others is text tag fits rest t bytes y are e = by (eqb t k) refl e
  where
    by : (b : Bool) → eqb t k ≡ b → cond b (read_as c make bytes) (others t bytes) ≡ Ok y → TakesAt spelled t bytes y
    by true same e = subst (λ (u : ℕ). TakesAt spelled u bytes y) (sym (eqb-true t k same)) (takes_as Anything spelled k c make (before Anything c is) text tag fits bytes y are e)
    by false other e = rest t bytes y are e
