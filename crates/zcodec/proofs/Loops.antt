-- A loop that reads a given number of values of one form. Its invariant: the values so far, before
-- those that are still to be read, are what reading all of them gives.
use Rattle.std.proofs.Common.{◌≡◌, ℕ, suc, ◌+◌, ◌-◌, ◌<◌, ◌≤◌, List, [], ◌∷◌, ◌++◌, Result, Ok, Err, refl, sym, ap, ◌∙◌, append_assoc, arith}
use Rattle.std.proofs.lemmas.List.{append-nil}
use Rattle.zcodec.specs.declared.fault.Fault.{Fault}
use Rattle.zcodec.specs.declared.fault.ReadError.{ReadError}
use Rattle.zcodec.specs.declared.fault.ReadError.TheVariants as errors
use Rattle.zcodec.specs.Forms.{◌>>=◌, Form, read_times}
use Rattle.zcodec.specs.Readers.{Fails}

-- what was read before, and what is still read
abbrev pub with_front : {A : Type 0} → List A → Result (List A × List ℕ) Fault → Result (List A × List ℕ) Fault
with_front front read = read >>= λ xs. Ok (front ++ xs.0, xs.1)

regroup : {A : Type 0} (front : List A) (x : A) (read : Result (List A × List ℕ) Fault)
    → with_front front (read >>= λ xs. Ok (x ∷ xs.0, xs.1)) ≡ with_front (front ++ x ∷ []) read
regroup {A} front x (Ok xs) = ap (λ (ys : List A). Ok (ys, xs.1)) (sym (append_assoc front (x ∷ []) xs.0))
regroup front x (Err fault) = refl

module _ {A : Type 0} (c : Form A) (front : List A) (count i : ℕ) (bytes : List ℕ) (all : Result (List A × List ℕ) Fault) where
  -- one more value was read
  pub goes_on : (x : A) (after : List ℕ) → i < count → c.read bytes ≡ Ok (x, after)
      → with_front front (read_times c (count - i) bytes) ≡ all → with_front (front ++ x ∷ []) (read_times c (count - (i + 1)) after) ≡ all
  goes_on x after more read so_far =
      let left : count - i ≡ suc (count - (i + 1)) = omega arith in
      let one : with_front front (read_times c (count - i) bytes) ≡ with_front (front ++ x ∷ []) (read_times c (count - (i + 1)) after) =
      rw (left, read) (regroup front x (read_times c (count - (i + 1)) after)) in
      sym one ∙ so_far

  -- a value could not be read
  pub fails : (error : ReadError) → i < count → Fails error (c.read bytes)
      → with_front front (read_times c (count - i) bytes) ≡ all → Fails error all
  fails errors.Memory more read so_far = tt
  fails (errors.Fault fault) more read so_far =
      let left : count - i ≡ suc (count - (i + 1)) = omega arith in
      let one : with_front front (read_times c (count - i) bytes) ≡ Err fault = rw (left, read) refl in
      sym so_far ∙ one

  -- all of them were read
  pub is_done : count ≤ i → with_front front (read_times c (count - i) bytes) ≡ all → all ≡ Ok (front, bytes)
  is_done none so_far =
      let left : count - i ≡ 0 = omega arith in
      let one : with_front front (read_times c (count - i) bytes) ≡ Ok (front, bytes) =
      rw left (ap (λ (xs : List A). Ok (xs, bytes)) (append-nil front)) in
      sym so_far ∙ one
