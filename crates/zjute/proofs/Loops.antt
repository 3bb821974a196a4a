-- Values read up to an end, as a loop does.
use Rattle.std.proofs.Common.{◌≡◌, ℕ, suc, ◌-◌, ◌+◌, ◌≤◌, ◌<◌, List, [], ◌∷◌, ◌++◌, Option, Some, None, Result, Ok, Err, refl, sym, ap, ◌∙◌, append_assoc, arith}
use Rattle.std.proofs.lemmas.List.{append-nil}
use Rattle.zcodec.specs.declared.fault.Fault.{Fault}
use Rattle.zcodec.specs.declared.fault.Fault.TheVariants.{Short}
use Rattle.zcodec.specs.declared.fault.ReadError.{ReadError}
use Rattle.zcodec.specs.declared.fault.ReadError.TheVariants as errors
use Rattle.zcodec.specs.Forms.{◌>>=◌, Form}
use Rattle.zcodec.specs.Readers.{Fails}
use Rattle.zcodec.proofs.Loops.{with_front}
use Rattle.zjute.specs.Shapes.{read_until}

regroup : {A : Type 0} (front : List A) (x : A) (read : Result (List A × List ℕ) Fault) → with_front front (read >>= λ xs. Ok (x ∷ xs.0, xs.1)) ≡ with_front (front ++ x ∷ []) read
regroup {A} front x (Ok xs) = ap (λ (ys : List A). Ok (ys, xs.1)) (sym (append_assoc front (x ∷ []) xs.0))
regroup front x (Err fault) = refl

with_all : {A : Type 0} (front : List A) (bytes : List ℕ) → with_front front (Ok ([], bytes)) ≡ Ok (front, bytes)
with_all {A} front bytes = ap (λ (ys : List A). Ok (ys, bytes)) (append-nil front)

-- ---- up to an end

pub until_on : {A : Type 0} (item : Form (Option A)) (front : List A) (count i : ℕ) (bytes : List ℕ) (x : A) (after : List ℕ) (total : Result (List A × List ℕ) Fault) → i < count
    → item.read bytes ≡ Ok (Some x, after) → with_front front (read_until item (count - i) bytes) ≡ total → with_front (front ++ x ∷ []) (read_until item (count - (i + 1)) after) ≡ total
until_on item front count i bytes x after total lt is so_far =
    let k : count - i ≡ suc (count - (i + 1)) = omega arith in
    let one : with_front front (read_until item (count - i) bytes) ≡ with_front (front ++ x ∷ []) (read_until item (count - (i + 1)) after) =
    rw (k, is) (regroup front x (read_until item (count - (i + 1)) after)) in
    sym one ∙ so_far

pub until_done : {A : Type 0} (item : Form (Option A)) (front : List A) (count i : ℕ) (bytes after : List ℕ) (total : Result (List A × List ℕ) Fault) → i < count
    → item.read bytes ≡ Ok (None, after) → with_front front (read_until item (count - i) bytes) ≡ total → total ≡ Ok (front, after)
until_done item front count i bytes after total lt is so_far =
    let k : count - i ≡ suc (count - (i + 1)) = omega arith in
    let one : with_front front (read_until item (count - i) bytes) ≡ Ok (front, after) = rw (k, is) (with_all front after) in
    sym so_far ∙ one

pub until_fail : {A : Type 0} (item : Form (Option A)) (e : ReadError) (front : List A) (count i : ℕ) (bytes : List ℕ) (total : Result (List A × List ℕ) Fault) → i < count
    → Fails e (item.read bytes) → with_front front (read_until item (count - i) bytes) ≡ total → Fails e total
until_fail item errors.Memory front count i bytes total lt is so_far = tt
until_fail item (errors.Fault fault) front count i bytes total lt is so_far =
    let k : count - i ≡ suc (count - (i + 1)) = omega arith in
    let one : with_front front (read_until item (count - i) bytes) ≡ Err fault = rw (k, is) refl in
    sym so_far ∙ one

pub until_short : {A : Type 0} (item : Form (Option A)) (front : List A) (count i : ℕ) (bytes : List ℕ) (total : Result (List A × List ℕ) Fault) → count ≤ i
    → with_front front (read_until item (count - i) bytes) ≡ total → total ≡ Err Short
until_short item front count i bytes total le so_far =
    let k : count - i ≡ 0 = omega arith in
    let one : with_front front (read_until item (count - i) bytes) ≡ Err Short = rw k refl in
    sym so_far ∙ one
