-- Bytes and their parts; readings that did not fail.
use Rattle.std.proofs.Common.{◌≡◌, ℕ, ◌+◌, Bool, true, false, cond, List, ◌++◌, length, take, drop, Result, Ok, Err, refl, subst, arith, inl, inr}
use Rattle.std.proofs.lemmas.Bool.{cases_lt}
use Rattle.std.proofs.lemmas.List.{take_at, drop_at, length-take, get_or-drop, get_or-take, get_or_past}
use Rattle.zcodec.specs.declared.fault.Fault.{Fault}
use Rattle.zcodec.specs.Forms.{◌>>=◌}
use Rattle.zcodec.specs.Laws.{IsBytes}

IsBytes-drop : (n : ℕ) (bytes : List ℕ) → IsBytes bytes → IsBytes (drop n bytes)
IsBytes-drop n bytes are i = rw get_or-drop (are (n + i))

IsBytes-take : (n : ℕ) (bytes : List ℕ) → IsBytes bytes → IsBytes (take n bytes)
IsBytes-take n bytes are i =
    elim (cases_lt i n) [
      | inl lt ↦ rw (get_or-take n bytes i 0 lt) (are i)
      | inr le ↦ rw (get_or_past (take n bytes) i 0 (omega (arith, length-take n bytes))) (omega arith)
    ]

-- the parts of bytes are bytes
pub bytes_before : (bytes front rest : List ℕ) → IsBytes bytes → bytes ≡ front ++ rest → IsBytes front
bytes_before bytes front rest are parts =
    subst IsBytes (take_at front rest (length front) refl)
    (IsBytes-take (length front) (front ++ rest) (subst IsBytes parts are))

pub bytes_after : (bytes front rest : List ℕ) → IsBytes bytes → bytes ≡ front ++ rest → IsBytes rest
bytes_after bytes front rest are parts =
    subst IsBytes (drop_at front rest (length front) refl)
    (IsBytes-drop (length front) (front ++ rest) (subst IsBytes parts are))

-- the value of a step that did not fail
pub bind_ok : {A B : Type 0} (read : Result A Fault) (next : A → Result B Fault) (y : B) → (read >>= next) ≡ Ok y → (x : A) × (read ≡ Ok x) × (next x ≡ Ok y)
bind_ok (Ok x) next y is = (x, refl, is)
bind_ok (Err fault) next y is = absurd cc

-- a test that did not fail
pub guard_ok : {A : Type 0} (b : Bool) (fault : Fault) (read : Result A Fault) (y : A) → cond b (Err fault) read ≡ Ok y → (b ≡ false) × (read ≡ Ok y)
guard_ok true fault read y is = absurd cc
guard_ok false fault read y is = (refl, is)

abbrev pub done : {A : Type 0} → A → Result A Fault
done x = Ok x

pub ok_is : {A : Type 0} (x y : A) → done x ≡ done y → x ≡ y
ok_is x y is = cc
