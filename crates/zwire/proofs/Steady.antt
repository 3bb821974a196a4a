-- What more bytes change of a reading. What was read is read again with more after it, and a fault
-- stays, unless bytes were missing.
use Rattle.std.proofs.Common.{◌≡◌, ℕ, ◌≤◌, Bool, true, false, cond, ltb, List, ◌++◌, length, take, drop, Result, Ok, Err, refl, arith}
use Rattle.std.proofs.lemmas.Bool.{ltb-false, le-ltb}
use Rattle.std.proofs.lemmas.List.{length-append, take-append-le, drop-append-le}
use Rattle.std.specs.Int.{Width, w32, byte_len, from_be_bytes}
use Rattle.zcodec.specs.declared.fault.Fault.{Fault}
use Rattle.zcodec.specs.declared.fault.Fault.TheVariants.{Short, Long, Invalid, Trailing}
use Rattle.zcodec.specs.Forms.{◌>>=◌, Form, exactly, bytes_at, number, number_at, made}
use Rattle.zcodec.specs.Choices.{at_most, length_from, sized}

-- what reading gives where more bytes follow
abbrev pub Stays : {A : Type 0} → List ℕ → Result (A × List ℕ) Fault → Result (A × List ℕ) Fault → Type 0
Stays more (Ok x) read = read ≡ Ok (x.0, x.1 ++ more)
Stays more (Err Short) read = Unit {0}
Stays more (Err Long) read = read ≡ Err Long
Stays more (Err Invalid) read = read ≡ Err Invalid
Stays more (Err Trailing) read = read ≡ Err Trailing

abbrev pub IsSteady : {A : Type 0} → Form A → Type 0
IsSteady {A} c = (bytes more : List ℕ) → Stays more (c.read bytes) (c.read (bytes ++ more))

-- a value that is made of what was read
stays_made : {A B : Type 0} (from : A → Result B Fault) (more : List ℕ) (r s : Result (A × List ℕ) Fault) → Stays more r s
    → Stays more (r >>= λ x. from x.0 >>= λ y. Ok (y, x.1)) (s >>= λ x. from x.0 >>= λ y. Ok (y, x.1))
stays_made {A} {B} from more (Ok x) s stays = rw stays (by (from x.0))
  where
    by : (f : Result B Fault) → Stays more (f >>= λ y. Ok (y, x.1)) (f >>= λ y. Ok (y, x.1 ++ more))
    by (Ok y) = refl
    by (Err Short) = tt
    by (Err Long) = refl
    by (Err Invalid) = refl
    by (Err Trailing) = refl
stays_made from more (Err Short) s stays = tt
stays_made from more (Err Long) s stays = rw stays refl
stays_made from more (Err Invalid) s stays = rw stays refl
stays_made from more (Err Trailing) s stays = rw stays refl

-- what is read after it
stays_then : {A B : Type 0} (next : A → Form B) (more : List ℕ) (r s : Result (A × List ℕ) Fault) → ((x : A) → IsSteady (next x)) → Stays more r s
    → Stays more (r >>= λ x. (next x.0).read x.1) (s >>= λ x. (next x.0).read x.1)
stays_then next more (Ok x) s steady stays = rw stays (steady x.0 x.1 more)
stays_then next more (Err Short) s steady stays = tt
stays_then next more (Err Long) s steady stays = rw stays refl
stays_then next more (Err Invalid) s steady stays = rw stays refl
stays_then next more (Err Trailing) s steady stays = rw stays refl

steady_exactly : (n : ℕ) → IsSteady (exactly n)
steady_exactly n bytes more = by (ltb (length bytes) n) refl
  where
    by : (b : Bool) → ltb (length bytes) n ≡ b → Stays more (cond b (Err Short) (Ok (take n bytes, drop n bytes))) (bytes_at n (bytes ++ more))
    by true short = tt
    by false long =
        let enough : n ≤ length bytes = ltb-false (length bytes) n long in
        let also : ltb (length (bytes ++ more)) n ≡ false = le-ltb _ _ (omega (arith, length-append bytes more, enough)) in
        rw (also, take-append-le n bytes more enough, drop-append-le n bytes more enough) refl

steady_made : {A B : Type 0} (c : Form A) (to : B → A) (from : A → Result B Fault) (Fits : B → Type 0) → IsSteady c → IsSteady (made c to from Fits)
steady_made c to from Fits steady bytes more = stays_made from more (c.read bytes) (c.read (bytes ++ more)) (steady bytes more)

steady_number : (w : Width) → IsSteady (number w)
unfolding number_at
steady_number w bytes more =
    stays_made (λ front. Ok (from_be_bytes w front)) more (bytes_at (byte_len w) bytes) (bytes_at (byte_len w) (bytes ++ more))
    (steady_exactly (byte_len w) bytes more)

pub steady_sized : (most : ℕ) → IsSteady (sized most)
steady_sized most bytes more =
    stays_then exactly more ((at_most most).read bytes) ((at_most most).read (bytes ++ more)) steady_exactly
    (steady_made (number w32) (λ n. n) (length_from most) (λ n. n ≤ most) (steady_number w32) bytes more)
