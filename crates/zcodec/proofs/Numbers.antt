-- The forms without parts: bytes, numbers, one value alone, none.
use Rattle.std.proofs.Common.{◌≡◌, ℕ, ◌^◌, ◌<◌, ◌≤◌, false, ltb, List, [], ◌∷◌, ◌++◌, length, take, drop, Result, Ok, refl, sym, ap, subst, ◌∙◌, arith}
use Rattle.std.specs.Int.{Width, w8, w32, w64, byte_len, from_be_bytes, to_be_bytes}
use Rattle.std.proofs.lemmas.Bool.{ltb-false, le-ltb}
use Rattle.std.proofs.lemmas.List.{take_at, drop_at, take-append-drop, length-append, length-take}
use Rattle.std.proofs.lemmas.Nat.{be_bytes_4, be_bytes_8, from_be_bytes-to_be_bytes_4, from_be_bytes-to_be_bytes_8}
use Rattle.std.proofs.Math.Nat.{mod-eq_of_lt}
use Rattle.zcodec.specs.declared.fault.Fault.{Fault}
use Rattle.zcodec.specs.declared.fault.Fault.TheVariants.{Short}
use Rattle.zcodec.specs.Forms.{◌>>=◌, exactly, bytes_at, number, number_at, only, empty, invalid}
use Rattle.zcodec.specs.Laws.{IsBytes, IsForm}
use Rattle.zcodec.proofs.Bytes.{bytes_before, bind_ok, guard_ok, ok_is}

-- ---- a given number of bytes

pub is_exactly : (n : ℕ) → IsForm (exactly n)
is_exactly n = record {
  takes = λ bytes x are is.
      let g = guard_ok (ltb (length bytes) n) Short (Ok (take n bytes, drop n bytes)) x is in
      let long : n ≤ length bytes = ltb-false _ _ g.0 in
      subst (λ (y : List ℕ × List ℕ). (bytes ≡ y.0 ++ y.1) × (length y.0 ≡ n)) (ok_is _ _ g.1)
      (sym (take-append-drop n bytes), omega (arith, length-take n bytes));
  again = λ bytes rest fits.
      let long : ltb (length (bytes ++ rest)) n ≡ false = le-ltb _ _ (omega (arith, length-append bytes rest, fits)) in
      rw (long, take_at bytes rest n fits, drop_at bytes rest n fits) refl;
}

-- ---- numbers

-- the bytes of a width and its numbers are inverse encodings
pub record IsWide (w : Width) : Type 0 where
  pub len : (n : ℕ) → length (to_be_bytes w n) ≡ byte_len w
  pub back : (bytes : List ℕ) → length bytes ≡ byte_len w → IsBytes bytes → to_be_bytes w (from_be_bytes w bytes) ≡ bytes
  pub wide_again : (n : ℕ) → n < 256 ^ byte_len w → from_be_bytes w (to_be_bytes w n) ≡ n
  pub below : (bytes : List ℕ) → IsBytes bytes → from_be_bytes w bytes < 256 ^ byte_len w

byte_back : (bytes : List ℕ) → length bytes ≡ 1 → IsBytes bytes → to_be_bytes w8 (from_be_bytes w8 bytes) ≡ bytes
byte_back [] len are = absurd (omega (arith, len))
byte_back (b ∷ []) len are = ap (λ (k : ℕ). k ∷ []) (mod-eq_of_lt (are 0))
byte_back (b ∷ (c ∷ bytes)) len are = absurd (omega (arith, len))

wide8 : IsWide w8
wide8 = record {
  len = λ n. refl;
  back = byte_back;
  wide_again = λ n lt. mod-eq_of_lt lt;
  below = λ bytes are. omega (arith, are 0);
}

wide32 : IsWide w32
wide32 = record {
  len = λ n. refl;
  back = λ bytes len are. be_bytes_4 bytes _ len are refl;
  wide_again = λ n lt. from_be_bytes-to_be_bytes_4 n lt;
  below = λ bytes are. omega (arith, are 0, are 1, are 2, are 3);
}

wide64 : IsWide w64
wide64 = record {
  len = λ n. refl;
  back = λ bytes len are. be_bytes_8 bytes _ len are refl;
  wide_again = λ n lt. from_be_bytes-to_be_bytes_8 n lt;
  below = λ bytes are. omega (arith, are 0, are 1, are 2, are 3, are 4, are 5, are 6, are 7);
}

is_number : (w : Width) → IsWide w → IsForm (number w)
unfolding number_at
is_number w wide = record {
  takes = λ bytes x are is.
      let b = bind_ok (bytes_at (byte_len w) bytes) (λ front. Ok (from_be_bytes w front.0, front.1)) x is in
      let t = (is_exactly (byte_len w)).takes bytes b.0 are b.1 in
      let front_are = bytes_before bytes b.0.0 b.0.1 are t.0 in
      subst (λ (y : ℕ × List ℕ). (bytes ≡ to_be_bytes w y.0 ++ y.1) × (y.0 < 256 ^ byte_len w)) (ok_is _ _ b.2)
      (t.0 ∙ ap (λ (front : List ℕ). front ++ b.0.1) (sym (wide.back b.0.0 t.1 front_are)), wide.below b.0.0 front_are);
  again = λ n rest fits.
      ap (λ (read : Result (List ℕ × List ℕ) Fault). read >>= λ front. Ok (from_be_bytes w front.0, front.1))
      ((is_exactly (byte_len w)).again (to_be_bytes w n) rest (wide.len n))
      ∙ ap (λ (k : ℕ). Ok (k, rest)) (wide.wide_again n fits);
}

pub is_u8 : IsForm (number w8)
is_u8 = is_number w8 wide8

pub is_u32 : IsForm (number w32)
is_u32 = is_number w32 wide32

pub is_u64 : IsForm (number w64)
is_u64 = is_number w64 wide64

-- ---- no bytes

pub is_only : {A : Type 0} (x : A) → IsForm (only x)
is_only {A} x = record {
  takes = λ bytes y are is.
      subst (λ (y : A × List ℕ). (bytes ≡ y.1) × (y.0 ≡ x)) (ok_is (x, bytes) y is) (refl, refl);
  again = λ y rest fits. ap (λ (z : A). Ok (z, rest)) (sym fits);
}

pub is_empty : IsForm empty
is_empty = is_only tt

pub is_invalid : {A : Type 0} → IsForm (invalid {A = A})
is_invalid = record { takes = λ bytes x are is. absurd cc; again = λ x rest fits. absurd fits }
