-- Forms: how a value is encoded in bytes, and how it is read from them.
use Rattle.std.specs.Prelude.{◌≡◌, ℕ, zero, suc, ◌<◌, ◌^◌, Bool, true, false, List, [], ◌∷◌, ◌++◌, length, take, drop, Option, Result, Ok, Err, nat_lt, if◌then◌else◌}
use Rattle.std.specs.Option.{IsSomeAnd, option_map_or}
use Rattle.std.specs.List.{AllByRecursion, flat_map}
use Rattle.std.specs.Int.{Width, byte_len, from_be_bytes, to_be_bytes}
use Rattle.zcodec.specs.declared.fault.Fault.{Fault}
use Rattle.zcodec.specs.declared.fault.Fault.TheVariants.{Short, Invalid}

-- how a value is encoded, how it is read with the rest, and which values fit
pub record Form (A : Type 0) : Type 1 where
  pub spell : A → List ℕ
  pub read : List ℕ → Result (A × List ℕ) Fault
  pub Fits : A → Type 0

-- continues with what was read; a fault ends the reading
infixl 10 ◌>>=◌
abbrev pub ◌>>=◌ : {A B : Type 0} → Result A Fault → (A → Result B Fault) → Result B Fault
(Ok x) >>= next = next x
(Err fault) >>= next = Err fault

-- ---- without parts

-- the first n bytes, and the rest
abbrev pub bytes_at : ℕ → List ℕ → Result (List ℕ × List ℕ) Fault
bytes_at n bytes = if nat_lt (length bytes) n then Err Short else Ok (take n bytes, drop n bytes)

-- exactly n bytes
abbrev pub exactly : ℕ → Form (List ℕ)
exactly n =
    record { spell = λ bytes. bytes; read = bytes_at n; Fits = λ bytes. length bytes ≡ n }

-- the number in the first bytes, and the rest
unfoldable pub number_at : Width → List ℕ → Result (ℕ × List ℕ) Fault
number_at w bytes =
    bytes_at (byte_len w) bytes >>= λ front. Ok (from_be_bytes w front.0, front.1)

-- a number of a fixed width, the highest byte first
abbrev pub number : Width → Form ℕ
number w =
    record { spell = to_be_bytes w; read = number_at w; Fits = λ n. n < 256 ^ byte_len w }

-- no bytes, for one value alone
abbrev pub only : {A : Type 0} → A → Form A
only x = record { spell = λ _. []; read = λ bytes. Ok (x, bytes); Fits = λ y. y ≡ x }

-- nothing
abbrev pub empty : Form (Unit {0})
empty = only tt

-- the form without any encoding: reading always fails
abbrev pub invalid : {A : Type 0} → Form A
invalid = record { spell = λ _. []; read = λ _. Err Invalid; Fits = λ _. ⊥ }

-- ---- of other forms

-- the first form if the test is true, and else the second
abbrev pub either : {A : Type 0} → Bool → Form A → Form A → Form A
either true c d = c
either false c d = d

-- one value, and then another
abbrev pub both : {A B : Type 0} → Form A → Form B → Form (A × B)
both c d =
    record {
      spell = λ x. c.spell x.0 ++ d.spell x.1;
      read = λ bytes. c.read bytes >>= λ x. d.read x.1 >>= λ y. Ok ((x.0, y.0), y.1);
      Fits = λ x. c.Fits x.0 × d.Fits x.1;
    }

-- a value converted from another one; the conversion may fail with a fault
abbrev pub made : {A B : Type 0} → Form A → (B → A) → (A → Result B Fault) → (B → Type 0) → Form B
made c to from Fits =
    record {
      spell = λ y. c.spell (to y);
      read = λ bytes. c.read bytes >>= λ x. from x.0 >>= λ y. Ok (y, x.1);
      Fits = Fits;
    }

-- a tag, and then the value in the form for that tag
abbrev pub tagged : {T A : Type 0} → Form T → (A → T) → (T → Form A) → Form A
tagged tag tag_of body =
    record {
      spell = λ x. tag.spell (tag_of x) ++ (body (tag_of x)).spell x;
      read = λ bytes. tag.read bytes >>= λ t. (body t.0).read t.1;
      Fits = λ x. tag.Fits (tag_of x) × (body (tag_of x)).Fits x;
    }

-- one of several kinds of value: `parts` returns the contents of a value of this kind
abbrev pub kind : {A B : Type 0} → Form A → (A → B) → (B → Option A) → Form B
kind c into parts =
    record {
      spell = λ y. option_map_or c.spell (parts y) [];
      read = λ bytes. c.read bytes >>= λ x. Ok (into x.0, x.1);
      Fits = λ y. IsSomeAnd (parts y) c.Fits;
    }

-- n values of one form, in sequence
abbrev pub read_times : {A : Type 0} → Form A → ℕ → List ℕ → Result (List A × List ℕ) Fault
read_times c zero bytes = Ok ([], bytes)
read_times c (suc n) bytes =
    c.read bytes >>= λ x. read_times c n x.1 >>= λ xs. Ok (x.0 ∷ xs.0, xs.1)

abbrev pub times : {A : Type 0} → Form A → ℕ → Form (List A)
times c n =
    record {
      spell = flat_map c.spell;
      read = read_times c n;
      Fits = λ xs. (length xs ≡ n) × AllByRecursion c.Fits xs;
    }
