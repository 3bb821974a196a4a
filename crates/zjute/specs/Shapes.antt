-- More ways to compose forms: fields, tags, and sequences with an end.
use Rattle.std.specs.Prelude.{ℤ, ℕ, zero, suc, List, [], ◌∷◌, ◌++◌, length, Option, Some, None, Result, Ok, Err, if◌then◌else◌}
use Rattle.std.specs.Ordering.{int_eq}
use Rattle.std.specs.List.{flat_map, AllByRecursion}
use Rattle.zcodec.specs.declared.fault.Fault.{Fault}
use Rattle.zcodec.specs.declared.fault.Fault.TheVariants.{Short, Invalid}
use Rattle.zcodec.specs.Forms.{Form, made, ◌>>=◌}

-- a record, as its fields in order
abbrev pub fields : {A B : Type 0} → Form A → (B → A) → (A → B) → Form B
fields c to of = made c to (λ x. Ok (of x)) (λ y. c.Fits (to y))

-- the value if there is one, else the fault for an invalid field
abbrev pub or_invalid : {A : Type 0} → Option A → Result A Fault
or_invalid None = Err Invalid
or_invalid (Some x) = Ok x

-- the first of these values that has the number, if there is one
abbrev pub with_number : {K : Type 0} → (K → ℤ) → List K → ℤ → Option K
with_number number [] n = None
with_number number (k ∷ ks) n = if int_eq n (number k) then Some k else with_number number ks n

-- ---- tags

-- how a value with a tag is encoded: its tag, the bytes after it, and whether the value fits
pub record Spelled (T : Type 0) : Type 1 where
  pub tag : T
  pub text : List ℕ
  pub fits : Type 0

-- after this tag, in this form
abbrev pub behind : {T A : Type 0} → T → Form A → A → Spelled T
behind t c x = record { tag = t; text = c.spell x; fits = c.Fits x }

-- what this form reads, converted to a value
abbrev pub read_as : {A B : Type 0} → Form A → (A → B) → List ℕ → Result (B × List ℕ) Fault
read_as c make bytes = c.read bytes >>= λ x. Ok (make x.0, x.1)

-- a tag, and then the value: `at` reads what is after each tag
abbrev pub by_tag : {T B : Type 0} → Form T → (T → List ℕ → Result (B × List ℕ) Fault) →
    (B → Spelled T) → Form B
by_tag tag at spelled =
    record {
      spell = λ y. tag.spell (spelled y).tag ++ (spelled y).text;
      read = λ bytes. tag.read bytes >>= λ t. at t.0 t.1;
      Fits = λ y. tag.Fits (spelled y).tag × (spelled y).fits;
    }

-- ---- up to an end

-- a value and the later ones, or none at the end
abbrev pub and_others : {A : Type 0} → Option A → List ℕ →
    (List ℕ → Result (List A × List ℕ) Fault) → Result (List A × List ℕ) Fault
and_others None bytes others = Ok ([], bytes)
and_others (Some x) bytes others = others bytes >>= λ xs. Ok (x ∷ xs.0, xs.1)

-- values up to the end, fewer than this many
abbrev pub read_until : {A : Type 0} → Form (Option A) → ℕ → List ℕ → Result (List A × List ℕ) Fault
read_until item zero bytes = Err Short
read_until item (suc n) bytes =
    item.read bytes >>= λ x. and_others x.0 x.1 (λ rest. read_until item n rest)

-- values in sequence up to the end; each takes at least one byte, so there are at most as many
-- values as bytes
abbrev pub until_end : {A : Type 0} → Form (Option A) → Form (List A)
until_end item =
    record {
      spell = λ xs. flat_map (λ x. item.spell (Some x)) xs ++ item.spell None;
      read = λ bytes. read_until item (length bytes) bytes;
      Fits = λ xs. AllByRecursion (λ x. item.Fits (Some x)) xs × item.Fits None;
    }
