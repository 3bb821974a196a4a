-- Shapes: forms as data, so that one law ranges over every form that is composed in these ways.
use Rattle.std.specs.Prelude.{ℕ, ◌<◌, ◌^◌, List, Option, Some, None, Bool}
use Rattle.std.specs.Int.{w8, w32, w64}
use Rattle.zcodec.specs.declared.limits.TheConstants.{NULL}
use Rattle.zcodec.specs.Forms.{Form, number, exactly, empty, invalid, both, tagged, kind}
use Rattle.zcodec.specs.Choices.{flag, option, sized, listed, buffer, listed_or_null, at}

-- numbers, a flag, bytes, nothing; pairs, options and lists of shapes; a choice of two, by tag
pub data Shape : Type 0 where
  U8 : Shape
  U32 : Shape
  U64 : Shape
  Flag : Shape
  Exactly : ℕ → Shape
  Sized : ℕ → Shape
  Buffer : ℕ → Shape
  Empty : Shape
  Both : Shape → Shape → Shape
  Optional : Shape → Shape
  Listed : ℕ → Shape → Shape
  ListedOrNull : ℕ → Shape → Shape
  OneOf : ℕ → Shape → ℕ → Shape → Shape

-- a choice of two
pub data Side (A B : Type 0) : Type 0 where
  Left : A → Side A B
  Right : B → Side A B

-- the values of a shape
abbrev pub Value : Shape → Type 0
Value U8 = ℕ
Value U32 = ℕ
Value U64 = ℕ
Value Flag = Bool
Value (Exactly n) = List ℕ
Value (Sized most) = List ℕ
Value (Buffer most) = Option (List ℕ)
Value Empty = Unit {0}
Value (Both s t) = Value s × Value t
Value (Optional s) = Option (Value s)
Value (Listed most s) = List (Value s)
Value (ListedOrNull most s) = Option (List (Value s))
Value (OneOf k s l t) = Side (Value s) (Value t)

module _ {A B : Type 0} where
  -- the contents of each side
  abbrev pub left_parts : Side A B → Option A
  left_parts (Left x) = Some x
  left_parts (Right y) = None

  abbrev pub right_parts : Side A B → Option B
  right_parts (Left x) = None
  right_parts (Right y) = Some y

  -- the tag of a side
  abbrev pub side_tag : ℕ → ℕ → Side A B → ℕ
  side_tag k l (Left x) = k
  side_tag k l (Right y) = l

  -- one of two, after its tag
  abbrev pub one_of : ℕ → Form A → ℕ → Form B → Form (Side A B)
  one_of k c l d =
      tagged (number w32) (side_tag k l)
      (at k (kind c Left left_parts) (at l (kind d Right right_parts) (λ _. invalid)))

-- the form of a shape
abbrev pub form_of : (s : Shape) → Form (Value s)
form_of U8 = number w8
form_of U32 = number w32
form_of U64 = number w64
form_of Flag = flag
form_of (Exactly n) = exactly n
form_of (Sized most) = sized most
form_of (Buffer most) = buffer most
form_of Empty = empty
form_of (Both s t) = both (form_of s) (form_of t)
form_of (Optional s) = option (form_of s)
form_of (Listed most s) = listed most (form_of s)
form_of (ListedOrNull most s) = listed_or_null most (form_of s)
form_of (OneOf k s l t) = one_of k (form_of s) l (form_of t)

-- each limit of a length fits in four bytes
abbrev pub HasRoom : Shape → Type 0
HasRoom (Sized most) = most < 2 ^ 32
HasRoom (Buffer most) = most < NULL
HasRoom (Both s t) = HasRoom s × HasRoom t
HasRoom (Optional s) = HasRoom s
HasRoom (Listed most s) = (most < 2 ^ 32) × HasRoom s
HasRoom (ListedOrNull most s) = (most < NULL) × HasRoom s
HasRoom (OneOf k s l t) = HasRoom s × HasRoom t
HasRoom _ = Unit {0}
