-- Every composed form is a form.
use Rattle.std.proofs.Common.{◌≡◌, ℕ, Some, refl, sym, ap}
use Rattle.std.specs.Int.{w32}
use Rattle.zcodec.specs.Forms.{Form, kind, invalid}
use Rattle.zcodec.specs.Choices.{at}
use Rattle.zcodec.specs.Shapes.{Side, form_of, left_parts, right_parts, side_tag, one_of}
use Rattle.zcodec.specs.Shapes.Side.{Left, Right}
use Rattle.zcodec.specs.Shapes.Shape.{U8, U32, U64, Flag, Exactly, Sized, Buffer, Empty, Both, Optional, Listed, ListedOrNull, OneOf}
use Rattle.zcodec.specs.Laws.{IsForm, AreForms, SpellsApart, WholeIsSpelled, SpelledIsWhole}
use Rattle.zcodec.proofs.Numbers.{is_u8, is_u32, is_u64, is_exactly, is_empty}
use Rattle.zcodec.proofs.Parts.{is_both}
use Rattle.zcodec.proofs.Choices.{is_flag, is_option, is_sized, is_listed, is_buffer, is_listed_or_null}
use Rattle.zcodec.proofs.Sums.{kind_kinds, no_kinds, is_sum}
use Rattle.zcodec.proofs.Whole.{whole_takes, whole_again, one_spelling}

some_is : {A : Type 0} (x y : A) → Some x ≡ Some y → x ≡ y
some_is x y e = cc

left_back : {A B : Type 0} (y : Side A B) (x : A) → left_parts y ≡ Some x → Left x ≡ y
left_back (Left z) x e = ap Left (sym (some_is z x e))
left_back (Right z) x e = absurd cc

right_back : {A B : Type 0} (y : Side A B) (x : B) → right_parts y ≡ Some x → Right x ≡ y
right_back (Left z) x e = absurd cc
right_back (Right z) x e = ap Right (sym (some_is z x e))

is_one_of : {A B : Type 0} (k l : ℕ) (c : Form A) (d : Form B) → IsForm c → IsForm d → IsForm (one_of k c l d)
is_one_of k l c d is also =
    is_sum w32 (side_tag k l) (at k (kind c Left left_parts) (at l (kind d Right right_parts) (λ _. invalid))) is_u32
    (kind_kinds (side_tag k l) k c Left left_parts _ is (λ x. refl) left_back (λ x. refl)
    (kind_kinds (side_tag k l) l d Right right_parts _ also (λ x. refl) right_back (λ x. refl) (no_kinds (side_tag k l))))

pub composed : AreForms
composed U8 room = is_u8
composed U32 room = is_u32
composed U64 room = is_u64
composed Flag room = is_flag
composed (Exactly n) room = is_exactly n
composed (Sized most) room = is_sized most room
composed (Buffer most) room = is_buffer most room
composed Empty room = is_empty
composed (Both s t) room = is_both (form_of s) (form_of t) (composed s room.0) (composed t room.1)
composed (Optional s) room = is_option (form_of s) (composed s room)
composed (Listed most s) room = is_listed most (form_of s) room.0 (composed s room.1)
composed (ListedOrNull most s) room = is_listed_or_null most (form_of s) room.0 (composed s room.1)
composed (OneOf k s l t) room = is_one_of k l (form_of s) (form_of t) (composed s room.0) (composed t room.1)

pub texts_apart : SpellsApart
texts_apart s x y room fits also same = one_spelling (form_of s) (composed s room) x y fits also same

pub whole_spelled : WholeIsSpelled
whole_spelled s bytes x room are e = whole_takes (form_of s) (composed s room) bytes x are e

pub spelled_whole : SpelledIsWhole
spelled_whole s x room fits = whole_again (form_of s) (composed s room) x fits
