-- The text of a stat, put at the end of a place.
use Rattle.std.proofs.Common.{◌≡◌, ℕ, ◌+◌, ◌^◌, ◌<◌, ◌≤◌, List, ◌++◌, ◌-◌, length, take, drop, lit<, sym, ap, subst, ◌∙◌, arith}
use Rattle.std.specs.Fmt.{decimal}
use Rattle.std.specs.Str.{IsAscii, IsUtf8}
use Rattle.std.proofs.lemmas.Fmt.{length-decimal-le, IsAscii-decimal}
use Rattle.std.proofs.lemmas.List.{take_all, drop_at, drop-drop, length-append, length-drop, length-take-le}
use Rattle.std.proofs.lemmas.Str.{IsAscii-append, IsUtf8-append, IsUtf8-from_ascii}
use Rattle.std.proofs.lemmas.Str.Ascii.{IsAscii-cons}
use borrow.Rule.Slice.PartMut.{put_mid}
use Rattle.zscript_text.specs.Reply.{spaced_number}

-- a number has twenty digits at most
pub few_digits : (n : ℕ) → n < 2 ^ 64 → length (decimal n) ≤ 20
few_digits n small = length-decimal-le 20 n (omega arith) (omega (arith, small)) small

pub ascii_number : (n : ℕ) → n < 2 ^ 64 → IsAscii (spaced_number n)
ascii_number n small = IsAscii-cons 32 (decimal n) (lit< tt) (IsAscii-decimal n small)

-- what is put before bytes
pub ascii_before : (front rest place : List ℕ) → place ≡ front ++ rest → IsAscii front → IsAscii rest → IsAscii place
ascii_before front rest place is first more = subst IsAscii (sym is) (IsAscii-append front rest first more)

-- a text that is put before what was put, to the end of the place
put_before : (front place : List ℕ) (start : ℕ) → length front ≤ start → start ≤ length place → drop (start - length front) (put_mid (start - length front) (start - (start - length front)) place front) ≡ front ++ drop start place
put_before front place start room within =
    let back : start - length front + (start - (start - length front)) ≡ start = omega arith in
    let taken : length (take (start - length front) place) ≡ start - length front = length-take-le (start - length front) place (omega arith) in
    drop_at (take (start - length front) place) _ (start - length front) taken
    ∙ ap (λ rest. front ++ rest) (drop-drop (start - (start - length front)) (start - length front) place ∙ ap (λ k. drop k place) back)

-- is a text, where bytes below 128 follow it
pub text_behind : (front copied place : List ℕ) (start end : ℕ) → copied ≡ front → length place ≡ end → length front ≤ start → start ≤ length place → IsUtf8 front → IsAscii (drop start place)
    → IsUtf8 (take (end - (start - length front)) (drop (start - length front) (put_mid (start - length front) (start - (start - length front)) place copied)))
text_behind front copied place start end same long room within utf8 ascii =
    let put = ap (λ (text : List ℕ). drop (start - length front) (put_mid (start - length front) (start - (start - length front)) place text)) same ∙ put_before front place start room within in
    let all : length (front ++ drop start place) ≤ end - (start - length front) = omega (arith, long, room, within, length-append front (drop start place), length-drop start place) in
    subst IsUtf8 (sym (ap (take (end - (start - length front))) put ∙ take_all (end - (start - length front)) (front ++ drop start place) all))
    (IsUtf8-append front (drop start place) utf8 (IsUtf8-from_ascii (drop start place) ascii))
