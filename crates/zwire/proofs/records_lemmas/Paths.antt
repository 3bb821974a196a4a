-- A text without a fault is UTF-8.
use Rattle.std.proofs.Common.{◌≡◌, ℕ, ◌<◌, List, [], ◌∷◌, ◌++◌, length, None, sym, subst, arith, lit<}
use Rattle.std.specs.List.{flat_map, AllByRecursion}
use Rattle.std.specs.Str.{IsAscii, IsUtf8}
use Rattle.std.proofs.lemmas.Str.{IsUtf8-from_ascii}
use Rattle.std.proofs.lemmas.Str.Ascii.{IsAscii-nil, IsAscii-cons}
use Rattle.zpath.specs.Grammar.{IsName, IsPath, segment_of, text_of}
use Rattle.zpath.specs.Faults.{fault_of, names_of, parts_of}
use Rattle.zpath.proofs.Cuts.{ascii_text}
use Rattle.zpath.proofs.Spelling.{path_from_text, names_of-text_of}

-- a path's text has visible ASCII alone
ascii_path : (path : List (List ℕ)) → IsPath path → IsAscii (text_of path)
ascii_path [] is = IsAscii-cons 47 [] (lit< tt) IsAscii-nil
ascii_path ([] ∷ names) is = absurd (let none : 0 < length {A = ℕ} [] = is.names.0.filled in omega arith)
ascii_path ((byte ∷ name) ∷ names) is =
    let rest = name ++ flat_map segment_of names in
    let parts : parts_of (byte ∷ rest) ≡ (byte ∷ name) ∷ names = names_of-text_of ((byte ∷ name) ∷ names) is in
    IsAscii-cons 47 (byte ∷ rest) (lit< tt)
    (ascii_text (byte ∷ rest) (subst (AllByRecursion IsName) (sym parts) is.names))

pub faultless_utf8 : (text : List ℕ) → fault_of text ≡ None → IsUtf8 text
faultless_utf8 text none =
    let path = path_from_text text none in
    IsUtf8-from_ascii text (subst IsAscii (sym path.1) (ascii_path (names_of text) path.0))
