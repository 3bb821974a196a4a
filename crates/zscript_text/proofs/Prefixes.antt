-- What a word says where it begins with some bytes.
use Rattle.std.proofs.Common.{◌≡◌, ℕ, true, false, List, drop, length, Option, Some, None, IfSome, IfNone, MatchOption, Bor, sym, subst, ap, ◌∙◌}
use Rattle.std.specs.Prelude.{nat_eq}
use Rattle.std.specs.List.{starts_with}
use Rattle.std.specs.Str.{IsCharBoundary}
use Rattle.std.specs.Str.Pattern.{FindsTextPrefix, StripsPrefix}
use Rattle.std.proofs.lemmas.Str.Pattern.{starts_text}

-- the clause of `strip_prefix` at a text
abbrev pub IsStripped : List ℕ → List ℕ → Option (Bor (List ℕ)) → Type 0
IsStripped front word rest = MatchOption rest (FindsTextPrefix front word None) (λ x. StripsPrefix (FindsTextPrefix front) word x.now)

-- a word that has the beginning begins so, and what was stripped follows it
pub stripped : (front word : List ℕ) (rest : Option (Bor (List ℕ))) → IsStripped front word rest
    → IfSome rest (λ x. (starts_with nat_eq word front ≡ true) × (x.now ≡ drop (length front) word))
stripped front word (Some x) is =
    let len = is.1.0 in
    (sym (starts_text true front word (is.0, is.1, subst (λ n. IsCharBoundary word n) (sym len) is.1.2)), is.2 ∙ ap (λ n. drop n word) len)
stripped front word None is = tt

-- and one that hasn't doesn't
pub unstripped : (front word : List ℕ) (rest : Option (Bor (List ℕ))) → IsStripped front word rest
    → IfNone rest (starts_with nat_eq word front ≡ false)
unstripped front word (Some x) is = tt
unstripped front word None is = sym (starts_text false front word is)
