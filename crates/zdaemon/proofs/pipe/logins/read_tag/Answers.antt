use Rattle.std.proofs.Common.{◌≡◌, ℕ, List, [], ◌∷◌, get_or, length, subst, refl, ap, arith}
use Rattle.zdaemon.proofs.pipe.logins.read_tag.Goals as goal

-- the one byte of bytes
single : (bytes : List ℕ) (byte : ℕ) → length bytes ≡ 1 → get_or bytes 0 0 ≡ byte → bytes ≡ byte ∷ []
single [] byte one is = absurd (omega (arith, one))
single (first ∷ []) byte one is = ap (λ (n : ℕ). n ∷ []) is
single (first ∷ second ∷ more) byte one is = absurd (omega (arith, one))

pub returns : goal.returns
returns g c =
    subst (λ (bytes : List ℕ). g.S.Source.gave c.args.source.now bytes c.fill.new.source)
    (single c.fill.new.bytes _ c.in_ok-fill.ensures.room refl) c.in_ok-fill.ensures.gave
