-- Less than a head.
use Rattle.std.proofs.Common.{◌≡◌, ◌<◌, ℕ, List, [], length, drop, None, refl, ap, ◌∙◌, sym, arith}
use Rattle.std.proofs.lemmas.List.{drop_all}
use Rattle.zcodec.specs.Forms.{number_at}
use Rattle.zjute.specs.Jute.{int}
use Rattle.zguard.specs.Judging.{VerdictView, Waits, by_head, head_of}

no_head : head_of [] ≡ None
unfolding int number_at
no_head = refl

-- where not even a length came, nothing is decided
pub length_waits : (came : List ℕ) (of_auth : VerdictView) → length came < 4 → Waits ≡ by_head (head_of (drop 4 came)) Waits of_auth
length_waits came of_auth short =
    sym (ap (λ bytes. by_head (head_of bytes) Waits of_auth) (drop_all 4 came (omega (arith, short)))
    ∙ ap (λ head. by_head head Waits of_auth) no_head)
