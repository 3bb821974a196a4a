use Rattle.std.proofs.Common.{arith, ◌≡◌, ◌<◌, ℕ, List, get_or, length, take, ap, sym, ◌∙◌}
use Rattle.std.specs.Int.{from_be_bytes, to_be_bytes, w32}
use Rattle.std.proofs.Math.Seq.{take-length}
use Rattle.std.proofs.lemmas.Nat.{be_bytes_4}
use Rattle.zdaemon.proofs.pipe.logins.number.Goals as goal

-- the number of all bytes
number_of : (bytes front : List ℕ) (n : ℕ) → length bytes ≡ 4 → ((i : ℕ) → get_or bytes i 0 < 256) → front ≡ take 4 bytes
    → n ≡ from_be_bytes w32 front → to_be_bytes w32 n ≡ bytes
number_of bytes front n long small is of_front =
    be_bytes_4 bytes n long small (of_front ∙ ap (from_be_bytes w32) (is ∙ ap (λ (k : ℕ). take k bytes) (sym long) ∙ take-length bytes))

pub returns : goal.returns
returns c =
    number_of c.args.bytes.now c.in-Some.front.now c.from_be_bytes.result c.requires (λ i. omega (arith, c.type_inv.bytes i)) c.in-Some.ensures.cases.0
    c.from_be_bytes.ensures
