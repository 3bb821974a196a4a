-- The entries of Sent that are above a number.
use Rattle.std.proofs.Common.{◌≡◌, ℕ, zero, suc, ◌+◌, ◌<◌, ◌≤◌, true, false, nat_lt, List, [], ◌∷◌, length, get_or, take, ap, sym, ◌∙◌, inl, inr, Ok, Err, arith}
use Rattle.std.specs.Prelude.{Result}
use Rattle.std.specs.Result.{OnErr}
use Rattle.std.proofs.lemmas.Bool.Decides.{nat_tests}
use Rattle.std.proofs.lemmas.List.{append-nil}
use Rattle.std.proofs.lemmas.List.Elements.{filter_more}
use Rattle.zcalls.specs.declared.call.Entry.{Entry}
use Rattle.zcalls.proofs.Among.{test}
use Rattle.zprotocol.specs.server.Table.{entries_above}

-- an entry that isn't above the number adds nothing
pub above_skips : (n : ℕ) (sent : List (ℕ × Entry)) (i : ℕ) (e : ℕ × Entry) → i < length sent → e ≡ get_or sent i e → e.0 ≤ n
    → entries_above n (take i sent) ≡ entries_above n (take (i + 1) sent)
above_skips n sent i e more is below =
    let no : nat_lt n e.0 ≡ false = grind (arith, nat_tests) in
    let next = filter_more (λ (e : ℕ × Entry). nat_lt n e.0) sent i e more in
    sym (rw (← is, no, append-nil) at next)

-- an entry above the number is one that the other lacks
pub above_some : (n : ℕ) (sent : List (ℕ × Entry)) (i : ℕ) (e : ℕ × Entry) → i < length sent → e ≡ get_or sent i e → n < e.0
    → 0 < length (entries_above n sent)
above_some n [] i e more is above = absurd (omega (arith, more))
above_some n (x ∷ sent) zero e more is above =
    let passes : nat_lt n x.0 ≡ true = ap (λ (y : ℕ × Entry). nat_lt n y.0) (sym is) ∙ grind (arith, nat_tests, above) in
    rw passes (omega arith)
above_some n (x ∷ sent) (suc i) e more is above = elim (test (nat_lt n x.0)) [
  | inl passes ↦ rw passes (omega arith)
  | inr fails ↦ rw fails (above_some n sent i e (omega (arith, more)) is above)
]

-- what holds in any case holds where memory was refused
pub on_err : {A E Q : Type 0} (r : Result A E) → Q → OnErr r Q
on_err (Ok x) q = tt
on_err (Err e) q = q
