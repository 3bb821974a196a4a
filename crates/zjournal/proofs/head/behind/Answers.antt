use Rattle.std.proofs.Common.{◌≡◌, true, length, List, ℕ, nat_eq, take, refl, sym, ap, ◌∙◌}
use mathlib.Core.Bool.{true≢false}
use lib.Pointwise.{pointwise}
use Rattle.std.proofs.lemmas.Cmp.{nat_list_eq_equiv}
use Rattle.std.proofs.lemmas.List.{take_at}
use Rattle.zjournal.proofs.head.behind.Goals as goal

pub returns-else-eq-clause-none : goal.returns-else-eq-clause-none
returns-else-eq-clause-none c rest is =
    let front = c.args.front.now in
    let same : take (length front) c.args.bytes.now ≡ front = ap (λ (l : List ℕ). take (length front) l) is
    ∙ take_at front rest (length front) refl in
    let equal : c.eq.result ≡ true = c.eq.ensures ∙ ap (λ (l : List ℕ). pointwise nat_eq l front) (c.split_at.ensures.front ∙ same)
    ∙ nat_list_eq_equiv.refl front in
    true≢false (sym equal ∙ c.if-eq.false)
