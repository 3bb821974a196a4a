use Rattle.std.proofs.Common.{◌≡◌, true, ℕ, List, nat_eq, sym, ap, ◌∙◌}
use mathlib.Core.Bool.{true≢false}
use lib.Pointwise.{pointwise}
use Rattle.std.proofs.lemmas.Cmp.{nat_list_eq_equiv}
use Rattle.zjournal.specs.Checksum.{digits}
use Rattle.zjournal.proofs.Digits.{read_is}
use Rattle.zjournal.proofs.checksum.sum_of.Goals as goal

pub returns-else-eq-clause-none : goal.returns-else-eq-clause-none
returns-else-eq-clause-none c n small is =
    let same = read_is c.args.bytes.now n _ _ _ _ _ _ _ _ small is c.number_of.ensures.number c.number_of-2.ensures.number
    c.number_of-3.ensures.number c.number_of-4.ensures.number c.number_of-5.ensures.number
    c.number_of-6.ensures.number c.number_of-7.ensures.number c.number_of-8.ensures.number in
    let equal : c.eq.result ≡ true = c.eq.ensures
    ∙ ap (λ (l : List ℕ). pointwise nat_eq c.args.bytes.now l)
    (c.as_slice.ensures ∙ c.digits_of.ensures ∙ ap (λ (m : ℕ). digits m) same ∙ sym is)
    ∙ nat_list_eq_equiv.refl c.args.bytes.now in
    true≢false (sym equal ∙ c.if-eq.false)
