-- Codes of visitors and of a guard: proofs distinguish two of them by their codes.
use Rattle.std.specs.Prelude.{ℕ, List, refl}
use Rattle.std.specs.Coded.{Coded, code_by, coded×, coded_ℕ, coded_list}
use Rattle.std.specs.FinMap as finite
use Rattle.zguard.specs.contracts.visitor.Standing as standing
use Rattle.zguard.specs.declared.visitor.Standing.{Standing}
use Rattle.zguard.specs.Guarding.{GuardView, VisitorRows, VisitorView}

-- the codes of a visitor
abbrev pub coded_visitor : Coded VisitorView
coded_visitor =
    code_by (Standing × List ℕ) (coded× standing.the_row.coded (coded_list coded_ℕ))
    (λ v. (v.standing, v.bytes)) (λ p. record { standing = p.0; bytes = p.1 }) (λ _. refl)

-- the codes of all visitors
abbrev pub coded_rows : Coded VisitorRows
coded_rows = finite.code coded_ℕ coded_visitor

-- the codes of a guard
abbrev pub coded_guard : Coded GuardView
coded_guard =
    code_by (List (List ℕ) × VisitorRows) (coded× (coded_list (coded_list coded_ℕ)) coded_rows)
    (λ g. (g.logins, g.visitors)) (λ p. record { logins = p.0; visitors = p.1 }) (λ _. refl)
