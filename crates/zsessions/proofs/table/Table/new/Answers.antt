use Rattle.std.proofs.Common.{sym, ap, ◌∙◌, [], replicate}
use mathlib.Core.Path.{subst}
use Rattle.zsessions.specs.support.Rows.{IsTable, Rows, sessions_of}
use Rattle.zsessions.proofs.Empty.{bucket-replicate, empty_table, empty_sessions}
use Rattle.zsessions.proofs.table.Table.new.Goals as goal

pub invariant_of-result : goal.invariant_of-result
invariant_of-result c =
    let buckets = replicate 32 c.new-3.result in
    subst (λ ids. IsTable ids c.new.result.items buckets) (sym c.new-2.ensures.empty)
    (subst (λ (rows : Rows). IsTable [] rows buckets) (sym (ap (λ s. s.items) c.new.ensures))
    (empty_table buckets (bucket-replicate c.new-3.result c.new-3.ensures 32)))

pub returns-clause-sessions : goal.returns-clause-sessions
returns-clause-sessions c = ap (λ ids. sessions_of ids c.new.result.items) c.new-2.ensures.empty ∙ empty_sessions c.new.result.items
