use Rattle.std.proofs.Common.{ap}
use Rattle.std.specs.FinMap.{get-empty}
use Rattle.std.specs.Ordering.{nat_cmp}
use Rattle.std.specs.Option.{option_map}
use Rattle.std.specs.Prelude.{Bool, if◌then◌else◌}
use Rattle.zconnections.specs.Tables.{last_chunk}
use Rattle.zguard.specs.Guarding.{VisitorView, answer_at, answered, guard_of, is_refused}
use Rattle.zguard_laws.proofs.rows.closes_have_answers.Goals as goal

pub returns-clause-unknown : goal.returns-clause-unknown
returns-clause-unknown c logins =
    let p = last_chunk 7 in
    ap (λ o. if is_refused (option_map (λ (v : VisitorView). v.standing) o) then record p { bytes = answer_at (guard_of logins) 7 } else p) (get-empty nat_cmp 7)

pub returns-clause-taken : goal.returns-clause-taken
returns-clause-taken c g refused = ap (λ (b : Bool). if b then answered 7 g else g) refused
