use Rattle.std.proofs.Common.{subst}
use Rattle.std.specs.List.{concat}
use Rattle.zguard.specs.Guarding.{new_visitor}
use Rattle.zguard.specs.Laws.{after_all, passed_all}
use Rattle.zguard.proofs.Pieces.{Stands, stands_all}
use Rattle.zguard.proofs.laws.who_is_admitted_gave_a_login.Goals as goal

pub returns : goal.returns
returns c logins pieces admitted =
    let after = after_all logins new_visitor pieces in
    (subst (λ s. Stands logins s (concat pieces) (passed_all logins new_visitor pieces) after.bytes) admitted (stands_all logins pieces)).0
