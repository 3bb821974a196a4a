use Rattle.std.specs.List.{concat}
use Rattle.zguard.specs.Guarding.{new_visitor}
use Rattle.zguard.specs.Laws.{after_all, passed_all}
use Rattle.zguard.proofs.Pieces.{stands_all, strangers}
use Rattle.zguard.proofs.laws.strangers_pass_their_first_frame.Goals as goal

pub returns : goal.returns
returns c logins pieces other =
    let after = after_all logins new_visitor pieces in
    strangers logins after.standing (concat pieces) (passed_all logins new_visitor pieces) after.bytes other (stands_all logins pieces)
