use Rattle.std.proofs.Common.{◌≡◌, length, arith}
use Rattle.std.proofs.lemmas.Bool.Decides.{nat_tests}
use Rattle.zsnapshots.proofs.folder_lemmas.Bare.{is_bare, no_clients}
use Rattle.zsnapshots.proofs.folder.front_reading.is_bare.Goals as goal

pub returns-then-not-is_empty-clause-no : goal.returns-then-not-is_empty-clause-no
returns-then-not-is_empty-clause-no c = λ _ bare.
    let none = no_clients c.args.machine.now c.in_ok-clients.clients.items c.in_ok-clients.ensures.clients bare in
    grind (arith, nat_tests, none, c.if-not-is_empty.ensures, c.if-not-is_empty.true)

pub returns-clause-yes : goal.returns-clause-yes
returns-clause-yes c = λ zero.
    let none : length c.in_ok-clients.clients.items ≡ 0 = grind (arith, nat_tests, c.if-not-is_empty.ensures) in
    let applied : c.args.machine.now.state.applied ≡ 0 = grind (arith, nat_tests, zero, c.applied.ensures.applied) in
    is_bare c.args.machine.now c.in_ok-clients.clients.items c.in_ok-clients.ensures.clients none applied
