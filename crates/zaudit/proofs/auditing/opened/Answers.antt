use Rattle.std.proofs.Common.{◌≡◌, length, arith}
use Rattle.zaudit.proofs.Complete.{opened_so}
use Rattle.zaudit.proofs.auditing.opened.Goals as goal

pub returns-clause-opening : goal.returns-clause-opening
returns-clause-opening c =
    let t = c.args.traces.now in
    let count : c.len.result ≡ length t.clients.items = omega (arith, c.len.ensures, t.clients.ok) in
    opened_so t c.len.result count c.new.result c.new.ensures.world
