use Rattle.std.proofs.Common.{◌<◌, ◌≤◌, length, ◌∙◌, arith}
use Rattle.std.proofs.lemmas.Bool.Decides.{nat_tests}
use Rattle.zprotocol.proofs.traces_lemmas.Places.{server_events}
use Rattle.zaudit.proofs.places.events_at.Goals as goal

pub returns-then-place-len : goal.returns-then-place-len
returns-then-place-len c =
    let t = c.args.traces.now in
    let some : 0 < c.args.place = grind (arith, nat_tests, c.if-place-eq0.false) in
    let small : c.args.place ≤ length t.servers.items = grind (arith, nat_tests, c.if-place-len.true, c.len.ensures, t.servers.ok) in
    c.deref-then-place-len.ensures.value ∙ server_events t c.args.place c.index.result.now some small c.index.ensures
