use Rattle.crossbeam_channel.specs.Claims.{view}
use Rattle.zchannels.proofs.Orders.{gets}
use Rattle.zchannels.proofs.console.Inbox.take.Goals as goal

pub try_recv_as-requires-clause-rule : goal.try_recv_as-requires-clause-rule
try_recv_as-requires-clause-rule g c =
    let s = c.args.self.now in
    (gets s.pass.id (view s.pass) s.takes, λ items views h at. tt)
