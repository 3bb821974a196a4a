use Rattle.std.proofs.Common.{◌<◌, length, arith}
use Rattle.zactor.specs.Acting.{client_in}
use Rattle.zworld.proofs.Asked.{client_asked, nobody_asked}
use Rattle.zworld.proofs.processes.Processes.begin_cause.Goals as goal

-- the client is there
pub unreachable-requires : goal.unreachable-requires
unreachable-requires c =
    let inside : c.place.result < length c.self.inside.actors.items = omega (arith, c.place.ensures.small, c.self.invariant.all) in
    nobody_asked c.as_client.result (client_in c.index.result.now) _ c.as_client.ensures
    (client_asked c.self.inside.actors.items c.args.client c.place.result c.index.result.now c.place.ensures.place inside c.index.ensures
    c.self.invariant.stand) c.in_default.is
