use Rattle.std.proofs.Common.{◌<◌, length, arith}
use Rattle.zactor.specs.Acting.{master_in}
use Rattle.zworld.proofs.Asked.{master_asked, nobody_asked}
use Rattle.zworld.proofs.processes.Processes.clients.Goals as goal

-- the master is there
pub unreachable-requires : goal.unreachable-requires
unreachable-requires c =
    let inside : 0 < length c.self.inside.actors.items = omega (arith, c.self.invariant.all) in
    nobody_asked c.as_master.result (master_in c.index.result.now) _ c.as_master.ensures
    (master_asked c.self.inside.actors.items c.index.result.now inside c.index.ensures c.self.invariant.stand) c.in_default.is
