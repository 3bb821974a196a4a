use Rattle.znode.specs.Node.{SeatView}
use Rattle.znode.proofs.node_lemmas.Reporting.{link_put}
use Rattle.znode.proofs.seat.Seat.put.Goals as goal

pub returns-in-Server : goal.returns-in-Server
returns-in-Server c =
    let seat : SeatView = record {
      standing = c.self.inside.actor;
      has_state = c.self.inside.has_state;
      reports = c.self.inside.reports;
      outgoing = c.self.inside.outgoing;
    } in
    link_put c.put.result c.args.own c.args.to c.args.message seat c.args.self.now c.put.new.self c.in-Server.is c.self.view_is
    c.put.ensures.waits c.put.ensures.others
