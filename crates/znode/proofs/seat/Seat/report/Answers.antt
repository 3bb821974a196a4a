use Rattle.std.proofs.Common.{true, sym}
use Rattle.zprotocol.specs.declared.message.Message.TheVariants as message
use Rattle.znode.specs.Node.{SeatView}
use Rattle.znode.proofs.node_lemmas.Putting.{or-none}
use Rattle.znode.proofs.node_lemmas.Reporting.{report_put, or-all, unreported}
use Rattle.znode.proofs.seat.Seat.report.Goals as goal

pub returns-in-Have : goal.returns-in-Have
returns-in-Have c =
    let seat : SeatView = record {
      standing = c.self.inside.actor;
      has_state = c.self.inside.has_state;
      reports = c.self.inside.reports;
      outgoing = c.self.inside.outgoing;
    } in
    report_put c.put.result c.args.own c.args.message (message.Have c.in-Have.epoch c.in-Have.last) seat c.args.self.now c.put.new.self
    seat.has_state c.in-Have.is c.self.view_is (sym (or-none seat.has_state)) c.put.ensures.put

pub returns-in-Joined : goal.returns-in-Joined
returns-in-Joined c =
    let seat : SeatView = record {
      standing = c.self.inside.actor;
      has_state = c.self.inside.has_state;
      reports = c.self.inside.reports;
      outgoing = c.self.inside.outgoing;
    } in
    report_put c.put-in-Joined.result c.args.own c.args.message (message.Joined c.in-Joined.epoch) seat c.args.self.now c.put-in-Joined.new.self
    true c.in-Joined.is c.self.view_is (or-all seat.has_state) c.put-in-Joined.ensures.put

pub returns-in-Gone : goal.returns-in-Gone
returns-in-Gone c =
    let seat : SeatView = record {
      standing = c.self.inside.actor;
      has_state = c.self.inside.has_state;
      reports = c.self.inside.reports;
      outgoing = c.self.inside.outgoing;
    } in
    report_put c.put-in-Gone.result c.args.own c.args.message message.Gone seat c.args.self.now c.put-in-Gone.new.self
    seat.has_state c.in-Gone.is c.self.view_is (sym (or-none seat.has_state)) c.put-in-Gone.ensures.put

pub returns-in_default : goal.returns-in_default
returns-in_default c = unreported c.args.own c.args.message c.args.self.now c.in_default.not-Have c.in_default.not-Joined c.in_default.not-Gone
