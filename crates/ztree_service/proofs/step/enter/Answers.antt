use Rattle.ztree_service.proofs.Stepping.{answers, counted_on, served}
use Rattle.ztree_service.proofs.step.enter.Goals as goal

pub unreachable-requires : goal.unreachable-requires
unreachable-requires c =
    answers c.args.machine.now.state c.args.update c.requires.ready.counted c.first_client.result c.number.result
    c.first_client.ensures c.number.ensures c.apply.new.self.state c.in_ok-reply.field-0 c.in_ok-reply.ensures.ok
    c.in-None.is

pub returns-clause-ok : goal.returns-clause-ok
returns-clause-ok c =
    served c.args.machine.now.state c.args.update c.requires.ready.counted c.first_client.result c.number.result
    c.first_client.ensures c.number.ensures c.apply.new.self.state c.in_ok-reply.field-0 c.in_ok-reply.ensures.ok
    c.in-Some.reply c.in-Some.is

pub returns-clause-ready : goal.returns-clause-ready
returns-clause-ready c = record {
  whole = c.in_ok-reply.ensures.sound.1;
  counted =
      counted_on c.args.machine.now.state c.args.update c.requires.ready.counted c.first_client.result c.number.result
      c.first_client.ensures c.number.ensures c.apply.new.self.state c.in_ok-reply.field-0
      c.in_ok-reply.ensures.ok;
}
