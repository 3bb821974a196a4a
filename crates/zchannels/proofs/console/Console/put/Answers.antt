use Rattle.crossbeam_channel.specs.Claims.{view}
use Rattle.crossbeam_channel.specs.Ends.{ruled_capacity, sends_on}
use Rattle.zchannels.proofs.Orders.{sends}
use Rattle.zchannels.proofs.console.Console.put.Goals as goal

pub send_as-requires-clause-rule : goal.send_as-requires-clause-rule
send_as-requires-clause-rule g c =
    let s = c.args.self.now in
    (sends (ruled_capacity (sends_on s.to)) s.pass.id (view s.pass) c.args.order s.puts, λ items views h at. tt)
