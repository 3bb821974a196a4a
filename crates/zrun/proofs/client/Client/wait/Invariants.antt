use Rattle.zthreads.specs.Callers.{SameLearnt}
use Rattle.zrun.specs.Clients.{SameClient, SameSeat, TurnedInVain}
use Rattle.zrun.proofs.client.Client.wait.Given as goal

abbrev pub invariant-loop : goal.invariant-loop
invariant-loop l = SameClient l.initial.self l.self × TurnedInVain l.counter l.initial.self.caller l.self.caller
    × SameLearnt l.initial.self.caller l.self.caller
    × SameSeat l.initial.self l.self
