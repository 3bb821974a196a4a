use Rattle.zthreads.specs.Callers.{SameLearnt}
use Rattle.zrun.specs.declared.asking.TheConstants.{TURNS}
use Rattle.zrun.specs.Clients.{SameClient, SameSeat}
use Rattle.zrun.specs.Asked.{InsistedInVain}
use Rattle.zrun.proofs.client.Client.insist_within.Given as goal

abbrev pub invariant-loop : goal.invariant-loop
invariant-loop g l =
    SameClient l.initial.self l.self × InsistedInVain TURNS l.counter l.initial.self.caller l.self.caller
    × SameLearnt l.initial.self.caller l.self.caller
    × SameSeat l.initial.self l.self
