use Rattle.zprotocol.specs.server.Machine.{cached_tree}
use Rattle.zprotocol.proofs.traces_lemmas.Simulation.{lawful_in_place, lawful_reported, lawful_stamps_rise}
use Rattle.zprotocol.proofs.traces.laws.lawful_traces_are_a_run.Goals as goal

pub returns-clause-stamps : goal.returns-clause-stamps
returns-clause-stamps c = lawful_stamps_rise cached_tree

pub returns-clause-places : goal.returns-clause-places
returns-clause-places c = lawful_in_place cached_tree

pub returns-clause-records : goal.returns-clause-records
returns-clause-records c = lawful_reported cached_tree
