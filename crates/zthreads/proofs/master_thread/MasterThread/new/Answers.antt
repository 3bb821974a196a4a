use Rattle.std.proofs.Common.{None, sym, subst}
use Rattle.zthreads.specs.Endpoints.{Stands, pending, TreeStanding}
use Rattle.zthreads.proofs.master_thread.MasterThread.new.Goals as goal

pub new-requires-clause-at : goal.new-requires-clause-at
new-requires-clause-at c = let d = c.args.endpoint in subst (λ (s : TreeStanding). Stands d s None (pending d)) (sym c.master.ensures) c.requires.at
