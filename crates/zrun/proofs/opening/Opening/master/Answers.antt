use Rattle.std.proofs.Common.{sym, ap, ◌∙◌, subst}
use Rattle.zprotocol.specs.world.Does.{AtMaster}
use Rattle.zthreads.specs.Endpoints.{IsAt, TreeStanding}
use Rattle.zrun.proofs.Openings.{master_opening}
use Rattle.zrun.proofs.opening.Opening.master.Goals as goal

pub new-requires-2-clause-at : goal.new-requires-2-clause-at
new-requires-2-clause-at c =
    let o = c.args.self.now in
    subst (λ (s : TreeStanding). IsAt c.new-endpoint.result s) (master_opening o.last o.clients ∙ ap (λ v. AtMaster v) (sym c.new.ensures))
    c.new-endpoint.ensures.at
