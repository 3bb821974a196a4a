use Rattle.std.proofs.Common.{sym, ap, ◌∙◌, subst}
use Rattle.zprotocol.specs.world.Does.{AtClient}
use Rattle.zthreads.specs.Endpoints.{IsAt, TreeStanding}
use Rattle.zrun.proofs.Openings.{client_opening}
use Rattle.zrun.proofs.opening.Opening.caller.Goals as goal

pub new-requires-2-clause-at : goal.new-requires-2-clause-at
new-requires-2-clause-at c =
    let o = c.args.self.now in
    let is = c.new.ensures o.clients c.args.id c.requires.known in
    subst (λ (s : TreeStanding). IsAt c.new-endpoint.result s) (client_opening o.last o.clients c.args.id c.requires.known
    ∙ ap (λ v. AtClient v) (sym is)) c.new-endpoint.ensures.at
