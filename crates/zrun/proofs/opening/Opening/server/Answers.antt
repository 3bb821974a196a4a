use Rattle.std.proofs.Common.{sym, ap, ◌∙◌, subst}
use Rattle.zserver.specs.Server.{ServerState}
use Rattle.zprotocol.specs.world.Does.{AtServer}
use Rattle.zthreads.specs.Endpoints.{IsAt, TreeStanding}
use Rattle.zrun.proofs.Openings.{server_is, server_opening}
use Rattle.zrun.proofs.opening.Opening.server.Goals as goal

pub new-requires-clause-at : goal.new-requires-clause-at
new-requires-clause-at c =
    let o = c.args.self.now in
    let s = c.args.id in
    let is = server_is s c.keeps_in_range.ensures.some c.keeps_in_range.ensures.few in
    subst (λ (s : TreeStanding). IsAt c.new-endpoint.result s) (server_opening o.last o.clients s is
    ∙ ap (λ v. AtServer v) (sym (ap (λ (s : ServerState). s.view) c.in_ok-server.ensures))) c.new-endpoint.ensures.at
