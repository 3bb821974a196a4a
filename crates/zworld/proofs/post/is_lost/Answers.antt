use Rattle.std.proofs.Common.{◌<◌, length, sym, ap, ◌∙◌, arith}
use Rattle.zprotocol.specs.declared.process.Process.{Process}
use Rattle.zactor.specs.Acting.{has_stopped}
use Rattle.zworld.specs.Held.{standing_at}
use Rattle.zworld.specs.support.Posting.{is_lost}
use Rattle.zworld.proofs.Giving.{standing_read}
use Rattle.zworld.proofs.Posting.{only_servers_lost}
use Rattle.zworld.proofs.post.is_lost.Goals as goal

pub returns-in-Server : goal.returns-in-Server
returns-in-Server c =
    let inside : c.place.result < length c.args.actors.now = omega (arith, c.place.ensures.small, c.requires) in
    let there = standing_read c.args.actors.now c.args.process.now c.place.result c.index-actors-place.result c.place.ensures.place inside
    c.index-actors-place.is in
    c.has_stopped.ensures ∙ ap has_stopped (sym there)
    ∙ ap (λ (p : Process). has_stopped (standing_at c.args.actors.now p)) c.in-Server.is
    ∙ ap (λ (p : Process). is_lost c.args.actors.now p) (sym c.in-Server.is)

pub returns-in_default : goal.returns-in_default
returns-in_default c = sym (only_servers_lost c.args.actors.now c.args.process.now c.in_default.not-Server)
