use Rattle.std.proofs.Common.{sym, ap, subst, ◌∙◌}
use Rattle.zprotocol.specs.declared.process.Process.{Process}
use Rattle.zprotocol.specs.declared.process.Process.TheVariants.{Server}
use Rattle.zworld.specs.links.Places.{links_of, has_notice, without_receiver, Keeps}
use Rattle.zworld.specs.support.Posting.{HasEnded}
use Rattle.zworld.proofs.Posting.{has_ended}
use Rattle.zworld.proofs.post.end.Goals as goal

pub put_notice-requires : goal.put_notice-requires
put_notice-requires c = ap (has_notice c.args.links.now) (sym c.in-Server.is) ∙ c.requires.2

pub returns : goal.returns
returns c =
    subst (λ (p : Process). HasEnded c.args.links.now c.clear.new.self p) (sym c.in-Server.is)
    (has_ended c.args.links.now c.put_notice.new.self c.clear.new.self
    (Server c.in-Server.server) c.put_notice.ensures.put c.put_notice.ensures.notices
    (subst (λ (p : Process). Keeps c.clear.new.self (without_receiver (links_of c.put_notice.new.self) p)) c.in-Server.is c.clear.ensures.cleared)
    c.clear.ensures.notices)

-- who isn't a server can't end
pub unreachable-requires : goal.unreachable-requires
unreachable-requires c = c.in_default.not-Server c.requires.0 c.requires.1
