use Rattle.std.proofs.Common.{rules, ap, ◌∙◌}
use Rattle.zserver.specs.Server.{TreeView}
use Rattle.zserver.proofs.Accepting.{next_fits, forward_view, accepted_succ, forward_puts}
use Rattle.zserver.proofs.replica.Replica.forward.Goals.{in-Some, in_default}
use Rattle.zserver.proofs.replica.Replica.forward.Goals as goal

pub apply-requires : goal.apply-requires
apply-requires c = rw (← c.self.view_is) at (next_fits c.args.self.now c.args.n c.requires.number)

pub returns-clause-next : goal.returns-clause-next
returns-clause-next c =
    forward_view c.args.self.now _ c.apply.new.self c.args.n c.args.entry c.entry-2.result.now c.in_ok-reply.reply c.requires.number c.requires.succ
    (search rules) (search rules) c.in_ok-reply.ensures

pub returns-clause-puts : goal.returns-clause-puts
returns-clause-puts c =
    let same = ap (λ (v : TreeView). v.succ) (c.self-2.view_is ∙ returns-clause-next c) ∙ accepted_succ c.args.self.now c.args.n c.args.entry in
    forward_puts c.args.self.now c.args.n c.args.entry c.args.out.now.posts c.match-self.out.posts c.requires.number c.requires.succ
    (λ t is. elim c.match-self.branch [ in-Some w ↦ search (rules, same, is) | in_default w ↦ absurd (w.in_default.not-Some t (same ∙ is)) ])
