use Rattle.std.proofs.Common.{◌≡◌, ◌++◌, rules, ap, ◌∙◌}
use Rattle.zprotocol.specs.server.Table.{ack_posts, answer_posts}
use Rattle.zserver.specs.Server.{TreeView}
use Rattle.zserver.proofs.Accepting.{next_fits, applied_pred, process_row, puts_both}
use Rattle.zserver.proofs.replica.Replica.process.Goals.{in-Some, in_default, in-Some-pred, in_default-pred}
use Rattle.zserver.proofs.replica.Replica.process.Goals as goal

pub apply-requires : goal.apply-requires
apply-requires c = next_fits c.args.self.now c.args.n c.requires.number

pub returns-clause-next : goal.returns-clause-next
returns-clause-next c = ap (λ r. r.0) (process_row c.args.self.now c.apply.new.self c.args.n c.args.entry.now c.in_ok-reply.reply c.requires.number c.requires.succ c.in_ok-reply.ensures)

pub returns-clause-puts : goal.returns-clause-puts
returns-clause-puts c =
    let same = ap (λ (v : TreeView). v.pred) c.self.view_is ∙ applied_pred c.args.self.now c.apply.new.self c.args.entry.now c.in_ok-reply.reply c.in_ok-reply.ensures in
    let answered : c.match-reply.out.posts ≡ c.reserve.new.self.posts ++ answer_posts c.args.entry.now c.in_ok-reply.reply =
    elim c.match-reply.branch [ in-Some w ↦ search rules | in_default w ↦ search rules ] in
    let reported : c.match-self.out.posts ≡ c.match-reply.out.posts ++ ack_posts c.self.inside.pred c.args.n =
    elim c.match-self.branch [ in-Some-pred w ↦ search rules | in_default-pred w ↦ search rules ] in
    puts_both c.args.out.now.posts c.reserve.new.self.posts c.match-reply.out.posts c.match-self.out.posts (answer_posts c.args.entry.now c.in_ok-reply.reply) (ack_posts c.args.self.now.pred c.args.n)
    c.in_ok-reserve.ensures.posts answered (reported ∙ ap (λ pred. c.match-reply.out.posts ++ ack_posts pred c.args.n) same)
    ∙ ap (λ r. c.args.out.now.posts ++ r.1) (process_row c.args.self.now c.apply.new.self c.args.n c.args.entry.now c.in_ok-reply.reply c.requires.number c.requires.succ c.in_ok-reply.ensures)
