use Rattle.std.proofs.Common.{sym, ◌∙◌}
use Rattle.zthreads.proofs.Roles.{master_stood}
use Rattle.zthreads.proofs.master_thread.MasterThread.follow.Goals as goal

pub returns-in-Ok-clause-stood : goal.returns-in-Ok-clause-stood
returns-in-Ok-clause-stood c =
    let h = c.args.self.now.host in
    master_stood h.endpoint h.actor h.learnt h.front c.args.self.now.is_master h.hosted (sym c.has_front.ensures ∙ c.if-has_front.false)

pub returns-else-not-refuse-clause-stood : goal.returns-else-not-refuse-clause-stood
returns-else-not-refuse-clause-stood c =
    let h = c.args.self.now.host in
    master_stood h.endpoint h.actor h.learnt h.front c.args.self.now.is_master h.hosted (sym c.has_front.ensures ∙ c.if-has_front.false)
