use Rattle.std.proofs.Common.{sym, subst}
use Rattle.zprotocol.specs.master.View.{MasterView}
use Rattle.zprotocol.specs.master.Laws.{IsBounded}
use Rattle.zprotocol.proofs.master_lemmas.Bounds.{messages_keep}
use Rattle.zmaster.proofs.master.Master.take.Goals as goal

pub invariant_of-self : goal.invariant_of-self
invariant_of-self g c = (
  subst (λ (v : MasterView). IsBounded v) (sym c.take.ensures.next)
      (messages_keep c.self.inside.known c.args.from c.args.message c.self.invariant.0),
  c.keeps_few_used.ensures,
)
