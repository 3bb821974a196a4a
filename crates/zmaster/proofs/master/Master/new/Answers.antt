use Rattle.std.proofs.Common.{sym, subst}
use Rattle.zprotocol.specs.master.View.{MasterView}
use Rattle.zprotocol.specs.master.Laws.{IsBounded}
use Rattle.zprotocol.proofs.master_lemmas.Bounds.{opening_is_bounded}
use Rattle.zmaster.proofs.master.Master.new.Goals as goal

pub invariant_of-result : goal.invariant_of-result
invariant_of-result c = (
  subst (λ (v : MasterView). IsBounded v) (sym c.new-known.ensures) (opening_is_bounded c.args.last c.args.clients),
  c.keeps_few_used.ensures,
)
