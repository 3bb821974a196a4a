use Rattle.std.proofs.Common.{◌≡◌, sym, subst, ◌∙◌, Option, None}
use Rattle.zprotocol.specs.declared.master.order_fault.OrderFault.{OrderFault}
use Rattle.zprotocol.specs.master.View.{MasterView}
use Rattle.zprotocol.specs.master.Table.{order_fault}
use Rattle.zprotocol.specs.master.Laws.{IsBounded}
use Rattle.zprotocol.proofs.master_lemmas.Bounds.{orders_keep}
use Rattle.zmaster.proofs.master.Master.order.Goals as goal

pub order-requires-clause-enough : goal.order-requires-clause-enough
order-requires-clause-enough g c = c.self.invariant.0.enough

pub invariant_of-self : goal.invariant_of-self
invariant_of-self g c =
    let v : MasterView = c.self.inside.known in
    let free : ◌≡◌ {A = Option OrderFault} (order_fault v c.args.order.now) None = sym c.order_fault.ensures ∙ c.in_default.is in
    (subst (λ (w : MasterView). IsBounded w) (sym c.order.ensures.next) (orders_keep _ v c.args.order.now free c.self.invariant.0), c.keeps_few_used.ensures)
