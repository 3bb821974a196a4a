use Rattle.std.proofs.Common.{◌≡◌, ◌+◌, sym, ◌∙◌, ap, arith, length, Option, None}
use Rattle.zprotocol.specs.declared.master.order_fault.OrderFault.{OrderFault}
use Rattle.zprotocol.specs.declared.master.order.Order.TheVariants.{Join}
use Rattle.zprotocol.specs.master.View.{MasterView, with_number}
use Rattle.zprotocol.specs.master.Table.{order_fault}
use Rattle.zprotocol.proofs.master_lemmas.Numbers.{one_more}
use Rattle.zmaster.proofs.Rows.{free_is_new}
use Rattle.zmaster.proofs.knowledge.Knowledge.order.Goals as goal

pub join-requires-clause-new : goal.join-requires-clause-new
join-requires-clause-new g c =
    let v : MasterView = c.args.self.now in
    let s = c.in-Join.server in
    let free : ◌≡◌ {A = Option OrderFault} (order_fault v (Join s)) None = ap (λ order. order_fault v order) (sym c.in-Join.is) ∙ c.requires.allowed in
    let more : length (with_number s v.used) ≡ length v.used + 1 = one_more s v.used (free_is_new v s free) in
    omega (arith, more, c.requires.enough)
