use Rattle.std.proofs.Common.{◌≡◌, ap, sym, ◌∙◌, true, false, Option, None}
use Rattle.zpath.specs.First.{first_that_holds}
use Rattle.zprotocol.specs.declared.master.order_fault.OrderFault.{OrderFault}
use Rattle.zprotocol.specs.master.View.{MasterView}
use Rattle.zprotocol.specs.master.Table.{own_tests}
use Rattle.zmaster.specs.contracts.knowledge.Knowledge.{the_view}
use Rattle.zmaster.proofs.Rows.{fault_is_own, fault_of_leaving}
use Rattle.zmaster.proofs.knowledge.Knowledge.order_fault.Goals as goal

pub returns-in-Some : goal.returns-in-Some
returns-in-Some c = sym (fault_is_own c.args.self.now c.args.order.now c.in-Some.fault (sym c.own_fault.ensures ∙ c.in-Some.is))

pub returns-then-is_some : goal.returns-then-is_some
returns-then-is_some c =
    let v = the_view c.self.inside in
    let none : ◌≡◌ {A = Option OrderFault} (first_that_holds (own_tests v c.args.order.now)) None =
    ap (λ (w : MasterView). first_that_holds (own_tests w c.args.order.now)) c.self.view_is ∙ sym c.own_fault.ensures ∙ c.in_default.is in
    rw (← c.self.view_is) (sym (fault_of_leaving v c.args.order.now true none (sym c.is_some.ensures ∙ c.if-is_some.true)))

pub returns : goal.returns
returns c =
    let v = the_view c.self.inside in
    let none : ◌≡◌ {A = Option OrderFault} (first_that_holds (own_tests v c.args.order.now)) None =
    ap (λ (w : MasterView). first_that_holds (own_tests w c.args.order.now)) c.self.view_is ∙ sym c.own_fault.ensures ∙ c.in_default.is in
    rw (← c.self.view_is) (sym (fault_of_leaving v c.args.order.now false none (sym c.is_some.ensures ∙ c.if-is_some.false)))
