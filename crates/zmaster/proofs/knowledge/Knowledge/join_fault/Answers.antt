use Rattle.std.proofs.Common.{◌≡◌, ap, sym, ◌∙◌, refl, true, false}
use Rattle.zprotocol.specs.master.View.{is_among}
use Rattle.zmaster.specs.support.Marks.{numbers_from}
use Rattle.zmaster.specs.support.Mending.{chain_fault}
use Rattle.zmaster.specs.contracts.knowledge.Knowledge.{the_view}
use Rattle.zmaster.proofs.Rows.{fault_used, fault_of_chain}
use Rattle.zmaster.proofs.knowledge.Knowledge.join_fault.Goals as goal

pub returns-then-is_used : goal.returns-then-is_used
returns-then-is_used c =
    let yes : is_among c.args.server (numbers_from 1 c.self.inside.used) ≡ true = sym c.is_used.ensures ∙ c.if-is_used.true in
    rw (← c.self.view_is, fault_used (the_view c.self.inside) c.args.server yes) refl

pub returns : goal.returns
returns c =
    let no : is_among c.args.server (numbers_from 1 c.self.inside.used) ≡ false = sym c.is_used.ensures ∙ c.if-is_used.false in
    rw (← c.self.view_is, fault_of_chain (the_view c.self.inside) c.args.server no)
    (c.chain_fault.ensures ∙ ap (λ xs. chain_fault c.self.inside.joining xs) c.deref.ensures.0)
