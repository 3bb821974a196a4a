use Rattle.std.proofs.Common.{◌≡◌, ◌==◌, ap, sym, ◌∙◌, refl, true, false, List, not}
use Rattle.std.specs.List.{position}
use Rattle.zprotocol.specs.server.View.{Neighbour}
use Rattle.zprotocol.specs.master.View.{is_among, members}
use Rattle.zmaster.specs.contracts.knowledge.Knowledge.{the_view}
use Rattle.zmaster.proofs.Mending.{found_is_member}
use Rattle.zmaster.proofs.Rows.{leave_outside, leave_in_a_join, leave_last, leave_freely}
use Rattle.zmaster.proofs.knowledge.Knowledge.retire_fault.Goals as goal

pub returns-then-is_none : goal.returns-then-is_none
returns-then-is_none c =
    let is : is_among c.args.server (members (the_view c.self.inside)) ≡ false =
    found_is_member c.args.server c.self.inside.chain.items c.position_of.result
    (c.position_of.ensures ∙ ap (λ (xs : List Neighbour). position (λ (member : Neighbour). member.0 == c.args.server) xs) c.deref.ensures.0)
    ∙ c.is_none.ensures ∙ ap not c.if-is_none.true in
    rw (← c.self.view_is, leave_outside (the_view c.self.inside) c.args.server is) refl

pub returns-then-is_some : goal.returns-then-is_some
returns-then-is_some c =
    let is : is_among c.args.server (members (the_view c.self.inside)) ≡ true =
    found_is_member c.args.server c.self.inside.chain.items c.position_of.result
    (c.position_of.ensures ∙ ap (λ (xs : List Neighbour). position (λ (member : Neighbour). member.0 == c.args.server) xs) c.deref.ensures.0)
    ∙ c.is_none.ensures ∙ ap not c.if-is_none.false in
    rw (← c.self.view_is, leave_in_a_join (the_view c.self.inside) c.args.server is (sym c.is_some.ensures ∙ c.if-is_some.true)) refl

pub returns-then-len-eq1 : goal.returns-then-len-eq1
returns-then-len-eq1 c =
    let is : is_among c.args.server (members (the_view c.self.inside)) ≡ true =
    found_is_member c.args.server c.self.inside.chain.items c.position_of.result
    (c.position_of.ensures ∙ ap (λ (xs : List Neighbour). position (λ (member : Neighbour). member.0 == c.args.server) xs) c.deref.ensures.0)
    ∙ c.is_none.ensures ∙ ap not c.if-is_none.false in
    rw (← c.self.view_is, leave_last (the_view c.self.inside) c.args.server is (sym c.is_some.ensures ∙ c.if-is_some.false) (sym c.len.ensures.value ∙ c.if-len-eq1.true)) refl

pub returns : goal.returns
returns c =
    let is : is_among c.args.server (members (the_view c.self.inside)) ≡ true =
    found_is_member c.args.server c.self.inside.chain.items c.position_of.result
    (c.position_of.ensures ∙ ap (λ (xs : List Neighbour). position (λ (member : Neighbour). member.0 == c.args.server) xs) c.deref.ensures.0)
    ∙ c.is_none.ensures ∙ ap not c.if-is_none.false in
    rw (
      ← c.self.view_is,
      leave_freely (the_view c.self.inside) c.args.server is (sym c.is_some.ensures ∙ c.if-is_some.false)
          (λ one. c.if-len-eq1.false (c.len.ensures.value ∙ one)),
    ) refl
