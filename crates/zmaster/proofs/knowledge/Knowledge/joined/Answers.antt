use Rattle.std.proofs.Common.{◌≡◌, sym, ◌∙◌, refl, true, false}
use Rattle.zprotocol.proofs.Posts.{put_none}
use Rattle.zmaster.specs.support.Mending.{joins}
use Rattle.zmaster.specs.contracts.knowledge.Knowledge.{the_view}
use Rattle.zmaster.proofs.Rows.{joined_none, joined_some}
use Rattle.zmaster.proofs.knowledge.Knowledge.joined.Goals as goal

pub returns-then-is_the_joining-clause-next : goal.returns-then-is_the_joining-clause-next
returns-then-is_the_joining-clause-next g c =
    let yes : joins c.self.inside.joining c.args.server ≡ true = sym c.is_the_joining.ensures ∙ c.if-is_the_joining.true in
    rw (← c.self.view_is, joined_some (the_view c.self.inside) c.args.server yes, c.next_epoch-self-inside.ensures) refl

pub returns-then-is_the_joining-clause-puts : goal.returns-then-is_the_joining-clause-puts
returns-then-is_the_joining-clause-puts g c =
    let yes : joins c.self.inside.joining c.args.server ≡ true = sym c.is_the_joining.ensures ∙ c.if-is_the_joining.true in
    rw (← c.self.view_is, joined_some (the_view c.self.inside) c.args.server yes) (rw c.next_epoch-self-inside.ensures at c.tell.ensures)

pub returns-else-is_the_joining-clause-next : goal.returns-else-is_the_joining-clause-next
returns-else-is_the_joining-clause-next g c =
    let no : joins c.self.inside.joining c.args.server ≡ false = sym c.is_the_joining.ensures ∙ c.if-is_the_joining.false in
    rw (← c.self.view_is, joined_none (the_view c.self.inside) c.args.server no) refl

pub returns-else-is_the_joining-clause-puts : goal.returns-else-is_the_joining-clause-puts
returns-else-is_the_joining-clause-puts g c =
    let no : joins c.self.inside.joining c.args.server ≡ false = sym c.is_the_joining.ensures ∙ c.if-is_the_joining.false in
    rw (← c.self.view_is, joined_none (the_view c.self.inside) c.args.server no) (put_none _)
