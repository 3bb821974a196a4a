use Rattle.std.proofs.Common.{[], ◌++◌, Some, sym, ap, ◌∙◌}
use Rattle.zguard.specs.declared.visitor.Standing.TheVariants as at
use Rattle.zguard.specs.Guarding.{GuardView, bytes_at, greeting_heard, heard_of, standing_at, stranger_heard, with_heard_view}
use Rattle.zguard.proofs.Guards.{absent_stays, admitted_stays, refused_stays, stored}
use Rattle.zguard.proofs.guard.Guard.hear.Goals as goal

pub returns-in-Some-Admitted-clause-after : goal.returns-in-Some-Admitted-clause-after
returns-in-Some-Admitted-clause-after c =
    admitted_stays c.args.connection c.args.bytes.now c.args.self.now
    (ap (λ (g : GuardView). standing_at g.visitors c.args.connection) (sym c.self.view_is) ∙ sym c.standing.ensures ∙ c.in-Some-Admitted.is
    ∙ ap (λ s. Some s) c.in-Some-Admitted.field-0-is)

pub returns-in_ok-heard-in-Some-Silent-clause-after : goal.returns-in_ok-heard-in-Some-Silent-clause-after
returns-in_ok-heard-in-Some-Silent-clause-after c =
    let k = c.args.connection in
    let now = c.args.self.now in
    let h = heard_of c.in_ok-heard-in-Some-Silent.heard in
    let taken = c.self-in-Some-Silent.view_is ∙ c.in_ok-unread-in-Some-Silent.ensures.rest in
    c.keep.ensures.rest
    ∙ ap (λ (g : GuardView). with_heard_view k h g) c.in_ok-unread-in-Some-Silent.ensures.rest
    ∙ stored k c.args.bytes.now now at.Silent h
    (ap (λ (g : GuardView). standing_at g.visitors k) (sym c.self.view_is) ∙ sym c.standing.ensures ∙ c.in-Some-Silent.is
    ∙ ap (λ s. Some s) c.in-Some-Silent.field-0-is)
    (c.in_ok-heard-in-Some-Silent.ensures
    ∙ ap (λ xs. greeting_heard c.self-in-Some-Silent.inside.logins xs) c.in_ok-unread-in-Some-Silent.ensures.bytes
    ∙ ap (λ (g : GuardView). greeting_heard g.logins (bytes_at now.visitors k ++ c.args.bytes.now)) taken)

pub returns-in_ok-heard-in-Some-Stranger-clause-after : goal.returns-in_ok-heard-in-Some-Stranger-clause-after
returns-in_ok-heard-in-Some-Stranger-clause-after c =
    let k = c.args.connection in
    let now = c.args.self.now in
    let h = heard_of c.in_ok-heard-in-Some-Stranger.heard in
    let taken = c.self-in-Some-Stranger.view_is ∙ c.in_ok-unread-in-Some-Stranger.ensures.rest in
    c.keep-in-Some-Stranger.ensures.rest
    ∙ ap (λ (g : GuardView). with_heard_view k h g) c.in_ok-unread-in-Some-Stranger.ensures.rest
    ∙ stored k c.args.bytes.now now at.Stranger h
    (ap (λ (g : GuardView). standing_at g.visitors k) (sym c.self.view_is) ∙ sym c.standing.ensures ∙ c.in-Some-Stranger.is
    ∙ ap (λ s. Some s) c.in-Some-Stranger.field-0-is)
    (c.in_ok-heard-in-Some-Stranger.ensures
    ∙ ap (λ xs. stranger_heard c.self-in-Some-Stranger.inside.logins xs c.in_ok-unread-in-Some-Stranger.unread.items) c.new-none.ensures.items
    ∙ ap (λ xs. stranger_heard c.self-in-Some-Stranger.inside.logins [] xs) c.in_ok-unread-in-Some-Stranger.ensures.bytes
    ∙ ap (λ (g : GuardView). stranger_heard g.logins [] (bytes_at now.visitors k ++ c.args.bytes.now)) taken)

pub returns-in-Some-Refused-clause-after : goal.returns-in-Some-Refused-clause-after
returns-in-Some-Refused-clause-after c =
    refused_stays c.args.connection c.args.bytes.now c.args.self.now
    (ap (λ (g : GuardView). standing_at g.visitors c.args.connection) (sym c.self.view_is) ∙ sym c.standing.ensures ∙ c.in-Some-Refused.is
    ∙ ap (λ s. Some s) c.in-Some-Refused.field-0-is)

pub returns-in-None-clause-after : goal.returns-in-None-clause-after
returns-in-None-clause-after c =
    absent_stays c.args.connection c.args.bytes.now c.args.self.now
    (ap (λ (g : GuardView). standing_at g.visitors c.args.connection) (sym c.self.view_is) ∙ sym c.standing.ensures ∙ c.in-None.is)
