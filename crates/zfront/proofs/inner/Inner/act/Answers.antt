use Rattle.std.proofs.Common.{sym, subst}
use Rattle.zrequests.specs.Requests.{calls_in}
use Rattle.zfront.specs.Front.{FrontView}
use Rattle.zfront.specs.Requests.{Acts, Makes}
use Rattle.zfront.proofs.Results.{on_ok}
use Rattle.zfront.proofs.inner.Inner.act.Goals as goal

pub returns-in-Ok : goal.returns-in-Ok
returns-in-Ok g c =
    let at = c.args.connection in
    let request = c.args.request.now in
    let old = c.args.self.now in
    let new = c.make.new.self in
    on_ok c.make.result
    (λ makes.
    subst (λ (v : FrontView). Acts (calls_in v.clock.terms c.args.session request.asked) at request old new) c.self.view_is
    (subst (λ means. Acts means at request old new) (sym c.in-Ok.ensures.found)
    (subst (λ calls. Makes calls at request old new) c.as_slice.ensures makes)))
    c.make.ensures
