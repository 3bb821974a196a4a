use Rattle.std.proofs.Common.{subst}
use Rattle.std.specs.Prelude.{IfSome}
use Rattle.zstore.specs.StoreView.{StoreView}
use Rattle.zstore.specs.support.Parts.{IsOwned}
use Rattle.zstore.specs.support.Stored.{held_by}
use Rattle.zstore.specs.support.Undoing.{notes_of}
use Rattle.zstore.proofs.parts.Alive.{is_owned}
use Rattle.zstore.proofs.store.Store.first_owned.Goals as goal

pub returns-clause-found : goal.returns-clause-found
returns-clause-found c =
    let s = c.self.inside in
    let found =
    is_owned s.nodes s.sessions s.time s.zxid s.limits (notes_of s.log) c.self.invariant c.number.result
    c.first_owned.result c.first_owned.ensures.live c.first_owned.ensures.owned in
    subst (λ (h : StoreView). IfSome c.first_owned.result (IsOwned h c.args.session)) c.self.view_is
    (subst (λ n. IfSome c.first_owned.result (IsOwned (held_by s) n)) c.number.ensures found)
