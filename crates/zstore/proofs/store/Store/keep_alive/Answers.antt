use Rattle.std.proofs.Common.{◌≡◌, ◌<◌, Some, sym, ap, ◌∙◌}
use Rattle.std.specs.FinMap as finite
use Rattle.ztree.specs.declared.session.Session.{Session}
use Rattle.ztree.specs.Sessions.{with_renewed_session}
use Rattle.zsessions.specs.Deadlines.{with_renewed}
use Rattle.zstore.specs.StoreView.{StoreView}
use Rattle.zstore.specs.support.Undoing.{notes_of}
use Rattle.zstore.specs.support.Stored.{tree_of}
use Rattle.zstore.proofs.parts.Alive.{owners_touched, kept_touched}
use Rattle.zstore.proofs.parts.Noted.{notes_held, stored_changed}
use Rattle.zstore.proofs.store.Store.keep_alive.Goals as goal

pub stop-requires : goal.stop-requires
stop-requires c = let s =
    c.self.inside in notes_held s.nodes s.sessions s.time s.zxid s.limits (notes_of s.log) c.self.invariant

pub invariant_of-self-2 : goal.invariant_of-self-2
invariant_of-self-2 c =
    let s = c.self.inside in
    let id = c.args.id in
    let renewed : c.keep_alive.new.self ≡ with_renewed s.sessions id s.time =
    c.if-not-keep_alive.ensures.renewed in
    let some : (x : Session) → finite.get s.sessions id ≡ Some x → 0 < x.timeout =
    λ x at. (c.requires.deadline x
    (ap (λ (h : StoreView). finite.get h.tree.sessions id) (sym c.self.view_is) ∙ at)).0 in
    rw (c.stop.ensures.off, c.stop.ensures.nodes, renewed)
    (stored_changed s.nodes s.sessions s.time s.zxid s.limits (notes_of s.log) c.self.invariant
    (with_renewed_session (tree_of s.nodes.nodes s.sessions s.time s.zxid s.limits) id).sessions s.time
    s.zxid s.limits
    (kept_touched s.nodes.nodes s.nodes.places s.sessions s.time s.zxid s.limits c.self.invariant.kept id
    some) (owners_touched s.nodes.owners s.sessions id c.self.invariant.owners s.time))
