use Rattle.std.proofs.Common.{sym, ap, subst, ◌∙◌}
use Rattle.std.specs.FinMap as finite
use Rattle.znodes.specs.NodesView.{NodesView}
use Rattle.ztree.specs.Tree.{ephemerals}
use Rattle.zstore.specs.StoreView.{StoreView}
use Rattle.zstore.specs.support.Undoing.{notes_of, undos_of, release_all, AllHeld}
use Rattle.zstore.proofs.parts.Alive.{owners_ended, kept_ended}
use Rattle.zstore.proofs.parts.Noted.{stored_plain, notes_held, none_held}
use Rattle.zstore.proofs.store.Store.forget.Goals as goal

pub stop-requires : goal.stop-requires
stop-requires c =
    let s = c.self.inside in
    subst (λ (w : NodesView). AllHeld (undos_of (notes_of s.log)) w.held)
    (sym c.close_owner.ensures)
    (notes_held s.nodes s.sessions s.time s.zxid s.limits (notes_of s.log) c.self.invariant)

pub invariant_of-self : goal.invariant_of-self
invariant_of-self c =
    let s = c.self.inside in
    let id = c.args.session in
    let us = undos_of (notes_of s.log) in
    let none = ap (λ (h : StoreView). ephemerals h.tree.nodes id) c.self.view_is
    ∙ c.requires.owns_none in
    rw (
      c.stop.ensures.off,
      c.stop.ensures.nodes,
      c.close_owner.ensures,
      c.number.ensures,
      c.end.ensures,
    ) (
    stored_plain (record s.nodes { owners = finite.remove s.nodes.owners id })
    (finite.remove s.sessions id) s.time s.zxid s.limits (release_all us s.nodes.held)
    (none_held s.nodes s.sessions s.time s.zxid s.limits (notes_of s.log) c.self.invariant)
    (kept_ended s.nodes.nodes s.nodes.places s.sessions s.time s.zxid s.limits c.self.invariant.kept id none)
    (owners_ended s.nodes.owners s.sessions id c.self.invariant.owners))
