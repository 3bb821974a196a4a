use Rattle.std.proofs.Common.{sym, ap, subst, ◌∙◌}
use Rattle.std.specs.Prelude.{is_some}
use Rattle.std.specs.Cmp.{nat_cmp_total}
use Rattle.std.specs.FinMap as finite
use Rattle.std.specs.FinMap.{nat_cmp-IsAntisymmetric}
use Rattle.zslots.proofs.Maps.{is_none}
use Rattle.znodes.specs.NodesView.{NodesView}
use Rattle.ztree.specs.Tree.{ephemerals}
use Rattle.zstore.specs.StoreView.{StoreView}
use Rattle.zstore.specs.Restored.{CanPutSession}
use Rattle.zstore.specs.support.Undoing.{notes_of, undos_of, AllHeld}
use Rattle.zstore.proofs.parts.Alive.{owns_nothing}
use Rattle.zstore.proofs.parts.Maps.{remove-insert}
use Rattle.zstore.proofs.parts.Noted.{notes_held}
use Rattle.zstore.proofs.parts.Restored.{session_stored}
use Rattle.zstore.proofs.store.Store.add_session.Goals as goal

pub close_owner-requires : goal.close_owner-requires
close_owner-requires c =
    let s = c.self.inside in
    let free = ap (λ (h : StoreView). finite.get h.tree.sessions c.args.id) c.self.view_is
    ∙ c.requires.can.free in
    let none =
    owns_nothing s.nodes.nodes s.nodes.places s.sessions s.time s.zxid s.limits c.self.invariant.kept
    c.args.id c.requires.can.somebody free in
    record {
      owns_none = ap (λ (v : NodesView). ephemerals v.nodes c.number-in-Err.result)
          c.in_ok-open_owner.ensures.ok
          ∙ ap (ephemerals s.nodes.nodes) c.number-in-Err.ensures ∙ none;
    }

pub invariant_of-self-in-Err : goal.invariant_of-self-in-Err
invariant_of-self-in-Err c =
    let s = c.self.inside in
    let opened = c.number.result in
    let closed = c.number-in-Err.result in
    let free = ap (λ (h : StoreView). finite.get h.tree.sessions c.args.id) c.self.view_is
    ∙ c.requires.can.free in
    let nobody =
    is_none (finite.get s.nodes.owners opened)
    (c.self.invariant.owners opened ∙ ap (λ k. is_some (finite.get s.sessions k)) c.number.ensures
    ∙ ap is_some free) in
    let owners =
    ap (finite.remove (finite.insert s.nodes.owners opened tt))
    (c.number-in-Err.ensures ∙ sym c.number.ensures)
    ∙ remove-insert nat_cmp_total nat_cmp-IsAntisymmetric s.nodes.owners opened tt nobody in
    let nodes = c.close_owner.ensures
    ∙ ap (λ (v : NodesView). record v { owners = finite.remove v.owners closed })
    c.in_ok-open_owner.ensures.ok
    ∙ ap (λ o. record s.nodes { owners = o }) owners in
    rw (nodes, c.in-Err.ensures.err) c.self.invariant

pub stop-requires : goal.stop-requires
stop-requires c =
    let s = c.self.inside in
    subst (λ (v : NodesView). AllHeld (undos_of (notes_of s.log)) v.held)
    (sym c.in_ok-open_owner.ensures.ok)
    (notes_held s.nodes s.sessions s.time s.zxid s.limits (notes_of s.log) c.self.invariant)

pub invariant_of-self-2 : goal.invariant_of-self-2
invariant_of-self-2 c =
    let s = c.self.inside in
    let can =
    subst (λ (h : StoreView). CanPutSession h.tree c.args.id c.args.session) (sym c.self.view_is)
    c.requires.can in
    rw (
      c.stop.ensures.off,
      c.stop.ensures.nodes,
      c.in_ok-open_owner.ensures.ok,
      c.in_default.ensures.ok,
      c.number.ensures,
    ) (
    session_stored s.nodes s.nodes s.sessions s.time s.zxid s.limits (notes_of s.log) c.self.invariant
    c.args.id c.args.session can)
