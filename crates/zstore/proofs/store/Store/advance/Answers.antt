use Rattle.std.proofs.Common.{◌≡◌, ◌+◌, [], sym, subst}
use Rattle.ztree.specs.Sessions.{due_sessions}
use Rattle.ztree.proofs.Lawful.{lawful_advanced}
use Rattle.zstore.specs.StoreView.{StoreView}
use Rattle.zstore.specs.support.Undoing.{notes_of}
use Rattle.zstore.specs.support.Stored.{tree_of}
use Rattle.zstore.proofs.parts.Noted.{notes_held, stored_changed}
use Rattle.zstore.proofs.store.Store.advance.Goals as goal

pub stop-requires : goal.stop-requires
stop-requires c = let s =
    c.self.inside in notes_held s.nodes s.sessions s.time s.zxid s.limits (notes_of s.log) c.self.invariant

pub invariant_of-self : goal.invariant_of-self
invariant_of-self c =
    let s = c.self.inside in
    let kept = c.self.invariant.kept in
    let none =
    subst (λ (h : StoreView). due_sessions h.tree.sessions (h.tree.time + 1) ≡ [])
    (sym c.self.view_is) c.requires.none_due in
    rw (c.stop.ensures.off, c.stop.ensures.nodes)
    (stored_changed s.nodes s.sessions s.time s.zxid s.limits (notes_of s.log) c.self.invariant
    s.sessions (s.time + 1) s.zxid s.limits
    (record {
      lawful = lawful_advanced (tree_of s.nodes.nodes s.sessions s.time s.zxid s.limits) kept.lawful none;
      paths = kept.paths;
      named = kept.named;
    }) c.self.invariant.owners)
