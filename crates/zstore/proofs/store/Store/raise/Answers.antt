use Rattle.std.proofs.Common.{◌+◌}
use Rattle.ztree.proofs.Lawful.{lawful_raised}
use Rattle.zstore.specs.support.Undoing.{notes_of}
use Rattle.zstore.specs.support.Stored.{tree_of}
use Rattle.zstore.proofs.parts.Noted.{notes_held, stored_changed}
use Rattle.zstore.proofs.store.Store.raise.Goals as goal

pub stop-requires : goal.stop-requires
stop-requires c = let s =
    c.self.inside in notes_held s.nodes s.sessions s.time s.zxid s.limits (notes_of s.log) c.self.invariant

pub invariant_of-self : goal.invariant_of-self
invariant_of-self c =
    let s = c.self.inside in
    let kept = c.self.invariant.kept in
    rw (c.stop.ensures.off, c.stop.ensures.nodes, c.next-self-inside.ensures)
    (stored_changed s.nodes s.sessions s.time s.zxid s.limits (notes_of s.log) c.self.invariant
    s.sessions s.time (s.zxid + 1) s.limits
    (record {
      lawful = lawful_raised (tree_of s.nodes.nodes s.sessions s.time s.zxid s.limits) kept.lawful;
      paths = kept.paths;
      named = kept.named;
    }) c.self.invariant.owners)
