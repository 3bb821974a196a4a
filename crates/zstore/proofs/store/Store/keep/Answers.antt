use Rattle.zstore.specs.support.Undoing.{notes_of}
use Rattle.zstore.proofs.parts.Noted.{notes_held, stored_kept}
use Rattle.zstore.proofs.store.Store.keep.Goals as goal

pub stop-requires : goal.stop-requires
stop-requires c = let s =
    c.self.inside in notes_held s.nodes s.sessions s.time s.zxid s.limits (notes_of s.log) c.self.invariant

pub invariant_of-self : goal.invariant_of-self
invariant_of-self c =
    let s = c.self.inside in
    rw (c.stop.ensures.off, c.stop.ensures.nodes)
    (stored_kept s.nodes s.sessions s.time s.zxid s.limits (notes_of s.log) c.self.invariant)
