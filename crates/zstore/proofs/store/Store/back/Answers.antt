use Rattle.zstore.specs.support.Undoing.{notes_of}
use Rattle.zstore.proofs.parts.Noted.{stored_back}
use Rattle.zstore.proofs.store.Store.back.Goals as goal

pub invariant_of-self : goal.invariant_of-self
invariant_of-self c =
    let s = c.self.inside in
    rw c.undo.ensures.off
    (stored_back s.nodes s.sessions s.time s.zxid s.limits (notes_of s.log) c.self.invariant
    c.undo.new.nodes c.undo.ensures.parts c.undo.ensures.owners)
