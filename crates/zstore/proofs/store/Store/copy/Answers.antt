use Rattle.std.proofs.Common.{◌≡◌, sym, ap, subst, ◌∙◌}
use Rattle.zstore.specs.support.Undoing.{notes_of, undos_of, release_all, AllHeld}
use Rattle.zstore.proofs.parts.Noted.{undos_on, undos_off, with_held, copy_held, stored_copied}
use Rattle.zstore.proofs.store.Store.copy.Goals.{then-self, else-self}
use Rattle.zstore.proofs.store.Store.copy.Goals as goal

pub free_all-requires : goal.free_all-requires
free_all-requires c =
    let s = c.self.inside in
    let nodes = c.in_ok-nodes.nodes in
    rw c.deref.ensures.value
    (subst (λ us. AllHeld us nodes.held) (undos_on s.log c.if-self.true)
    (copy_held s.nodes s.sessions s.time s.zxid s.limits (notes_of s.log) c.self.invariant nodes
    c.in_ok-nodes.ensures))

pub invariant_of-result : goal.invariant_of-result
invariant_of-result c =
    let s = c.self.inside in
    let nodes = c.in_ok-nodes.nodes in
    let freed : c.if-self.nodes ≡ with_held nodes (release_all (undos_of (notes_of s.log)) nodes.held) =
    elim c.if-self.branch [
      | then-self w ↦ w.nodes-is ∙ w.free_all.ensures
          ∙ ap (λ us. with_held nodes (release_all us nodes.held))
          (w.deref.ensures.value ∙ sym (undos_on s.log w.if-self.true))
      | else-self w ↦ w.nodes-is
          ∙ ap (λ us. with_held nodes (release_all us nodes.held))
          (sym (undos_off s.log w.if-self.false))
    ] in
    rw (c.new.ensures, freed, c.in_ok-copy.ensures)
    (stored_copied s.nodes s.sessions s.time s.zxid s.limits (notes_of s.log) c.self.invariant nodes
    c.in_ok-nodes.ensures)
