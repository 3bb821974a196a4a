use Rattle.std.proofs.Common.{◌≡◌, sym, ap, subst, ◌∙◌, arith}
use Rattle.znodes.specs.NodesView.{NodesView}
use Rattle.zstore.specs.support.Undoing.{Held, IsHeld, notes_of, undos_of, held_after, release, release_all, AllHeld}
use Rattle.zstore.proofs.parts.Undone.{all_held_last}
use Rattle.zstore.proofs.parts.Noted.{freed_full, freed_off, with_held, freed_one, freed_none}
use Rattle.zstore.proofs.log.Log.note.Goals.{else-self-via-then-self+else-len-capacity, else-self-via-else-self, in-Taken, in_default}
use Rattle.zstore.proofs.log.Log.note.Goals as goal

pub free-requires : goal.free-requires
free-requires c = record {
  held = subst (λ u. IsHeld u c.args.nodes.now.held) c.in-Taken.is
      (all_held_last (undos_of (notes_of c.args.self.now)) c.args.undo c.args.nodes.now.held
      c.requires).0;
}

pub stop-requires : goal.stop-requires
stop-requires c =
    let v = c.args.nodes.now in
    let us = undos_of (notes_of c.args.self.now) in
    let freed : c.match-undo.nodes ≡ with_held v (release c.args.undo v.held) =
    elim c.match-undo.branch [
      | in-Taken w ↦ w.nodes-is
          ∙ freed_one v w.free.new.self c.args.undo w.in-Taken.id w.in-Taken.field-1 w.in-Taken.is
          w.free.ensures
      | in_default w ↦ w.nodes-is ∙ freed_none v c.args.undo w.in_default.not-Taken
    ] in
    subst (λ (w : NodesView). AllHeld us w.held) (sym freed)
    (all_held_last us c.args.undo v.held c.requires).1

pub returns-clause-nodes : goal.returns-clause-nodes
returns-clause-nodes c =
    let l = c.args.self.now in
    let v = c.args.nodes.now in
    let freed : c.match-undo.nodes ≡ with_held v (release c.args.undo v.held) =
    elim c.match-undo.branch [
      | in-Taken w ↦ w.nodes-is
          ∙ freed_one v w.free.new.self c.args.undo w.in-Taken.id w.in-Taken.field-1 w.in-Taken.is
          w.free.ensures
      | in_default w ↦ w.nodes-is ∙ freed_none v c.args.undo w.in_default.not-Taken
    ] in
    let full : held_after c.args.undo (notes_of l) v.held ≡ release_all (undos_of (notes_of l))
    (release c.args.undo v.held) =
    elim c.else-self.branch [
      | else-self-via-then-self+else-len-capacity w ↦ freed_full c.args.undo l v.held w.if-self.true
          (let full = w.if-len-capacity.false in let len = w.len.ensures in let capacity =
          w.capacity.ensures in omega (arith, full, len, capacity))
      | else-self-via-else-self w ↦ freed_off c.args.undo l v.held w.if-self.false
    ] in
    c.stop.ensures.nodes
    ∙ ap (λ (x : NodesView). record x { held = release_all (undos_of (notes_of l)) x.held })
    freed ∙ ap (λ (h : Held). record v { held = h }) (sym full)
