use Rattle.std.proofs.Common.{sym, subst}
use Rattle.std.specs.Prelude.{IsSome}
use Rattle.zstore.specs.declared.undo.Undo.TheVariants.{Marked}
use Rattle.zstore.specs.StoreView.{StoreView, path_of}
use Rattle.zstore.specs.support.Undoing.{notes_of}
use Rattle.zstore.proofs.parts.Noted.{noted_marked}
use Rattle.zstore.proofs.parts.Noting.{marks_back, marks_held, marks_stored}
use Rattle.zstore.proofs.store.Store.child_gone.Goals as goal

pub note-requires : goal.note-requires
note-requires c =
    let s = c.self.inside in
    let put = c.put_marks-before in
    let live =
    subst (λ (h : StoreView). IsSome (path_of h c.args.parent)) (sym c.self.view_is)
    c.requires.live in
    marks_held s.nodes put.new.self s.sessions s.time s.zxid s.limits (notes_of s.log) c.self.invariant
    c.args.parent live _ put.result put.ensures.written put.ensures.before

pub invariant_of-self : goal.invariant_of-self
invariant_of-self c =
    let s = c.self.inside in
    let put = c.put_marks-before in
    let live =
    subst (λ (h : StoreView). IsSome (path_of h c.args.parent)) (sym c.self.view_is)
    c.requires.live in
    rw (c.note.ensures.notes, c.note.ensures.nodes)
    (marks_stored s.nodes put.new.self s.sessions s.time s.zxid s.limits (notes_of s.log)
    c.self.invariant c.args.parent live _ put.result put.ensures.written
    put.ensures.before)

pub returns-in-Some-clause-marked : goal.returns-in-Some-clause-marked
returns-in-Some-clause-marked c =
    let s = c.self.inside in
    let put = c.put_marks-before in
    let live =
    subst (λ (h : StoreView). IsSome (path_of h c.args.parent)) (sym c.self.view_is)
    c.requires.live in
    rw (c.note.ensures.notes, c.note.ensures.nodes, ← c.self.view_is) (
    noted_marked (Marked c.args.parent put.result) s.nodes put.new.self s.sessions s.time s.zxid s.limits
    (marks_back s.nodes put.new.self s.sessions s.time s.zxid s.limits (notes_of s.log) c.self.invariant
    c.args.parent live _ put.result put.ensures.written put.ensures.before)
    (notes_of s.log))
