use Rattle.std.proofs.Common.{sym, subst}
use Rattle.zstore.specs.StoreView.{StoreView}
use Rattle.zstore.specs.Restored.{CanPut}
use Rattle.zstore.specs.support.Undoing.{notes_of}
use Rattle.zstore.proofs.parts.Restored.{put_held, put_stored}
use Rattle.zstore.proofs.store.Store.put.Goals as goal

pub stop-requires : goal.stop-requires
stop-requires c =
    let s = c.self.inside in
    put_held s.nodes c.add.new.self s.sessions s.time s.zxid s.limits (notes_of s.log) c.self.invariant
    c.in_ok-add.field-0 c.args.path c.args.node c.in_ok-add.ensures.added

pub invariant_of-self-2 : goal.invariant_of-self-2
invariant_of-self-2 c =
    let s = c.self.inside in
    let can =
    subst (λ (h : StoreView). CanPut h.tree c.args.path c.args.node) (sym c.self.view_is)
    c.requires.can in
    rw (c.stop.ensures.off, c.stop.ensures.nodes)
    (put_stored s.nodes c.add.new.self s.sessions s.time s.zxid s.limits (notes_of s.log) c.self.invariant
    c.in_ok-add.field-0 c.args.path c.args.node c.in_ok-add.ensures.added can c.keeps_its_form.ensures)
