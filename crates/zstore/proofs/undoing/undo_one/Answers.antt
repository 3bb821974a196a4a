use Rattle.std.proofs.Common.{Some, sym, ap, subst, ◌∙◌, arith, rules}
use Rattle.std.specs.Prelude.{is_some}
use Rattle.std.specs.FinMap as finite
use Rattle.zslots.proofs.Maps.{id_cmp_total, id_cmp_same}
use Rattle.ztree.proofs.Maps.{same_some, get-insert-here}
use Rattle.ztree.specs.Tree.{parent_of}
use Rattle.znodes.specs.NodesView.{NodesView, Taken}
use Rattle.zstore.specs.support.Undoing.{Held, parts_of, undone, Fits, returning}
use Rattle.zstore.proofs.parts.Noting.{gone, gone_parts}
use Rattle.zstore.proofs.undoing.undo_one.Goals as goal

pub free-requires : goal.free-requires
free-requires c =
    let v = c.args.nodes.now in
    let id = c.in-Added.id in
    let fits = subst (λ u. Fits v.owners u (parts_of v)) c.in-Added.is c.requires.fits in
    let took = gone v c.take.new.self id fits c.take.ensures in
    let held = ap (λ (h : Held). finite.get h id) took.held
    ∙ get-insert-here id_cmp_total id_cmp_same v.held id (fits.path, fits.node) in
    record { held = ap is_some held }

pub returns-in-Added-clause-parts : goal.returns-in-Added-clause-parts
returns-in-Added-clause-parts c =
    let v = c.args.nodes.now in
    let fits = subst (λ u. Fits v.owners u (parts_of v)) c.in-Added.is c.requires.fits in
    gone_parts v c.take.new.self c.in-Added.id fits c.take.ensures c.free.new.self c.free.ensures
    ∙ ap (λ u. undone u (parts_of v)) (sym c.in-Added.is)

pub returns-in-Added-clause-owners : goal.returns-in-Added-clause-owners
returns-in-Added-clause-owners c =
    let v = c.args.nodes.now in
    let fits = subst (λ u. Fits v.owners u (parts_of v)) c.in-Added.is c.requires.fits in
    ap (λ (w : NodesView). w.owners) c.free.ensures
    ∙ (gone v c.take.new.self c.in-Added.id fits c.take.ensures).owners

pub returns-in-Added-clause-given : goal.returns-in-Added-clause-given
returns-in-Added-clause-given c =
    let v = c.args.nodes.now in
    let fits = subst (λ u. Fits v.owners u (parts_of v)) c.in-Added.is c.requires.fits in
    ap (λ (w : NodesView). w.given) c.free.ensures
    ∙ (gone v c.take.new.self c.in-Added.id fits c.take.ensures).given

pub returns-in-Added-clause-room : goal.returns-in-Added-clause-room
returns-in-Added-clause-room c =
    let v = c.args.nodes.now in
    let fits = subst (λ u. Fits v.owners u (parts_of v)) c.in-Added.is c.requires.fits in
    let took = (gone v c.take.new.self c.in-Added.id fits c.take.ensures).room in
    let same = ap (λ (w : NodesView). w.room) c.free.ensures in
    omega (arith, took, same)

pub put_back-requires-clause-under : goal.put_back-requires-clause-under
put_back-requires-clause-under c = λ t at.
    let v = c.args.nodes.now in
    let fits = subst (λ u. Fits v.owners u (parts_of v)) c.in-Taken.is c.requires.fits in
    fits.under ∙ ap (λ (u : Taken). Some (parent_of u.0)) (same_some fits.taken t (sym fits.held ∙ at))

pub returns-in-Taken-clause-owners : goal.returns-in-Taken-clause-owners
returns-in-Taken-clause-owners c =
    let v = c.args.nodes.now in
    let fits = subst (λ u. Fits v.owners u (parts_of v)) c.in-Taken.is c.requires.fits in
    (c.put_back.ensures fits.taken fits.held).owners

pub returns-in-Taken-clause-given : goal.returns-in-Taken-clause-given
returns-in-Taken-clause-given c =
    let v = c.args.nodes.now in
    let fits = subst (λ u. Fits v.owners u (parts_of v)) c.in-Taken.is c.requires.fits in
    (c.put_back.ensures fits.taken fits.held).given

pub returns-in-Taken-clause-room : goal.returns-in-Taken-clause-room
returns-in-Taken-clause-room c =
    let v = c.args.nodes.now in
    let fits = subst (λ u. Fits v.owners u (parts_of v)) c.in-Taken.is c.requires.fits in
    let room = (c.put_back.ensures fits.taken fits.held).room in
    let one = ap returning c.in-Taken.is in
    omega (arith, room, one)

pub returns-in-Marked-clause-parts : goal.returns-in-Marked-clause-parts
returns-in-Marked-clause-parts c = search rules
