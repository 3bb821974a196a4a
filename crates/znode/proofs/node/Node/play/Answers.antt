use Rattle.std.proofs.Common.{◌≡◌, None, false, ap, subst, sym, ◌∙◌}
use Rattle.std.proofs.lemmas.Result.{err_from_is_err_and}
use Rattle.znode.specs.contracts.node.Node.{the_view}
use Rattle.znode.specs.Node.{NodeView}
use Rattle.znode.specs.support.Entries.{Obeys}
use Rattle.znode.proofs.node_lemmas.Playing.{plays_after, play_fault}
use Rattle.znode.proofs.node.Node.play.Goals as goal

pub returns-clause-taken : goal.returns-clause-taken
returns-clause-taken c =
    let next : c.args.index ≡ c.args.self.now.replica.played =
    sym c.number.ensures.same ∙ c.if-number.false ∙ c.number-2.ensures.same ∙ c.played.ensures
    ∙ ap (λ (n : NodeView). n.replica.played) c.self.view_is in
    let same = ap (λ (n : NodeView). record n { asked = None; is_at_end = false }) (c.self-2.view_is ∙ c.in_ok-enter.ensures) in
    let x : NodeView = record (the_view c.self-2.inside) { asked = None; is_at_end = false } in
    plays_after c.args.self.now x (the_view c.self-3.inside) c.args.index c.args.bytes.now c.in_ok-entry.entry
    c.remove_idle.new.self c.in_ok-entry.ensures.gives next same
    (subst (λ (n : NodeView). Obeys c.in_ok-entry.entry x n) (sym c.self-3.view_is) c.in_ok-obey.ensures.taken) c.remove_idle.ensures

pub returns-in_err-obey-clause-fault : goal.returns-in_err-obey-clause-fault
returns-in_err-obey-clause-fault c =
    let p = err_from_is_err_and c.from_residual-in_err-obey.result c.from_residual-in_err-obey.ensures.1 in
    let played : c.self-2.inside.replica.played ≡ c.args.self.now.replica.played =
    ap (λ (n : NodeView). n.replica.played) (c.self-2.view_is ∙ c.in_ok-enter.ensures) in
    rw (p.1, p.2)
    (play_fault c.args.self.now c.args.index c.args.bytes.now c.self-2.inside.replica c.in_err-obey.field-0.0 played
    c.in_err-obey.ensures.fault)
