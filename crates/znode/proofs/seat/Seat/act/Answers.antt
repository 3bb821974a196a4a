use Rattle.std.proofs.Common.{ap, sym, ◌∙◌}
use Rattle.zactor.specs.Acting.{has_stopped}
use Rattle.znode.specs.Node.{SeatView}
use Rattle.znode.proofs.node_lemmas.Hearing.{has_no_fault, is_server_still}
use Rattle.znode.proofs.seat.Seat.act.Goals as goal

pub returns-in-Err-clause-stopped : goal.returns-in-Err-clause-stopped
returns-in-Err-clause-stopped c =
    ap (λ (s : SeatView). has_stopped s.standing) (sym c.self.view_is)
    ∙ has_no_fault c.self.inside.actor c.args.from c.args.message c.args.out.now.room c.in-Err.field-0 c.self.invariant c.in-Err.ensures.fault

pub invariant_of-self-2 : goal.invariant_of-self-2
invariant_of-self-2 c =
    is_server_still c.self.inside.actor c.act-acted.new.self c.args.from c.args.message c.args.out.now c.act-acted.new.out c.in-Ok.done
    c.self.invariant c.in-Ok.ensures.acted
