use Rattle.std.proofs.Common.{arith}
use Rattle.zsnapshots.specs.States.{written_of}
use Rattle.zsnapshots.proofs.Written.{row_room}
use Rattle.zsnapshots.proofs.writing.Writing.write_next.Goals as goal

pub overflow_add-self : goal.overflow_add-self
overflow_add-self c =
    let room = row_room c.self.inside.keys (written_of c.self.inside.keys.is_alone c.self.inside.machine.now.state) c.self.inside.written
    c.args.out.now.items c.write_row.new.out.items c.self.invariant.rows (c.in_ok-more.ensures.row c.if-more.true) in
    omega (arith, room)
