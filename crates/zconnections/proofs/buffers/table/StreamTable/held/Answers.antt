use Rattle.std.proofs.Common.{◌≡◌, sym, ap, ◌∙◌, arith}
use Rattle.zconnections.specs.buffers.Streams.{held_of}
use Rattle.zconnections.specs.buffers.support.Entries.{size_of_all}
use Rattle.zconnections.proofs.buffers_lemmas.Counting.{held-rising}
use Rattle.zconnections.proofs.buffers.table.StreamTable.held.Goals as goal

pub returns : goal.returns
returns c few =
    let es = c.self.inside.rows.entries in
    let all : held_of c.args.self.now ≡ size_of_all es = ap held_of (sym c.self.view_is) ∙ held-rising es c.self.invariant.order in
    let count = c.self.invariant.count in
    omega (arith, all, count, few)
