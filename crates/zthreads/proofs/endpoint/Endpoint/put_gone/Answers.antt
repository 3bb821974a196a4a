use mathlib.Core.Logic.{∥∥₁_map}
use Rattle.std.proofs.Common.{◌<◌, [], refl, length, arith}
use Rattle.zprotocol.specs.declared.message.Message.TheVariants as message
use Rattle.zprotocol.specs.declared.process.Process.TheVariants.{Master}
use Rattle.zthreads.specs.Endpoints.{self_of, books_of}
use Rattle.atomic_table.proofs.Lists.{at_index}
use Rattle.zthreads.proofs.Wires.{out_more}
use Rattle.zthreads.proofs.endpoint.Endpoint.put_gone.Goals as goal

pub returns-in_default-clause-stands : goal.returns-in_default-clause-stands
returns-in_default-clause-stands c s t h cut =
    let d = c.args.self.now in
    let old = c.index_mut.result.now in
    let lt : 0 < length d.outs.items = let n = c.len.ensures in let o = d.outs.ok in let f = c.if-len-eq0.false in omega arith in
    let at = at_index d.outs.items 0 old lt c.index_mut.ensures.value in
    ∥∥₁_map (h cut) (λ a. (
      a.0,
      out_more (self_of d) (books_of d) s a.0 t Master message.Gone [] 0 old c.put_last.new.self
          a.1 at refl c.in_default.ensures.ok,
    ))
