use mathlib.Core.Logic.{∥∥₁_map}
use Rattle.std.proofs.Common.{List, sym, subst}
use Rattle.zprotocol.specs.declared.traces.trace.TraceEvent.{TraceEvent}
use Rattle.zprotocol.specs.world.History.{History}
use Rattle.zthreads.specs.Endpoints.{Accounts, self_of, books_of}
use Rattle.zthreads.proofs.endpoint.Endpoint.reserve.Goals as goal

pub returns-then-is_err-clause-keeps : goal.returns-then-is_err-clause-keeps
returns-then-is_err-clause-keeps c s t waits h cut =
    let d = c.args.self.now in
    ∥∥₁_map (h cut) (λ a. (
      a.0,
      subst (λ (l : List TraceEvent). Accounts (self_of d) (record (books_of d) { trace = l }) s t waits a.0)
          (sym c.reserve.ensures.items) a.1,
    ))

pub returns-clause-keeps : goal.returns-clause-keeps
returns-clause-keeps c s t waits h cut =
    let d = c.args.self.now in
    ∥∥₁_map (h cut) (λ a. (
      a.0,
      subst (λ (r : History). Accounts (self_of d) (record (books_of d) { trace = c.reserve.new.self.items; reported = r }) s t waits a.0)
          (sym c.reserve-2.ensures.items)
          (subst (λ (l : List TraceEvent). Accounts (self_of d) (record (books_of d) { trace = l }) s t waits a.0) (sym c.reserve.ensures.items) a.1),
    ))
