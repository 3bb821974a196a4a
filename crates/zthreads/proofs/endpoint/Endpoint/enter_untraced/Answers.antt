use mathlib.Core.Logic.{∥∥₁_map}
use Rattle.std.proofs.Common.{◌<◌, arith}
use Rattle.zprotocol.specs.declared.traces.trace.TraceEvent.{TraceEvent}
use Rattle.zprotocol.specs.declared.traces.stamp.TheConstants.{MAX_STAMP}
use Rattle.zthreads.specs.Endpoints.{self_of, books_of}
use Rattle.zthreads.proofs.Deeds.{beside_cut, more_cut}
use Rattle.zthreads.proofs.endpoint.Endpoint.enter_untraced.Goals as goal

pub returns-then-number-lt-MAX_STAMP-clause-stands : goal.returns-then-number-lt-MAX_STAMP-clause-stands
returns-then-number-lt-MAX_STAMP-clause-stands c act reported s s' t posts h event lost =
    let d = c.args.self.now in
    let e : TraceEvent = record { stamp = c.args.stamp; act = act } in
    let early : c.args.stamp < MAX_STAMP = let n = c.number.ensures.same in let f = c.if-number-lt-MAX_STAMP.true in omega (arith, n, f) in
    ∥∥₁_map (h lost) (λ a. more_cut (self_of d) (books_of d) s s' t posts a.0 e reported d.trace.items d.seen.items d.is_cut
    (d.untraced c.requires).0 a.1 (event early))

pub returns-then-number-lt-MAX_STAMP-clause-beside : goal.returns-then-number-lt-MAX_STAMP-clause-beside
returns-then-number-lt-MAX_STAMP-clause-beside c act reported s s' t posts h event lost =
    let d = c.args.self.now in
    let e : TraceEvent = record { stamp = c.args.stamp; act = act } in
    let early : c.args.stamp < MAX_STAMP = let n = c.number.ensures.same in let f = c.if-number-lt-MAX_STAMP.true in omega (arith, n, f) in
    ∥∥₁_map (h lost) (λ a. beside_cut (self_of d) (books_of d) s s' t posts a.0 e reported d.trace.items d.seen.items d.is_cut
    (d.untraced c.requires).0 a.1 (event early))
