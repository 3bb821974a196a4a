use mathlib.Core.Logic.{∥∥₁_map}
use Rattle.std.proofs.Common.{◌<◌, ◌++◌, true, refl, None, List, sym, subst, option_to_list, arith}
use Rattle.zprotocol.specs.declared.traces.trace.TraceEvent.{TraceEvent}
use Rattle.zprotocol.specs.declared.traces.stamp.TheConstants.{MAX_STAMP}
use Rattle.zthreads.specs.Endpoints.{Accounts, self_of, books_of}
use Rattle.zthreads.proofs.Deeds.{accounts_more, accounts_beside, beside_cut, more_cut}
use Rattle.zthreads.proofs.endpoint.Endpoint.enter.Goals as goal

pub returns-in-Ok-clause-stands : goal.returns-in-Ok-clause-stands
returns-in-Ok-clause-stands c s s' t posts h event =
    let d = c.args.self.now in
    let e : TraceEvent = record { stamp = c.args.stamp; act = c.args.act } in
    let reported = option_to_list c.args.reported in
    let early : c.args.stamp < MAX_STAMP = let n = c.number.ensures.same in let f = c.if-number-ge-MAX_STAMP.false in omega (arith, n, f) in
    c.tell.ensures.stands s' None posts (λ cut. ∥∥₁_map (h cut) (λ a.
    let m = accounts_more (self_of d) (books_of d) s s' t posts a.0 e reported a.1 (event early) in (
      m.0,
      subst (λ (tr : List TraceEvent). Accounts (self_of d)
          (record { ins = d.ins.items; outs = d.outs.items; trace = tr; reported = d.seen.items ++ reported; stamp = c.args.stamp; is_cut = d.is_cut })
          s' None posts m.0)
          (sym c.in-Ok.ensures.items) m.1,
    )))

pub returns-in-Ok-clause-beside : goal.returns-in-Ok-clause-beside
returns-in-Ok-clause-beside c s s' t posts h event =
    let d = c.args.self.now in
    let e : TraceEvent = record { stamp = c.args.stamp; act = c.args.act } in
    let reported = option_to_list c.args.reported in
    let early : c.args.stamp < MAX_STAMP = let n = c.number.ensures.same in let f = c.if-number-ge-MAX_STAMP.false in omega (arith, n, f) in
    c.tell.ensures.stands s' t posts (λ cut. ∥∥₁_map (h cut) (λ a.
    let m = accounts_beside (self_of d) (books_of d) s s' t posts a.0 e reported a.1 (event early) in (
      m.0,
      subst (λ (tr : List TraceEvent). Accounts (self_of d)
          (record { ins = d.ins.items; outs = d.outs.items; trace = tr; reported = d.seen.items ++ reported; stamp = c.args.stamp; is_cut = d.is_cut })
          s' t posts m.0)
          (sym c.in-Ok.ensures.items) m.1,
    )))

pub returns-then-not-self-clause-stands : goal.returns-then-not-self-clause-stands
returns-then-not-self-clause-stands c s s' t posts h event lost =
    let d = c.args.self.now in
    let e : TraceEvent = record { stamp = c.args.stamp; act = c.args.act } in
    let early : c.args.stamp < MAX_STAMP = let n = c.number.ensures.same in let f = c.if-number-ge-MAX_STAMP.false in omega (arith, n, f) in
    ∥∥₁_map (h lost) (λ a. more_cut (self_of d) (books_of d) s s' t posts a.0 e (option_to_list c.args.reported) d.trace.items
    d.seen.items d.is_cut (d.untraced c.if-not-self.true).0 a.1 (event early))

pub returns-then-not-self-clause-beside : goal.returns-then-not-self-clause-beside
returns-then-not-self-clause-beside c s s' t posts h event lost =
    let d = c.args.self.now in
    let e : TraceEvent = record { stamp = c.args.stamp; act = c.args.act } in
    let early : c.args.stamp < MAX_STAMP = let n = c.number.ensures.same in let f = c.if-number-ge-MAX_STAMP.false in omega (arith, n, f) in
    ∥∥₁_map (h lost) (λ a. beside_cut (self_of d) (books_of d) s s' t posts a.0 e (option_to_list c.args.reported) d.trace.items
    d.seen.items d.is_cut (d.untraced c.if-not-self.true).0 a.1 (event early))

pub returns-then-len-ge-MAX_EVENTS-clause-stands : goal.returns-then-len-ge-MAX_EVENTS-clause-stands
returns-then-len-ge-MAX_EVENTS-clause-stands c s s' t posts h event lost =
    let d = c.args.self.now in
    let e : TraceEvent = record { stamp = c.args.stamp; act = c.args.act } in
    let early : c.args.stamp < MAX_STAMP = let n = c.number.ensures.same in let f = c.if-number-ge-MAX_STAMP.false in omega (arith, n, f) in
    ∥∥₁_map (h lost) (λ a. more_cut (self_of d) (books_of d) s s' t posts a.0 e (option_to_list c.args.reported) d.trace.items
    d.seen.items true refl a.1 (event early))

pub returns-then-len-ge-MAX_EVENTS-clause-beside : goal.returns-then-len-ge-MAX_EVENTS-clause-beside
returns-then-len-ge-MAX_EVENTS-clause-beside c s s' t posts h event lost =
    let d = c.args.self.now in
    let e : TraceEvent = record { stamp = c.args.stamp; act = c.args.act } in
    let early : c.args.stamp < MAX_STAMP = let n = c.number.ensures.same in let f = c.if-number-ge-MAX_STAMP.false in omega (arith, n, f) in
    ∥∥₁_map (h lost) (λ a. beside_cut (self_of d) (books_of d) s s' t posts a.0 e (option_to_list c.args.reported) d.trace.items
    d.seen.items true refl a.1 (event early))

pub returns-in-Err-clause-stands : goal.returns-in-Err-clause-stands
returns-in-Err-clause-stands c s s' t posts h event lost =
    let d = c.args.self.now in
    let e : TraceEvent = record { stamp = c.args.stamp; act = c.args.act } in
    let early : c.args.stamp < MAX_STAMP = let n = c.number.ensures.same in let f = c.if-number-ge-MAX_STAMP.false in omega (arith, n, f) in
    ∥∥₁_map (h lost) (λ a. more_cut (self_of d) (books_of d) s s' t posts a.0 e (option_to_list c.args.reported)
    c.push.new.self.items d.seen.items true refl a.1 (event early))

pub returns-in-Err-clause-beside : goal.returns-in-Err-clause-beside
returns-in-Err-clause-beside c s s' t posts h event lost =
    let d = c.args.self.now in
    let e : TraceEvent = record { stamp = c.args.stamp; act = c.args.act } in
    let early : c.args.stamp < MAX_STAMP = let n = c.number.ensures.same in let f = c.if-number-ge-MAX_STAMP.false in omega (arith, n, f) in
    ∥∥₁_map (h lost) (λ a. beside_cut (self_of d) (books_of d) s s' t posts a.0 e (option_to_list c.args.reported)
    c.push.new.self.items d.seen.items true refl a.1 (event early))
