use Rattle.std.proofs.Common.{◌≡◌, true, length, take, sym, subst, ◌∙◌, arith}
use Rattle.std.proofs.Math.Seq.{take-append_seam}
use Rattle.zworld.specs.Held.{world_of}
use Rattle.zworld.specs.Steps.{WorldView, CanWantMemoryToSettle, IsExplainedFromStart, world_in}
use Rattle.zworld.specs.support.Settled.{HasSettledBy}
use Rattle.zworld.specs.support.Stepped.{Settles}
use Rattle.zworld.specs.support.Past.{HasPast}
use Rattle.zworld.proofs.Going.{past_is_explained, past_stays}
use Rattle.zworld.proofs.Needs.{can_run_out_anyway}
use Rattle.zworld.proofs.Settled.{past_settles, settled_as_defined, quiet_is_rest}
use Rattle.zworld.proofs.world.World.settle_by.Goals as goal

pub returns-in-Ok-clause-settled : goal.returns-in-Ok-clause-settled
returns-in-Ok-clause-settled c =
    let old = c.self.inside in
    subst (λ (v : WorldView). HasSettledBy c.args.strict (world_in v) c.args.limit c.in-Ok.settled
    (world_of c.settle.new.self c.settle.new.seen.items)) c.self.view_is
    (settled_as_defined c.args.strict old.processes c.settle.new.self c.args.limit old.history.items c.settle.new.seen.items
    c.in-Ok.settled c.in-Ok.ensures.settled)

pub returns-in-Ok-clause-quiet : goal.returns-in-Ok-clause-quiet
returns-in-Ok-clause-quiet c quiet =
    let old = c.self.inside in
    let had = subst (λ b. HasPast old.is_restored old.has_forgotten b old.processes old.history.items) c.if-self.false c.self.invariant in
    quiet_is_rest c.args.strict old.is_restored old.has_forgotten old.processes c.settle.new.self c.args.limit
    old.history.items c.settle.new.seen.items had
    (subst (Settles c.args.strict old.processes c.settle.new.self c.args.limit old.history.items c.settle.new.seen.items)
    quiet c.in-Ok.ensures.settled)

pub returns-then-self-clause-explained : goal.returns-then-self-clause-explained
returns-then-self-clause-explained c = subst IsExplainedFromStart c.self.view_is (past_is_explained _ c.self.invariant)

pub invariant_of-self : goal.invariant_of-self
invariant_of-self c =
    let old = c.self.inside in
    let had = subst (λ b. HasPast old.is_restored old.has_forgotten b old.processes old.history.items) c.if-self.false c.self.invariant in
    subst (λ b. HasPast old.is_restored old.has_forgotten b c.settle.new.self c.settle.new.seen.items) (sym c.if-self.false)
    (past_settles c.args.strict old.is_restored old.has_forgotten old.processes c.settle.new.self c.args.limit
    old.history.items c.settle.new.seen.items c.in-Ok.settled had c.in-Ok.ensures.settled)

pub returns-in-Ok-clause-explained : goal.returns-in-Ok-clause-explained
returns-in-Ok-clause-explained c =
    let old = c.self.inside in
    let new : WorldView = record {
      held = c.settle.new.self;
      history = c.settle.new.seen.items;
      has_forgotten =
          old.has_forgotten;
      is_restored = old.is_restored;
      is_broken = old.is_broken;
    } in
    let had = subst (λ b. HasPast old.is_restored old.has_forgotten b old.processes old.history.items) c.if-self.false c.self.invariant in
    past_is_explained new
    (subst (λ b. HasPast old.is_restored old.has_forgotten b c.settle.new.self c.settle.new.seen.items) (sym c.if-self.false)
    (past_settles c.args.strict old.is_restored old.has_forgotten old.processes c.settle.new.self c.args.limit
    old.history.items c.settle.new.seen.items c.in-Ok.settled had c.in-Ok.ensures.settled))

pub returns-in-Err-clause-explained : goal.returns-in-Err-clause-explained
returns-in-Err-clause-explained c =
    let old = c.self.inside in
    let new : WorldView = record {
      held = c.settle.new.self;
      history = c.truncate.new.self.items;
      has_forgotten =
          old.has_forgotten;
      is_restored = old.is_restored;
      is_broken = true;
    } in
    let reported : c.len-reported.result ≡ length old.history.items = omega (arith, c.len-reported.ensures, old.history.ok) in
    let stays : c.truncate.new.self.items ≡ old.history.items =
    c.truncate.ensures.items ∙ (λ i. take (reported i) (c.in-Err.ensures.partly.1 i)) ∙ take-append_seam old.history.items c.in-Err.ensures.partly.0 in
    past_is_explained new (past_stays old.is_restored old.has_forgotten old.is_broken old.processes c.settle.new.self
    old.history.items c.truncate.new.self.items c.self.invariant stays)

pub returns-in-Err-clause-needed : goal.returns-in-Err-clause-needed
returns-in-Err-clause-needed c = λ whole.
    let old = c.self.inside in
    subst (λ (v : WorldView). CanWantMemoryToSettle (world_in v) c.args.limit) c.self.view_is
    (can_run_out_anyway old.processes old.history.items c.args.limit c.in-Err.ensures.needed)

pub invariant_of-self-in-Err : goal.invariant_of-self-in-Err
invariant_of-self-in-Err c =
    let old = c.self.inside in
    let reported : c.len-reported.result ≡ length old.history.items = omega (arith, c.len-reported.ensures, old.history.ok) in
    let stays : c.truncate.new.self.items ≡ old.history.items =
    c.truncate.ensures.items ∙ (λ i. take (reported i) (c.in-Err.ensures.partly.1 i)) ∙ take-append_seam old.history.items c.in-Err.ensures.partly.0 in
    past_stays old.is_restored old.has_forgotten old.is_broken old.processes c.settle.new.self old.history.items
    c.truncate.new.self.items c.self.invariant stays
