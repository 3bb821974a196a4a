use Rattle.std.proofs.Common.{◌≡◌, ℕ, ◌+◌, ◌-◌, false, eqb, sym, ap, subst, ◌∙◌, arith}
use Rattle.std.specs.FinSet.{contains, insert, len}
use Rattle.zwatches.specs.declared.watch.Watch.{Watch}
use Rattle.zwatches.specs.Watches.{Watches}
use Rattle.zwatches.specs.support.Nested.{watch_at}
use Rattle.zwatches.specs.support.Shares.{AreCounted, Counts, changed_by}
use Rattle.zwatches.proofs.Counts.{counted_again, counted_more}
use Rattle.zwatches.proofs.Kept.{len-one_more, len-retain-le}
use Rattle.zwatches.proofs.counted.Counted.insert.Goals as goal

pub raise-requires : goal.raise-requires
raise-requires c =
    let k = c.args.slot.connection in
    omega (arith, c.self.invariant.0 k, len-retain-le (λ (w : Watch). eqb w.connection k) c.self.inside.watches, ap len c.self.view_is, c.requires.room)

pub invariant_of-self-in-Ok : goal.invariant_of-self-in-Ok
invariant_of-self-in-Ok c =
    let w = watch_at c.args.names.now c.args.slot in
    let table = c.self.inside.watches in
    let absent : contains table w ≡ false = ap (λ (t : Watches). contains t w) c.self.view_is ∙ c.requires.absent in (
      subst (λ (t : Watches). AreCounted c.raise.new.self t) (sym c.in-Ok.ensures.ok)
          (subst (λ (m : Counts). AreCounted m (insert table w)) (sym c.in_ok-raise.ensures.ok) (counted_more c.self.inside.shares table w absent c.self.invariant.0)),
      ap (λ (n : ℕ). n + 1) c.self.invariant.1 ∙ sym (len-one_more table w absent) ∙ sym (ap len c.in-Ok.ensures.ok),
    )

pub invariant_of-self-in-Err : goal.invariant_of-self-in-Err
invariant_of-self-in-Err c =
    let k = c.args.slot.connection in
    let table = c.self.inside.watches in (
      subst (λ (t : Watches). AreCounted c.lower.new.self t) (sym c.in-Err.ensures.err)
          (subst (λ (m : Counts). AreCounted m table) (sym (c.lower.ensures ∙ ap (λ (m : Counts). changed_by (λ (n : ℕ). n - 1) m k) c.in_ok-raise.ensures.ok))
          (counted_again c.self.inside.shares table k c.self.invariant.0)),
      c.self.invariant.1 ∙ sym (ap len c.in-Err.ensures.err),
    )
