use Rattle.std.proofs.Common.{◌≡◌, ℕ, ◌-◌, Bool, true, false, cond, sym, ap, subst, ◌∙◌, arith}
use Rattle.std.specs.FinSet.{contains, len, remove, len-remove}
use Rattle.zwatches.specs.Watches.{Watches}
use Rattle.zwatches.specs.support.Nested.{watch_at}
use Rattle.zwatches.specs.support.Shares.{AreCounted, Counts}
use Rattle.zwatches.proofs.Counts.{counted_less, removed_none, some_len}
use Rattle.zwatches.proofs.Order.{watches_total}
use Rattle.zwatches.proofs.counted.Counted.remove.Goals as goal

pub overflow_sub-self : goal.overflow_sub-self
overflow_sub-self c =
    let w = watch_at c.args.names.now c.args.slot in
    omega (arith, some_len c.self.inside.watches w (sym c.remove-was.ensures.was ∙ c.if-was.true), c.self.invariant.1)

pub invariant_of-self : goal.invariant_of-self
invariant_of-self c =
    let w = watch_at c.args.names.now c.args.slot in
    let table = c.self.inside.watches in
    let there : contains table w ≡ true = sym c.remove-was.ensures.was ∙ c.if-was.true in (
      subst (λ (t : Watches). AreCounted c.lower.new.self t) (sym c.remove-was.ensures.gone)
          (subst (λ (m : Counts). AreCounted m (remove table w)) (sym c.lower.ensures) (counted_less c.self.inside.shares table w there c.self.invariant.0)),
      ap (λ (n : ℕ). n - 1) c.self.invariant.1
          ∙ sym (len-remove watches_total table w ∙ ap (λ (b : Bool). cond b (len table - 1) (len table)) there)
          ∙ sym (ap len c.remove-was.ensures.gone),
    )

pub invariant_of-self-else-was : goal.invariant_of-self-else-was
invariant_of-self-else-was c =
    let w = watch_at c.args.names.now c.args.slot in
    let table = c.self.inside.watches in
    let absent : contains table w ≡ false = sym c.remove-was.ensures.was ∙ c.if-was.false in
    let same : c.remove-was.new.self ≡ table = c.remove-was.ensures.gone ∙ removed_none table w absent in
    (subst (λ (t : Watches). AreCounted c.self.inside.shares t) (sym same) c.self.invariant.0, c.self.invariant.1 ∙ sym (ap len same))
