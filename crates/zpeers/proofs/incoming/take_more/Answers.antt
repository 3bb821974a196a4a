use Rattle.std.proofs.Common.{◌≡◌, ℕ, Some, subst, arith}
use Rattle.zpeers.specs.declared.tags.TheConstants.{END}
use Rattle.zpeers.specs.Incoming.{Accepts, IsFaultAt}
use Rattle.zpeers.proofs.incoming.take_more.Goals as goal

pub returns-in-Ok-clause-accepted : goal.returns-in-Ok-clause-accepted
returns-in-Ok-clause-accepted c = λ own from.
    let is : END ≡ c.args.tag = omega arith in
    subst (λ (tag : ℕ). Accepts own from (record { tag = tag; bytes = c.args.bytes.now }) c.args.slot.now c.take_end.new.slot (Some c.in-Ok.message))
    is (c.in-Ok.ensures.accepted own from)

pub returns-in-Err-clause-fault : goal.returns-in-Err-clause-fault
returns-in-Err-clause-fault c = λ own from.
    let is : END ≡ c.args.tag = omega arith in
    subst (λ (tag : ℕ). IsFaultAt own from (record { tag = tag; bytes = c.args.bytes.now }) c.args.slot.now c.in-Err.fault) is
    (c.in-Err.ensures.fault own from)
