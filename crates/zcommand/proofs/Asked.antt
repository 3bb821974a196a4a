-- What is answered is what was asked for.
use Rattle.std.proofs.Common.{◌≡◌, ◌⊎◌, ℕ, inr, Result, Ok, Err, IfOk, IfErr}
use Rattle.zarguments.specs.declared.fault.WordsFault.{WordsFault}
use Rattle.zarguments.specs.declared.fault.WordsFault.TheVariants.{Memory}

pub asked-ok : (asked answer : Result ℕ WordsFault) → asked ≡ answer → IfOk answer (λ settings. asked ≡ Ok settings)
asked-ok asked (Ok settings) is = is
asked-ok asked (Err fault) is = tt

pub asked-err : (asked answer : Result ℕ WordsFault) → asked ≡ answer → IfErr answer (λ fault. (fault ≡ Memory) ⊎ (asked ≡ Err fault))
asked-err asked (Ok settings) is = tt
asked-err asked (Err fault) is = inr is
