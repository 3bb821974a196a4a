-- Which line reports a fault of words, by its exit status.
use Rattle.std.proofs.Common.{◌≡◌, codes, refl, arith}
use Rattle.zarguments.specs.Words.{words_fault_text, words_fault_status}
use Rattle.zarguments.specs.declared.fault.WordsFault.{WordsFault}
use Rattle.zarguments.specs.declared.fault.WordsFault.TheVariants.{Memory, BadWords}

pub text-status_2 : (fault : WordsFault) → words_fault_status fault ≡ 2 → words_fault_text fault ≡ codes "zk: bad words"
text-status_2 Memory e = absurd (omega (arith, e))
text-status_2 BadWords e = refl

pub bad-status_2 : (fault : WordsFault) → words_fault_status fault ≡ 2 → fault ≡ BadWords
bad-status_2 Memory e = absurd (omega (arith, e))
bad-status_2 BadWords e = refl
