-- Which line reports a fault of words, as one of a play, by its exit status.
use Rattle.std.proofs.Common.{◌≡◌, refl, arith}
use Rattle.zscript.specs.Outcome.{play_fault_text}
use Rattle.zscript.specs.declared.fault.PlayFault.TheVariants as play
use Rattle.zarguments.specs.Words.{words_fault_text, words_fault_status}
use Rattle.zarguments.specs.declared.fault.WordsFault.{WordsFault}
use Rattle.zarguments.specs.declared.fault.WordsFault.TheVariants.{Memory, BadWords}

pub text-status_1 : (fault : WordsFault) → words_fault_status fault ≡ 1 → words_fault_text fault ≡ play_fault_text play.Memory
text-status_1 Memory e = refl
text-status_1 BadWords e = absurd (omega (arith, e))
