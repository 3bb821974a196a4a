-- The faults of a program's words: this project's profile.
use Rattle.std.specs.Prelude.{ℕ, List, codes}
use Rattle.std_io.specs.declared.io.kind.ErrorKind.{ErrorKind}
use Rattle.std_io.specs.declared.io.kind.ErrorKind.TheVariants.{OutOfMemory}
use Rattle.zarguments.specs.declared.fault.WordsFault.{WordsFault}
use Rattle.zarguments.specs.declared.fault.WordsFault.TheVariants.{Memory, BadWords}

-- The text of a fault of words.
abbrev pub words_fault_text : WordsFault → List ℕ
words_fault_text Memory = codes "zk: memory"
words_fault_text BadWords = codes "zk: bad words"

-- The exit status that it ends with.
abbrev pub words_fault_status : WordsFault → ℕ
words_fault_status Memory = 1
words_fault_status BadWords = 2

-- Why a program's words could not be read: one that is not text is a bad word.
abbrev pub fault_of_kind : ErrorKind → WordsFault
fault_of_kind OutOfMemory = Memory
fault_of_kind _ = BadWords
