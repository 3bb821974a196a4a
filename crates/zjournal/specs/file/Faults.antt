-- The message for a folder that isn't opened.
use Rattle.std.specs.Prelude.{ℕ, List, codes}
use Rattle.zjournal.specs.declared.file.fault.FileFault.{FileFault}
use Rattle.zjournal.specs.declared.file.fault.FileFault.TheVariants.{Memory, InUse, NotFile, Denied, NoParent}
use Rattle.zjournal.specs.declared.file.fault.FileFault.TheVariants.{DanglingLink, LongName, NoDescriptor, NoLock, Parts, Io}

abbrev pub fault_text : FileFault → List ℕ
fault_text Memory = codes "memory"
fault_text InUse = codes "the folder is in use"
fault_text NotFile = codes "not a folder with a regular file"
fault_text Denied = codes "the rights are missing"
fault_text NoParent = codes "the folder above is missing"
fault_text DanglingLink = codes "the folder is a link to nothing"
fault_text LongName = codes "the name is too long"
fault_text NoDescriptor = codes "no file descriptor is left"
fault_text NoLock = codes "the file system has no locks"
fault_text Parts = codes "a part of the journal is missing"
fault_text Io = codes "the disk failed"
