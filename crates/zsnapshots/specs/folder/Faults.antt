-- When a text isn't read.
use Rattle.std.specs.Prelude.{ℕ, List}
use Rattle.zsnapshots.specs.declared.folder.fault.ReadFault.{ReadFault}
use Rattle.zsnapshots.specs.declared.folder.fault.ReadFault.TheVariants.{Memory, NotRecords}
use Rattle.zsnapshots.specs.folder.Texts.{IsNoText}

-- the text is as the fault says; Memory says nothing of it
abbrev pub IsReadFault : List ℕ → ReadFault → Type 0
IsReadFault text NotRecords = IsNoText text
IsReadFault text Memory = Unit {0}
