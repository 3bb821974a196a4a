-- Two machines that have memory.
use Rattle.std.specs.Prelude.{◌≡◌, false}
use Rattle.zfolder_drill.specs.declared.pair.Pair.{Pair}

abbrev pub IsWhole : Pair → Type 0
IsWhole p = (p.machine.is_broken ≡ false) × (p.again.is_broken ≡ false)
