-- The bytes of a name, wherever they lie.
use Rattle.std.specs.Prelude.{ℕ, List, string_bytes}
use Rattle.zpath.specs.declared.text.Text.{Text}
use Rattle.zpath.specs.declared.text.Text.TheVariants.{Short, Long}

abbrev pub bytes_of : Text → List ℕ
bytes_of (Short text) = text.bytes
bytes_of (Long text) = string_bytes text
