-- Words of the worked examples.
use Rattle.std.specs.Prelude.{ℕ, ◌==◌, List, Result}
use Rattle.std.specs.List.{slice_split}
use Rattle.zarguments.specs.declared.fault.WordsFault.{WordsFault}
use Rattle.zcommand.specs.Asked.{settings_asked}

-- What a text's words, between spaces, ask for.
abbrev pub text_asked : List ℕ → Result ℕ WordsFault
text_asked text = settings_asked (slice_split (λ byte. byte == 0x20) text)
