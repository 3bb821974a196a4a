-- Words of the worked examples.
use Rattle.std.specs.Prelude.{ℕ, ◌==◌, List, [], ◌∷◌, Option, codes}
use Rattle.std.specs.List.{slice_split}
use Rattle.clap.specs.Walk.{Text}
use Rattle.zarguments.specs.Asked.{asked_of}

-- What a text's words, between spaces, give to `race [--clients N] [--rounds N]`.
abbrev pub race_asked : Text → Option (List ℕ)
race_asked text = asked_of (codes "race") ((codes "clients", codes "4") ∷ (codes "rounds", codes "100") ∷ [])
    (slice_split (λ byte. byte == 0x20) text)
