-- A log that is played in two parts.
use Rattle.std.proofs.Common.{List, [], ◌∷◌, ◌++◌, refl, sym, ap, ◌∙◌, append_assoc}
use Rattle.zprotocol.specs.server.View.{PostOf}
use Rattle.zmaster_log.specs.Log.{State, entry_played, log_played}
use Rattle.zmaster_log.specs.Laws.{PartsAreOne}

module _ {T : Type 0} where
  -- what was sent before is put in front
  abbrev behind : List (PostOf T) → State × List (PostOf T) → State × List (PostOf T)
  behind posts rest = (rest.0, posts ++ rest.1)

  pub parts_are_one : PartsAreOne T
  parts_are_one state [] back = refl
  parts_are_one state (entry ∷ front) back =
      let first = entry_played {T = T} state entry in
      let here = log_played {T = T} first.0 front in
      let rest = log_played {T = T} here.0 back in
      ap (behind first.1) (parts_are_one first.0 front back)
      ∙ ap (λ (posts : List (PostOf T)). (rest.0, posts)) (sym (append_assoc first.1 here.1 rest.1))
