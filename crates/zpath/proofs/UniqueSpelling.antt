-- The laws of the spelling.
use Rattle.std.proofs.Common.{sym, ap, ◌∙◌}
use Rattle.zpath.specs.Faults.{names_of, fault_of}
use Rattle.zpath.specs.Laws.{SpellsOnePath, IsFaultless}
use Rattle.zpath.proofs.Spelling.{path_from_text, text_has_no_fault, names_of-text_of}

pub spells_one_path : SpellsOnePath
spells_one_path left right is_left is_right same =
    sym (names_of-text_of left is_left) ∙ ap names_of same ∙ names_of-text_of right is_right

pub is_faultless : IsFaultless
is_faultless text = (
  λ none. let is = path_from_text text none in (names_of text, is.0, is.1),
  λ path. ap fault_of path.2 ∙ text_has_no_fault path.0 path.1,
)
