use Rattle.std.proofs.Common.{◌≡◌, map, take}
use Rattle.zpath.specs.Grammar.{text_of}
use Rattle.zfront.proofs.walking.texts_of.Given as goal

abbrev pub invariant-loop-path : goal.invariant-loop-path
invariant-loop-path l = l.texts.items ≡ map text_of (take l.path-index l.paths)
