use Rattle.std.proofs.Common.{◌∙◌, sym, ap}
use Rattle.zpath.specs.Grammar.{is_reserved}
use Rattle.zpath.proofs.Splits.{parts_of-cut, parts_of-uncut}
use Rattle.zpath.proofs.scan.is_reserved.Goals as goal

pub returns-in-Some : goal.returns-in-Some
returns-in-Some c = c.eq.ensures ∙ sym (ap is_reserved (parts_of-cut _ _ _ c.split_once.ensures.cases c.in-Some.is))

pub returns-in-None : goal.returns-in-None
returns-in-None c = c.eq-in-None.ensures ∙ sym (ap is_reserved (parts_of-uncut _ _ c.split_once.ensures.cases c.in-None.is))
