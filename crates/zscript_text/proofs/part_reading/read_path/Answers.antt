use Rattle.std.proofs.Common.{ap, ◌∙◌, refl, rules}
use Rattle.zpath.specs.Faults.{fault_of, names_of}
use Rattle.zpath.proofs.Spelling.{text_has_no_fault, names_of-text_of}
use Rattle.zscript_text.proofs.part_reading.read_path.Goals as goal

pub returns-in-Ok-clause-found : goal.returns-in-Ok-clause-found
returns-in-Ok-clause-found c =
    let path = c.in-Ok.path in
    let is = c.in-Ok.ensures.found in
    let none = ap fault_of is.1 ∙ text_has_no_fault path is.0 in
    let names = ap names_of is.1 ∙ names_of-text_of path is.0 in
    rw (none, names) refl

pub returns-in-Err : goal.returns-in-Err
returns-in-Err c = search rules
