use Rattle.std.proofs.Common.{◌≡◌, ap, sym, ◌∙◌, refl}
use Rattle.zpath.specs.Grammar.{text_of}
use Rattle.zpath.specs.Faults.{fault_of, names_of}
use Rattle.zpath.proofs.Spelling.{text_has_no_fault, names_of-text_of}
use Rattle.zrequests.proofs.Plain.{unread_bytes}
use Rattle.zrequests.proofs.words.path_in_bytes.Goals as goal

pub returns-in_default-clause-fault : goal.returns-in_default-clause-fault
returns-in_default-clause-fault c = unread_bytes c.args.bytes.now c.in_default.ensures.cases.0

pub returns-in-Ok-parse-clause-found : goal.returns-in-Ok-parse-clause-found
returns-in-Ok-parse-clause-found c =
    let path = c.in-Ok-parse.path in
    let is = c.in-Ok-parse.ensures.found in
    let same : c.args.bytes.now ≡ text_of path = sym c.in-Ok.ensures.cases.0 ∙ is.1 in
    let none = ap fault_of same ∙ text_has_no_fault path is.0 in
    let names = ap names_of same ∙ names_of-text_of path is.0 in
    rw (none, names) refl
