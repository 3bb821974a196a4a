use Rattle.std.proofs.Common.{◌≡◌, ap, sym, ◌∙◌}
use Rattle.zpath.specs.Grammar.{text_of}
use Rattle.zpath.specs.Faults.{fault_of, IsMemoryOr}
use Rattle.zwire.specs.records.Fields.{path_from}
use Rattle.zwire.proofs.records_lemmas.Fields.{path_alien, path_unread, path_again}
use Rattle.zwire.proofs.records.field_reading.path_with.Goals as goal

pub returns-in_default : goal.returns-in_default
returns-in_default c = path_alien c.args.text.now c.in_default.ensures.cases.0

pub returns-in-Ok-parse : goal.returns-in-Ok-parse
returns-in-Ok-parse c =
    let path = c.in-Ok-parse.path in
    let is = c.in-Ok-parse.ensures.found in
    let same : c.args.text.now ≡ text_of path = sym c.in-Ok.ensures.cases.0 ∙ is.1 in
    ap path_from same ∙ path_again path is.0

pub returns-in-Err : goal.returns-in-Err
returns-in-Err c = path_unread c.args.text.now c.in-Err.fault c.unread.result reported c.unread.ensures.memory c.unread.ensures.other
  where
    reported : IsMemoryOr (fault_of c.args.text.now) c.in-Err.fault
    reported = rw c.in-Ok.ensures.cases.0 at c.in-Err.ensures.fault
