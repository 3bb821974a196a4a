use Rattle.std.proofs.Common.{◌≡◌, take, string_bytes}
use Rattle.zwire.specs.records.Records.{AllFit, text_of}
use Rattle.zwire.proofs.records.writing.lines.Given as goal

abbrev pub invariant-loop-record : goal.invariant-loop-record
invariant-loop-record l = record { text : string_bytes l.text ≡ text_of (take l.record-index l.records); fit : AllFit (take l.record-index l.records) }
