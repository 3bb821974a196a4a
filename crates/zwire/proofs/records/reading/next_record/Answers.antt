use Rattle.std.proofs.Common.{◌+◌, ◌-◌, length, take, drop, refl, arith}
use Rattle.zwire.proofs.records_lemmas.Lines.{no_end, cut_at_first}
use Rattle.zwire.proofs.records_lemmas.Faults.{none_without_end, none_undecoded, none_unread, some_read}
use Rattle.zwire.proofs.records.reading.next_record.Goals as goal

pub returns-in_default-clause-none : goal.returns-in_default-clause-none
returns-in_default-clause-none c = none_without_end c.args.text.now (no_end c.args.text.now (λ j below. c.in_default.ensures j (omega arith) below))

pub returns-in-Err-DecodeError-clause-none : goal.returns-in-Err-DecodeError-clause-none
returns-in-Err-DecodeError-clause-none c =
    let text = c.args.text.now in
    let place = c.in-Some.place in
    let split = cut_at_first text place (λ j below. c.in-Some.ensures.0.before j (omega arith) below) c.in-Some.ensures.0.high c.in-Some.ensures.1 in
    let bad = rw c.in-Err-DecodeError.field-0-is at c.in-Err-DecodeError.ensures.err in
    none_undecoded text (take place text) (take (length text - (place + 1)) (drop (place + 1) text)) c.in-Err-DecodeError.field-0-0 split.line split.whole bad

pub returns-in-Ok-whole_record-clause-some : goal.returns-in-Ok-whole_record-clause-some
returns-in-Ok-whole_record-clause-some c =
    let text = c.args.text.now in
    let place = c.in-Some.place in
    let split = cut_at_first text place (λ j below. c.in-Some.ensures.0.before j (omega arith) below) c.in-Some.ensures.0.high c.in-Some.ensures.1 in
    let read = rw c.deref.ensures.value at c.in-Ok-whole_record.ensures in
    some_read text (take place text) (take (length text - (place + 1)) (drop (place + 1) text)) c.in-Ok.bytes.items c.in-Ok-whole_record.record split.whole (c.in-Ok.ensures.exact (refl, refl)) c.in-Ok.ensures.bytes read

pub returns-clause-none : goal.returns-clause-none
returns-clause-none c =
    let text = c.args.text.now in
    let place = c.in-Some.place in
    let split = cut_at_first text place (λ j below. c.in-Some.ensures.0.before j (omega arith) below) c.in-Some.ensures.0.high c.in-Some.ensures.1 in
    let failed = rw c.in-Err-Fault.field-0-is at c.in-Err-Fault.ensures in
    let bad = rw c.deref.ensures.value at failed in
    none_unread text (take place text) (take (length text - (place + 1)) (drop (place + 1) text)) c.in-Ok.bytes.items c.in-Err-Fault.field-0-0 split.line split.whole c.in-Ok.ensures.ok bad
