use Rattle.std.specs.BinaryHeap.{heap_items}
use Rattle.zprotocol.specs.traces.support.Places.{place_count}
use Rattle.zaudit.proofs.Heaps.{first_is_least, none_is_left, is_left, is_next}
use Rattle.zaudit.proofs.heads.next_event.Goals as goal

pub event_at-requires-clause-place : goal.event_at-requires-clause-place
event_at-requires-clause-place c =
    let t = c.args.traces.now in
    (first_is_least t c.args.read.now (place_count t) (c.in-Some.field-0-0, c.in-Some.place) (heap_items c.args.heads.now)
    (heap_items c.take_first.new.heads) c.requires.heads
    c.in-Some.ensures.first).0

pub event_at-requires-clause-left : goal.event_at-requires-clause-left
event_at-requires-clause-left c =
    let t = c.args.traces.now in
    is_left t c.args.read.now (c.in-Some.field-0-0, c.in-Some.place) (heap_items c.args.heads.now) (heap_items c.take_first.new.heads)
    c.requires.read c.requires.heads
    c.in-Some.ensures.first

pub returns-clause-next : goal.returns-clause-next
returns-clause-next c =
    let t = c.args.traces.now in
    is_next t c.args.read.now (c.in-Some.field-0-0, c.in-Some.place) (heap_items c.args.heads.now) (heap_items c.take_first.new.heads)
    c.event_at.result.now c.requires.read
    c.requires.heads c.in-Some.ensures.first c.event_at.ensures.event

pub returns-in_default-clause-none : goal.returns-in_default-clause-none
returns-in_default-clause-none c =
    let t = c.args.traces.now in
    none_is_left t c.args.read.now (place_count t) (heap_items c.args.heads.now) c.requires.heads c.in_default.ensures.none
