use Rattle.std.proofs.Common.{◌≡◌, length, sym, ap, ◌∙◌, arith, unwrap_or}
use Rattle.std.specs.FinMap.{insert}
use Rattle.std.specs.Option.{option_map}
use Rattle.zconnections.specs.buffers.Streams.{StreamView}
use Rattle.zconnections.specs.buffers.support.Entries.{size_of}
use Rattle.zconnections.proofs.buffers_lemmas.Counting.{less-inserted, same-inserted}
use Rattle.ztree.proofs.Entries.{insert-entries}
use Rattle.zconnections.proofs.buffers.table.StreamTable.insert.Goals as goal

pub invariant_of-self-in-Some : goal.invariant_of-self-in-Some
invariant_of-self-in-Some c =
    let v : StreamView = record { phase = c.args.phase; bytes = c.new.result.items } in
    let ok = c.old.inside.bytes.ok in
    let len = c.len.ensures in
    let size : length c.old.inside.bytes.items ≡ c.len.result = omega (arith, ok, len) in
    less-inserted c.self.inside.rows.entries c.insert.new.self.entries c.args.connection c.self.inside.held c.self.invariant
    c.in_ok-old.ensures.ordered v c.len.result c.in_ok-old.ensures.entries (ap length c.new.ensures.items)
    (ap (λ o. unwrap_or (option_map size_of o) 0) (sym c.in_ok-old.ensures.old ∙ c.in-Some.is) ∙ ap size_of (sym c.old.view_is) ∙ size)
    c.len.type_inv

pub invariant_of-self-in_default : goal.invariant_of-self-in_default
invariant_of-self-in_default c =
    let v : StreamView = record { phase = c.args.phase; bytes = c.new.result.items } in
    same-inserted c.self.inside.rows.entries c.insert.new.self.entries c.args.connection c.self.inside.held c.self.invariant
    c.in_ok-old.ensures.ordered v c.in_ok-old.ensures.entries (ap length c.new.ensures.items) (sym c.in_ok-old.ensures.old ∙ c.in_default.is)

pub returns-in-Some-clause-ok : goal.returns-in-Some-clause-ok
returns-in-Some-clause-ok c =
    let k = c.args.connection in
    let v : StreamView = record { phase = c.args.phase; bytes = c.new.result.items } in
    insert-entries c.self.inside.rows.entries c.insert.new.self.entries k v c.in_ok-old.ensures.updates.0
    ∙ (λ i. insert (c.self.view_is i) k (record { phase = c.args.phase; bytes = c.new.ensures.items i }))

pub returns-in_default-clause-ok : goal.returns-in_default-clause-ok
returns-in_default-clause-ok c =
    let k = c.args.connection in
    let v : StreamView = record { phase = c.args.phase; bytes = c.new.result.items } in
    insert-entries c.self.inside.rows.entries c.insert.new.self.entries k v c.in_ok-old.ensures.updates.0
    ∙ (λ i. insert (c.self.view_is i) k (record { phase = c.args.phase; bytes = c.new.ensures.items i }))
