use Rattle.std.proofs.Common.{◌≡◌, length, sym, ap, ◌∙◌, arith, unwrap_or}
use Rattle.std.specs.FinMap.{remove}
use Rattle.std.specs.Option.{option_map}
use Rattle.zconnections.specs.buffers.support.Entries.{size_of}
use Rattle.zconnections.proofs.buffers_lemmas.Counting.{less-removed}
use Rattle.ztree.proofs.Entries.{remove-entries}
use Rattle.zconnections.proofs.buffers.table.StreamTable.remove.Goals as goal

pub invariant_of-self : goal.invariant_of-self
invariant_of-self c =
    let ok = c.old.inside.bytes.ok in
    let len = c.len.ensures in
    let size : length c.old.inside.bytes.items ≡ c.len.result = omega (arith, ok, len) in
    less-removed c.self.inside.rows.entries c.remove.new.self.entries c.args.connection c.self.inside.held c.self.invariant c.remove.ensures.ordered
    c.len.result c.remove.ensures.entries
    (ap (λ o. unwrap_or (option_map size_of o) 0) (sym c.remove.ensures.value ∙ c.in-Some.is) ∙ ap size_of (sym c.old.view_is) ∙ size)
    c.len.type_inv

pub returns-in-Some : goal.returns-in-Some
returns-in-Some c =
    remove-entries c.self.inside.rows.entries c.remove.new.self.entries c.args.connection c.remove.ensures.updates.0
    ∙ ap (λ m. remove m c.args.connection) c.self.view_is

pub returns-in_default : goal.returns-in_default
returns-in_default c =
    remove-entries c.self.inside.rows.entries c.remove.new.self.entries c.args.connection c.remove.ensures.updates.0
    ∙ ap (λ m. remove m c.args.connection) c.self.view_is
