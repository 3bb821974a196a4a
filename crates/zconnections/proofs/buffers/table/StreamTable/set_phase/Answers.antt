use Rattle.std.proofs.Common.{◌≡◌, rules, None, Some, sym, ap, ◌∙◌}
use Rattle.std.specs.FinMap.{from_entries, get, insert}
use Rattle.std.specs.Option.{option_copied_mut}
use Rattle.zconnections.specs.buffers.Streams.{StreamView}
use Rattle.zconnections.specs.buffers.support.Entries.{size_of}
use Rattle.zconnections.proofs.buffers_lemmas.Changing.{changed-absent, changed-there}
use Rattle.zconnections.proofs.buffers_lemmas.Counting.{same-changed}
use Rattle.ztree.proofs.Entries.{get-entries, insert-entries}
use Rattle.zconnections.proofs.buffers.table.StreamTable.set_phase.Goals as goal

pub returns-in_default : goal.returns-in_default
returns-in_default c =
    let k = c.args.connection in
    let none : get c.args.self.now k ≡ None =
    ap (λ m. get m k) (sym c.self.view_is) ∙ get-entries c.self.inside.rows.entries k ∙ sym c.get_mut.ensures.value ∙ ap option_copied_mut c.in_default.is in
    ap (λ m. from_entries m.entries) c.get_mut.follows.holds-at-none ∙ c.self.view_is
    ∙ sym (changed-absent (λ s. record s { phase = c.args.phase }) c.args.self.now k none)

pub invariant_of-self-2 : goal.invariant_of-self-2
invariant_of-self-2 c =
    let w : StreamView = record { phase = c.args.phase; bytes = c.stream.inside.bytes.items } in
    same-changed c.self.inside.rows.entries (c.get_mut.follows.lender w).entries c.args.connection c.self.inside.held c.self.invariant
    (c.get_mut.follows.holds w).4 c.in-Some.stream.now w
    (sym c.get_mut.ensures.value ∙ ap option_copied_mut c.in-Some.is) (c.get_mut.follows.holds w).0 (ap size_of c.stream.view_is)

pub returns : goal.returns
returns c =
    let k = c.args.connection in
    let s = c.in-Some.stream.now in
    let w : StreamView = record { phase = c.args.phase; bytes = c.stream.inside.bytes.items } in
    let found = sym c.get_mut.ensures.value ∙ ap option_copied_mut c.in-Some.is in
    let there : get c.args.self.now k ≡ Some s = ap (λ m. get m k) (sym c.self.view_is) ∙ get-entries c.self.inside.rows.entries k ∙ found in
    insert-entries c.self.inside.rows.entries (c.get_mut.follows.lender w).entries k w ((c.get_mut.follows.holds w).3 (search rules)).0
    ∙ (λ i. insert (c.self.view_is i) k (record (c.stream.view_is i) { phase = c.args.phase }))
    ∙ sym (changed-there (λ t. record t { phase = c.args.phase }) c.args.self.now k s there)
