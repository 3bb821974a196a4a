use Rattle.std.proofs.Common.{◌≡◌, rules, [], length, None, Some, sym, ap, ◌∙◌, arith}
use Rattle.std.specs.FinMap.{from_entries, get, insert}
use Rattle.std.specs.Option.{option_copied_mut, option_map_or}
use Rattle.zconnections.specs.buffers.Streams.{StreamView}
use Rattle.zconnections.specs.buffers.support.Entries.{size_of}
use Rattle.zconnections.proofs.buffers_lemmas.Changing.{changed-absent, changed-there}
use Rattle.zconnections.proofs.buffers_lemmas.Counting.{changed-counted}
use Rattle.ztree.proofs.Entries.{get-entries, insert-entries}
use Rattle.zconnections.proofs.buffers.table.StreamTable.swap.Goals as goal

pub returns-in_default-clause-bytes : goal.returns-in_default-clause-bytes
returns-in_default-clause-bytes c =
    let k = c.args.connection in
    let none : get c.args.self.now k ≡ None =
    ap (λ m. get m k) (sym c.self.view_is) ∙ get-entries c.self.inside.rows.entries k ∙ sym c.get_mut.ensures.value ∙ ap option_copied_mut c.in_default.is in
    c.new.ensures.items ∙ sym (ap (λ o. option_map_or (λ (s : StreamView). s.bytes) o []) none)

pub returns-in_default-clause-rest : goal.returns-in_default-clause-rest
returns-in_default-clause-rest c =
    let k = c.args.connection in
    let none : get c.args.self.now k ≡ None =
    ap (λ m. get m k) (sym c.self.view_is) ∙ get-entries c.self.inside.rows.entries k ∙ sym c.get_mut.ensures.value ∙ ap option_copied_mut c.in_default.is in
    ap (λ m. from_entries m.entries) c.get_mut.follows.holds-at-none ∙ c.self.view_is
    ∙ sym (changed-absent (λ s. record s { bytes = c.args.bytes.items }) c.args.self.now k none)

pub invariant_of-self-2 : goal.invariant_of-self-2
invariant_of-self-2 c =
    let w : StreamView = record { phase = c.stream.inside.phase; bytes = c.replace-old.new.dest.items } in
    let after = c.replace-old.ensures.after in
    let old_ok = c.replace-old.result.ok in
    let new_ok = c.args.bytes.ok in
    let len = c.len.ensures in
    let added = c.len-added.ensures in
    let old : length c.replace-old.result.items ≡ c.len.result = omega (arith, old_ok, len) in
    let new : length c.args.bytes.items ≡ c.len-added.result = omega (arith, new_ok, added) in
    changed-counted c.self.inside.rows.entries (c.get_mut.follows.lender w).entries c.args.connection c.self.inside.held c.self.invariant
    (c.get_mut.follows.holds w).4 c.in-Some.stream.now w c.len.result c.len-added.result
    (sym c.get_mut.ensures.value ∙ ap option_copied_mut c.in-Some.is) (c.get_mut.follows.holds w).0
    (ap size_of (sym c.stream.view_is) ∙ ap (λ v. length v.items) (sym c.replace-old.ensures.value) ∙ old)
    (ap (λ v. length v.items) after ∙ new) c.len.type_inv

pub returns-clause-bytes : goal.returns-clause-bytes
returns-clause-bytes c =
    let k = c.args.connection in
    let there : get c.args.self.now k ≡ Some c.in-Some.stream.now =
    ap (λ m. get m k) (sym c.self.view_is) ∙ get-entries c.self.inside.rows.entries k ∙ sym c.get_mut.ensures.value ∙ ap option_copied_mut c.in-Some.is in
    ap (λ v. v.items) c.replace-old.ensures.value ∙ ap (λ (s : StreamView). s.bytes) c.stream.view_is
    ∙ sym (ap (λ o. option_map_or (λ (s : StreamView). s.bytes) o []) there)

pub returns-clause-rest : goal.returns-clause-rest
returns-clause-rest c =
    let k = c.args.connection in
    let s = c.in-Some.stream.now in
    let w : StreamView = record { phase = c.stream.inside.phase; bytes = c.replace-old.new.dest.items } in
    let there : get c.args.self.now k ≡ Some s =
    ap (λ m. get m k) (sym c.self.view_is) ∙ get-entries c.self.inside.rows.entries k ∙ sym c.get_mut.ensures.value ∙ ap option_copied_mut c.in-Some.is in
    insert-entries c.self.inside.rows.entries (c.get_mut.follows.lender w).entries k w ((c.get_mut.follows.holds w).3 (search rules)).0
    ∙ (λ i. insert (c.self.view_is i) k (record (c.stream.view_is i) { bytes = (c.replace-old.ensures.after i).items }))
    ∙ sym (changed-there (λ t. record t { bytes = c.args.bytes.items }) c.args.self.now k s there)
