use Rattle.std.proofs.Common.{true, cond, Option, Some, sym, ap, ◌∙◌}
use Rattle.std.specs.Prelude.{is_some}
use Rattle.std.specs.BTreeMap.{is_at}
use Rattle.std.specs.BTreeSet.{BTreeSet, keys}
use Rattle.std.specs.Option.{option_copied_mut}
use Rattle.std.specs.Ordering.{eq_by_cmp}
use Rattle.zpath.specs.Grammar.{path_cmp}
use Rattle.zwatches.specs.Watches.{Path}
use Rattle.zwatches.specs.support.Nested.{one_of}
use Rattle.zwatches.proofs.ByConnection.{path_added}
use Rattle.zwatches.proofs.by_connection.ByConnection.add.Goals as goal

pub returns-in-Some-clause-ok : goal.returns-in-Some-clause-ok
returns-in-Some-clause-ok c = λ k q.
    let at = c.args.path in
    let left = c.insert.new.self in
    let now = c.get_mut.follows.lender left in
    let is = sym c.get_mut.ensures.value ∙ ap option_copied_mut c.in-Some.is in
    let written = c.get_mut.follows.holds left in
    let updates = written.3 (ap is_some is) in
    path_added c.args.self.now.paths.entries now.entries c.args.connection (Some left) updates.0 at
    (λ q.
    c.in_ok-insert.ensures.updates.0 q
    ∙ ap (λ (o : Option (BTreeSet Path)). cond (is_at (path_cmp at) q) true (one_of o keys (eq_by_cmp path_cmp q))) (sym is)) k q
