use Rattle.std.proofs.Common.{false, cond, Option, Some, sym, ap, ◌∙◌}
use Rattle.std.specs.Prelude.{is_some}
use Rattle.std.specs.BTreeMap.{is_at}
use Rattle.std.specs.BTreeSet.{BTreeSet, keys}
use Rattle.std.specs.Option.{option_copied_mut}
use Rattle.std.specs.Ordering.{eq_by_cmp}
use Rattle.zpath.specs.Grammar.{path_cmp}
use Rattle.zwatches.specs.Watches.{Path}
use Rattle.zwatches.specs.support.Nested.{one_of}
use Rattle.zwatches.proofs.ByConnection.{path_removed}
use Rattle.zwatches.proofs.by_connection.ByConnection.remove.Goals as goal

pub returns-in-Some : goal.returns-in-Some
returns-in-Some c = λ k q.
    let at = c.args.path.now in
    let left = c.remove.new.self in
    let now = c.get_mut.follows.lender left in
    let is = sym c.get_mut.ensures.value ∙ ap option_copied_mut c.in-Some.is in
    let written = c.get_mut.follows.holds left in
    let updates = written.3 (ap is_some is) in
    path_removed c.args.self.now.paths.entries now.entries c.args.connection (Some left) updates.0 at
    (λ q.
    c.remove.ensures.updates.0 q
    ∙ ap (λ (o : Option (BTreeSet Path)). cond (is_at (path_cmp at) q) false (one_of o keys (eq_by_cmp path_cmp q))) (sym is)) k q
