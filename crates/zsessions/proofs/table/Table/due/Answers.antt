use Rattle.std.proofs.Common.{ℕ, List, sym, ap, ◌∙◌}
use mathlib.Core.Path.{subst}
use Rattle.std.specs.List.Sorted.{IsPermutation}
use Rattle.ztree.specs.Sessions.{due_sessions}
use Rattle.zslots.specs.Lists.{IsList}
use Rattle.zsessions.specs.Deadlines.{NoneLate}
use Rattle.zsessions.specs.support.TableView.{TableView}
use Rattle.zsessions.specs.support.Rows.{bucket, bucket_number, row_links}
use Rattle.zsessions.proofs.Due.{due-sorted}
use Rattle.zsessions.proofs.table.Table.due.Goals as goal

pub reached-requires : goal.reached-requires
reached-requires c =
    let t = c.self.inside in
    let family = c.self.invariant.listed (bucket_number c.args.tick) in
    (family.0, subst (λ k. IsList row_links t.rows.items (bucket t.buckets k) family.0) (sym c.place.ensures.same) family.1)

pub returns : goal.returns
returns c =
    let t = c.self.inside in
    let family = c.self.invariant.listed (bucket_number c.args.tick) in
    let list = subst (λ k. IsList row_links t.rows.items (bucket t.buckets k) family.0) (sym c.place.ensures.same) family.1 in
    let late = subst (λ (v : TableView). NoneLate v.sessions c.args.tick) (sym c.self.view_is) c.requires.none_late in
    let moved = subst (λ (found : List ℕ). IsPermutation found c.sort_unstable.new.self.items) (c.in_ok-ids.ensures family.0 list) c.sort_unstable.ensures.permutation in
    due-sorted t.ids.entries t.rows.items t.buckets c.args.tick c.self.invariant late family.0 family.1.no_two (λ id e. (family.2 id).1 e) c.sort_unstable.new.self.items moved c.sort_unstable.ensures.sorted
    ∙ ap (λ (v : TableView). due_sessions v.sessions c.args.tick) c.self.view_is
