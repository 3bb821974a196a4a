use Rattle.std.proofs.Common.{List, ℕ, ap, subst, ◌∙◌}
use Rattle.std.specs.Prelude.{IsPermutation, nat_eq}
use Rattle.std.specs.List.{IsDistinct}
use Rattle.std.specs.FinMap as finite
use Rattle.zsessions.specs.support.TableView.{TableView}
use Rattle.zsessions.proofs.Listed.{ids-sorted}
use Rattle.zsessions.proofs.table.Table.ids.Goals as goal

pub returns : goal.returns
returns c =
    let t = c.self.inside in
    let all = c.in_ok-ids.ensures.all in
    ids-sorted t.ids.entries t.rows.items t.buckets c.self.invariant c.sort_unstable.new.self.items
    (subst (λ (ks : List ℕ). IsDistinct nat_eq ks) all c.in_ok-ids.ensures.apart)
    (subst (λ (ks : List ℕ). IsPermutation ks c.sort_unstable.new.self.items) all
    c.sort_unstable.ensures.permutation)
    c.sort_unstable.ensures.sorted
    ∙ ap (λ (v : TableView). finite.keys v.sessions) c.self.view_is
