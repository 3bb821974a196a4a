use Rattle.std.proofs.Common.{List, ap, map, sym, ℕ, ◌∙◌}
use Rattle.std.specs.Ordering.{nat_cmp}
use Rattle.zcalls.specs.Cached.{Cached}
use Rattle.zsnapshots.proofs.Keys.{entries-empty}
use Rattle.zsnapshots.proofs.row_keys.RowKeys.of_tree.Goals as goal

pub with_clients-requires-clause-clients : goal.with_clients-requires-clause-clients
with_clients-requires-clause-clients c =
    c.new.ensures.items ∙ sym (ap (λ (es : List (ℕ × Cached)). map (λ e. e.0) es) (entries-empty nat_cmp))
