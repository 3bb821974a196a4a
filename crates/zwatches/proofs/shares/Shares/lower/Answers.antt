use Rattle.std.proofs.Common.{ℕ, ◌-◌, cond, Some, sym, ap, ◌∙◌}
use Rattle.std.specs.BTreeMap.{is_at}
use Rattle.std.specs.Map.{lookup}
use Rattle.std.specs.Option.{option_copied_mut}
use Rattle.std.specs.Ordering.{nat_cmp}
use Rattle.zwatches.specs.contracts.shares.Shares.{the_view}
use Rattle.zwatches.specs.support.Shares.{changed_by}
use Rattle.zwatches.proofs.Counts.{changed-entries, unchanged-entries}
use Rattle.zwatches.proofs.shares.Shares.lower.Goals as goal
use Rattle.zwatches.proofs.shares.Shares.lower.Goals.{in-Some, in_default}

pub returns : goal.returns
returns c =
    let es = c.self.inside.counts.entries in
    let k = c.args.connection in
    let less = λ (n : ℕ). n - c.args.gone in
    elim c.match-get_mut.branch [
      | in-Some w ↦
          ap the_view w.self-inside-is
          ∙ changed-entries less es _ k w.in-Some.count.now
          (sym c.get_mut.ensures.value ∙ ap option_copied_mut w.in-Some.is)
          (λ some q. ((c.get_mut.follows.holds w.saturating_sub.result).3 some).0 q
          ∙ ap (λ (n : ℕ). cond (is_at (nat_cmp k) q) (Some n) (lookup (is_at (nat_cmp q)) es)) w.saturating_sub.ensures)
          ∙ ap (λ m. changed_by less m k) c.self.view_is
      | in_default w ↦
          ap the_view w.self-inside-is
          ∙ unchanged-entries less es _ k
          (sym c.get_mut.ensures.value ∙ ap option_copied_mut w.in_default.is)
          (ap (λ m. m.entries) c.get_mut.follows.holds-at-none)
          ∙ ap (λ m. changed_by less m k) c.self.view_is
    ]
