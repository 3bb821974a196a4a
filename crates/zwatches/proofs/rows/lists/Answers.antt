use Rattle.std.proofs.Common.{[], ◌∷◌, sym, ap, ◌∙◌, arith, true≢false}
use Rattle.std.specs.FinSet.{contains, contains-from_list}
use Rattle.std.proofs.lemmas.Cmp.{nat_cmp_total}
use Rattle.std.proofs.lemmas.Map.Keys.{IsStrictlyIncreasing-from_sorted}
use Rattle.zwatches.proofs.rows.lists.Goals as goal

pub returns : goal.returns
returns c = record {
  twice = λ lists. omega (arith, IsStrictlyIncreasing-from_sorted (1 ∷ 1 ∷ []) lists.rising 0 (omega arith));
  falling = λ lists. omega (arith, IsStrictlyIncreasing-from_sorted (2 ∷ 1 ∷ []) lists.rising 0 (omega arith));
  another = λ lists. true≢false (sym (contains-from_list nat_cmp_total (1 ∷ []) 1) ∙ ap (λ s. contains s 1) (sym lists.same) ∙ contains-from_list nat_cmp_total [] 1);
}
