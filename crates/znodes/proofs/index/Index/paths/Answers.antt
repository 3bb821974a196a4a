use Rattle.std.proofs.Common.{[], Bool, List, sym, ap, subst, ◌∙◌}
use Rattle.std.specs.Prelude.{IsPermutation}
use Rattle.std.specs.List.{IsDistinct}
use Rattle.std.specs.FinMap as finite
use Rattle.zpath.specs.Grammar.{path_cmp}
use Rattle.znodes.proofs.index_lemmas.Finds.{Path, path_cmp_total, path_cmp_same, tied-names}
use Rattle.zslots.proofs.Listing.{sorted_keys}
use Rattle.znodes.proofs.index.Index.paths.Goals as goal

pub returns : goal.returns
returns c =
    let es = c.self.inside.ids.entries in
    let all = c.in_ok-paths.ensures.all in
    let apart = subst (λ (e : Path → Path → Bool). IsDistinct e c.in_ok-paths.paths.items)
    (sym (λ i p q. tied-names p q i)) c.in_ok-paths.ensures.apart in
    sorted_keys path_cmp path_cmp_total path_cmp_same es c.sort_unstable.new.self.items []
    (subst (IsDistinct _) all apart)
    (subst (λ (ks : List Path). IsPermutation ks c.sort_unstable.new.self.items) all
    c.sort_unstable.ensures.permutation)
    c.sort_unstable.ensures.sorted
    ∙ ap (λ v. finite.keys v.ids) c.self.view_is
