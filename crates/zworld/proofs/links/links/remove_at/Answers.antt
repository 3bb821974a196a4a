use Rattle.std.proofs.Common.{◌≡◌, length, arith, sym, ap, ◌∙◌}
use Rattle.std.specs.List.{remove}
use Rattle.zworld.proofs.links_lemmas.Sorted.{remove_last}
use Rattle.zworld.proofs.links.links.remove_at.Goals as goal

-- the last one is removed
pub returns-clause-items : goal.returns-clause-items
returns-clause-items g c =
    let here : length c.pop.new.self.items ≡ c.args.at = omega (arith, c.requires, c.if-at-len.false, c.len.ensures, c.in-Some.ensures.cases) in
    sym (ap (λ channels. remove channels c.args.at) c.in-Some.ensures.items ∙ remove_last c.pop.new.self.items c.in-Some.last c.args.at here)
