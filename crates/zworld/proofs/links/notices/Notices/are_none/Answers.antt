use Rattle.std.proofs.Common.{◌≡◌, false, subst, sym, ◌∙◌, eqb-true}
use Rattle.zworld.specs.links.Places.{is_noted}
use Rattle.zworld.proofs.links_lemmas.Flags.{none_noted}
use Rattle.zworld.proofs.links.notices.Notices.are_none.Goals as goal

pub returns : goal.returns
returns c is p =
    subst (λ noted. is_noted noted p ≡ false) c.self.view_is
    (none_noted c.self.inside.noted (sym c.self.invariant ∙ eqb-true c.self.inside.count 0 is) p)
