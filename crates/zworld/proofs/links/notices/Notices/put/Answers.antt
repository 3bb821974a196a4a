use Rattle.std.proofs.Common.{◌≡◌, false, true, get_or, ap, ◌∙◌, arith}
use Rattle.zworld.specs.links.support.Counts.{share}
use Rattle.zworld.proofs.links_lemmas.Counts.{passing-set, passing_le}
use Rattle.zworld.proofs.links.notices.Notices.put.Goals as goal

pub overflow_add-self : goal.overflow_add-self
overflow_add-self c = omega (arith, c.self.invariant, passing_le (λ noted. noted) c.self.inside.noted, c.self.told)

pub invariant_of-self : goal.invariant_of-self
invariant_of-self c =
    let unset : share (get_or c.self.inside.noted c.number.result false) ≡ 0 =
    ap (λ noted. share (get_or noted c.number.result false)) c.self.view_is
    ∙ ap (λ n. share (get_or c.args.self.now n false)) c.number.ensures.same ∙ ap share c.requires in
    omega (
      arith,
      c.self.invariant,
      unset,
      passing-set (λ noted. noted) c.self.inside.noted c.number.result true false (omega (arith, c.self.told, c.number.ensures.small)),
    )
