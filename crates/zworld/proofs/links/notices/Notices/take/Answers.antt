use Rattle.std.proofs.Common.{◌≡◌, ◌<◌, false, true, length, get_or, sym, ap, ◌∙◌, arith}
use Rattle.zprotocol.specs.declared.process.Process.TheVariants.{Master}
use Rattle.zprotocol.specs.world.Links.{is_same}
use Rattle.zprotocol.proofs.world_lemmas.Tests.{both}
use Rattle.zworld.specs.links.Places.{is_noted}
use Rattle.zworld.specs.links.support.Counts.{share}
use Rattle.zworld.proofs.links_lemmas.Counts.{passing-set}
use Rattle.zworld.proofs.links.notices.Notices.take.Goals as goal

-- the notice that is taken was counted
pub overflow_sub-self : goal.overflow_sub-self
overflow_sub-self c =
    let set : get_or c.self.inside.noted c.number.result false ≡ true =
    ap (λ n. get_or c.self.inside.noted n false) c.number.ensures.same
    ∙ ap (λ noted. get_or noted c.in-Server.server false) c.self.view_is
    ∙ ap (is_noted c.args.self.now) (sym c.in-Server.is)
    ∙ (both (is_noted c.args.self.now c.args.from.now) (is_same c.args.to.now Master) (sym c.is_between.ensures ∙ c.if-not-is_between.false)).0 in
    let one : share (get_or c.self.inside.noted c.number.result false) ≡ 1 = ap share set in
    let within : c.number.result < length c.self.inside.noted = omega (arith, c.self.told, c.number.ensures.small) in
    let counted = passing-set (λ noted. noted) c.self.inside.noted c.number.result false false within in
    omega (arith, c.self.invariant, one, counted)

pub invariant_of-self : goal.invariant_of-self
invariant_of-self c =
    let set : get_or c.self.inside.noted c.number.result false ≡ true =
    ap (λ n. get_or c.self.inside.noted n false) c.number.ensures.same
    ∙ ap (λ noted. get_or noted c.in-Server.server false) c.self.view_is
    ∙ ap (is_noted c.args.self.now) (sym c.in-Server.is)
    ∙ (both (is_noted c.args.self.now c.args.from.now) (is_same c.args.to.now Master) (sym c.is_between.ensures ∙ c.if-not-is_between.false)).0 in
    let one : share (get_or c.self.inside.noted c.number.result false) ≡ 1 = ap share set in
    let within : c.number.result < length c.self.inside.noted = omega (arith, c.self.told, c.number.ensures.small) in
    let counted = passing-set (λ noted. noted) c.self.inside.noted c.number.result false false within in
    omega (arith, c.self.invariant, one, counted)
