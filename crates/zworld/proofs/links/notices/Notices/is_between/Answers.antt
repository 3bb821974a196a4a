use Rattle.std.proofs.Common.{◌≡◌, false, sym, ap, ◌∙◌}
use Rattle.std.specs.Prelude.{◌&&◌}
use Rattle.zprotocol.specs.declared.process.Process.TheVariants.{Master}
use Rattle.zprotocol.specs.world.Links.{is_same}
use Rattle.zworld.specs.links.Places.{is_noted}
use Rattle.zworld.proofs.links_lemmas.Flags.{none_noted}
use Rattle.zworld.proofs.links.notices.Notices.is_between.Goals as goal

pub returns-then-self-eq0 : goal.returns-then-self-eq0
returns-then-self-eq0 c =
    let none : is_noted c.args.self.now c.args.from.now ≡ false =
    ap (λ noted. is_noted noted c.args.from.now) (sym c.self.view_is)
    ∙ none_noted c.self.inside.noted (sym c.self.invariant ∙ c.if-self-eq0.true) c.args.from.now in
    ap (λ b. b && is_same c.args.to.now Master) (sym none)
