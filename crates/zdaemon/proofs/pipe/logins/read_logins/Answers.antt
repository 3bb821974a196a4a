use Rattle.std.proofs.Common.{rules, ◌≡◌, ◌∷◌, ℕ, subst}
use Rattle.zdaemon.specs.Guarded.{sized_text}
use Rattle.zdaemon.proofs.pipe.logins.read_logins.Goals as goal

pub returns-in_ok-read_text-in-1-clause-gave : goal.returns-in_ok-read_text-in-1-clause-gave
returns-in_ok-read_text-in-1-clause-gave g c =
    let is : c.in_ok-tag.tag ≡ 1 = search rules in
    subst (λ (tag : ℕ). g.S.Source.gave c.args.source.now (tag ∷ sized_text c.in_ok-read_text-in-1.field-0.items) c.read_text.new.source) is
    (g.met.S.Source.gave_both _ _ _ _ _ c.in_ok-tag.ensures c.in_ok-read_text-in-1.ensures.gave)
