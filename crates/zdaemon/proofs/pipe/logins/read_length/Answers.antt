use Rattle.std.proofs.Common.{ℕ, List, subst, sym}
use Rattle.zdaemon.proofs.pipe.logins.read_length.Goals as goal

pub returns : goal.returns
returns g c =
    subst (λ (bytes : List ℕ). g.S.Source.gave c.args.source.now bytes c.fill.new.source) (sym c.number.ensures) c.in_ok-fill.ensures.gave
