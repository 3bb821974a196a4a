use Rattle.std.proofs.Common.{refl, sym, ◌∙◌}
use Rattle.zops.proofs.session_calls.is_gone.Goals as goal

pub returns-in-None : goal.returns-in-None
returns-in-None c = rw (sym c.session.ensures ∙ c.in-None.is) refl
