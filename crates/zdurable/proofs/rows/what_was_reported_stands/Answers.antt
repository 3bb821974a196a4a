use Rattle.std.proofs.Common.{refl, inl, inr, [], ◌∷◌}
use Rattle.zcalls.specs.declared.call.Call.TheVariants as call
use Rattle.zcalls.specs.declared.call.Update.TheVariants.{Tick}
use Rattle.zdurable.proofs.rows.what_was_reported_stands.Goals as goal

pub returns-clause-under_way : goal.returns-clause-under_way
returns-clause-under_way c r = (Tick ∷ [], inr refl, (call.Update Tick, r) ∷ [], refl, [], [], refl, refl, (refl, refl))

pub returns-clause-not_at_all : goal.returns-clause-not_at_all
returns-clause-not_at_all c = ([], inl refl, [], refl, [], [], refl, refl, (refl, refl))
