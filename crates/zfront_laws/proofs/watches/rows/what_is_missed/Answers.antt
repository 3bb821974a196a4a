use Rattle.std.proofs.Common.{◌∷◌, [], refl, ap, inl}
use Rattle.std.specs.Prelude.{codes, int_lt, pos}
use Rattle.ztree.specs.support.Samples.{at_a}
use Rattle.zpath.specs.Faults.{fault_of}
use Rattle.zresponses.specs.Stats.{long_of}
use Rattle.zfront_laws.specs.watches.Watching.{Names}
use Rattle.zfront_laws.proofs.watches.rows.what_is_missed.Goals as goal

-- /a is named
names_a : Names (codes "/a" ∷ []) at_a
unfolding fault_of
names_a = (codes "/a", inl refl, refl)

pub returns-clause-written : goal.returns-clause-written
returns-clause-written c = λ nodes n found is. (names_a, (n, found, ap (λ z. int_lt (pos 1) (long_of z)) is))

pub returns-clause-gone : goal.returns-clause-gone
returns-clause-gone c = λ nodes none. (inl names_a, none)
