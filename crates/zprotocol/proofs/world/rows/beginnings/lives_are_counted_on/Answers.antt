use Rattle.std.proofs.Common.{refl, inl, arith}
use Rattle.zprotocol.proofs.world.rows.beginnings.lives_are_counted_on.Goals as goal

pub returns : goal.returns
returns c = record {
  history = λ a r. refl;
  order = λ a. refl;
  up_to = λ a few. let less = few (record { client = 1; number = 2; call = a }) (inl refl) in omega (arith, less);
  from_one = λ a some. let more = some (record { client = 1; number = 0; call = a }) (inl refl) in omega (arith, more);
  leaves = λ t u. refl;
}
