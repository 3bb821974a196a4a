use Rattle.std.proofs.Common.{◌≡◌, ℕ, refl, ap}
use Rattle.std.specs.Ordering.{nat_cmp}
use Rattle.std.specs.FinMap.{get-empty}
use Rattle.ztree.specs.Tree.{Tree}
use Rattle.zcalls.specs.declared.call.Update.{Update}
use Rattle.zcalls.specs.Cached.{nothing_cached, entry_by, act_result, entry_step}
use Rattle.zcalls.specs.Step.{step}
use Rattle.zprotocol.specs.server.Laws.{first_entry}
use Rattle.zprotocol.proofs.server.laws.machine_does_the_plain_step.Goals as goal

-- a client's first entry acts, since nothing is cached
acts : (t : Tree) (client : ℕ) (update : Update)
    → entry_step step (nothing_cached t) (first_entry client update) ≡ act_result step (nothing_cached t) (first_entry client update)
unfolding entry_step
acts t client update = ap (entry_by step (nothing_cached t) (first_entry client update)) (get-empty nat_cmp client)

pub returns : goal.returns
returns c = record {
  start = refl;
  first_update = λ t client update. ap (λ did. did.0.plain) (acts t client update);
  first_reply = λ t client update. ap (λ did. did.1) (acts t client update);
  query = λ s query. refl;
}
