-- Worlds that are alike, field by field.
use Rattle.std.proofs.Common.{◌≡◌, ℕ, false}
use mathlib.Core.Path.{fun_ext}
use Rattle.zprotocol.specs.declared.process.Process.{Process}
use Rattle.zprotocol.specs.world.World.{World}
use Rattle.zprotocol.specs.world.Events.{has_failed}
use Rattle.zprotocol.specs.world.support.Alike.{IsAlike}

-- worlds are alike that agree field by field
pub alike_by : {M : Type 0} (v w : World M) → w.master ≡ v.master → w.history ≡ v.history
    → ((c : ℕ) → w.clients c ≡ v.clients c) → ((s : ℕ) → w.failed s ≡ v.failed s)
    → ((s : ℕ) → v.failed s ≡ false → v.servers s ≡ w.servers s)
    → ((from to : Process) → has_failed v to ≡ false → v.links from to ≡ w.links from to) → IsAlike v w
alike_by v w master history clients failed servers links = record {
  rest = λ i. record {
    servers = w.servers;
    clients = fun_ext clients i;
    master = master i;
    failed = fun_ext failed i;
    links = w.links;
    history = history i;
  };
  servers = servers;
  links = links;
}
