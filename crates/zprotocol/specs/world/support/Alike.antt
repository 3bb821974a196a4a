-- Worlds that are equal but for what can't matter any more: the views of failed servers, and the
-- messages on channels into them. Among all such worlds one has dropped those.
use Rattle.std.specs.Prelude.{◌≡◌, ℕ, false}
use Rattle.zprotocol.specs.declared.process.Process.{Process}
use Rattle.zprotocol.specs.world.World.{World}
use Rattle.zprotocol.specs.world.Events.{has_failed}

-- the worlds are equal up to failed servers
pub record IsAlike {M : Type 0} (v w : World M) : Type 0 where
  -- except for servers and channels they are the same
  pub rest : w ≡ record v { servers = w.servers; links = w.links }
  -- the views of the servers that have not failed are the same
  pub servers : (s : ℕ) → v.failed s ≡ false → v.servers s ≡ w.servers s
  -- and so are the channels into processes that have not failed
  pub links : (from to : Process) → has_failed v to ≡ false → v.links from to ≡ w.links from to
