-- The world: what every process holds, what is on every channel, who has failed, and what callers
-- saw. Servers fail-stop. The master detects failures, and doesn't fail. It is over any machine.
use Rattle.std.specs.Prelude.{ℕ, Bool, false, ◌==◌, if◌then◌else◌, []}
use Rattle.zprotocol.specs.server.Machine.{Does}
use Rattle.zprotocol.specs.server.View.{ServerView, opening_server}
use Rattle.zprotocol.specs.master.View.{MasterView, opening_master}
use Rattle.zprotocol.specs.client.View.{ClientView, opening_client}
use Rattle.zprotocol.specs.world.History.{History}
use Rattle.zprotocol.specs.world.Links.{Links}

-- the views of servers and clients by their numbers, and the master's view, which knows the number
-- of clients. Then the servers that have failed, the messages in flight, and what callers saw
pub record World (M : Type 0) : Type 0 where
  pub servers : ℕ → ServerView M
  pub clients : ℕ → ClientView
  pub master : MasterView
  pub failed : ℕ → Bool
  pub links : Links M
  pub history : History

-- a family with one value replaced
abbrev pub at : {V : Type 0} → ℕ → V → (ℕ → V) → ℕ → V
at n v family m = if m == n then v else family m

-- the initial world: the chain is s1, s2, .. up to the number of servers, neighbours have epoch 0,
-- and all other servers are spare. Every client knows the first server as head and the last as
-- tail. No server has failed and no message is in flight
abbrev pub opening_world : {M : Type 0} → Does M → ℕ → ℕ → World M
opening_world machine server_count client_count = record {
  servers = opening_server machine server_count;
  clients = opening_client server_count client_count;
  master = opening_master server_count client_count;
  failed = λ s. false;
  links = λ from to. [];
  history = [];
}
