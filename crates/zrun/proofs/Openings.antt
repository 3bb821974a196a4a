-- The standing of each process at the opening.
use Rattle.std.proofs.Common.{◌≡◌, ◌<◌, ◌≤◌, ℕ, zero, suc, true, List, [], ◌∷◌, refl, sym, subst, lt-ltb, arith}
use Rattle.std.specs.Prelude.{All}
use mathlib.Core.Option.{some-injective, some-ne-none}
use Rattle.std.proofs.lemmas.Bool.Decides.{nat_tests}
use Rattle.std.proofs.lemmas.List.Elements.{All-head, All-tail}
use Rattle.zprotocol.specs.declared.limits.TheConstants.{MAX_SERVERS}
use Rattle.zprotocol.specs.declared.process.Process.TheVariants.{Master, Server, Client}
use Rattle.zprotocol.specs.server.Machine.{cached_tree}
use Rattle.zprotocol.specs.server.View.{opening_server}
use Rattle.zprotocol.specs.master.View.{opening_master}
use Rattle.zprotocol.specs.client.View.{opening_client}
use Rattle.zprotocol.specs.Places.{is_server}
use Rattle.zprotocol.specs.world.Does.{AtMaster, AtServer, AtClient}
use Rattle.zthreads.specs.Endpoints.{Each, opening_of}

pub master_opening : (last clients : ℕ) → opening_of last clients Master ≡ AtMaster (opening_master last clients)
unfolding opening_of
master_opening last clients = refl

-- a server's number is one of theirs
pub server_is : (s : ℕ) → 0 < s → s ≤ MAX_SERVERS → is_server s ≡ true
server_is s some few = grind (arith, nat_tests, some, few)

pub server_opening : (last clients s : ℕ) → is_server s ≡ true → opening_of last clients (Server s) ≡ AtServer (opening_server cached_tree last s)
unfolding opening_of
server_opening last clients s is = rw is refl

pub client_opening : (last clients c : ℕ) → c < clients → opening_of last clients (Client c) ≡ AtClient (opening_client last clients c)
unfolding opening_of
client_opening last clients c lt = rw (lt-ltb c clients lt) refl

-- what is true of all is true of each
pub all_each : {X : Type 0} (P : X → Type 0) (xs : List X) → All P xs → Each (λ i x. P x) xs
all_each P [] all i x at = absurd (some-ne-none x (sym at))
all_each P (y ∷ ys) all zero x at = subst P (some-injective y x at) (All-head P y ys all)
all_each P (y ∷ ys) all (suc i) x at = all_each P ys (All-tail P y ys all) i x at
