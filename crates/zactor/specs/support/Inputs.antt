-- What holds of every input.
use Rattle.std.specs.Prelude.{◌≡◌, true}
use Rattle.zprotocol.specs.Places.{is_server}
use Rattle.zprotocol.specs.master.Order.{server_of}
use Rattle.zactor.specs.declared.input.Input.{Input}
use Rattle.zactor.specs.declared.input.Input.TheVariants.{Obey}

-- an order is about a server
abbrev pub IsInRange : Input → Type 0
IsInRange (Obey order) = is_server (server_of order) ≡ true
IsInRange input = Unit {0}
