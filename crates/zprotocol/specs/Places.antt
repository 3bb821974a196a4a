-- The order of processes: the master, then the servers, then the clients, each by number. Settling
-- delivers messages in this order, and traces are merged in it.
use Rattle.std.specs.Prelude.{ℕ, ◌+◌, ◌-◌, ◌==◌, Bool, ◌&&◌, nat_lt, nat_le, if◌then◌else◌}
use Rattle.ztree.specs.declared.limits.TheConstants.{MAX_CLIENTS}
use Rattle.zprotocol.specs.declared.limits.TheConstants.{MAX_SERVERS, PROCESSES}
use Rattle.zprotocol.specs.declared.process.Process.{Process}
use Rattle.zprotocol.specs.declared.process.Process.TheVariants.{Master, Server, Client}

-- the number is that of a server
abbrev pub is_server : ℕ → Bool
is_server s = nat_lt 0 s && nat_le s MAX_SERVERS

-- the position of a process in the order; a number that is no process comes after all of them
abbrev pub place_of : Process → ℕ
place_of Master = 0
place_of (Server s) = if is_server s then s else PROCESSES
place_of (Client c) = if nat_lt c MAX_CLIENTS then MAX_SERVERS + 1 + c else PROCESSES

-- the process at a position in the order
abbrev pub process_at : ℕ → Process
process_at place =
    if place == 0 then Master else
    if nat_le place MAX_SERVERS then Server place else
    Client (place - (MAX_SERVERS + 1))
