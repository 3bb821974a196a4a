-- The words for processes. They are this project's profile.
use Rattle.std.specs.Prelude.{ℕ, ◌&&◌, drop, codes, nat_eq, nat_lt, nat_le, Option, None, Some, if◌then◌else◌}
use Rattle.std.specs.Option.{option_map}
use Rattle.std.specs.List.{starts_with}
use Rattle.std.specs.Str.{bytes_eq}
use Rattle.zprotocol.specs.declared.limits.TheConstants.{MAX_SERVERS}
use Rattle.zprotocol.specs.declared.process.Process.{Process}
use Rattle.zprotocol.specs.declared.process.Process.TheVariants.{Master, Server, Client}
use Rattle.zscript_text.specs.LineWords.{Word, number_of, client_of}

-- the server with this number, if there is one
abbrev pub server_numbered : Option ℕ → Option ℕ
server_numbered None = None
server_numbered (Some n) = if nat_lt 0 n && nat_le n MAX_SERVERS then Some n else None

-- the server that a word names: `s1` to `s16`
abbrev pub server_of : Word → Option ℕ
server_of word = if starts_with nat_eq word (codes "s") then server_numbered (number_of (drop 1 word)) else None

-- the client that a word names as a process: `c0` to `c31`
abbrev pub client_process_of : Word → Option ℕ
client_process_of word = if starts_with nat_eq word (codes "c") then client_of (drop 1 word) else None

-- the process that a word names: `m` for the master, else a server or a client
abbrev pub process_of : Word → Option Process
process_of word =
    if bytes_eq word (codes "m") then Some Master else
    if starts_with nat_eq word (codes "s") then option_map Server (server_of word) else
    option_map Client (client_process_of word)
