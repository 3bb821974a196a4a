-- What a line means: a call, or an event of the chain. The grammar is this project's profile.
use Rattle.std.specs.Prelude.{ℕ, List, [], ◌∷◌, codes, Option, None, Some, Ok, Err, if◌then◌else◌}
use Rattle.std.specs.Option.{option_map}
use Rattle.std.specs.Str.{bytes_eq}
use Rattle.zprotocol.specs.declared.master.order.Order.TheVariants as order
use Rattle.zprotocol.specs.declared.process.Process.{Process}
use Rattle.zscript_text.specs.declared.line.Line.{Line}
use Rattle.zscript_text.specs.declared.line.Line.TheVariants.{Call, Begin, Take, Ignore, Fail, Order, Retry, Settle}
use Rattle.zscript_text.specs.declared.request.LineFault.TheVariants.{BadLine}
use Rattle.zscript_text.specs.LineWords.{Word, words_of, is_malformed, client_of}
use Rattle.zscript_text.specs.ProcessWords.{server_of, client_process_of, process_of}
use Rattle.zscript_text.specs.Request.{Read, then_read, read_of, request_in}

-- the two processes, if both words named one
abbrev pub both : Option Process → Option Process → Option (Process × Process)
both (Some from) (Some to) = Some (from, to)
both from to = None

-- a link, by its sender and its receiver
abbrev pub link_in : List Word → Option (Process × Process)
link_in (from ∷ (to ∷ [])) = both (process_of from) (process_of to)
link_in words = None

-- take FROM TO
abbrev pub take_in : List Word → Option Line
take_in words = option_map (λ (from, to). Take from to) (link_in words)

-- ignore FROM TO
abbrev pub ignore_in : List Word → Option Line
ignore_in words = option_map (λ (from, to). Ignore from to) (link_in words)

-- the server that a lone word names
abbrev pub lone_server_in : List Word → Option ℕ
lone_server_in (server ∷ []) = server_of server
lone_server_in words = None

-- fail SERVER
abbrev pub fail_in : List Word → Option Line
fail_in words = option_map Fail (lone_server_in words)

-- the orders of lines
abbrev pub Join : ℕ → Line
Join server = Order (order.Join server)

abbrev pub Retire : ℕ → Line
Retire server = Order (order.Retire server)

-- join SERVER
abbrev pub join_in : List Word → Option Line
join_in words = option_map Join (lone_server_in words)

-- retire SERVER
abbrev pub retire_in : List Word → Option Line
retire_in words = option_map Retire (lone_server_in words)

-- retry CLIENT, where the client is named as a process
abbrev pub retry_in : List Word → Option Line
retry_in (client ∷ []) = option_map Retry (client_process_of client)
retry_in words = None

-- settle, without further words
abbrev pub settle_in : List Word → Option Line
settle_in [] = Some Settle
settle_in words = None

-- a client's command, which runs until its reply; after `begin`, it is only invoked
abbrev pub client_line_in : ℕ → List Word → Read Line
client_line_in client [] = Err BadLine
client_line_in client (verb ∷ words) =
    if bytes_eq verb (codes "begin") then then_read (request_in client words) (λ request. Ok (Begin request)) else
    then_read (request_in client (verb ∷ words)) (λ request. Ok (Call request))

-- the meaning of the words of a line
abbrev pub line_in : List Word → Read Line
line_in [] = Err BadLine
line_in (word ∷ words) =
    if bytes_eq word (codes "take") then read_of (take_in words) else
    if bytes_eq word (codes "ignore") then read_of (ignore_in words) else
    if bytes_eq word (codes "fail") then read_of (fail_in words) else
    if bytes_eq word (codes "join") then read_of (join_in words) else
    if bytes_eq word (codes "retire") then read_of (retire_in words) else
    if bytes_eq word (codes "retry") then read_of (retry_in words) else
    if bytes_eq word (codes "settle") then read_of (settle_in words) else
    then_read (read_of (client_of word)) (λ client. client_line_in client words)

-- the meaning of a line
unfoldable pub line_of : List ℕ → Read Line
line_of line = if is_malformed line then Err BadLine else line_in (words_of line)
