-- Where a server may run out of memory: only at a message that makes it grow. If there is no memory
-- for a query, the query is lost. At any other message the server stops.
use Rattle.std.specs.Prelude.{Bool, true, false, ◌&&◌, ◌||◌, not, nat_lt, length}
use Rattle.zprotocol.specs.declared.message.Message.TheVariants as message
use Rattle.zprotocol.specs.declared.process.Process.{Process}
use Rattle.zprotocol.specs.server.Machine.{Does}
use Rattle.zprotocol.specs.server.View.{ServerView, MessageOf}
use Rattle.zprotocol.specs.server.Table.{ServerResult, server_step}

-- the message is a query of a client
abbrev pub is_query : {M : Type 0} → MessageOf M → Bool
is_query (message.Query number query) = true
is_query other = false

-- the server grows: its log gets longer, or it sends something
abbrev pub grows_by : {M : Type 0} → ServerView M → ServerResult M → Bool
grows_by v did = nat_lt v.last did.0.last || nat_lt 0 (length did.1)

-- a server may stop at a message other than a query, if the message makes it grow
abbrev pub may_stop : {M : Type 0} → Does M → ServerView M → Process → MessageOf M → Bool
may_stop does v from m = not (is_query m) && grows_by v (server_step does v from m)

-- a server may drop a query that it would otherwise answer
abbrev pub may_be_unheard : {M : Type 0} → Does M → ServerView M → Process → MessageOf M → Bool
may_be_unheard does v from m = is_query m && grows_by v (server_step does v from m)
