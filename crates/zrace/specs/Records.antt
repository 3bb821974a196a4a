-- The versions of a race's nodes: each is in the record of a client, in the traces of the run.
use Rattle.std.specs.Prelude.{◌≡◌, ◌<◌, ℕ, false, List, Option, None, Some, get_or}
use Rattle.ztree.specs.declared.node.Stat.{Stat}
use Rattle.zcalls.specs.Lists.{Among}
use Rattle.zcalls.specs.declared.call.Call.TheVariants.{Query}
use Rattle.zcalls.specs.declared.call.Query.TheVariants as query
use Rattle.zcalls.specs.declared.reply.Reply.TheVariants as reply
use Rattle.zprotocol.specs.declared.world.history.CallEvent.TheVariants.{Answer, Begin}
use Rattle.zprotocol.specs.world.History.{History}
use Rattle.zprotocol.specs.declared.traces.trace.Traces.{Traces}
use Rattle.zprotocol.specs.traces.Traces.{client_count, record_of}
use Rattle.zprotocol.specs.traces.Audit.{is_any_cut}
use Rattle.zrace.specs.Seen.{IsPathOf}

-- in the record the client asks whether the node exists, and the reply to that call has this
-- version
abbrev pub IsRecorded : ℕ → ℕ → ℕ → History → Type 0
IsRecorded client node version history =
    (number : ℕ) × (path : List (List ℕ)) × (stat : Stat) × IsPathOf node path
    × Among (Begin client number (Query (query.Exists path))) history
    × Among (Answer client number (reply.Exists stat)) history
    × (stat.version ≡ version)

-- unless a trace is cut, each version that is known is in the record of one of the run's clients
abbrev pub AreInRecords : Traces → List (Option ℕ) → Type 0
AreInRecords t versions =
    is_any_cut t ≡ false → (node version : ℕ) → get_or versions node None ≡ Some version
    → ∥ ((client : ℕ) × (client < client_count t) × IsRecorded client node version (record_of t client)) ∥₁
