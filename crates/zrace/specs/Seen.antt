-- The versions of a race's nodes: each comes from a reply to a client of its run.
use Rattle.std.specs.Prelude.{◌≡◌, ℕ, List, ◌++◌, All, codes, Option, None, Some, get_or}
use Rattle.std.specs.Fmt.{decimal}
use Rattle.zpath.specs.Grammar.{text_of}
use Rattle.ztree.specs.declared.node.Stat.{Stat}
use Rattle.zcalls.specs.declared.call.Call.{Call}
use Rattle.zcalls.specs.declared.call.Call.TheVariants.{Query}
use Rattle.zcalls.specs.declared.call.Query.TheVariants as query
use Rattle.zcalls.specs.declared.reply.Reply.TheVariants as reply
use Rattle.zrun.specs.declared.client.Client.{Client}
use Rattle.zrun.specs.declared.patience.Patience.{Patience}
use Rattle.zrun.specs.Asked.{CalledPatientlyUntil}
use Rattle.zrun.specs.Clients.{BelongsTo, SameClient}
use Rattle.zrun.specs.Origins.{Run}

-- it is the path of this node
abbrev pub IsPathOf : ℕ → List (List ℕ) → Type 0
IsPathOf node path = text_of path ≡ codes "/n" ++ decimal node

-- the call asks whether this node exists
abbrev pub AsksFor : ℕ → Call → Type 0
AsksFor node call = (path : List (List ℕ)) × IsPathOf node path × (call ≡ Query (query.Exists path))

-- from the one state to the other the client asked for the node, and received this version
abbrev pub WasReported : ℕ → ℕ → Client → Client → Type 0
WasReported node version a b =
    (patience : Patience) × (call : Call) × (stat : Stat)
    × AsksFor node call × CalledPatientlyUntil patience call a b (reply.Exists stat) × (stat.version ≡ version)

-- the same, of the node with this path
abbrev pub IsReportedOf : List (List ℕ) → ℕ → Client → Client → Type 0
IsReportedOf path version a b = (node : ℕ) → IsPathOf node path → WasReported node version a b

-- it did so after any other calls
abbrev pub WasReportedSince : ℕ → Client → Client → ℕ → Type 0
WasReportedSince node a b version = (m : Client) × SameClient a m × WasReported node version m b

-- the client received this version at some time
abbrev pub HasSeen : Client → ℕ → ℕ → Type 0
HasSeen c node version = ∥ ((a b : Client) × SameClient c a × SameClient c b × WasReported node version a b) ∥₁

-- one of the run's clients received this version
abbrev pub IsSeenIn : Run → ℕ → ℕ → Type 0
IsSeenIn run node version = ∥ ((a b : Client) × BelongsTo run a × BelongsTo run b × WasReported node version a b) ∥₁

-- each version that is known is one that a client of the run received
abbrev pub AreSeenIn : Run → List (Option ℕ) → Type 0
AreSeenIn run versions = (node version : ℕ) → get_or versions node None ≡ Some version → IsSeenIn run node version

-- if clients of a run received the old versions and this one, they received the new ones
abbrev pub NotesSeen : List (Option ℕ) → List (Option ℕ) → ℕ → ℕ → Type 0
NotesSeen old new node version = (run : Run) → AreSeenIn run old → IsSeenIn run node version → AreSeenIn run new

-- the same, with all of these instead of one
abbrev pub KeepsSeen : List (Option ℕ) → List (Option ℕ) → List (ℕ × ℕ) → Type 0
KeepsSeen old new seen = (run : Run) → AreSeenIn run old → All (λ it. IsSeenIn run it.0 it.1) seen → AreSeenIn run new
