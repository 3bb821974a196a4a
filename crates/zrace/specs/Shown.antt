-- What the records of clients show, while the clients race.
use Rattle.std.specs.Prelude.{◌≡◌, ℕ, false, List, ◌++◌, All, Option, None, Some, get_or}
use Rattle.ztree.specs.declared.node.Stat.{Stat}
use Rattle.zcalls.specs.Lists.{Among}
use Rattle.zcalls.specs.declared.call.Call.{Call}
use Rattle.zcalls.specs.declared.call.Call.TheVariants.{Query}
use Rattle.zcalls.specs.declared.call.Query.TheVariants as query
use Rattle.zcalls.specs.declared.reply.Reply.{Reply}
use Rattle.zcalls.specs.declared.reply.Reply.TheVariants as reply
use Rattle.zprotocol.specs.declared.world.history.CallEvent.TheVariants as call_event
use Rattle.zprotocol.specs.world.History.{History}
use Rattle.zthreads.specs.Endpoints.{is_cut_of, seen_of}
use Rattle.zrun.specs.declared.client.Client.{Client}
use Rattle.zrun.specs.declared.clients.Clients.{Clients}
use Rattle.zrun.specs.Clients.{client_endpoint}
use Rattle.zrun.specs.Members.{client_at}
use Rattle.zrace.specs.Seen.{IsPathOf}

-- the record shows that a call with this number was invoked, or that it got this reply
abbrev pub ShowsCall : History → ℕ → Call → Type 0
ShowsCall history number call = (client : ℕ) × Among (call_event.Begin client number call) history

abbrev pub ShowsReply : History → ℕ → Reply → Type 0
ShowsReply history number reply = (client : ℕ) × Among (call_event.Answer client number reply) history

-- the record shows that the node was asked for, and that the reply to this call had this version
abbrev pub IsShown : ℕ → ℕ → History → Type 0
IsShown node version history =
    (number : ℕ) × (path : List (List ℕ)) × (stat : Stat) × IsPathOf node path
    × ShowsCall history number (Query (query.Exists path)) × ShowsReply history number (reply.Exists stat) × (stat.version ≡ version)

-- unless its trace is cut now, the client's trace wasn't cut before, and its record was continued
abbrev pub Continues : Client → Client → Type 0
Continues a b =
    is_cut_of (client_endpoint b) ≡ false
    → (is_cut_of (client_endpoint a) ≡ false) × (rest : History) × (seen_of (client_endpoint b) ≡ seen_of (client_endpoint a) ++ rest)

-- unless its trace is cut, the client's record shows this version of the node
abbrev pub IsShownBy : Client → ℕ → ℕ → Type 0
IsShownBy c node version = is_cut_of (client_endpoint c) ≡ false → ∥ IsShown node version (seen_of (client_endpoint c)) ∥₁

-- the same, of the node with this path
abbrev pub IsShownOf : List (List ℕ) → Client → ℕ → Type 0
IsShownOf path c version = (node : ℕ) → IsPathOf node path → IsShownBy c node version

-- so does the record of one of the clients that are there
abbrev pub IsShownAmong : Clients → ℕ → ℕ → Type 0
IsShownAmong cs node version = ∥ ((i : ℕ) × (c : Client) × (client_at cs i ≡ Some c) × IsShownBy c node version) ∥₁

-- each version that is known is in one of their records
abbrev pub AreShownAmong : Clients → List (Option ℕ) → Type 0
AreShownAmong cs versions = (node version : ℕ) → get_or versions node None ≡ Some version → IsShownAmong cs node version

-- if the old versions are in the records of clients, and this one is, then the new ones are
abbrev pub NotesShown : List (Option ℕ) → List (Option ℕ) → ℕ → ℕ → Type 0
NotesShown old new node version = (cs : Clients) → AreShownAmong cs old → IsShownAmong cs node version → AreShownAmong cs new

-- the same, with all of these instead of one
abbrev pub KeepsShown : List (Option ℕ) → List (Option ℕ) → List (ℕ × ℕ) → Type 0
KeepsShown old new seen = (cs : Clients) → AreShownAmong cs old → All (λ it. IsShownAmong cs it.0 it.1) seen → AreShownAmong cs new
