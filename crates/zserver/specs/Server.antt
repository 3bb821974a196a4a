-- A server as its owner sees it: its view of the server table, and whether it has stopped, and why.
use Rattle.std.specs.Prelude.{◌≡◌, ◌⊎◌, ℕ, true, Option, None, Some}
use Rattle.std.specs.Option.{option_map}
use Rattle.ztree.specs.Tree.{Tree}
use Rattle.zcalls.specs.Cached.{CachedState, nothing_cached}
use Rattle.zprotocol.specs.declared.process.Process.{Process}
use Rattle.zprotocol.specs.Posts.{OutView, Puts}
use Rattle.zprotocol.specs.server.Machine.{cached_tree, cached_tree_from}
use Rattle.zprotocol.specs.server.View.{ServerView, MessageOf, Neighbour, Transfer, member}
use Rattle.zprotocol.specs.server.Memory.{may_be_unheard, may_stop}
use Rattle.zprotocol.specs.server.Table.{ServerResult, is_retirement, no_effect, server_step}
use Rattle.zserver.specs.declared.stopped.Stopped.{Stopped}
use Rattle.zserver.specs.declared.stopped.Stopped.TheVariants.{Memory, Retired}
use Rattle.zserver.specs.declared.taken.Taken.{Taken}
use Rattle.zserver.specs.declared.taken.Taken.TheVariants.{Acted, Unheard}

-- the view of a server whose machine is the sequential specification with its cached replies
abbrev pub TreeView : Type 0
TreeView = ServerView (CachedState Tree)

-- a message between such servers
abbrev pub TreeMessage : Type 0
TreeMessage = MessageOf (CachedState Tree)

-- what a message leads to at such a server: its new view, and what it sends
abbrev pub TreeResult : Type 0
TreeResult = ServerResult (CachedState Tree)

-- what such a server has sent
abbrev pub TreeOut : Type 0
TreeOut = OutView (Transfer (CachedState Tree))

-- a server: its view, and why it has stopped, if it has. The view of one that has stopped means
-- nothing
pub record ServerState : Type 0 where
  pub view : TreeView
  pub stopped : Option Stopped

-- a running server with this view
abbrev pub running : TreeView → ServerState
running v = record { view = v; stopped = None }

-- a neighbour in the initial chain, if there is one
abbrev pub first_neighbour : Option ℕ → Option Neighbour
first_neighbour s = option_map (λ s. (s, 0)) s

-- the view of a member of the initial chain, between these neighbours
abbrev pub first_view : Option ℕ → Option ℕ → TreeView
first_view pred succ = member cached_tree (first_neighbour pred) (first_neighbour succ)

-- the view of a member of an initial chain that begins with a tree, between these neighbours
abbrev pub first_view_from : Tree → Option ℕ → Option ℕ → TreeView
first_view_from t pred succ = member (cached_tree_from t) (first_neighbour pred) (first_neighbour succ)

-- a snapshot with which a chain can begin: no entry was applied, and no reply is cached
abbrev pub IsFresh : Transfer (CachedState Tree) → Type 0
IsFresh snapshot = snapshot ≡ record { last = 0; machine = nothing_cached snapshot.machine.plain }

-- the effect of a message: what the server table says, or none where it was dropped
abbrev pub taken_result : Taken → TreeView → Process → TreeMessage → TreeResult
taken_result Acted v from m = server_step cached_tree v from m
taken_result Unheard v from m = no_effect v

-- at a message, a server's view becomes what that effect says
abbrev pub BecomesAt : TreeView → TreeView → Process → TreeMessage → Taken → Type 0
BecomesAt old new from m taken = new ≡ (taken_result taken old from m).0

-- and it sends what that effect says
abbrev pub PutsAt : TreeOut → TreeOut → TreeView → Process → TreeMessage → Taken → Type 0
PutsAt old new v from m taken = Puts old new (taken_result taken v from m).1

-- a message was handled, or else this holds
abbrev pub IsHeardOr : Type 0 → Taken → Type 0
IsHeardOr fact taken = taken ≡ Unheard → fact

-- a message may be dropped: it is a query that the server would answer
abbrev pub MayBeUnheard : TreeView → Process → TreeMessage → Type 0
MayBeUnheard v from m = may_be_unheard cached_tree v from m ≡ true

-- why a server stops at a message: it may run out of memory there, or it is the master's order to
-- leave
abbrev pub StopsAt : Stopped → TreeView → Process → TreeMessage → Type 0
StopsAt Memory v from m = may_stop cached_tree v from m ≡ true
StopsAt Retired v from m = is_retirement from m ≡ true

-- why a server refuses a message: it had stopped before, or it stops at this one
abbrev pub IsStoppedAt : ServerState → Process → TreeMessage → Stopped → Type 0
IsStoppedAt s from m why = (s.stopped ≡ Some why) ⊎ StopsAt why s.view from m
