-- The steps of `zcalls`, said of stores: what a call gives, leaves and answers.
use Rattle.std.specs.Prelude.{◌≡◌, ◌≤◌, Bool, length, nat_lt, Option, Result, Ok}
use Rattle.std.specs.Ordering.{nat_cmp}
use Rattle.std.specs.FinMap.{FinMap}
use Rattle.ztree.specs.declared.node.Node.{Node}
use Rattle.ztree.specs.Tree.{Tree, Nodes, Path, children}
use Rattle.zstore.specs.StoreView.{StoreView, Id, AtPath}
use Rattle.zcalls.specs.declared.limits.TheConstants.{MOST_PARTS}
use Rattle.zcalls.specs.declared.call.Entry.{Entry}
use Rattle.zcalls.specs.declared.call.Update.{Update}
use Rattle.zcalls.specs.declared.call.Update.TheVariants as call
use Rattle.zcalls.specs.declared.reply.Reply.{Reply}
use Rattle.zcalls.specs.Cached.{Cached, entry_step}
use Rattle.zcalls.specs.Part.{node_has}
use Rattle.zcalls.specs.Step.{step, due_next, stale_next, tick_result}

-- a step that can be refused was done: it gives the tree of this store, and this reply
abbrev pub Gives : {A E : Type 0} → Result (Tree × A) E → StoreView → A → Type 0
Gives step store reply = step ≡ Ok (store.tree, reply)

-- a call's outcome is the tree of this store, and this reply
abbrev pub Makes : {A : Type 0} → Tree × A → StoreView → A → Type 0
Makes outcome store reply = (store.tree, reply) ≡ outcome

-- a tick that ends and removes what it reaches
abbrev pub next_tick_result : Tree → Tree × Reply
next_tick_result t = tick_result t (due_next t) (stale_next t)

-- cached replies by the clients' numbers
abbrev pub Replies : Type 0
Replies = FinMap nat_cmp Cached

-- an entry leads from one store with cached replies to another, and has this reply
abbrev pub IsEntered : Entry → StoreView → Replies → StoreView → Replies → Option Reply → Type 0
IsEntered entry old kept_old new kept_new reply =
    (record { plain = new.tree; kept = kept_new }, reply)
    ≡ entry_step step (record { plain = old.tree; kept = kept_old }) entry

-- whether the node that an Id names passes a test is returned
abbrev pub ReportsWhether : (Node → Bool) → StoreView → Id → Bool → Type 0
ReportsWhether test store id reported = AtPath store id (λ path. reported ≡ node_has test store.tree.nodes path)

-- whether the node at a path has children
abbrev pub is_parent : Nodes → Path → Bool
is_parent nodes path = nat_lt 0 (length (children nodes path))

-- a multi has at most 1,024 parts
abbrev pub HasFewParts : Update → Type 0
HasFewParts (call.Multi parts) = length parts ≤ MOST_PARTS
HasFewParts other = Unit {0}
