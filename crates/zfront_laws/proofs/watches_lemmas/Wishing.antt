-- Queries, and that their replies are those of one tree.
use Rattle.std.proofs.Common.{◌≡◌, ℕ, zero, suc, List, [], ◌∷◌, take, drop, refl}
use Rattle.std.specs.List.{AllByRecursion}
use Rattle.ztree.specs.Tree.{Tree}
use Rattle.zcalls.specs.declared.call.Call.{Call}
use Rattle.zcalls.specs.declared.call.Call.TheVariants.{Update, Query}
use Rattle.zcalls.specs.declared.reply.Reply.{Reply}
use Rattle.zprotocol.specs.world.PlainTree.{serve}
use Rattle.ztree_service.specs.log.Logs.{served}

-- the calls are queries
abbrev pub IsQuery : Call → Type 0
IsQuery (Query query) = Unit {0}
IsQuery (Update update) = ⊥

abbrev pub AreQueries : List Call → Type 0
AreQueries calls = AllByRecursion IsQuery calls

-- each reply is that of this tree
abbrev pub AreOf : Tree → List Call → List Reply → Type 0
AreOf t (call ∷ calls) (reported ∷ replies) = (reported ≡ (serve t 0 call).1) × AreOf t calls replies
AreOf t calls replies = Unit {0}

pub served_are_of : (t : Tree) (calls : List Call) → AreQueries calls → AreOf t calls (served t calls)
served_are_of t [] all = tt
served_are_of t (Query query ∷ calls) all = (refl, served_are_of t calls all.1)
served_are_of t (Update update ∷ calls) all = absurd all.0

pub taken : (n : ℕ) (t : Tree) (calls : List Call) (replies : List Reply) → AreOf t calls replies → AreOf t (take n calls) (take n replies)
taken zero t calls replies all = tt
taken (suc n) t [] replies all = tt
taken (suc n) t (call ∷ calls) [] all = tt
taken (suc n) t (call ∷ calls) (reported ∷ replies) all = (all.0, taken n t calls replies all.1)

none_of : (t : Tree) (calls : List Call) → AreOf t calls []
none_of t [] = tt
none_of t (call ∷ calls) = tt

pub left : (n : ℕ) (t : Tree) (calls : List Call) (replies : List Reply) → AreOf t calls replies → AreOf t (drop n calls) (drop n replies)
left zero t calls replies all = all
left (suc n) t [] replies all = tt
left (suc n) t (call ∷ calls) [] all = none_of t (drop n calls)
left (suc n) t (call ∷ calls) (reported ∷ replies) all = left n t calls replies all.1
