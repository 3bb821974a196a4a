-- Logs from a tree on, and incarnations one after the other.
use Rattle.std.proofs.Common.{◌≡◌, List, [], ◌∷◌, ◌++◌, refl, sym, ap, subst, ◌∙◌}
use Rattle.std.specs.Prelude.{zip}
use Rattle.std.proofs.lemmas.List.{map-append}
use Rattle.ztree.specs.Tree.{Tree, opening_tree}
use Rattle.zcalls.specs.declared.call.Call.{Call}
use Rattle.zcalls.specs.declared.call.Call.TheVariants.{Update, Query}
use Rattle.zcalls.specs.declared.reply.Reply.{Reply}
use Rattle.zcalls.proofs.LawfulCalls.{step-good}
use Rattle.zprotocol.specs.world.PlainTree.{serve}
use Rattle.zprotocol.specs.world.FromTree.{CanStart}
use Rattle.ztree_service.specs.log.Logs.{Log, calls_of, replies_of, served, tree_after, IsOneTreesFrom, Leads}
use Rattle.ztree_service.specs.log.Incarnations.{whole, IncarnationsAreOneTrees, IncarnationsAreOneTreesFrom, IncarnationsLeaveOneTree, TreesCanStartAgain}

-- calls after others
pub served_both : (t : Tree) (calls more : List Call) → served t (calls ++ more) ≡ served t calls ++ served (tree_after t calls) more
served_both t [] more = refl
served_both t (call ∷ calls) more = ap (λ replies. (serve t 0 call).1 ∷ replies) (served_both (serve t 0 call).0 calls more)

pub tree_both : (t : Tree) (calls more : List Call) → tree_after t (calls ++ more) ≡ tree_after (tree_after t calls) more
tree_both t [] more = refl
tree_both t (call ∷ calls) more = tree_both (serve t 0 call).0 calls more

pub incarnations_leave_one_tree : IncarnationsLeaveOneTree
incarnations_leave_one_tree t first second =
    ap (tree_after t) (map-append (λ (reported : Call × Reply). reported.0) first second) ∙ tree_both t (calls_of first) (calls_of second)

-- an incarnation after another
pub both_incarnations : (t : Tree) (first second : Log) → IsOneTreesFrom t first → IsOneTreesFrom (tree_after t (calls_of first)) second
    → IsOneTreesFrom t (first ++ second)
both_incarnations t first second one next =
    map-append (λ (reported : Call × Reply). reported.1) first second
    ∙ (λ i. one i ++ next i)
    ∙ sym (ap (served t) (map-append (λ (reported : Call × Reply). reported.0) first second) ∙ served_both t (calls_of first) (calls_of second))

pub incarnations_are_one_trees_from : IncarnationsAreOneTreesFrom
incarnations_are_one_trees_from t [] are = refl
incarnations_are_one_trees_from t (log ∷ logs) are =
    both_incarnations t log (whole logs) are.0 (incarnations_are_one_trees_from (tree_after t (calls_of log)) logs are.1)

pub incarnations_are_one_trees : IncarnationsAreOneTrees
incarnations_are_one_trees = incarnations_are_one_trees_from opening_tree

-- a call leaves a tree that can start again
serve_again : (t : Tree) (call : Call) → CanStart t → CanStart (serve t 0 call).0
serve_again t (Update u) can = let good = step-good t 0 u (can.lawful, can.granted) in record { lawful = good.0; granted = good.1 }
serve_again t (Query q) can = can

pub trees_can_start_again : TreesCanStartAgain
trees_can_start_again t [] can = can
trees_can_start_again t (call ∷ calls) can = trees_can_start_again (serve t 0 call).0 calls (serve_again t call can)

-- after a log that led to a tree, one that begins with it
pub leads_more : (t middle after : Tree) (log more : Log) → Leads t log middle → Leads middle more after → Leads t (log ++ more) after
leads_more t middle after log more is next = (
  both_incarnations t log more is.0 (subst (λ m. IsOneTreesFrom m more) (sym is.1) next.0),
  incarnations_leave_one_tree t log more ∙ ap (λ m. tree_after m (calls_of more)) is.1 ∙ next.1,
)

-- no call leads nowhere
pub leads_nowhere : (t : Tree) → Leads t [] t
leads_nowhere t = (refl, refl)

-- calls with their replies are a log of the tree that does them
pub replies_zipped : (t : Tree) (calls : List Call) → replies_of (zip calls (served t calls)) ≡ served t calls
replies_zipped t [] = refl
replies_zipped t (call ∷ calls) = ap (λ rs. (serve t 0 call).1 ∷ rs) (replies_zipped (serve t 0 call).0 calls)

pub calls_zipped : (t : Tree) (calls : List Call) → calls_of (zip calls (served t calls)) ≡ calls
calls_zipped t [] = refl
calls_zipped t (call ∷ calls) = ap (λ cs. call ∷ cs) (calls_zipped (serve t 0 call).0 calls)

pub leads_by : (t : Tree) (calls : List Call) → Leads t (zip calls (served t calls)) (tree_after t calls)
leads_by t calls =
    (replies_zipped t calls ∙ sym (ap (served t) (calls_zipped t calls)), ap (tree_after t) (calls_zipped t calls))
