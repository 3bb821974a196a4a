-- The rows of the trees of the worked examples.
use Rattle.std.proofs.Common.{◌≡◌, ℕ, ◌+◌, cond, List, [], ◌∷◌, length, codes, Option, refl, sym, ap, ◌∙◌}
use Rattle.std.specs.Prelude.{is_some}
use Rattle.std.specs.Ordering.{nat_cmp}
use Rattle.std.specs.Cmp.{nat_cmp_total}
use Rattle.std.specs.FinMap as finite
use Rattle.std.specs.FinMap.{entries, entries-insert, get-empty, len-empty, len-entries, len-insert, put}
use Rattle.std.proofs.lemmas.List.{nil_from_length}
use Rattle.zpath.specs.Grammar.{path_cmp}
use Rattle.ztree.specs.declared.term.Term.TheVariants.{Unlimited, Timed, Container}
use Rattle.ztree.specs.declared.node.Node.{Node}
use Rattle.ztree.specs.declared.session.Session.{Session}
use Rattle.ztree.specs.Tree.{Nodes, Path, Sessions, new_node, opening_tree}
use Rattle.ztree.specs.support.Samples.{at_a, at_a_b}
use Rattle.ztree.proofs.Sorted.{paths_total}
use Rattle.zsnapshots.specs.export.support.Samples.{node_with, owned_tree, timed_tree}

no_rows : entries (finite.empty {X = Node} {R = path_cmp}) ≡ []
no_rows = nil_from_length (entries (finite.empty {X = Node} {R = path_cmp})) (sym (len-entries (finite.empty {X = Node} {R = path_cmp}))
    ∙ len-empty path_cmp Node)

pub opening_rows : entries opening_tree.nodes ≡ ([], new_node [] 0 Unlimited 0 0) ∷ []
opening_rows = entries-insert paths_total finite.empty [] (new_node [] 0 Unlimited 0 0) ∙ ap (put path_cmp [] (new_node [] 0 Unlimited 0 0)) no_rows

abbrev timed_root : Nodes
timed_root = finite.insert finite.empty [] (node_with (codes "hi") 0 Unlimited)

abbrev timed_two : Nodes
timed_two = finite.insert timed_root at_a (node_with [] 0 Container)

pub timed_rows : entries timed_tree.nodes ≡ ([], node_with (codes "hi") 0 Unlimited) ∷ (at_a, node_with [] 0 Container) ∷ (at_a_b, node_with (codes "hi") 0 (Timed 12)) ∷ []
timed_rows =
    entries-insert paths_total timed_two at_a_b (node_with (codes "hi") 0 (Timed 12))
    ∙ ap (put path_cmp at_a_b (node_with (codes "hi") 0 (Timed 12)))
    (entries-insert paths_total timed_root at_a (node_with [] 0 Container)
    ∙ ap (put path_cmp at_a (node_with [] 0 Container))
    (entries-insert paths_total finite.empty [] (node_with (codes "hi") 0 Unlimited) ∙ ap (put path_cmp [] (node_with (codes "hi") 0 Unlimited)) no_rows))

abbrev owned_root : Node
owned_root = record (node_with [] 0 Unlimited) { seq = 5 }

pub owned_rows : entries owned_tree.nodes ≡ ([], owned_root) ∷ (at_a, node_with (codes "hi") 9 Unlimited) ∷ []
owned_rows =
    entries-insert paths_total (finite.insert finite.empty [] owned_root) at_a (node_with (codes "hi") 9 Unlimited)
    ∙ ap (put path_cmp at_a (node_with (codes "hi") 9 Unlimited))
    (entries-insert paths_total finite.empty [] owned_root ∙ ap (put path_cmp [] owned_root) no_rows)

pub opening_len : finite.len opening_tree.nodes ≡ 1
opening_len = len-entries opening_tree.nodes ∙ ap (λ (es : List (Path × Node)). length es) opening_rows

pub timed_len : finite.len timed_tree.nodes ≡ 3
timed_len = len-entries timed_tree.nodes ∙ ap (λ (es : List (Path × Node)). length es) timed_rows

pub owned_len : finite.len owned_tree.nodes ≡ 2
owned_len = len-entries owned_tree.nodes ∙ ap (λ (es : List (Path × Node)). length es) owned_rows

pub no_sessions : finite.len (finite.empty {X = Session} {R = nat_cmp}) ≡ 0
no_sessions = len-empty nat_cmp Session

pub one_session : finite.len owned_tree.sessions ≡ 1
one_session =
    let none : Sessions = finite.empty in
    len-insert nat_cmp_total none 9 (record { client = 0; timeout = 5; deadline = 33 })
    ∙ ap (λ (o : Option Session). cond (is_some o) (finite.len none) (finite.len none + 1)) (get-empty nat_cmp 9)
    ∙ ap (λ n. n + 1) no_sessions
