-- The lines of nodes, one after the other.
use Rattle.std.proofs.Common.{◌≡◌, ◌++◌, ◌<◌, ◌≤◌, ◌∙◌, ◌+◌, subst, ℕ, suc, List, Option, length, drop, get_or, sym, ap}
use Rattle.std.proofs.Math.ListN.{drop_of_length-le}
use Rattle.std.proofs.Math.Numerals.{suc-eq-add-one}
use Rattle.std.proofs.Math.Seq.{drop-cons}
use Rattle.std.proofs.lemmas.List.{append_assoc, append-nil}
use Rattle.zrace.specs.Text.{node_line, node_lines}

-- a line more is written, and a node less is left
pub one_more : (all : List (Option ℕ)) (node : ℕ) (seen none : Option ℕ) (before after text : List ℕ)
    → node < length all → seen ≡ get_or all node none → after ≡ before ++ node_line node seen
    → before ++ node_lines node (drop node all) ≡ text
    → after ++ node_lines (node + 1) (drop (node + 1) all) ≡ text
unfolding node_lines
one_more all node seen none before after text below is new was =
    let left = node_lines (suc node) (drop (suc node) all) in
    subst (λ next. after ++ node_lines next (drop next all) ≡ text) (suc-eq-add-one node) (ap (λ written. written ++ left) new
    ∙ append_assoc before (node_line node seen) left
    ∙ ap (λ it. before ++ (node_line node it ++ left)) is
    ∙ ap (λ rest. before ++ node_lines node rest) (sym (drop-cons all node none below))
    ∙ was)

-- no node is left
pub none_left : (all : List (Option ℕ)) (node : ℕ) (before after text last : List ℕ)
    → length all ≤ node → before ++ node_lines node (drop node all) ≡ text → after ≡ before ++ last
    → after ≡ text ++ last
unfolding node_lines
none_left all node before after text last end was new =
    let whole = sym (append-nil before) ∙ ap (λ rest. before ++ node_lines node rest) (sym (drop_of_length-le all end)) ∙ was in
    new ∙ ap (λ it. it ++ last) whole
