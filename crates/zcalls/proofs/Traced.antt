-- Where a node of a changed tree comes from.
use Rattle.std.proofs.Common.{◌≡◌, Bool, true, false, cond, Option, Some, None, refl, sym, ap, ◌∙◌}
use Rattle.std.specs.declared.cmp.Ordering.{Ordering}
use Rattle.std.specs.declared.cmp.Ordering.TheVariants.{Less, Equal, Greater}
use Rattle.std.specs.Ordering.{is_eq}
use Rattle.std.specs.FinMap as finite
use Rattle.std.specs.FinMap.{get-insert, get-remove}
use Rattle.std.specs.Option.{option_map_or}
use Rattle.zpath.specs.Grammar.{path_cmp}
use Rattle.ztree.specs.declared.node.Node.{Node}
use Rattle.ztree.specs.Tree.{Nodes, Path, with_change_at}
use Rattle.ztree.proofs.Sorted.{paths_total, same_path}
use Rattle.zcalls.specs.CallRuns.{is_same}

tied_paths : (p q : Path) (r : Ordering) → path_cmp p q ≡ r → is_eq r ≡ true → p ≡ q
tied_paths p q Less e tie = cc
tied_paths p q Equal e tie = same_path p q e
tied_paths p q Greater e tie = cc

-- paths that the order does not distinguish are one
pub one_path : (p q : Path) → is_same p q ≡ true → p ≡ q
one_path p q same = tied_paths p q (path_cmp p q) refl same

-- a node after a change at a path was there before, and is changed where the path is its own
pub record From (nodes : Nodes) (path : Path) (f : Node → Node) (at : Path) (n : Node) : Type 0 where
  pub before : Node
  pub there : finite.get nodes at ≡ Some before
  pub is : cond (is_same at path) (n ≡ f before) (n ≡ before)

pub traced : (nodes : Nodes) (path : Path) (f : Node → Node) (at : Path) (n : Node) → finite.get (with_change_at nodes path f) at ≡ Some n → From nodes path f at n
traced nodes path f at n e = by (finite.get nodes path) refl (is_same at path) refl e
  where
    by : (o : Option Node) → finite.get nodes path ≡ o → (b : Bool) → is_same at path ≡ b
        → finite.get (option_map_or (λ m. finite.insert nodes path (f m)) o nodes) at ≡ Some n → From nodes path f at n
    by None none true same e =
        let clash : None ≡ Some n = sym (ap (finite.get nodes) (one_path at path same) ∙ none) ∙ e in
        cc
    by None none false other e = record { before = n; there = e; is = rw other refl }
    by (Some m) some true same e =
        let now : Some (f m) ≡ Some n = sym (ap (λ b. cond b (Some (f m)) (finite.get nodes at)) same) ∙ sym (get-insert paths_total nodes path (f m) at) ∙ e in
        let is_now : f m ≡ n = cc now in
        record { before = m; there = ap (finite.get nodes) (one_path at path same) ∙ some; is = rw same (sym is_now) }
    by (Some m) some false other e =
        let old : finite.get nodes at ≡ Some n = sym (ap (λ b. cond b (Some (f m)) (finite.get nodes at)) other) ∙ sym (get-insert paths_total nodes path (f m) at) ∙ e in
        record { before = n; there = old; is = rw other refl }

-- a node that is there after a removal was there before
pub remained : (nodes : Nodes) (path at : Path) (n : Node) → finite.get (finite.remove nodes path) at ≡ Some n → finite.get nodes at ≡ Some n
remained nodes path at n e = by (is_same at path) (sym (get-remove paths_total nodes path at) ∙ e)
  where
    by : (b : Bool) → cond b None (finite.get nodes at) ≡ Some n → finite.get nodes at ≡ Some n
    by true e = cc
    by false e = e

-- what a change preserves of a node
pub same_of : {A : Type 0} (look : Node → A) (f : Node → Node) → ((m : Node) → look (f m) ≡ look m) → (b : Bool) (n m : Node) → cond b (n ≡ f m) (n ≡ m) → look n ≡ look m
same_of look f keeps true n m is = ap look is ∙ keeps m
same_of look f keeps false n m is = ap look is
