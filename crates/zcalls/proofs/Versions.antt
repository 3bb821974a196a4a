-- A node's version counts its sets.
use Rattle.std.proofs.Common.{◌≡◌, ℕ, ◌+◌, Bool, true, false, cond, if◌then◌else◌, List, [], Some, None, refl, sym, ap, ◌∙◌}
use Rattle.std.specs.FinMap as finite
use Rattle.std.specs.FinMap.{get-insert, get-empty}
use Rattle.zpath.specs.Grammar.{path_cmp}
use Rattle.ztree.specs.declared.term.Term.{Term}
use Rattle.ztree.specs.declared.term.Term.TheVariants.{Unlimited}
use Rattle.ztree.specs.declared.limits.TreeLimits.{TreeLimits}
use Rattle.ztree.specs.declared.node.Node.{Node}
use Rattle.ztree.specs.Tree.{Tree, Nodes, Path, opening_within, new_node, parent_of, with_child, without_child, with_data, with_acl, with_node, without_node, with_data_at, with_acl_at}
use Rattle.ztree.proofs.Sorted.{paths_total}
use Rattle.zcalls.specs.declared.call.Part.{Part}
use Rattle.zcalls.specs.declared.call.Part.TheVariants.{Create, Delete, SetData, Check}
use Rattle.zcalls.specs.Part.{part_step, made_path, owner_of, term_of}
use Rattle.zcalls.specs.CallRuns.{is_same, sets_since, VersionCountsSets}
use Rattle.zcalls.proofs.Folds.{LeavesDone, create-leaves, delete-leaves, set-leaves, check-leaves, kept_by_calls}
use Rattle.zcalls.proofs.Traced.{traced, remained, same_of}

module _ (path : Path) where
  -- the version of the node at the path, where there is one
  abbrev HasVersion : ℕ → Nodes → Type 0
  HasVersion sets nodes = (n : Node) → finite.get nodes path ≡ Some n → n.version ≡ sets

  new_or_old : (sets : ℕ) (t : Tree) (made : Path) (new m : Node) → new.version ≡ 0 → HasVersion sets t.nodes → finite.get (finite.insert t.nodes made new) path ≡ Some m → m.version ≡ (if is_same path made then 0 else sets)
  new_or_old sets t made new m zero_sets inv e = by (is_same path made) (sym (get-insert paths_total t.nodes made new path) ∙ e)
    where
      by : (b : Bool) → cond b (Some new) (finite.get t.nodes path) ≡ Some m → m.version ≡ (if b then 0 else sets)
      by true e = let is_new : new ≡ m = cc e in sym (ap (λ (n : Node). n.version) is_new) ∙ zero_sets
      by false e = inv m e

  added-counts : (sets : ℕ) (t : Tree) (made : Path) (bytes : List ℕ) (owner : ℕ) (term : Term) (sequential : Bool) → HasVersion sets t.nodes → HasVersion (if is_same path made then 0 else sets) (with_node t made bytes owner term sequential).nodes
  added-counts sets t made bytes owner term sequential inv n e =
      let new = new_node bytes owner term (t.zxid + 1) t.time in
      let f = with_child (t.zxid + 1) sequential in
      let from = traced (finite.insert t.nodes made new) (parent_of made) f path n e in
      same_of (λ (n : Node). n.version) f (λ m. refl) (is_same path (parent_of made)) n from.before from.is
      ∙ new_or_old sets t made new from.before refl inv from.there

  dropped-counts : (sets : ℕ) (t : Tree) (gone : Path) → HasVersion sets t.nodes → HasVersion sets (without_node t gone).nodes
  dropped-counts sets t gone inv n e =
      let f = without_child (t.zxid + 1) in
      let from = traced (finite.remove t.nodes gone) (parent_of gone) f path n e in
      same_of (λ (n : Node). n.version) f (λ m. refl) (is_same path (parent_of gone)) n from.before from.is
      ∙ inv from.before (remained t.nodes gone path from.before from.there)

  written-counts : (sets : ℕ) (t : Tree) (at : Path) (bytes : List ℕ) → HasVersion sets t.nodes → HasVersion (if is_same path at then sets + 1 else sets) (with_data_at t at bytes).nodes
  written-counts sets t at bytes inv n e =
      let f = with_data bytes (t.zxid + 1) t.time in
      let from = traced t.nodes at f path n e in
      by f (λ m. refl) from.before (inv from.before from.there) (is_same path at) from.is
    where
      by : (f : Node → Node) → ((m : Node) → (f m).version ≡ m.version + 1) → (m : Node) → m.version ≡ sets → (b : Bool) → cond b (n ≡ f m) (n ≡ m) → n.version ≡ (if b then sets + 1 else sets)
      by f one_more m is true now = ap (λ (n : Node). n.version) now ∙ one_more m ∙ ap (λ v. v + 1) is
      by f one_more m is false now = ap (λ (n : Node). n.version) now ∙ is

  acl-counts : (sets : ℕ) (t : Tree) (at : Path) → HasVersion sets t.nodes → HasVersion sets (with_acl_at t at).nodes
  acl-counts sets t at inv n e =
      let from = traced t.nodes at with_acl path n e in
      same_of (λ (n : Node). n.version) with_acl (λ m. refl) (is_same path at) n from.before from.is
      ∙ inv from.before from.there

  part-counts : (sets : ℕ) (t : Tree) (client : ℕ) (part : Part) → HasVersion sets t.nodes → LeavesDone (sets_since path) HasVersion sets part (part_step t client part)
  part-counts sets t client (Create create) inv =
      create-leaves (sets_since path) HasVersion sets t client create
      (λ e. added-counts sets t (made_path t.nodes create.kind create.path) create.bytes (owner_of create.kind.lifetime) (term_of create.kind.lifetime) create.kind.is_sequential inv)
  part-counts sets t client (Delete delete) inv = delete-leaves (sets_since path) HasVersion sets t client delete (dropped-counts sets t delete.path inv)
  part-counts sets t client (SetData set) inv = set-leaves (sets_since path) HasVersion sets t client set (λ stat. written-counts sets t set.path set.bytes inv)
  part-counts sets t client (Check check) inv = check-leaves (sets_since path) HasVersion sets t client check inv

  opening-counts : (limits : TreeLimits) → HasVersion 0 (opening_within limits).nodes
  opening-counts limits n e = by (is_same path []) (sym (get-insert paths_total finite.empty [] (new_node [] 0 Unlimited 0 0) path) ∙ e)
    where
      by : (b : Bool) → cond b (Some (new_node [] 0 Unlimited 0 0)) (finite.get {R = path_cmp} finite.empty path) ≡ Some n → n.version ≡ 0
      by true e = let is_new : new_node [] 0 Unlimited 0 0 ≡ n = cc e in sym (ap (λ (n : Node). n.version) is_new)
      by false e = let clash : None ≡ Some n = sym (get-empty path_cmp path) ∙ e in cc

pub version_counts_sets : VersionCountsSets
version_counts_sets limits calls path =
    kept_by_calls (sets_since path) (HasVersion path) (part-counts path) (dropped-counts path) (acl-counts path) calls 0 (opening_within limits) (opening-counts path limits)
