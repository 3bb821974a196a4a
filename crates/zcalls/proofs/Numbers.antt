-- No sequential name is made twice beneath a node while the node exists.
use Rattle.std.proofs.Common.{◌≡◌, ◌≢◌, ℕ, ◌+◌, ◌<◌, ◌≤◌, Bool, true, false, cond, if◌then◌else◌, ◌&&◌, List, [], ◌∷◌, Some, refl, sym, ap, subst, ◌∙◌, arith}
use Rattle.std.specs.FinMap as finite
use Rattle.std.specs.FinMap.{get-insert}
use Rattle.std.specs.List.{AllByRecursion, IsDistinct}
use Rattle.std.specs.Option.{option_map_or}
use Rattle.zpath.specs.Numbered.{numbered_path}
use Rattle.zpath.proofs.First.{no_test_holds}
use Rattle.zpath.proofs.Sequence.{numbers_are_distinct}
use Rattle.ztree.specs.declared.node.Node.{Node}
use Rattle.ztree.specs.Tree.{Tree, Nodes, Path, opening_within, new_node, parent_of, has_node, with_child, without_child, with_data, with_acl, with_node, without_node, with_data_at, with_acl_at}
use Rattle.ztree.proofs.Sorted.{paths_total}
use Rattle.zcalls.specs.declared.call.Create.{Create as ToCreate}
use Rattle.zcalls.specs.declared.call.Part.{Part}
use Rattle.zcalls.specs.declared.call.Part.TheVariants.{Create, Delete, SetData, Check}
use Rattle.zcalls.specs.Part.{part_step, create_refusals, made_path, counter_at, owner_of, term_of}
use Rattle.zcalls.specs.CallRuns.{is_same, numbered_since, NumbersDiffer}
use Rattle.zcalls.proofs.Bounds.{unspent}
use Rattle.zcalls.proofs.Paths.{not_root, parent_of-made}
use Rattle.zcalls.proofs.Tables.{node_there, is_there}
use Rattle.zcalls.proofs.Folds.{LeavesDone, create-leaves, delete-leaves, set-leaves, check-leaves, kept_by_calls}
use Rattle.zcalls.proofs.Traced.{traced, remained, same_of, one_path}

-- the path was made with a number below the bound
record IsGiven (bound : ℕ) (path : Path) : Type 0 where
  pub asked : Path
  pub number : ℕ
  pub is : path ≡ numbered_path asked number
  pub below : asked ≢ []
  pub small : number < bound
  pub short : number < 10000000000

given_more : (made : List Path) (low high : ℕ) → low ≤ high → AllByRecursion (IsGiven low) made → AllByRecursion (IsGiven high) made
given_more [] low high more all = tt
given_more (path ∷ made) low high more all =
    let here = all.0 in (
      record { asked = here.asked; number = here.number; is = here.is; below = here.below; small = omega (arith, more, here.small); short = here.short },
      given_more made low high more all.1,
    )

-- a number that was not given yet makes another path
another : (asked : Path) (number : ℕ) (made : List Path) → asked ≢ [] → number < 10000000000 → AllByRecursion (IsGiven number) made → AllByRecursion (λ path. is_same (numbered_path asked number) path ≡ false) made
another asked number [] below short all = tt
another asked number (path ∷ made) below short all = (by (is_same (numbered_path asked number) path) refl, another asked number made below short all.1)
  where
    by : (b : Bool) → is_same (numbered_path asked number) path ≡ b → b ≡ false
    by false e = refl
    by true e =
        let here = all.0 in
        let same = numbers_are_distinct asked here.asked number here.number below here.below short here.short (one_path (numbered_path asked number) path e ∙ here.is) in
        absurd (omega (arith, same, here.small))

both : (a b : Bool) → (a && b) ≡ true → (a ≡ true) × (b ≡ true)
both true b e = (refl, e)
both false b e = cc

insert_other : (nodes : Nodes) (made at : Path) (new m : Node) → is_same at made ≡ false → finite.get (finite.insert nodes made new) at ≡ Some m → finite.get nodes at ≡ Some m
insert_other nodes made at new m other e = sym (ap (λ b. cond b (Some new) (finite.get nodes at)) other) ∙ sym (get-insert paths_total nodes made new at) ∙ e

no_less : (z : ℕ) (sequential b : Bool) (n m : Node) → cond b (n ≡ with_child z sequential m) (n ≡ m) → m.seq ≤ n.seq
no_less z true true n m is = let same = ap (λ (n : Node). n.seq) is in omega (arith, same)
no_less z false true n m is = let same = ap (λ (n : Node). n.seq) is in omega (arith, same)
no_less z sequential false n m is = let same = ap (λ (n : Node). n.seq) is in omega (arith, same)

module _ (above : Path) where
  -- the names that were made beneath the node differ, and their numbers are below its counter
  abbrev HasNumbers : List Path → Nodes → Type 0
  HasNumbers made nodes = IsDistinct is_same made × ((n : Node) → finite.get nodes above ≡ Some n → AllByRecursion (IsGiven n.seq) made)

  dropped-numbers : (made : List Path) (t : Tree) (gone : Path) → HasNumbers made t.nodes → HasNumbers made (without_node t gone).nodes
  dropped-numbers made t gone inv = (inv.0, each)
    where
      each : (n : Node) → finite.get (without_node t gone).nodes above ≡ Some n → AllByRecursion (IsGiven n.seq) made
      each n e =
          let f = without_child (t.zxid + 1) in
          let from = traced (finite.remove t.nodes gone) (parent_of gone) f above n e in
          let same = same_of (λ (n : Node). n.seq) f (λ m. refl) (is_same above (parent_of gone)) n from.before from.is in
          subst (λ seq. AllByRecursion (IsGiven seq) made) (sym same) (inv.1 from.before (remained t.nodes gone above from.before from.there))

  written-numbers : (made : List Path) (t : Tree) (at : Path) (bytes : List ℕ) → HasNumbers made t.nodes → HasNumbers made (with_data_at t at bytes).nodes
  written-numbers made t at bytes inv = (inv.0, each)
    where
      each : (n : Node) → finite.get (with_data_at t at bytes).nodes above ≡ Some n → AllByRecursion (IsGiven n.seq) made
      each n e =
          let f = with_data bytes (t.zxid + 1) t.time in
          let from = traced t.nodes at f above n e in
          let same = same_of (λ (n : Node). n.seq) f (λ m. refl) (is_same above at) n from.before from.is in
          subst (λ seq. AllByRecursion (IsGiven seq) made) (sym same) (inv.1 from.before from.there)

  acl-numbers : (made : List Path) (t : Tree) (at : Path) → HasNumbers made t.nodes → HasNumbers made (with_acl_at t at).nodes
  acl-numbers made t at inv = (inv.0, each)
    where
      each : (n : Node) → finite.get (with_acl_at t at).nodes above ≡ Some n → AllByRecursion (IsGiven n.seq) made
      each n e =
          let from = traced t.nodes at with_acl above n e in
          let same = same_of (λ (n : Node). n.seq) with_acl (λ m. refl) (is_same above at) n from.before from.is in
          subst (λ seq. AllByRecursion (IsGiven seq) made) (sym same) (inv.1 from.before from.there)

  -- a create that was done
  module _ (made : List Path) (t : Tree) (create : ToCreate) (inv : HasNumbers made t.nodes)
      (below : create.path ≢ []) (there : has_node t.nodes (parent_of create.path) ≡ true)
      (left : (n : Node) → finite.get t.nodes (parent_of create.path) ≡ Some n → create.kind.is_sequential ≡ true → n.seq ≤ 2147483647) where
    abbrev path : Path
    path = made_path t.nodes create.kind create.path

    abbrev sequential : Bool
    sequential = create.kind.is_sequential

    abbrev after : Tree
    after = with_node t path create.bytes (owner_of create.kind.lifetime) (term_of create.kind.lifetime) sequential

    abbrev new : Node
    new = new_node create.bytes (owner_of create.kind.lifetime) (term_of create.kind.lifetime) (t.zxid + 1) t.time

    stays : is_same above path ≡ false → HasNumbers made after.nodes
    stays other = (inv.0, each)
      where
        each : (n : Node) → finite.get after.nodes above ≡ Some n → AllByRecursion (IsGiven n.seq) made
        each n e =
            let from = traced (finite.insert t.nodes path new) (parent_of path) (with_child (t.zxid + 1) sequential) above n e in
            given_more made from.before.seq n.seq (no_less (t.zxid + 1) sequential (is_same above (parent_of path)) n from.before from.is)
            (inv.1 from.before (insert_other t.nodes path above new from.before other from.there))

    grows : is_same above path ≡ false → sequential ≡ true → is_same above (parent_of path) ≡ true → HasNumbers (path ∷ made) after.nodes
    unfolding IsDistinct
    grows other numbers beneath =
        let at : above ≡ parent_of create.path = one_path above (parent_of path) beneath ∙ parent_of-made t.nodes create.kind create.path in
        let node = node_there (finite.get t.nodes (parent_of create.path)) there in
        let m = node.0 in
        let here : finite.get t.nodes above ≡ Some m = ap (finite.get t.nodes) at ∙ node.1 in
        let few = left m node.1 numbers in
        let is : path ≡ numbered_path create.path m.seq =
        ap (λ b. if b then numbered_path create.path (counter_at t.nodes (parent_of create.path)) else create.path) numbers
        ∙ ap (λ o. numbered_path create.path (option_map_or (λ (n : Node). n.seq) o 0)) node.1 in
        let apart = another create.path m.seq made below (omega (arith, few)) (inv.1 m here) in
        ((subst (λ p. AllByRecursion (λ q. is_same p q ≡ false) made) (sym is) apart, inv.0), each m here is few)
      where
        each : (m : Node) → finite.get t.nodes above ≡ Some m → path ≡ numbered_path create.path m.seq → m.seq ≤ 2147483647
            → (n : Node) → finite.get after.nodes above ≡ Some n → AllByRecursion (IsGiven n.seq) (path ∷ made)
        each m here is few n e =
            let from = traced (finite.insert t.nodes path new) (parent_of path) (with_child (t.zxid + 1) sequential) above n e in
            let was : Some from.before ≡ Some m = sym (insert_other t.nodes path above new from.before other from.there) ∙ here in
            let is_m : from.before ≡ m = cc was in
            let grown : n ≡ with_child (t.zxid + 1) sequential from.before = subst (λ b. cond b (n ≡ with_child (t.zxid + 1) sequential from.before) (n ≡ from.before)) beneath from.is in
            let one_more : n.seq ≡ m.seq + 1 =
            ap (λ (n : Node). n.seq) grown
            ∙ ap (λ b. from.before.seq + (if b then 1 else 0)) numbers
            ∙ ap (λ (m : Node). m.seq + 1) is_m in (
              record { asked = create.path; number = m.seq; is = is; below = below; small = omega (arith, one_more); short = omega (arith, few) },
              given_more made m.seq n.seq (omega (arith, one_more)) (inv.1 m here),
            )

    created : (b : Bool) → is_same above path ≡ b → (c : Bool) → (sequential && is_same above (parent_of path)) ≡ c
        → HasNumbers (if b then [] else if c then path ∷ made else made) after.nodes
    unfolding IsDistinct
    created true same c e = (tt, λ n e. tt)
    created false other true e = let parts = both sequential (is_same above (parent_of path)) e in grows other parts.0 parts.1
    created false other false e = stays other

  part-numbers : (made : List Path) (t : Tree) (client : ℕ) (part : Part) → HasNumbers made t.nodes → LeavesDone (numbered_since above) HasNumbers made part (part_step t client part)
  part-numbers made t client (Create create) inv =
      create-leaves (numbered_since above) HasNumbers made t client create
      (λ e. let tests = no_test_holds (create_refusals t client create) e in
      let path = made_path t.nodes create.kind create.path in
      created made t create inv (not_root create.path tests.1.0) (is_there (has_node t.nodes (parent_of create.path)) tests.1.1.0)
      (unspent t.nodes (parent_of create.path) create.kind.is_sequential tests.1.1.1.1.0)
      (is_same above path) refl (create.kind.is_sequential && is_same above (parent_of path)) refl)
  part-numbers made t client (Delete delete) inv = delete-leaves (numbered_since above) HasNumbers made t client delete (dropped-numbers made t delete.path inv)
  part-numbers made t client (SetData set) inv = set-leaves (numbered_since above) HasNumbers made t client set (λ stat. written-numbers made t set.path set.bytes inv)
  part-numbers made t client (Check check) inv = check-leaves (numbered_since above) HasNumbers made t client check inv

pub numbers_differ : NumbersDiffer
unfolding IsDistinct
numbers_differ limits calls above =
    (kept_by_calls (numbered_since above) (HasNumbers above) (part-numbers above) (dropped-numbers above) (acl-numbers above) calls [] (opening_within limits) (tt, λ n e. tt)).0
