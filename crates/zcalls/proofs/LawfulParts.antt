-- A part of a call leaves a lawful tree lawful.
use Rattle.std.proofs.Common.{◌≡◌, ◌<◌, ℕ, true, false, List, [], ◌∷◌, length, refl, sym, subst, arith}
use Rattle.std.specs.Prelude.{nat_le, nat_lt}
use Rattle.std.specs.FinMap as finite
use Rattle.std.proofs.lemmas.Bool.Decides.{nat_tests}
use Rattle.zpath.proofs.First.{no_test_holds}
use Rattle.ztree.specs.Tree.{Tree, parent_of, has_node, children, with_acl}
use Rattle.ztree.specs.Lawful.{IsLawful, IsPersistent, AllSessions}
use Rattle.ztree.proofs.Lawful.{lawful_added, lawful_dropped, lawful_written, lawful_changed}
use Rattle.zcalls.specs.declared.call.Part.{Part}
use Rattle.zcalls.specs.declared.call.SetAcl.{SetAcl}
use Rattle.zcalls.specs.Part.{change_step, acl_step, part_step, create_refusals, delete_refusals, made_path, owner_of, term_of}
use Rattle.zcalls.specs.declared.change.Change.{Change}
use Rattle.zcalls.specs.declared.change.Change.TheVariants as change
use Rattle.zcalls.specs.Bounds.{IsGranted}
use Rattle.zcalls.proofs.Leaving.{Leaves, create_step-leaves, delete_step-leaves, set_step-leaves, acl_step-leaves, part_step-leaves}
use Rattle.zcalls.proofs.Paths.{not_root, parent_of-made}
use Rattle.zcalls.proofs.Tables.{is_there}
use Rattle.zcalls.proofs.Owners.{persistent, owner_lives, one_end}

-- the tree is lawful, and each of its sessions was opened by a change and has a timeout that is granted
abbrev pub IsGood : Tree → Type 0
IsGood t = IsLawful t × AllSessions (IsGranted t.limits.timeout t.zxid) t.sessions

-- where there is room for one more, there are fewer than the limit
pub few : (most n : ℕ) → nat_le most n ≡ false → n < most
few most n e = grind (arith, nat_tests)

-- where there are no names, the list is empty
none : (names : List (List ℕ)) → nat_lt 0 (length names) ≡ false → names ≡ []
none [] e = refl
none (name ∷ names) e = let some : nat_lt 0 (length (name ∷ names)) ≡ true = grind (arith, nat_tests) in cc

-- each change leaves a good tree good
pub change-good : (t : Tree) (client : ℕ) (change : Change) → IsGood t → Leaves IsGood (change_step t client change)
change-good t client (change.Create create) good =
    create_step-leaves IsGood t client create
    (λ e. let tests = no_test_holds (create_refusals t client create) e in
    let parent = persistent t.nodes (parent_of create.path) (is_there (has_node t.nodes (parent_of create.path)) tests.1.1.0) tests.1.1.1.0 in (
      lawful_added t (made_path t.nodes create.kind create.path) create.bytes (owner_of create.kind.lifetime) (term_of create.kind.lifetime) create.kind.is_sequential good.0 tests.1.1.1.1.1.1.0
          (subst (λ p. IsPersistent (finite.get t.nodes p)) (sym (parent_of-made t.nodes create.kind create.path)) parent)
          (owner_lives t.sessions client create.kind.lifetime tests.0)
          (one_end create.kind.lifetime)
          (few t.limits.nodes (finite.len t.nodes) tests.1.1.1.1.1.1.1.0),
      good.1,
    ))
change-good t client (change.Delete delete) good =
    delete_step-leaves IsGood t delete
    (λ e. let tests = no_test_holds (delete_refusals t.nodes delete) e in
    (lawful_dropped t delete.path good.0 (not_root delete.path tests.0) (none (children t.nodes delete.path) tests.1.1.1.0), good.1))
change-good t client (change.SetData set) good = set_step-leaves IsGood t set (lawful_written t set.path set.bytes good.0, good.1)

pub acl-good : (t : Tree) (set : SetAcl) → IsGood t → Leaves IsGood (acl_step t set)
acl-good t set good = acl_step-leaves IsGood t set (lawful_changed t set.path with_acl (λ n. (refl, refl)) good.0, good.1)

pub part-good : (t : Tree) (client : ℕ) (part : Part) → IsGood t → Leaves IsGood (part_step t client part)
part-good t client part good =
    part_step-leaves IsGood t client part
    (λ create. change-good t client (change.Create create) good) (λ delete. change-good t client (change.Delete delete) good)
    (λ set. change-good t client (change.SetData set) good) good
