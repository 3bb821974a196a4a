-- What a step leaves, where it was done: a change, a part, and all parts of a multi.
use Rattle.std.proofs.Common.{◌≡◌, ℕ, ◌+◌, Bool, true, false, if◌then◌else◌, List, [], ◌∷◌, Option, Some, None, Result, Ok, Err, refl, subst}
use Rattle.std.specs.FinMap as finite
use Rattle.std.specs.Option.{option_map_or}
use Rattle.zpath.specs.First.{first_that_holds}
use Rattle.ztree.specs.declared.node.Node.{Node}
use Rattle.ztree.specs.Tree.{Tree, with_node, without_node, with_data_at, with_data, with_acl_at, with_acl}
use Rattle.zcalls.specs.declared.call.Create.{Create as ToCreate}
use Rattle.zcalls.specs.declared.call.Delete.{Delete as ToDelete}
use Rattle.zcalls.specs.declared.call.SetData.{SetData as ToSet}
use Rattle.zcalls.specs.declared.call.SetAcl.{SetAcl as ToSetAcl}
use Rattle.zcalls.specs.declared.call.Check.{Check as ToCheck}
use Rattle.zcalls.specs.declared.call.Part.{Part}
use Rattle.zcalls.specs.declared.call.Part.TheVariants.{Create, Delete, SetData, Check}
use Rattle.zcalls.specs.declared.change.ChangeReply.{ChangeReply}
use Rattle.zcalls.specs.declared.change.ChangeReply.TheVariants.{Created, Deleted}
use Rattle.zcalls.specs.declared.refusal.Refusal.{Refusal}
use Rattle.zcalls.specs.declared.refusal.Refusal.TheVariants.{BadVersion}
use Rattle.zcalls.specs.declared.reply.PartReply.{PartReply}
use Rattle.zcalls.specs.declared.reply.PartReply.TheVariants.{Checked}
use Rattle.zcalls.specs.Part.{create_step, delete_step, set_step, acl_step, check_step, reported_as_part, part_step, create_refusals, delete_refusals, made_path, owner_of, term_of, unless_refused, unless_other, has_other_version, has_other_acl, with_node_set}
use Rattle.zcalls.specs.Multi.{Run, behind, and_then, run}

-- the tree that was left has this, where the step was done
abbrev pub Leaves : {A E : Type 0} → (Tree → Type 0) → Result (Tree × A) E → Type 0
Leaves P (Err refusal) = Unit {0}
Leaves P (Ok (t, reply)) = P t

module _ (P : Tree → Type 0) where
  unless_refused-leaves : {A : Type 0} (o : Option Refusal) (did : Tree × A) → (o ≡ None → P did.0) → Leaves P (unless_refused o did)
  unless_refused-leaves (Some refusal) did left = tt
  unless_refused-leaves None did left = left refl

  unless_other-leaves : {A : Type 0} (is_other : Node → Bool) (o : Option Node) (act : Node → Tree × A) → ((n : Node) → o ≡ Some n → P (act n).0) → Leaves P (unless_other is_other o act)
  unless_other-leaves is_other None act left = tt
  unless_other-leaves is_other (Some n) act left = by (is_other n)
    where
      by : (b : Bool) → Leaves P (if b then Err BadVersion else Ok (act n))
      by true = tt
      by false = left n refl

  pub reported_as_part-leaves : (did : Result (Tree × ChangeReply) Refusal) → Leaves P did → Leaves P (reported_as_part did)
  reported_as_part-leaves (Err refusal) left = tt
  reported_as_part-leaves (Ok (t, reply)) left = left

  pub create_step-leaves : (t : Tree) (client : ℕ) (create : ToCreate)
      → (first_that_holds (create_refusals t client create) ≡ None → P (with_node t (made_path t.nodes create.kind create.path) create.bytes (owner_of create.kind.lifetime) (term_of create.kind.lifetime) create.kind.is_sequential))
      → Leaves P (create_step t client create)
  unfolding create_step
  create_step-leaves t client create left =
      let made = made_path t.nodes create.kind create.path in
      unless_refused-leaves (first_that_holds (create_refusals t client create)) (with_node t made create.bytes (owner_of create.kind.lifetime) (term_of create.kind.lifetime) create.kind.is_sequential, Created made) left

  pub delete_step-leaves : (t : Tree) (delete : ToDelete)
      → (first_that_holds (delete_refusals t.nodes delete) ≡ None → P (without_node t delete.path)) → Leaves P (delete_step t delete)
  unfolding delete_step
  delete_step-leaves t delete left = unless_refused-leaves (first_that_holds (delete_refusals t.nodes delete)) (without_node t delete.path, Deleted) left

  pub set_step-leaves : (t : Tree) (set : ToSet) → P (with_data_at t set.path set.bytes) → Leaves P (set_step t set)
  unfolding set_step
  set_step-leaves t set left =
      unless_other-leaves (has_other_version set.version) (finite.get t.nodes set.path) (λ n. with_node_set t set.path (with_data set.bytes (t.zxid + 1) t.time n))
      (λ n e. subst (λ o. P (record t { nodes = option_map_or (λ n. finite.insert t.nodes set.path (with_data set.bytes (t.zxid + 1) t.time n)) o t.nodes })) e left)

  pub acl_step-leaves : (t : Tree) (set : ToSetAcl) → P (with_acl_at t set.path) → Leaves P (acl_step t set)
  unfolding acl_step
  acl_step-leaves t set left =
      unless_other-leaves (has_other_acl set.version) (finite.get t.nodes set.path) (λ n. with_node_set t set.path (with_acl n))
      (λ n e. subst (λ o. P (record t { nodes = option_map_or (λ n. finite.insert t.nodes set.path (with_acl n)) o t.nodes })) e left)

  pub check_step-leaves : (t : Tree) (check : ToCheck) → P t → Leaves P (check_step t check)
  unfolding check_step
  check_step-leaves t check left = unless_other-leaves (has_other_version check.version) (finite.get t.nodes check.path) (λ n. (t, Checked)) (λ n e. left)

  -- a part leaves what the change that it asks for leaves
  pub part_step-leaves : (t : Tree) (client : ℕ) (part : Part)
      → ((create : ToCreate) → Leaves P (create_step t client create)) → ((delete : ToDelete) → Leaves P (delete_step t delete))
      → ((set : ToSet) → Leaves P (set_step t set)) → P t
      → Leaves P (part_step t client part)
  part_step-leaves t client (Create create) creates deletes sets stays = reported_as_part-leaves (create_step t client create) (creates create)
  part_step-leaves t client (Delete delete) creates deletes sets stays = reported_as_part-leaves (delete_step t delete) (deletes delete)
  part_step-leaves t client (SetData set) creates deletes sets stays = reported_as_part-leaves (set_step t set) (sets set)
  part_step-leaves t client (Check check) creates deletes sets stays = check_step-leaves t check stays

  behind-leaves : (reply : PartReply) (did : Run) → Leaves P did → Leaves P (behind reply did)
  behind-leaves reply (Err (number, refusal)) left = tt
  behind-leaves reply (Ok (t, replies)) left = left

  pub and_then-leaves : (did : Result (Tree × PartReply) Refusal) (rest : Tree → Run) → Leaves P did → ((u : Tree) → P u → Leaves P (rest u)) → Leaves P (and_then did rest)
  and_then-leaves (Err refusal) rest left each = tt
  and_then-leaves (Ok (t, reply)) rest left each = behind-leaves reply (rest t) (each t left)

  -- what each part preserves, a multi's parts preserve
  pub run-leaves : ((t : Tree) (client : ℕ) (part : Part) → P t → Leaves P (part_step t client part)) → (parts : List Part) (t : Tree) (client : ℕ) → P t → Leaves P (run t client parts)
  unfolding run
  run-leaves keeps [] t client here = here
  run-leaves keeps (part ∷ parts) t client here =
      and_then-leaves (part_step t client part) (λ u. run u client parts) (keeps t client part here) (λ u left. run-leaves keeps parts u client left)
