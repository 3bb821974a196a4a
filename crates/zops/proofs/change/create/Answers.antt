use Rattle.std.proofs.Common.{ap, arith, subst, sym, ◌∙◌, refl, Some, Ok}
use Rattle.std.proofs.lemmas.Result.{err_from_is_err_and}
use Rattle.std.specs.Option.{option_and_then}
use Rattle.std.specs.FinMap as finite
use Rattle.ztree.specs.declared.limits.TreeLimits.{TreeLimits}
use Rattle.ztree.specs.Lawful.{IsPersistent, IsOwner}
use Rattle.ztree.specs.Tree.{has_node, parent_of, with_node}
use Rattle.zcalls.specs.declared.change.ChangeReply.TheVariants.{Created}
use Rattle.zcalls.specs.Part.{create_step, is_owned, node_has}
use Rattle.zcalls.proofs.Paths.{below, is_over-path, at_least, less_than, parent_of-made, made-below_root, not_root}
use Rattle.zops.proofs.Creating.{created-refused, created-done, nameless, taken, full, all_clear}
use Rattle.zcalls.proofs.Owners.{persistent, owner_lives, one_end}
use Rattle.zops.proofs.Marks.{mark_steps}
use Rattle.zops.proofs.change.create.Goals as goal

pub returns-in_default-clause-stopped : goal.returns-in_default-clause-stopped
unfolding create_step
returns-in_default-clause-stopped c =
    let owner = sym c.has_no_owner.ensures ∙ c.if-has_no_owner.false in
    rw (owner, rw c.in_default.is at c.in_ok-above.ensures.root) refl

pub returns-in_default-find-clause-stopped : goal.returns-in_default-find-clause-stopped
unfolding create_step
returns-in_default-find-clause-stopped c =
    let last = rw c.in-Some.is at c.in_ok-above.ensures.front in
    let below = below c.args.create.now.path c.in-Some.above last.0 last.1 in
    let owner = sym c.has_no_owner.ensures ∙ c.if-has_no_owner.false in
    rw (owner, below.root, below.parent, ← c.in_default-find.ensures.node) refl

pub returns-then-is_ephemeral-clause-stopped : goal.returns-then-is_ephemeral-clause-stopped
unfolding create_step
returns-then-is_ephemeral-clause-stopped c =
    let last = rw c.in-Some.is at c.in_ok-above.ensures.front in
    let below = below c.args.create.now.path c.in-Some.above last.0 last.1 in
    let owned = sym (c.is_ephemeral.ensures c.in-Some.above c.in-Some-find.ensures.found) ∙ c.if-is_ephemeral.true in
    let owner = sym c.has_no_owner.ensures ∙ c.if-has_no_owner.false in
    rw (owner, below.root, below.parent, ← c.in-Some-find.ensures.node, owned) refl

pub made_path-requires-clause-live : goal.made_path-requires-clause-live
made_path-requires-clause-live c =
    let last = rw c.in-Some.is at c.in_ok-above.ensures.front in
    let below = below c.args.create.now.path c.in-Some.above last.0 last.1 in
    c.in-Some-find.ensures.found ∙ ap Some (sym below.parent)

pub made_path-requires-clause-short : goal.made_path-requires-clause-short
made_path-requires-clause-short c = is_over-path c.args.create.now.path c.in_ok-above.ensures.path

pub returns-in_err-made-clause-stopped : goal.returns-in_err-made-clause-stopped
returns-in_err-made-clause-stopped c =
    let last = rw c.in-Some.is at c.in_ok-above.ensures.front in
    let below = below c.args.create.now.path c.in-Some.above last.0 last.1 in
    let nodes = c.args.store.now.tree.nodes in
    let there = ap (has_node nodes) below.parent ∙ sym c.in-Some-find.ensures.node in
    let owned = ap (node_has is_owned nodes) below.parent ∙ sym (c.is_ephemeral.ensures c.in-Some.above c.in-Some-find.ensures.found) ∙ c.if-is_ephemeral.false in
    let owner = sym c.has_no_owner.ensures ∙ c.if-has_no_owner.false in
    let p = err_from_is_err_and c.from_residual-in_err-made.result c.from_residual-in_err-made.ensures.1 in
    rw (p.1, p.2) (nameless c.args.store.now.tree c.args.client c.args.create.now owner below.root there owned c.in_err-made.field-0.0 c.in_err-made.ensures.stopped)

pub returns-then-is_some-clause-stopped : goal.returns-then-is_some-clause-stopped
returns-then-is_some-clause-stopped c =
    let last = rw c.in-Some.is at c.in_ok-above.ensures.front in
    let below = below c.args.create.now.path c.in-Some.above last.0 last.1 in
    let nodes = c.args.store.now.tree.nodes in
    let there = ap (has_node nodes) below.parent ∙ sym c.in-Some-find.ensures.node in
    let owned = ap (node_has is_owned nodes) below.parent ∙ sym (c.is_ephemeral.ensures c.in-Some.above c.in-Some-find.ensures.found) ∙ c.if-is_ephemeral.false in
    let here = sym c.find-2.ensures.node ∙ sym c.is_some.ensures ∙ c.if-is_some.true in
    let owner = sym c.has_no_owner.ensures ∙ c.if-has_no_owner.false in
    created-refused c.args.store.now.tree c.args.client c.args.create.now _
    (taken c.args.store.now.tree c.args.client c.args.create.now owner below.root there owned c.in_ok-made.made c.in_ok-made.ensures.made c.in_ok-made.ensures.allowed here)

pub returns-then-nodes-limits-clause-stopped : goal.returns-then-nodes-limits-clause-stopped
returns-then-nodes-limits-clause-stopped c =
    let last = rw c.in-Some.is at c.in_ok-above.ensures.front in
    let below = below c.args.create.now.path c.in-Some.above last.0 last.1 in
    let nodes = c.args.store.now.tree.nodes in
    let there = ap (has_node nodes) below.parent ∙ sym c.in-Some-find.ensures.node in
    let owned = ap (node_has is_owned nodes) below.parent ∙ sym (c.is_ephemeral.ensures c.in-Some.above c.in-Some-find.ensures.found) ∙ c.if-is_ephemeral.false in
    let free = sym c.find-2.ensures.node ∙ sym c.is_some.ensures ∙ c.if-is_some.false in
    let most = ap (λ (l : TreeLimits). l.nodes) c.limits.ensures in
    let many = at_least c.args.store.now.tree.limits.nodes (finite.len nodes) (omega (arith, c.nodes.ensures, most, c.if-nodes-limits.true)) in
    let owner = sym c.has_no_owner.ensures ∙ c.if-has_no_owner.false in
    created-refused c.args.store.now.tree c.args.client c.args.create.now _
    (full c.args.store.now.tree c.args.client c.args.create.now owner below.root there owned c.in_ok-made.made c.in_ok-made.ensures.made c.in_ok-made.ensures.allowed free many)

pub add-requires-clause-live : goal.add-requires-clause-live
add-requires-clause-live c =
    let last = rw c.in-Some.is at c.in_ok-above.ensures.front in
    let below = below c.args.create.now.path c.in-Some.above last.0 last.1 in
    let nodes = c.args.store.now.tree.nodes in
    let parent = ap parent_of c.in_ok-made.ensures.made ∙ parent_of-made nodes c.args.create.now.kind c.args.create.now.path ∙ below.parent in
    c.in-Some-find.ensures.found ∙ ap Some (sym parent)

pub add-requires-clause-below_root : goal.add-requires-clause-below_root
add-requires-clause-below_root c e =
    let last = rw c.in-Some.is at c.in_ok-above.ensures.front in
    let below = below c.args.create.now.path c.in-Some.above last.0 last.1 in
    let path = c.args.create.now.path in
    made-below_root c.args.store.now.tree.nodes c.args.create.now.kind path (not_root path below.root) (sym c.in_ok-made.ensures.made ∙ e)

pub returns-clause-done : goal.returns-clause-done
returns-clause-done c =
    let last = rw c.in-Some.is at c.in_ok-above.ensures.front in
    let below = below c.args.create.now.path c.in-Some.above last.0 last.1 in
    let nodes = c.args.store.now.tree.nodes in
    let there = ap (has_node nodes) below.parent ∙ sym c.in-Some-find.ensures.node in
    let owned = ap (node_has is_owned nodes) below.parent ∙ sym (c.is_ephemeral.ensures c.in-Some.above c.in-Some-find.ensures.found) ∙ c.if-is_ephemeral.false in
    let free = sym c.find-2.ensures.node ∙ sym c.is_some.ensures ∙ c.if-is_some.false in
    let most = ap (λ (l : TreeLimits). l.nodes) c.limits.ensures in
    let few = less_than c.args.store.now.tree.limits.nodes (finite.len nodes) (omega (arith, c.nodes.ensures, most, c.if-nodes-limits.false)) in
    let owner = sym c.has_no_owner.ensures ∙ c.if-has_no_owner.false in
    let t = c.args.store.now.tree in
    let create = c.args.create.now in
    record {
      step_is = created-done t c.args.client create
          (all_clear t c.args.client create owner below.root there owned c.in_ok-made.made c.in_ok-made.ensures.made c.in_ok-made.ensures.allowed free few)
          ∙ (λ i. Ok (with_node t (sym c.in_ok-made.ensures.made i) (sym c.in-Ok-clone.ensures.cases i) (sym c.owner-owner.ensures i) (sym c.term-term.ensures i) create.kind.is_sequential, Created (sym c.in_ok-made.ensures.made i)))
          ∙ (λ i. Ok (sym c.in_ok-add.ensures.added i, Created (sym c.in-Ok.ensures.cases i)));
      given = c.in_ok-add.ensures.given.1;
      mark = mark_steps 2 c.args.store.now c.add.new.self (omega arith) c.in_ok-add.ensures.marked;
    }

pub returns-then-has_no_owner-clause-stopped : goal.returns-then-has_no_owner-clause-stopped
unfolding create_step
returns-then-has_no_owner-clause-stopped c = rw (sym c.has_no_owner.ensures ∙ c.if-has_no_owner.true) refl

pub add-requires-clause-persistent : goal.add-requires-clause-persistent
add-requires-clause-persistent c =
    let nodes = c.args.store.now.tree.nodes in
    let unowned = sym (c.is_ephemeral.ensures c.in-Some.above c.in-Some-find.ensures.found) ∙ c.if-is_ephemeral.false in
    subst (λ o. IsPersistent (option_and_then (finite.get nodes) o)) (sym c.in-Some-find.ensures.found)
    (persistent nodes c.in-Some.above (sym c.in-Some-find.ensures.node) unowned)

pub add-requires-clause-owner : goal.add-requires-clause-owner
add-requires-clause-owner c =
    let sessions = c.args.store.now.tree.sessions in
    subst (IsOwner sessions) (sym c.owner-owner.ensures)
    (owner_lives sessions c.args.client c.args.create.now.kind.lifetime (sym c.has_no_owner.ensures ∙ c.if-has_no_owner.false))

pub add-requires-clause-one_end : goal.add-requires-clause-one_end
add-requires-clause-one_end c = rw (c.term-term.ensures, c.owner-owner.ensures) (one_end c.args.create.now.kind.lifetime)
