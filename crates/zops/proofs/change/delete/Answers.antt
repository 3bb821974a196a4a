use Rattle.std.proofs.Common.{◌≡◌, length, None, Ok, ap, refl, sym, ◌∙◌, arith}
use Rattle.std.specs.Prelude.{◌==◌}
use Rattle.zpath.specs.First.{first_that_holds}
use Rattle.ztree.specs.Tree.{without_node}
use Rattle.zcalls.specs.declared.change.ChangeReply.TheVariants.{Deleted}
use Rattle.zcalls.specs.Part.{delete_step, delete_refusals, unless_refused}
use Rattle.zcalls.proofs.Paths.{is_root-no_names}
use Rattle.zops.proofs.Marks.{mark_steps}
use Rattle.zops.proofs.change.delete.Goals as goal

pub returns-then-is_empty-clause-stopped : goal.returns-then-is_empty-clause-stopped
unfolding delete_step
returns-then-is_empty-clause-stopped c =
    let root = is_root-no_names c.args.delete.now.path ∙ ap (λ p. length p == 0) (sym c.names.ensures.names) ∙ sym c.is_empty.ensures ∙ c.if-is_empty.true in
    rw root refl

pub returns-in_default-clause-stopped : goal.returns-in_default-clause-stopped
unfolding delete_step
returns-in_default-clause-stopped c =
    let root = is_root-no_names c.args.delete.now.path ∙ ap (λ p. length p == 0) (sym c.names.ensures.names) ∙ sym c.is_empty.ensures ∙ c.if-is_empty.false in
    rw (root, ← c.in_default.ensures.node) refl

pub returns-then-has_other_version-clause-stopped : goal.returns-then-has_other_version-clause-stopped
unfolding delete_step
returns-then-has_other_version-clause-stopped c =
    let root = is_root-no_names c.args.delete.now.path ∙ ap (λ p. length p == 0) (sym c.names.ensures.names) ∙ sym c.is_empty.ensures ∙ c.if-is_empty.false in
    let other = sym (c.has_other_version.ensures c.args.delete.now.path c.in-Some.ensures.found) ∙ c.if-has_other_version.true in
    rw (root, ← c.in-Some.ensures.node, other) refl

pub returns-then-has_children-clause-stopped : goal.returns-then-has_children-clause-stopped
unfolding delete_step
returns-then-has_children-clause-stopped c =
    let root = is_root-no_names c.args.delete.now.path ∙ ap (λ p. length p == 0) (sym c.names.ensures.names) ∙ sym c.is_empty.ensures ∙ c.if-is_empty.false in
    let other = sym (c.has_other_version.ensures c.args.delete.now.path c.in-Some.ensures.found) ∙ c.if-has_other_version.false in
    let kids = sym (c.has_children.ensures c.args.delete.now.path c.in-Some.ensures.found) ∙ c.if-has_children.true in
    rw (root, ← c.in-Some.ensures.node, other, kids) refl

pub returns-clause-done : goal.returns-clause-done
unfolding delete_step
returns-clause-done c =
    let root = is_root-no_names c.args.delete.now.path ∙ ap (λ p. length p == 0) (sym c.names.ensures.names) ∙ sym c.is_empty.ensures ∙ c.if-is_empty.false in
    let other = sym (c.has_other_version.ensures c.args.delete.now.path c.in-Some.ensures.found) ∙ c.if-has_other_version.false in
    let kids = sym (c.has_children.ensures c.args.delete.now.path c.in-Some.ensures.found) ∙ c.if-has_children.false in
    let t = c.args.store.now.tree in
    let path = c.args.delete.now.path in
    let none : first_that_holds (delete_refusals t.nodes c.args.delete.now) ≡ None = rw (root, ← c.in-Some.ensures.node, other, kids) refl in
    record {
      step_is = ap (λ o. unless_refused o (without_node t path, Deleted)) none
          ∙ (λ i. Ok (sym (c.drop_leaf.ensures.tree path c.in-Some.ensures.found) i, Deleted));
      given = let same = c.drop_leaf.ensures.given in omega (arith, same);
      mark = mark_steps 2 c.args.store.now c.drop_leaf.new.self (omega arith) c.drop_leaf.ensures.marked;
    }
