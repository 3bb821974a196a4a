use Rattle.std.proofs.Common.{subst, refl, ◌*◌}
use Rattle.zcalls.specs.declared.limits.TheConstants.{MAX_RAISES}
use Rattle.zcalls.specs.Bounds.{IsWithin}
use Rattle.zops.specs.Restored.{IsDated}
use Rattle.zops.proofs.Restored.{restoring_node}
use Rattle.zops.proofs.restoring.Restoring.put_node.Goals as goal

pub invariant_of-self : goal.invariant_of-self
invariant_of-self c =
    let s = c.self.inside in
    let put = c.put_node in
    let within =
    subst (λ z. IsWithin (MAX_RAISES * z) c.args.node) c.zxid.ensures
    (c.if-not-is_of_its_tree.ensures.within refl) in
    let dated =
    subst (λ z. IsDated z s.store.tree.time c.args.node) c.zxid.ensures
    (subst (λ time. IsDated c.zxid.result time c.args.node) c.now.ensures (c.if-not-is_of_its_tree.ensures.dated refl)) in
    restoring_node s.store put.new.self s.applied c.args.path c.args.node put.result c.self.invariant
    within dated put.ensures.tree put.ensures.given put.ensures.can put.ensures.err
