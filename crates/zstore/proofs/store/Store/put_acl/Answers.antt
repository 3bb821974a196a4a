use Rattle.std.proofs.Common.{refl, ap, ◌∙◌}
use Rattle.zslots.proofs.Items.{some_there}
use Rattle.ztree.specs.Tree.{Tree, with_acl, with_acl_at}
use Rattle.zstore.specs.StoreView.{StoreView, path_of}
use Rattle.znodes.specs.NodesView.{NodesView}
use Rattle.zstore.specs.support.Undoing.{notes_of}
use Rattle.zstore.specs.support.Stored.{tree_of}
use Rattle.zstore.proofs.parts.Restored.{changed_held, changed_stored}
use Rattle.zstore.proofs.store.Store.put_acl.Goals as goal

pub stop-requires : goal.stop-requires
stop-requires c =
    let s = c.self.inside in
    let path = some_there (path_of c.args.self.now c.args.id) c.requires.live in
    changed_held s.nodes c.raise_acl.new.self s.sessions s.time s.zxid s.limits (notes_of s.log) c.self.invariant
    path.0 with_acl (c.raise_acl.ensures.written path.0 (ap (λ (h : StoreView). path_of h c.args.id) c.self.view_is ∙ path.1))

pub invariant_of-self : goal.invariant_of-self
invariant_of-self c =
    let s = c.self.inside in
    let path = some_there (path_of c.args.self.now c.args.id) c.requires.live in
    rw (c.stop.ensures.off, c.stop.ensures.nodes)
    (changed_stored s.nodes c.raise_acl.new.self s.sessions s.time s.zxid s.limits (notes_of s.log) c.self.invariant
    path.0 with_acl (c.raise_acl.ensures.written path.0 (ap (λ (h : StoreView). path_of h c.args.id) c.self.view_is ∙ path.1))
    (λ m. (refl, refl)))

pub returns-clause-tree : goal.returns-clause-tree
returns-clause-tree c = λ path at.
    let s = c.self.inside in
    let view = c.self.view_is in
    let tree : NodesView → Tree = λ v. tree_of v.nodes s.sessions s.time s.zxid s.limits in
    ap tree c.stop.ensures.nodes ∙ ap tree (c.raise_acl.ensures.written path (ap (λ (h : StoreView). path_of h c.args.id) view ∙ at))
    ∙ ap (λ (h : StoreView). with_acl_at h.tree path) view
