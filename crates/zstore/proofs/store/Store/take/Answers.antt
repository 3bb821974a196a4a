use Rattle.std.proofs.Common.{◌≡◌, ◌≢◌, [], Some, sym, ap, subst, ◌∙◌}
use Rattle.std.specs.Prelude.{IsSome}
use Rattle.std.specs.Option.{option_and_then}
use Rattle.std.specs.FinMap as finite
use Rattle.ztree.specs.Tree.{parent_of, children}
use Rattle.znodes.specs.NodesView.{NodesView}
use Rattle.zstore.specs.declared.undo.Undo.TheVariants.{Taken}
use Rattle.zstore.specs.StoreView.{StoreView, path_of, AtPath, while_there}
use Rattle.zstore.specs.support.Undoing.{notes_of}
use Rattle.zstore.specs.support.Stored.{tree_of}
use Rattle.zstore.proofs.parts.Noted.{noted_marked}
use Rattle.zstore.proofs.parts.Noting.{take_back, take_held, take_stored, take_places, take_given, take_nodes, take_gone}
use Rattle.zstore.proofs.store.Store.take.Goals as goal

pub note-requires : goal.note-requires
note-requires c =
    let s = c.self.inside in
    let live =
    subst (λ (h : StoreView). IsSome (path_of h c.args.id)) (sym c.self.view_is) c.requires.live
    in
    let below =
    subst (λ (h : StoreView). AtPath h c.args.id (λ path. path ≢ [])) (sym c.self.view_is)
    c.requires.below_root in
    let over =
    subst (λ (h : StoreView). AtPath h c.args.id (λ path. path_of h c.args.parent ≡ Some (parent_of path)))
    (sym c.self.view_is) c.requires.under in
    take_held s.nodes c.take.new.self s.sessions s.time s.zxid s.limits (notes_of s.log) c.self.invariant
    c.args.id live c.take.ensures c.args.parent below over

pub invariant_of-self : goal.invariant_of-self
invariant_of-self c =
    let s = c.self.inside in
    let live =
    subst (λ (h : StoreView). IsSome (path_of h c.args.id)) (sym c.self.view_is) c.requires.live
    in
    let below =
    subst (λ (h : StoreView). AtPath h c.args.id (λ path. path ≢ [])) (sym c.self.view_is)
    c.requires.below_root in
    let over =
    subst (λ (h : StoreView). AtPath h c.args.id (λ path. path_of h c.args.parent ≡ Some (parent_of path)))
    (sym c.self.view_is) c.requires.under in
    let leaf =
    subst (λ (h : StoreView). AtPath h c.args.id (λ path. children h.tree.nodes path ≡ []))
    (sym c.self.view_is) c.requires.leaf in
    rw (c.note.ensures.notes, c.note.ensures.nodes)
    (take_stored s.nodes c.take.new.self s.sessions s.time s.zxid s.limits (notes_of s.log)
    c.self.invariant c.args.id live c.take.ensures c.args.parent below over leaf)

pub returns-clause-marked : goal.returns-clause-marked
returns-clause-marked c =
    let s = c.self.inside in
    let live =
    subst (λ (h : StoreView). IsSome (path_of h c.args.id)) (sym c.self.view_is) c.requires.live
    in
    let below =
    subst (λ (h : StoreView). AtPath h c.args.id (λ path. path ≢ [])) (sym c.self.view_is)
    c.requires.below_root in
    rw (c.note.ensures.notes, c.note.ensures.nodes, ← c.self.view_is) (
    noted_marked (Taken c.args.id c.args.parent) s.nodes c.take.new.self s.sessions s.time s.zxid s.limits
    (take_back s.nodes c.take.new.self s.sessions s.time s.zxid s.limits (notes_of s.log) c.self.invariant
    c.args.id live c.take.ensures c.args.parent below)
    (notes_of s.log))

pub returns-clause-tree : goal.returns-clause-tree
returns-clause-tree c = λ path named.
    let s = c.self.inside in
    let live =
    subst (λ (h : StoreView). IsSome (path_of h c.args.id)) (sym c.self.view_is) c.requires.live
    in
    let is = ap (λ (h : StoreView). path_of h c.args.id) c.self.view_is ∙ named in
    ap (λ (v : NodesView). tree_of v.nodes s.sessions s.time s.zxid s.limits) c.note.ensures.nodes
    ∙ ap (λ m. tree_of m s.sessions s.time s.zxid s.limits)
    (take_nodes s.nodes c.take.new.self s.sessions s.time s.zxid s.limits (notes_of s.log)
    c.self.invariant c.args.id live c.take.ensures c.args.parent path is)
    ∙ ap (λ (h : StoreView). record h.tree { nodes = finite.remove h.tree.nodes path })
    c.self.view_is

pub returns-clause-forgotten : goal.returns-clause-forgotten
returns-clause-forgotten c =
    let s = c.self.inside in
    let live =
    subst (λ (h : StoreView). IsSome (path_of h c.args.id)) (sym c.self.view_is) c.requires.live
    in
    ap (λ (v : NodesView). v.places) c.note.ensures.nodes
    ∙ take_places s.nodes c.take.new.self s.sessions s.time s.zxid s.limits (notes_of s.log) c.self.invariant
    c.args.id live c.take.ensures c.args.parent
    ∙ ap (λ (h : StoreView). finite.remove h.places c.args.id) c.self.view_is

pub returns-clause-gone : goal.returns-clause-gone
returns-clause-gone c = λ a.
    let s = c.self.inside in
    let live =
    subst (λ (h : StoreView). IsSome (path_of h c.args.id)) (sym c.self.view_is) c.requires.live
    in
    ap (λ (v : NodesView). finite.get v.places a) c.note.ensures.nodes
    ∙ take_gone s.nodes c.take.new.self s.sessions s.time s.zxid s.limits (notes_of s.log) c.self.invariant
    c.args.id live c.take.ensures c.args.parent a
    ∙ ap (λ (v : NodesView). option_and_then (while_there v.nodes) (finite.get s.nodes.places a))
    (sym c.note.ensures.nodes)
    ∙ ap (λ (h : StoreView). option_and_then (while_there c.note.new.nodes.nodes) (path_of h a))
    c.self.view_is

pub returns-clause-given : goal.returns-clause-given
returns-clause-given c =
    let s = c.self.inside in
    let live =
    subst (λ (h : StoreView). IsSome (path_of h c.args.id)) (sym c.self.view_is) c.requires.live
    in
    ap (λ (v : NodesView). v.given) c.note.ensures.nodes
    ∙ take_given s.nodes c.take.new.self s.sessions s.time s.zxid s.limits (notes_of s.log) c.self.invariant
    c.args.id live c.take.ensures c.args.parent
    ∙ ap (λ (h : StoreView). h.given) c.self.view_is
