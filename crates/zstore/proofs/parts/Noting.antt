-- A step of a store by what the nodes' calls say of it: what is held then, what undoes it, and what is stored.
use Rattle.std.proofs.Common.{◌≡◌, ◌≢◌, ℕ, [], ◌∷◌, ◌++◌, Option, Some, refl, sym, ap, ◌∙◌}
use Rattle.std.specs.Prelude.{IsSome}
use Rattle.std.specs.Option.{option_and_then}
use Rattle.std.specs.FinMap as finite
use Rattle.zslots.specs.declared.id.Id.{Id}
use Rattle.zslots.proofs.Maps.{id_cmp_total, id_cmp_same}
use Rattle.ztree.specs.declared.limits.TreeLimits.{TreeLimits}
use Rattle.ztree.specs.declared.node.Node.{Node}
use Rattle.ztree.specs.Tree.{Path, Nodes, Sessions, parent_of, children}
use Rattle.ztree.proofs.Maps.{has_some}
use Rattle.znodes.specs.declared.parts.Marks.{Marks}
use Rattle.znodes.specs.declared.parts.Content.{Content}
use Rattle.znodes.specs.NodesView.{NodesView, AtPath, AtNode, Takes, Writes, marks_of, content_of, node_with_marks, node_with_content}
use Rattle.zstore.specs.declared.undo.Undo.TheVariants as undo
use Rattle.zstore.specs.StoreView.{while_there}
use Rattle.zstore.specs.support.Undoing.{CanGo, parts_of, undone, AllHeld, Notes, undos_of, add_note, held_after}
use Rattle.zstore.specs.support.Stored.{IsStored}
use Rattle.zstore.proofs.ids.Naming.{path_there}
use Rattle.zstore.proofs.parts.Maps.{remove-insert}
use Rattle.zstore.proofs.parts.Undone.{undone-gone}
use Rattle.zstore.proofs.parts.Cached.{forgets_gone}
use Rattle.zstore.proofs.parts.Noted.{with_held}
use Rattle.zstore.proofs.parts.Steps.{taken_back, taken_held, taken_stored, written_back, written_held, written_stored}

-- an added node that is taken and given up
module _ (v w : NodesView) (id : Id) (fits : CanGo (parts_of v) id)
    (takes : AtPath v id (λ path. AtNode v id (Takes v w id path))) where
  pub gone : Takes v w id fits.path fits.node
  gone = takes fits.path fits.named fits.node
      (ap (option_and_then (finite.get v.nodes)) fits.named ∙ fits.found)

  pub gone_parts : (x : NodesView) → x ≡ record w { held = finite.remove w.held id } →
      parts_of x ≡ undone (undo.Added id) (parts_of v)
  gone_parts x release =
      let held = ap (λ h. finite.remove h id) gone.held
      ∙ remove-insert id_cmp_total id_cmp_same v.held id (fits.path, fits.node) fits.unheld in
      let parts : parts_of (with_held w (finite.remove w.held id)) ≡ record {
        nodes = finite.remove v.nodes fits.path;
        places = finite.remove v.places id;
        held = v.held;
      } =
      λ i. record { nodes = gone.nodes i; places = gone.places i; held = held i } in
      ap parts_of release ∙ parts ∙ sym (undone-gone (parts_of v) id fits)

module _ (old new : NodesView) (sessions : Sessions) (time zxid : ℕ) (limits : TreeLimits) (notes : Option Notes)
    (stored : IsStored notes old sessions time zxid limits) (id : Id)
    (live : IsSome (finite.get old.places id)) where
  -- the node that a live Id names
  There : Type 0
  There = (path : Path) × (n : Node) × (finite.get old.places id ≡ Some path) × (finite.get
      old.nodes path ≡ Some n)

  there : There
  unfolding There
  there =
      let at = path_there _ live in
      let n = has_some _ (stored.kept.named.there id at.0 at.1) in
      (at.0, n.0, at.1, n.1)

  path : Path
  unfolding There
  path = there.0

  node : Node
  unfolding There
  node = there.1

  named : finite.get old.places id ≡ Some path
  unfolding There path
  named = there.2

  found : finite.get old.nodes path ≡ Some node
  unfolding There path node
  found = there.3

  is_node : option_and_then (finite.get old.nodes) (finite.get old.places id) ≡ Some node
  is_node = ap (option_and_then (finite.get old.nodes)) named ∙ found

  module _ (takes : AtPath old id (λ path. AtNode old id (Takes old new id path))) (above : Id) where
    took : Takes old new id path node
    took = takes path named node is_node

    pub take_back : AtPath old id (λ path. path ≢ []) →
        undone (undo.Taken id above) (parts_of new) ≡ parts_of old
    take_back below =
        taken_back old new sessions time zxid limits notes stored id path node took named found
        (below path named) above

    pub take_held : AtPath old id (λ path. path ≢ []) →
        AtPath old id (λ path. finite.get old.places above ≡ Some (parent_of path)) →
        AllHeld (undos_of notes ++ undo.Taken id above ∷ []) new.held
    take_held below over =
        taken_held old new sessions time zxid limits notes stored id path node took named found
        (below path named) above (over path named)

    pub take_stored : AtPath old id (λ path. path ≢ []) →
        AtPath old id (λ path. finite.get old.places above ≡ Some (parent_of path)) →
        AtPath old id (λ path. children old.nodes path ≡ []) →
        IsStored (add_note (undo.Taken id above) notes)
        (with_held new (held_after (undo.Taken id above) notes new.held)) sessions time zxid limits
    take_stored below over leaf =
        taken_stored old new sessions time zxid limits notes stored id path node took named found
        (below path named) above (over path named) (leaf path named)

    pub take_places : new.places ≡ finite.remove old.places id
    take_places = took.places

    pub take_given : new.given ≡ old.given
    take_given = took.given

    pub take_nodes : AtPath old id (λ path. new.nodes ≡ finite.remove old.nodes path)
    take_nodes p at =
        let n = has_some _ (stored.kept.named.there id p at) in
        (takes p at n.0 (ap (option_and_then (finite.get old.nodes)) at ∙ n.1)).nodes

    pub take_gone : (a : Id) →
        finite.get new.places a ≡ option_and_then (while_there new.nodes) (finite.get old.places a)
    take_gone a =
        ap (λ p. finite.get p a) took.places
        ∙ forgets_gone old.nodes old.places stored.kept.named id path named a
        ∙ ap (λ (m : Nodes). option_and_then (while_there m) (finite.get old.places a))
        (sym took.nodes)

  module _ (marks before : Marks) (writes : Writes old new id (node_with_marks marks))
      (was : AtNode old id (λ n. before ≡ marks_of n)) where
    marks_again : node_with_marks before (node_with_marks marks node) ≡ node
    marks_again = ap (λ m. node_with_marks m (node_with_marks marks node)) (was node is_node)

    pub marks_back : undone (undo.Marked id before) (parts_of new) ≡ parts_of old
    marks_back =
        written_back old new sessions time zxid limits notes stored id (undo.Marked id before) path node
        (node_with_marks marks) (node_with_marks before) (writes path named) named found marks_again
        (λ p. refl) (λ p some. some) refl

    pub marks_held : AllHeld (undos_of notes ++ undo.Marked id before ∷ []) new.held
    marks_held =
        written_held old new sessions time zxid limits notes stored id (undo.Marked id before) path node
        (node_with_marks marks) (node_with_marks before) (writes path named) named found marks_again
        (λ p. refl) (λ p some. some) refl

    pub marks_stored : IsStored (add_note (undo.Marked id before) notes)
        (with_held new (held_after (undo.Marked id before) notes new.held)) sessions time zxid limits
    marks_stored =
        written_stored old new sessions time zxid limits notes stored id (undo.Marked id before) path node
        (node_with_marks marks) (node_with_marks before) (writes path named) named found marks_again
        (λ p. refl) (λ p some. some) refl (λ m. (refl, refl))

  module _ (content before : Content) (writes : Writes old new id (node_with_content content))
      (was : AtNode old id (λ n. before ≡ content_of n)) where
    content_again : node_with_content before (node_with_content content node) ≡ node
    content_again =
        ap (λ m. node_with_content m (node_with_content content node)) (was node is_node)

    pub content_back : undone (undo.Written id before) (parts_of new) ≡ parts_of old
    content_back =
        written_back old new sessions time zxid limits notes stored id (undo.Written id before) path node
        (node_with_content content) (node_with_content before) (writes path named) named found
        content_again (λ p. refl) (λ p some. some) refl

    pub content_held : AllHeld (undos_of notes ++ undo.Written id before ∷ []) new.held
    content_held =
        written_held old new sessions time zxid limits notes stored id (undo.Written id before) path node
        (node_with_content content) (node_with_content before) (writes path named) named found
        content_again (λ p. refl) (λ p some. some) refl

    pub content_stored : IsStored (add_note (undo.Written id before) notes)
        (with_held new (held_after (undo.Written id before) notes new.held)) sessions time zxid limits
    content_stored =
        written_stored old new sessions time zxid limits notes stored id (undo.Written id before) path node
        (node_with_content content) (node_with_content before) (writes path named) named found
        content_again (λ p. refl) (λ p some. some) refl (λ m. (refl, refl))
