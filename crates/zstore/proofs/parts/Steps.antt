-- A step of a store: nodes that were changed, and the note that undoes it.
use Rattle.std.proofs.Common.{◌≡◌, ◌≢◌, ℕ, ◌<◌, false, [], ◌∷◌, ◌++◌, Option, Some, None, sym, ap, subst, ◌∙◌, arith}
use Rattle.std.specs.Prelude.{is_some, IsSome}
use Rattle.std.specs.FinMap as finite
use Rattle.zpath.specs.Grammar.{IsPath}
use Rattle.zslots.specs.declared.id.Id.{Id}
use Rattle.ztree.specs.declared.limits.TreeLimits.{TreeLimits}
use Rattle.ztree.specs.declared.node.Node.{Node}
use Rattle.ztree.specs.Tree.{Path, Sessions, parent_of, has_node, children, with_change_at}
use Rattle.ztree.specs.Lawful.{IsPersistent, IsOwner, HasOneEnd}
use Rattle.znodes.specs.NodesView.{NodesView, Adds, Takes}
use Rattle.zstore.specs.declared.undo.Undo.{Undo}
use Rattle.zstore.specs.declared.undo.Undo.TheVariants as undo
use Rattle.zstore.specs.support.Undoing.{Owners, Parts, parts_of, undone, with_change_of, CanGo, CanComeBack, Fits, returning, AllHeld, Notes, undos_of, add_note, held_after}
use Rattle.zstore.specs.support.Stored.{IsKept, AreOwners, IsStored}
use Rattle.zstore.proofs.parts.Undone.{parts_with, parts_without, parts_changed, undone-added, undone-taken, changed_back}
use Rattle.zstore.proofs.parts.Cached.{node_or_none, kept_with, kept_without, kept_changed, can_go, can_come_back, apart_with, apart_without}
use Rattle.zstore.proofs.parts.Noted.{with_held, noted_held, stored_noted}

module _ (old new : NodesView) (sessions : Sessions) (time zxid : ℕ) (limits : TreeLimits) (notes : Option Notes)
    (stored : IsStored notes old sessions time zxid limits) (id : Id) where
  -- a node that came
  module _ (path : Path) (n : Node) (adds : Adds old new id path n)
      (free : has_node old.nodes path ≡ false) (below : path ≢ []) where
    added_parts : parts_of new ≡ parts_with (parts_of old) id path n
    added_parts = λ i. record { nodes = adds.nodes i; places = adds.places i; held = adds.held i }

    pub added_back : undone (undo.Added id) (parts_of new) ≡ parts_of old
    added_back = ap (undone (undo.Added id)) added_parts
        ∙ undone-added (parts_of old) id path n adds.free (node_or_none old.nodes path free)

    added_fits : Fits new.owners (undo.Added id) (parts_of new)
    added_fits =
        subst (λ (p : Parts). CanGo p id) (sym added_parts)
        (can_go old.nodes old.places sessions time zxid limits stored.kept old.held id path n adds.unheld
        free below)

    pub added_held : AllHeld (undos_of notes ++ undo.Added id ∷ []) new.held
    added_held =
        noted_held (undo.Added id) old new sessions time zxid limits added_back notes stored adds.owners
        added_fits

    pub added_stored : IsPersistent (finite.get old.nodes (parent_of path)) →
        IsOwner sessions n.owner → HasOneEnd n → finite.len old.nodes < limits.nodes → IsPath path →
        IsStored (add_note (undo.Added id) notes)
        (with_held new (held_after (undo.Added id) notes new.held)) sessions time zxid limits
    added_stored parent owner one few is_path =
        let room = adds.room in
        let kept =
        subst (λ (p : Parts). IsKept p.nodes p.places sessions time zxid limits) (sym added_parts)
        (kept_with old.nodes old.places sessions time zxid limits stored.kept id path n free parent
        owner one few is_path) in
        let apart =
        subst (λ (p : Parts). (a : Id) (q : Path) → finite.get p.places a ≡ Some q →
        finite.get p.held a ≡ None) (sym added_parts)
        (apart_with old.places old.held id path adds.unheld stored.apart) in
        stored_noted (undo.Added id) old new sessions time zxid limits added_back notes stored adds.owners
        added_fits kept apart (omega (arith, room))

  -- a node that went
  module _ (path : Path) (n : Node) (takes : Takes old new id path n)
      (named : finite.get old.places id ≡ Some path) (found : finite.get old.nodes path ≡ Some n)
      (below : path ≢ []) (above : Id) where
    taken_parts : parts_of new ≡ parts_without (parts_of old) id path n
    taken_parts = λ i. record
        { nodes = takes.nodes i; places = takes.places i; held = takes.held i }

    pub taken_back : undone (undo.Taken id above) (parts_of new) ≡ parts_of old
    taken_back = ap (undone (undo.Taken id above)) taken_parts
        ∙ undone-taken (parts_of old) id path n above named found (stored.apart id path named)

    taken_fits : finite.get old.places above ≡ Some (parent_of path) → Fits new.owners (undo.Taken id above) (parts_of new)
    taken_fits over =
        subst (λ (p : Parts). CanComeBack new.owners p id above) (sym taken_parts)
        (can_come_back old.nodes old.places sessions time zxid limits stored.kept old.held new.owners id above
        path n (subst (λ (o : Owners). AreOwners o sessions) (sym takes.owners) stored.owners) found
        below named over)

    pub taken_held : finite.get old.places above ≡ Some (parent_of path) → AllHeld (undos_of notes ++ undo.Taken id above ∷ []) new.held
    taken_held over =
        noted_held (undo.Taken id above) old new sessions time zxid limits taken_back notes stored takes.owners
        (taken_fits over)

    pub taken_stored : finite.get old.places above ≡ Some (parent_of path) → children old.nodes path ≡ [] →
        IsStored (add_note (undo.Taken id above) notes)
        (with_held new (held_after (undo.Taken id above) notes new.held)) sessions time zxid limits
    taken_stored over leaf =
        let room = takes.room in
        let kept =
        subst (λ (p : Parts). IsKept p.nodes p.places sessions time zxid limits) (sym taken_parts)
        (kept_without old.nodes old.places sessions time zxid limits stored.kept id path named below
        leaf) in
        let apart =
        subst (λ (p : Parts). (a : Id) (q : Path) → finite.get p.places a ≡ Some q →
        finite.get p.held a ≡ None) (sym taken_parts)
        (apart_without old.places old.held id (path, n) stored.apart) in
        stored_noted (undo.Taken id above) old new sessions time zxid limits taken_back notes stored takes.owners
        (taken_fits over) kept apart (omega (arith, room))

  -- a node that was written, and a note that writes back
  module _ (u : Undo) (path : Path) (n : Node) (f g : Node → Node)
      (writes : new ≡ record old { nodes = with_change_at old.nodes path f })
      (named : finite.get old.places id ≡ Some path) (found : finite.get old.nodes path ≡ Some n)
      (back : g (f n) ≡ n) (undoes : (p : Parts) → undone u p ≡ with_change_of id g p)
      (fits : (p : Parts) → IsSome (finite.get p.places id) → Fits old.owners u p)
      (none : returning u ≡ 0) where
    owners : new.owners ≡ old.owners
    owners = ap (λ (v : NodesView). v.owners) writes

    pub written_back : undone u (parts_of new) ≡ parts_of old
    written_back = ap (λ (v : NodesView). undone u (parts_of v)) writes
        ∙ undoes (parts_changed (parts_of old) path f)
        ∙ changed_back (parts_of old) id path n f g named found back

    written_fits : Fits new.owners u (parts_of new)
    written_fits =
        subst (λ (v : NodesView). Fits v.owners u (parts_of v)) (sym writes)
        (fits (parts_changed (parts_of old) path f) (ap is_some named))

    pub written_held : AllHeld (undos_of notes ++ u ∷ []) new.held
    written_held =
        noted_held u old new sessions time zxid limits written_back notes stored owners written_fits

    pub written_stored : ((m : Node) → ((f m).owner ≡ m.owner) × ((f m).term ≡ m.term)) →
        IsStored (add_note u notes) (with_held new (held_after u notes new.held)) sessions time zxid limits
    written_stored same =
        let room = ap (λ (v : NodesView). v.room) writes in
        let kept =
        subst (λ (v : NodesView). IsKept v.nodes v.places sessions time zxid limits) (sym writes)
        (kept_changed old.nodes old.places sessions time zxid limits stored.kept path f same) in
        let apart =
        subst (λ (v : NodesView). (a : Id) (q : Path) → finite.get v.places a ≡ Some q →
        finite.get v.held a ≡ None) (sym writes) stored.apart in
        stored_noted u old new sessions time zxid limits written_back notes stored owners written_fits kept
        apart (omega (arith, room, none))
