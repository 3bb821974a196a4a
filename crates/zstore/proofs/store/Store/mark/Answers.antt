use Rattle.std.proofs.Common.{[], ap, ◌∙◌}
use Rattle.std.specs.Option.{option_map}
use Rattle.znodes.specs.NodesView.{NodesView}
use Rattle.zstore.specs.StoreView.{StoreView}
use Rattle.zstore.specs.support.Undoing.{notes_of}
use Rattle.zstore.specs.support.Stored.{tree_of, mark_of}
use Rattle.zstore.proofs.parts.Noted.{notes_held, stored_freed, stored_started}
use Rattle.zstore.proofs.store.Store.mark.Goals as goal

pub start-requires : goal.start-requires
start-requires c = let s =
    c.self.inside in notes_held s.nodes s.sessions s.time s.zxid s.limits (notes_of s.log) c.self.invariant

pub invariant_of-self : goal.invariant_of-self
invariant_of-self c =
    let s = c.self.inside in
    rw c.in_err-start.ensures.err
    (stored_freed s.nodes s.sessions s.time s.zxid s.limits (notes_of s.log) c.self.invariant
    c.start.new.nodes c.start.ensures.nodes)

pub invariant_of-self-2 : goal.invariant_of-self-2
invariant_of-self-2 c =
    let s = c.self.inside in
    let started = c.in_ok-start.ensures.ok in
    rw started.on
    (stored_started s.nodes s.sessions s.time s.zxid s.limits (notes_of s.log) c.self.invariant
    c.start.new.nodes c.start.ensures.nodes started.notes_room started.within)

pub returns-clause-marked : goal.returns-clause-marked
returns-clause-marked c =
    let s = c.self.inside in
    let started = c.in_ok-start.ensures.ok in
    let tree =
    ap (λ (v : NodesView). tree_of v.nodes s.sessions s.time s.zxid s.limits) c.start.ensures.nodes
    ∙ ap (λ (h : StoreView). h.tree) c.self.view_is in
    let places = ap (λ (v : NodesView). v.places) c.start.ensures.nodes
    ∙ ap (λ (h : StoreView). h.places) c.self.view_is in
    record {
      tree = tree;
      same = (
        places,
        ap (λ (v : NodesView). v.given) c.start.ensures.nodes
            ∙ ap (λ (h : StoreView). h.given) c.self.view_is,
      );
      mark = mark_of c.start.new.nodes s.sessions s.time s.zxid s.limits
          (record { undos = []; room = started.notes_room });
      marked = ap (option_map (mark_of c.start.new.nodes s.sessions s.time s.zxid s.limits)) started.on;
      tree_here = tree;
      places_here = places;
      room = started.enough;
    }
