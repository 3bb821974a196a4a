use Rattle.std.proofs.Common.{◌≡◌, ◌≢◌, Some, sym, ap, ◌∙◌}
use mathlib.Core.Path.{subst}
use Rattle.std.specs.FinMap.{get, remove}
use Rattle.zslots.specs.declared.id.Id.{Id}
use Rattle.zslots.specs.declared.limits.TheConstants.{MAX_SLOTS}
use Rattle.zslots.proofs.Maps.{id_cmp_total, id_cmp_same, get-remove-here, get-remove-elsewhere}
use Rattle.ztree.proofs.Maps.{len-remove-most}
use Rattle.znodes.specs.declared.row.Row.{Row}
use Rattle.znodes.specs.NodesView.{NodesView}
use Rattle.znodes.specs.support.Rows.{IsThreaded, nodes_of, places_of, held_of}
use Rattle.znodes.specs.support.Counting.{AreCounts}
use Rattle.znodes.proofs.Mortal.{mortal-aside}
use Rattle.znodes.proofs.Parents.{parents-aside}
use Rattle.znodes.proofs.Aside.{linked-aside, nodes-aside, places-aside, held-gone}
use Rattle.znodes.proofs.nodes.Nodes.free.Goals as goal
use Rattle.znodes.proofs.OneRow.{held-out, gone-none}

pub invariant_of-self : goal.invariant_of-self
invariant_of-self c =
    let s = c.self.inside in
    let m = s.slots.items in
    let id = c.args.id in
    let out = held-out s c.args.self.now c.self.view_is id c.requires.held in
    subst (λ a. IsThreaded a s.index.ids s.owners s.timed s.counts) (sym c.remove.ensures.items) (record {
      linked = linked-aside m (remove m id) s.index.ids s.owners id c.self.invariant.linked (λ q other. get-remove-elsewhere m id q other) out (λ x e. gone-none m id x e) (λ x e. gone-none m id x e);
      mortal = mortal-aside m (remove m id) s.index.ids s.owners s.timed id c.self.invariant.linked (λ q other. get-remove-elsewhere m id q other) out (λ x e. gone-none m id x e) c.self.invariant.mortal;
      parents = parents-aside m (remove m id) s.index.ids id (λ q other. get-remove-elsewhere m id q other) (λ x e. gone-none m id x e) c.self.invariant.parents;
      counted = subst (λ nodes. AreCounts nodes s.counts) (sym (nodes-aside m (remove m id) s.index.ids s.owners id c.self.invariant.linked (λ q other. get-remove-elsewhere m id q other) out (λ x e. gone-none m id x e))) c.self.invariant.counted;
      few = len-remove-most id_cmp_total id_cmp_same m id MAX_SLOTS c.self.invariant.few;
    })

pub returns : goal.returns
returns c =
    let s = c.self.inside in
    let m = s.slots.items in
    let id = c.args.id in
    let view = c.self.view_is in
    let out = held-out s c.args.self.now view id c.requires.held in
    let elsewhere = λ (q : Id) (other : q ≢ id). get-remove-elsewhere m id q other in
    let still = λ (x : Row) (e : get (remove m id) id ≡ Some x). gone-none m id x e in
    let rows = c.remove.ensures.items in
    let nodes = ap (λ w. nodes_of w s.index.ids) rows ∙ nodes-aside m (remove m id) s.index.ids s.owners id c.self.invariant.linked elsewhere out still ∙ ap (λ (v : NodesView). v.nodes) view in
    let places = ap places_of rows ∙ places-aside m (remove m id) s.index.ids s.owners id c.self.invariant.linked elsewhere out still ∙ ap (λ (v : NodesView). v.places) view in
    let held = ap held_of rows ∙ held-gone m (remove m id) s.index.ids s.owners id c.self.invariant.linked elsewhere out still (get-remove-here m id) ∙ ap (λ (v : NodesView). remove v.held id) view in
    let given = c.remove.ensures.given ∙ ap (λ (v : NodesView). v.given) view in
    λ i. record {
      nodes = nodes i;
      places = places i;
      held = held i;
      owners = (view i).owners;
      given = given i;
      room = (view i).room;
    }
