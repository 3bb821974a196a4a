use Rattle.std.proofs.Common.{◌≡◌, ◌<◌, IsSome, is_some, refl, sym, ap, subst, ◌∙◌}
use Rattle.std.specs.Result.{IfOk}
use Rattle.std.specs.Prelude.{Result, Ok, Err}
use Rattle.std.specs.FinMap.{get}
use Rattle.zslots.proofs.Items.{some_there}
use Rattle.zslots.proofs.Maps.{is_none}
use Rattle.ztree.specs.Tree.{ephemerals}
use Rattle.ztree.proofs.Maps.{has_some}
use Rattle.zstore.specs.StoreView.{StoreView}
use Rattle.zstore.proofs.store.Store.owned.Goals as goal

ifok-map : {A E : Type 0} {P Q : A → Type 0} (r : Result A E) → ((x : A) → P x → Q x) → IfOk r P → IfOk r Q
ifok-map (Ok x) f p = f x p
ifok-map (Err e) f p = tt

pub returns-clause-owned : goal.returns-clause-owned
returns-clause-owned c =
    let s = c.self.inside in
    let id = c.args.session in
    let view = c.self.view_is in
    ifok-map c.owned.result
    (λ paths are some.
    let session = some_there (get s.sessions id) (subst IsSome (ap (λ (h : StoreView). get h.tree.sessions id) (sym view)) some) in
    let above = c.self.invariant.kept.lawful.ids id session.0 session.1 in
    let owner = has_some (get s.nodes.owners id) (c.self.invariant.owners id ∙ ap is_some session.1) in
    let known = subst IsSome (sym owner.1) refl in
    subst (λ n. 0 < n → IsSome (get s.nodes.owners n) → paths.items ≡ ephemerals s.nodes.nodes n) c.number.ensures are above known
    ∙ ap (λ (h : StoreView). ephemerals h.tree.nodes id) view) c.owned.ensures.owned

pub returns-clause-gone : goal.returns-clause-gone
returns-clause-gone c =
    let s = c.self.inside in
    let id = c.args.session in
    let view = c.self.view_is in
    ifok-map c.owned.result
    (λ paths are none.
    let gone = is_none (get s.nodes.owners id) (c.self.invariant.owners id ∙ ap is_some (ap (λ (h : StoreView). get h.tree.sessions id) view ∙ none)) in
    are (ap (get s.nodes.owners) c.number.ensures ∙ gone)) c.owned.ensures.gone
