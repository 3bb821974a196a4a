use Rattle.std.proofs.Common.{◌≤◌, refl, sym, ap, subst, arith}
use Rattle.std.specs.FinMap as finite
use Rattle.ztree.specs.Lawful.{AllSessions}
use Rattle.zstore.specs.StoreView.{StoreView}
use Rattle.zstore.specs.Restored.{FitsWithin}
use Rattle.zstore.specs.support.Undoing.{notes_of}
use Rattle.zstore.specs.support.Stored.{tree_of}
use Rattle.zstore.proofs.parts.Fitting.{lawful_within}
use Rattle.zstore.proofs.parts.Noted.{notes_held, stored_changed}
use Rattle.zstore.proofs.store.Store.set_limits.Goals as goal

pub stop-requires : goal.stop-requires
stop-requires c =
    let s = c.self.inside in
    notes_held s.nodes s.sessions s.time s.zxid s.limits (notes_of s.log) c.self.invariant

pub invariant_of-self : goal.invariant_of-self
invariant_of-self c =
    let s = c.self.inside in
    let kept = c.self.invariant.kept in
    let nodes = ap (λ (h : StoreView). finite.len h.tree.nodes) c.self.view_is in
    let sessions = ap (λ (h : StoreView). finite.len h.tree.sessions) c.self.view_is in
    let many = c.nodes.ensures in
    let most = c.if-nodes-limits.false in
    let all = c.sessions.ensures in
    let few = c.if-sessions-limits.false in
    let fits : FitsWithin (tree_of s.nodes.nodes s.sessions s.time s.zxid s.limits) c.args.limits = record {
      allowed = c.if-not-is_allowed.ensures.yes refl;
      nodes = omega (arith, nodes, many, most);
      sessions = omega (arith, sessions, all, few);
      timeouts =
          subst (λ (h : StoreView). AllSessions (λ id x. x.timeout ≤ c.args.limits.timeout) h.tree.sessions)
          (sym c.self.view_is) c.in_ok-are_timeouts_within.ensures.within;
    } in
    rw (c.stop.ensures.off, c.stop.ensures.nodes)
    (stored_changed s.nodes s.sessions s.time s.zxid s.limits (notes_of s.log) c.self.invariant s.sessions
    s.time s.zxid c.args.limits
    (record {
      lawful = lawful_within (tree_of s.nodes.nodes s.sessions s.time s.zxid s.limits) c.args.limits kept.lawful fits;
      paths = kept.paths;
      named = kept.named;
    }) c.self.invariant.owners)
