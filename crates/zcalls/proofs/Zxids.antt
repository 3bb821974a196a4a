-- The zxids of a tree's nodes are those of changes that were made, and their ticks are past.
use Rattle.std.proofs.Common.{◌≡◌, ℕ, ◌+◌, ◌≤◌, Bool, true, false, if◌then◌else◌, List, [], ◌∷◌, Result, Ok, Err, refl, sym, ap, subst, ◌∙◌, lit<, arith}
use Rattle.std.specs.Prelude.{nat_le}
use Rattle.std.specs.FinMap as finite
use Rattle.ztree.specs.Lawful.{AllNodes}
use Rattle.ztree.specs.Sessions.{with_session, with_renewed_session, without_nodes, without_session, without_sessions, due_sessions, with_next_tick}
use Rattle.ztree.specs.declared.term.Term.{Term}
use Rattle.ztree.specs.declared.term.Term.TheVariants.{Unlimited}
use Rattle.ztree.specs.declared.limits.TreeLimits.{TreeLimits}
use Rattle.ztree.specs.declared.node.Node.{Node}
use Rattle.ztree.specs.Tree.{Tree, Path, ephemerals, opening_within, new_node, parent_of, with_child, without_child, with_data, with_acl, with_node, without_node, with_data_at, with_acl_at, with_next_zxid}
use Rattle.zcalls.specs.declared.call.Part.{Part}
use Rattle.zcalls.specs.declared.call.Update.{Update}
use Rattle.zcalls.specs.declared.call.Update.TheVariants.{Create, Delete, SetData, SetAcl, Multi, Open, Ping, Close, Tick}
use Rattle.zcalls.specs.declared.refusal.Refusal.{Refusal}
use Rattle.zcalls.specs.declared.refusal.Refusal.TheVariants.{SessionGone, TooManySessions, Exhausted}
use Rattle.zcalls.specs.declared.reply.Reply.{Reply}
use Rattle.zcalls.specs.declared.reply.Reply.TheVariants as reply
use Rattle.zcalls.specs.Part.{change_step, create_step, delete_step, set_step, acl_step, part_step, made_path, owner_of, is_gone, term_of}
use Rattle.zcalls.specs.declared.change.Change.{Change}
use Rattle.zcalls.specs.declared.change.Change.TheVariants as change
use Rattle.zcalls.specs.declared.change.ChangeReply.{ChangeReply}
use Rattle.zcalls.specs.Multi.{Run, run}
use Rattle.zcalls.specs.Step.{step, update_result, change_result, multi_result, granted_timeout, tick_result, after_tick, counted_if, is_busy, is_exhausted, stale_next}
use Rattle.zcalls.proofs.Ticks.{idle}
use Rattle.zcalls.specs.CallRuns.{after_calls, IsOlder, ZxidsRise}
use Rattle.zcalls.proofs.Leaving.{Leaves, create_step-leaves, delete_step-leaves, set_step-leaves, acl_step-leaves, part_step-leaves, run-leaves}
use Rattle.zcalls.proofs.Taking.{changes_take_one_zxid}
use Rattle.zcalls.proofs.Bounds.{all_insert, all_remove, all_changed, no_nodes}

-- every zxid of the node is below this one, and no tick of it is above this one
pub record IsPast (zxid time : ℕ) (n : Node) : Type 0 where
  pub older : IsOlder zxid n
  pub ctime : n.ctime ≤ time
  pub mtime : n.mtime ≤ time

-- every zxid of the tree's nodes is that of a change up to the next, and no tick is to come
abbrev IsDated : ℕ → ℕ → Tree → Type 0
IsDated zxid time t = (t.zxid ≡ zxid) × ((t.time ≡ time) × AllNodes (IsPast (zxid + 2) time) t.nodes)

added-dated : (zxid time : ℕ) (t : Tree) (path : Path) (bytes : List ℕ) (owner : ℕ) (term : Term) (sequential : Bool) → IsDated zxid time t → IsDated zxid time (with_node t path bytes owner term sequential)
added-dated zxid time t path bytes owner term sequential dated =
    let Past = IsPast (zxid + 2) time in
    let same = dated.0 in
    let tick = dated.1.0 in
    let now : Past (new_node bytes owner term (t.zxid + 1) t.time) = record {
      older = record { czxid = omega (arith, same); mzxid = omega (arith, same); pzxid = omega (arith, same) };
      ctime = omega (arith, tick);
      mtime = omega (arith, tick);
    } in
    let more = all_insert Past t.nodes path (new_node bytes owner term (t.zxid + 1) t.time) dated.1.1 now in (
      same,
      (
        tick,
        all_changed Past Past _ (parent_of path) (with_child (t.zxid + 1) sequential) more (λ n old. old)
            (λ n e. let old = more (parent_of path) n e in
            record { older = record { czxid = old.older.czxid; mzxid = old.older.mzxid; pzxid = omega (arith, same) }; ctime = old.ctime; mtime = old.mtime }),
      ),
    )

dropped-dated : (zxid time : ℕ) (t : Tree) (path : Path) → IsDated zxid time t → IsDated zxid time (without_node t path)
dropped-dated zxid time t path dated =
    let Past = IsPast (zxid + 2) time in
    let same = dated.0 in
    let fewer = all_remove Past t.nodes path dated.1.1 in (
      same,
      (
        dated.1.0,
        all_changed Past Past _ (parent_of path) (without_child (t.zxid + 1)) fewer (λ n old. old)
            (λ n e. let old = fewer (parent_of path) n e in
            record { older = record { czxid = old.older.czxid; mzxid = old.older.mzxid; pzxid = omega (arith, same) }; ctime = old.ctime; mtime = old.mtime }),
      ),
    )

written-dated : (zxid time : ℕ) (t : Tree) (path : Path) (bytes : List ℕ) → IsDated zxid time t → IsDated zxid time (with_data_at t path bytes)
written-dated zxid time t path bytes dated =
    let Past = IsPast (zxid + 2) time in
    let same = dated.0 in
    let tick = dated.1.0 in (
      same,
      (
        tick,
        all_changed Past Past t.nodes path (with_data bytes (t.zxid + 1) t.time) dated.1.1 (λ n old. old)
            (λ n e. let old = dated.1.1 path n e in
            record { older = record { czxid = old.older.czxid; mzxid = omega (arith, same); pzxid = old.older.pzxid }; ctime = old.ctime; mtime = omega (arith, tick) }),
      ),
    )

acl-dated : (zxid time : ℕ) (t : Tree) (path : Path) → IsDated zxid time t → IsDated zxid time (with_acl_at t path)
acl-dated zxid time t path dated =
    let Past = IsPast (zxid + 2) time in (
      dated.0,
      (
        dated.1.0,
        all_changed Past Past t.nodes path with_acl dated.1.1 (λ n old. old)
            (λ n e. let old = dated.1.1 path n e in
            record { older = record { czxid = old.older.czxid; mzxid = old.older.mzxid; pzxid = old.older.pzxid }; ctime = old.ctime; mtime = old.mtime }),
      ),
    )

change-dated : (zxid time : ℕ) (t : Tree) (client : ℕ) (change : Change) → IsDated zxid time t → Leaves (IsDated zxid time) (change_step t client change)
change-dated zxid time t client (change.Create create) dated =
    create_step-leaves (IsDated zxid time) t client create
    (λ e. added-dated zxid time t (made_path t.nodes create.kind create.path) create.bytes (owner_of create.kind.lifetime) (term_of create.kind.lifetime) create.kind.is_sequential dated)
change-dated zxid time t client (change.Delete delete) dated = delete_step-leaves (IsDated zxid time) t delete (λ e. dropped-dated zxid time t delete.path dated)
change-dated zxid time t client (change.SetData set) dated = set_step-leaves (IsDated zxid time) t set (written-dated zxid time t set.path set.bytes dated)

part-dated : (zxid time : ℕ) (t : Tree) (client : ℕ) (part : Part) → IsDated zxid time t → Leaves (IsDated zxid time) (part_step t client part)
part-dated zxid time t client part dated =
    part_step-leaves (IsDated zxid time) t client part
    (λ create. change-dated zxid time t client (change.Create create) dated) (λ delete. change-dated zxid time t client (change.Delete delete) dated)
    (λ set. change-dated zxid time t client (change.SetData set) dated) dated

run-dated : (zxid time : ℕ) (parts : List Part) (t : Tree) (client : ℕ) → IsDated zxid time t → Leaves (IsDated zxid time) (run t client parts)
run-dated zxid time parts t client dated = run-leaves (IsDated zxid time) (part-dated zxid time) parts t client dated

-- between two calls, every zxid of a node is that of a change that was made, and no tick is to come
abbrev pub IsSettled : Tree → Type 0
IsSettled t = AllNodes (IsPast (t.zxid + 1) t.time) t.nodes

later : (t : Tree) → IsSettled t → IsDated t.zxid t.time t
later t settled = (
  refl,
  (
    refl,
    λ path n e.
        let old = settled path n e in
        record { older = record { czxid = omega (arith, old.older.czxid); mzxid = omega (arith, old.older.mzxid); pzxid = omega (arith, old.older.pzxid) }; ctime = old.ctime; mtime = old.mtime },
  ),
)

settled : (t u : Tree) → IsDated t.zxid t.time u → IsSettled (with_next_zxid u)
settled t u dated path n e =
    let same = dated.0 in
    let tick = dated.1.0 in
    let old = dated.1.1 path n e in
    record {
      older = record { czxid = omega (arith, same, old.older.czxid); mzxid = omega (arith, same, old.older.mzxid); pzxid = omega (arith, same, old.older.pzxid) };
      ctime = omega (arith, tick, old.ctime);
      mtime = omega (arith, tick, old.mtime);
    }

-- the same where the clock advances
settled_next : (t u : Tree) → IsDated t.zxid t.time u → IsSettled (with_next_zxid (with_next_tick u))
settled_next t u dated path n e =
    let same = dated.0 in
    let tick = dated.1.0 in
    let old = dated.1.1 path n e in
    record {
      older = record { czxid = omega (arith, same, old.older.czxid); mzxid = omega (arith, same, old.older.mzxid); pzxid = omega (arith, same, old.older.pzxid) };
      ctime = omega (arith, tick, old.ctime);
      mtime = omega (arith, tick, old.mtime);
    }

-- a tick alone
settled_tick : (t : Tree) → IsSettled t → IsSettled (with_next_tick t)
settled_tick t is path n e =
    let old = is path n e in
    record { older = old.older; ctime = omega (arith, old.ctime); mtime = omega (arith, old.mtime) }

-- nodes that go leave the others dated
all_dropped-dated : (zxid time : ℕ) (paths : List Path) (t : Tree) → IsDated zxid time t → IsDated zxid time (without_nodes t paths)
all_dropped-dated zxid time [] t dated = dated
all_dropped-dated zxid time (path ∷ paths) t dated = all_dropped-dated zxid time paths (without_node t path) (dropped-dated zxid time t path dated)

all_ended-dated : (zxid time : ℕ) (ids : List ℕ) (t : Tree) → IsDated zxid time t → IsDated zxid time (without_sessions t ids)
all_ended-dated zxid time [] t dated = dated
all_ended-dated zxid time (id ∷ ids) t dated = all_ended-dated zxid time ids (without_session t id) (all_dropped-dated zxid time (ephemerals t.nodes id) t dated)

-- a choice of two outcomes
either : (t : Tree) (why : Reply) (did : Tree × Reply) (b : Bool) → IsSettled t → IsSettled did.0 → IsSettled (if b then (t, why) else did).0
either t why did true is done = is
either t why did false is done = done

alone-settled : (t : Tree) (part : Result (Tree × ChangeReply) Refusal) → IsSettled t → Leaves (IsDated t.zxid t.time) part → IsSettled (change_result t part).0
alone-settled t (Err refusal) is dated = is
alone-settled t (Ok (u, done)) is dated = settled t u dated

together-settled : (t : Tree) (did : Run) → IsSettled t → Leaves (IsDated t.zxid t.time) did → IsSettled (multi_result t did).0
together-settled t (Err (number, refusal)) is dated = is
together-settled t (Ok (u, replies)) is dated = settled t u dated

ticked-settled : (t : Tree) (ids : List ℕ) (paths : List Path) → IsSettled t → IsSettled (tick_result t ids paths).0
ticked-settled t ids paths is = by (is_busy ids paths) refl
  where
    by : (b : Bool) → is_busy ids paths ≡ b → IsSettled (counted_if b (after_tick t ids paths))
    by true some = settled_next t (without_nodes (without_sessions t ids) paths) (all_dropped-dated t.zxid t.time paths (without_sessions t ids) (all_ended-dated t.zxid t.time ids t (later t is)))
    by false none = let empty = idle ids paths none in rw (empty.0, empty.1) (settled_tick t is)

-- what a call leaves is settled
changed-settled : (t : Tree) (client : ℕ) (update : Update) → IsSettled t → IsSettled (update_result t client update).0
changed-settled t client (Create create) is = alone-settled t (create_step t client create) is (change-dated t.zxid t.time t client (change.Create create) (later t is))
changed-settled t client (Delete delete) is = alone-settled t (delete_step t delete) is (change-dated t.zxid t.time t client (change.Delete delete) (later t is))
changed-settled t client (SetData set) is = alone-settled t (set_step t set) is (change-dated t.zxid t.time t client (change.SetData set) (later t is))
changed-settled t client (SetAcl set) is = alone-settled t (acl_step t set) is (acl_step-leaves (IsDated t.zxid t.time) t set (acl-dated t.zxid t.time t set.path (later t is)))
changed-settled t client (Multi parts) is = together-settled t (run t client parts) is (run-dated t.zxid t.time parts t client (later t is))
changed-settled t client (Open ticks) is =
    either t (reply.Refused TooManySessions) (with_next_zxid (with_session t client (granted_timeout t.limits.timeout ticks)), reply.Opened (t.zxid + 1) (granted_timeout t.limits.timeout ticks)) (nat_le t.limits.sessions (finite.len t.sessions)) is
    (settled t (with_session t client (granted_timeout t.limits.timeout ticks)) (later t is))
changed-settled t client (Ping session) is = either t (reply.Refused SessionGone) (with_renewed_session t session, reply.Pinged) (is_gone t.sessions client session) is is
changed-settled t client (Close session) is =
    either t (reply.Refused SessionGone) (with_next_zxid (without_session t session), reply.Closed) (is_gone t.sessions client session) is
    (settled t (without_session t session) (all_dropped-dated t.zxid t.time (ephemerals t.nodes session) t (later t is)))
changed-settled t client Tick is = ticked-settled t (due_sessions t.sessions (t.time + 1)) (stale_next t) is

pub step-settled : (t : Tree) (client : ℕ) (update : Update) → IsSettled t → IsSettled (step t client update).0
unfolding step
step-settled t client update is = either t (reply.Refused Exhausted) (update_result t client update) (is_exhausted t update) is (changed-settled t client update is)

pub opening-settled : (limits : TreeLimits) → IsSettled (opening_within limits)
opening-settled limits =
    all_insert (IsPast 1 0) finite.empty [] (new_node [] 0 Unlimited 0 0) (no_nodes (IsPast 1 0))
    (record { older = record { czxid = lit< tt; mzxid = lit< tt; pzxid = lit< tt }; ctime = omega arith; mtime = omega arith })

calls-settled : (calls : List (ℕ × Update)) (t : Tree) → IsSettled t → IsSettled (after_calls t calls)
calls-settled [] t is = is
calls-settled (call ∷ calls) t is = calls-settled calls (step t call.0 call.1).0 (step-settled t call.0 call.1 is)

pub zxids_rise : ZxidsRise
zxids_rise limits allowed calls client update path n done e =
    let t = after_calls (opening_within limits) calls in
    let is = calls-settled calls (opening_within limits) (opening-settled limits) in
    let next : (step t client update).0.zxid ≡ t.zxid + 1 = changes_take_one_zxid t client update ∙ ap (λ b. t.zxid + (if b then 1 else 0)) done in
    subst (λ zxid. IsOlder zxid n) (sym next) (is path n e).older
