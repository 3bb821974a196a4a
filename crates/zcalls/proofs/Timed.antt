-- What the calls of sessions leave of the bounds on a tree's numbers.
use Rattle.std.proofs.Common.{◌≡◌, ◌≢◌, ◌⊎◌, inl, inr, ℕ, ◌+◌, ◌*◌, ◌^◌, ◌<◌, ◌≤◌, Bool, true, false, List, Option, Some, None, refl, arith}
use Rattle.std.specs.Prelude.{if◌then◌else◌, nat_lt}
use Rattle.std.proofs.lemmas.Bool.Decides.{nat_tests}
use Rattle.std.specs.Cmp.{nat_cmp_total}
use Rattle.std.specs.Option.{option_map_or}
use Rattle.std.specs.FinMap as finite
use Rattle.std.specs.FinMap.{nat_cmp-IsAntisymmetric}
use Rattle.ztree.specs.declared.limits.TheConstants.{MIN_TIMEOUT}
use Rattle.ztree.specs.declared.session.Session.{Session}
use Rattle.ztree.specs.Tree.{Tree, Path, Sessions, with_next_zxid}
use Rattle.ztree.proofs.StaleGone.{CanAllGo}
use Rattle.ztree.specs.Sessions.{new_session, with_session, renewed_session, with_renewed_session, without_session, without_sessions}
use Rattle.ztree.specs.Lawful.{IsLawful, AllSessions}
use Rattle.ztree.proofs.Maps.{get-inserted}
use Rattle.zcalls.specs.declared.limits.TheConstants.{MAX_RAISES}
use Rattle.zcalls.specs.Step.{granted_timeout, after_tick, is_busy}
use Rattle.zcalls.specs.Bounds.{IsBounded, IsGranted}
use Rattle.zcalls.proofs.Bounds.{within_more, granted_more, still_bounded}
use Rattle.zcalls.proofs.Ends.{room_before, within_after, leaves-room, ended-room, all_ended-room, ended-ends}
use Rattle.zcalls.proofs.Ticks.{gone-ends, idle}

-- a session put under an id
pub put-granted : (greatest zxid : ℕ) (sessions : Sessions) (id : ℕ) (new : Session) → AllSessions (IsGranted greatest zxid) sessions → IsGranted greatest zxid id new → AllSessions (IsGranted greatest zxid) (finite.insert sessions id new)
put-granted greatest zxid sessions id new all here q s e = by (get-inserted nat_cmp_total nat_cmp-IsAntisymmetric sessions id new q s e)
  where
    by : ((q ≡ id) × (new ≡ s)) ⊎ ((q ≢ id) × (finite.get sessions q ≡ Some s)) → IsGranted greatest zxid q s
    by (inl is) = rw (is.0, ← is.1) here
    by (inr old) = all q s old.1

-- a timeout that is granted is at least 2 ticks, and at most the greatest
module _ (greatest ticks : ℕ) (allowed : MIN_TIMEOUT ≤ greatest) where
  abbrev chosen : Bool → Bool → ℕ
  chosen short long = if short then MIN_TIMEOUT else if long then greatest else ticks

  least : (a b : Bool) → nat_lt ticks MIN_TIMEOUT ≡ a → MIN_TIMEOUT ≤ chosen a b
  least true b e = omega arith
  least false true e = allowed
  least false false e = grind (arith, nat_tests)

  most : (a b : Bool) → nat_lt greatest ticks ≡ b → chosen a b ≤ greatest
  most true b e = allowed
  most false true e = omega arith
  most false false e = grind (arith, nat_tests)

  pub granted-least : MIN_TIMEOUT ≤ granted_timeout greatest ticks
  granted-least = least (nat_lt ticks MIN_TIMEOUT) (nat_lt greatest ticks) refl

  pub granted-most : granted_timeout greatest ticks ≤ greatest
  granted-most = most (nat_lt ticks MIN_TIMEOUT) (nat_lt greatest ticks) refl

-- a session opened
pub opened_bounded : (t : Tree) (client timeout : ℕ) → IsBounded t → t.zxid + 1 < 2 ^ 40 → MIN_TIMEOUT ≤ timeout → timeout ≤ t.limits.timeout → IsBounded (with_next_zxid (with_session t client timeout))
opened_bounded t client timeout bounded room least most =
    record {
      zxid = room;
      time = bounded.time;
      counters = λ path n e. within_more (MAX_RAISES * t.zxid) (MAX_RAISES * (t.zxid + 1)) n (omega arith) (bounded.counters path n e);
      sessions = put-granted t.limits.timeout (t.zxid + 1) t.sessions (t.zxid + 1) (new_session client timeout t.time)
          (λ id s e. granted_more t.limits.timeout t.zxid (t.zxid + 1) id s (omega arith) (bounded.sessions id s e))
          (record { before = omega arith; least = least; most = most });
    }

-- a session that is renewed
pub touched_bounded : (t : Tree) (id : ℕ) → IsBounded t → IsBounded (with_renewed_session t id)
touched_bounded t id bounded = by (finite.get t.sessions id) refl
  where
    by : (o : Option Session) → finite.get t.sessions id ≡ o → IsBounded (record t { sessions = option_map_or (λ s. finite.insert t.sessions id (renewed_session t.time s)) o t.sessions })
    by None e = record { zxid = bounded.zxid; time = bounded.time; counters = bounded.counters; sessions = bounded.sessions }
    by (Some s) e =
        let here = bounded.sessions id s e in
        record {
          zxid = bounded.zxid;
          time = bounded.time;
          counters = bounded.counters;
          sessions = put-granted t.limits.timeout t.zxid t.sessions id (renewed_session t.time s) bounded.sessions (record { before = here.before; least = here.least; most = here.most });
        }

-- no more nodes are in a lawful tree than a change may raise one node's counter
pub few_nodes : (t : Tree) → IsLawful t → finite.len t.nodes ≤ MAX_RAISES
few_nodes t lawful = let few = lawful.few_nodes in let allowed = lawful.allowed.few_nodes in omega (arith, few, allowed)

-- a session ended: it takes fewer nodes than the tree may have
pub ended_bounded : (t : Tree) (id : ℕ) → IsBounded t → IsLawful t → t.zxid + 1 < 2 ^ 40 → IsBounded (with_next_zxid (without_session t id))
ended_bounded t id bounded lawful room =
    let k = MAX_RAISES * t.zxid + MAX_RAISES in
    let ends = ended-ends t id in
    still_bounded t (without_session t id) k bounded room (omega arith) ends.zxid ends.limits
    (within_after k (without_session t id).nodes (ended-room k t id (room_before (MAX_RAISES * t.zxid) t.nodes bounded.counters (few_nodes t lawful))))
    (rw ends.time bounded.time) ends.sessions

-- a tick that ends sessions and removes nodes: together these are fewer than the tree may have
pub ticked_bounded : (t : Tree) (ids : List ℕ) (paths : List Path) → IsBounded t → IsLawful t → CanAllGo (without_sessions t ids).nodes paths → t.zxid + 1 < 2 ^ 40 → t.time + 1 < 2 ^ 40 → IsBounded (with_next_zxid (after_tick t ids paths))
ticked_bounded t ids paths bounded lawful can room early =
    let k = MAX_RAISES * t.zxid + MAX_RAISES in
    let ends = gone-ends ids paths t in
    still_bounded t (after_tick t ids paths) k bounded room (omega arith) ends.zxid ends.limits
    (within_after k (after_tick t ids paths).nodes (leaves-room k paths (without_sessions t ids) can (all_ended-room k ids t (room_before (MAX_RAISES * t.zxid) t.nodes bounded.counters (few_nodes t lawful)))))
    (rw ends.time early) ends.sessions

-- a tick that ends no session and removes no node
pub idle_bounded : (t : Tree) (ids : List ℕ) (paths : List Path) → IsBounded t → is_busy ids paths ≡ false → t.time + 1 < 2 ^ 40 → IsBounded (after_tick t ids paths)
idle_bounded t ids paths bounded none early =
    let empty = idle ids paths none in
    rw (empty.0, empty.1) (record { zxid = bounded.zxid; time = early; counters = bounded.counters; sessions = bounded.sessions })
