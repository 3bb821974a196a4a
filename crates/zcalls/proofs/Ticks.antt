-- What a tick leaves: of the sessions, the clock, the number of the last change and the nodes.
use Rattle.std.proofs.Common.{◌≡◌, ℕ, ◌+◌, Bool, true, false, ◌||◌, List, [], ◌∷◌, length, refl, ap, ◌∙◌, arith}
use Rattle.std.specs.Prelude.{nat_lt}
use Rattle.std.proofs.lemmas.Bool.Decides.{nat_tests}
use Rattle.ztree.specs.Tree.{Tree, Path}
use Rattle.ztree.specs.Sessions.{without_nodes, without_sessions}
use Rattle.ztree.proofs.Ending.{sessions-all_dropped}
use Rattle.zcalls.specs.Step.{after_tick, counted_if, is_busy, tick_result}
use Rattle.zcalls.proofs.Ends.{Ends, all_dropped-ends, all_ended-ends}

-- nodes and sessions that go leave the rest
pub gone-ends : (ids : List ℕ) (paths : List Path) (t : Tree) → Ends t (without_nodes (without_sessions t ids) paths)
gone-ends ids paths t =
    let first = all_ended-ends ids t in
    let more = all_dropped-ends paths (without_sessions t ids) in
    record { zxid = more.zxid ∙ first.zxid; time = more.time ∙ first.time; limits = more.limits ∙ first.limits; sessions = λ q s e. first.sessions q s (more.sessions q s e) }

-- a change that is counted, or isn't, is otherwise the same
pub counted : (P : Tree → Type 0) (b : Bool) (u : Tree) → P u → (P u → P (counted_if true u)) → P (counted_if b u)
counted P true u is then = then is
counted P false u is then = is

pub counted-sessions : (b : Bool) (u : Tree) → (counted_if b u).sessions ≡ u.sessions
counted-sessions true u = refl
counted-sessions false u = refl

pub counted-time : (b : Bool) (u : Tree) → (counted_if b u).time ≡ u.time
counted-time true u = refl
counted-time false u = refl

pub counted-limits : (b : Bool) (u : Tree) → (counted_if b u).limits ≡ u.limits
counted-limits true u = refl
counted-limits false u = refl

pub counted-nodes : (b : Bool) (u : Tree) → (counted_if b u).nodes ≡ u.nodes
counted-nodes true u = refl
counted-nodes false u = refl

-- where nothing goes, there is nothing to go
no_items : {A : Type 0} (xs : List A) → nat_lt 0 (length xs) ≡ false → xs ≡ []
no_items [] e = refl
no_items (x ∷ xs) e = let some : nat_lt 0 (length (x ∷ xs)) ≡ true = grind (arith, nat_tests) in cc

neither : (a b : Bool) → (a || b) ≡ false → (a ≡ false) × (b ≡ false)
neither true b e = cc
neither false b e = (refl, e)

pub idle : (ids : List ℕ) (paths : List Path) → is_busy ids paths ≡ false → (ids ≡ []) × (paths ≡ [])
idle ids paths e =
    let parts = neither (nat_lt 0 (length ids)) (nat_lt 0 (length paths)) e in
    (no_items ids parts.0, no_items paths parts.1)

-- the sessions that a tick leaves are those that its ends leave
pub ticked-sessions : (t : Tree) (ids : List ℕ) (paths : List Path) → (tick_result t ids paths).0.sessions ≡ (without_sessions t ids).sessions
ticked-sessions t ids paths = counted-sessions (is_busy ids paths) (after_tick t ids paths) ∙ sessions-all_dropped (without_sessions t ids) paths

pub ticked-time : (t : Tree) (ids : List ℕ) (paths : List Path) → (tick_result t ids paths).0.time ≡ t.time + 1
ticked-time t ids paths = counted-time (is_busy ids paths) (after_tick t ids paths) ∙ ap (λ time. time + 1) (gone-ends ids paths t).time
