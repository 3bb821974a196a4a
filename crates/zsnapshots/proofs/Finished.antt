-- A state that was read to its end has the rows that were read.
use Rattle.std.proofs.Common.{◌≡◌, ℕ, Bool, true, false, cond, ◌∷◌, length, Option, refl, sym, ap, arith}
use mathlib.Core.Bool.{true≢false}
use Rattle.std.proofs.lemmas.Bool.{ltb-false}
use Rattle.ztree.specs.Tree.{Path}
use Rattle.zops.specs.Machine.{MachineState}
use Rattle.zsnapshots.specs.declared.header.Header.{Header}
use Rattle.zsnapshots.specs.States.{sessions_of, replies_of, below_of, head_of, body_of, rows_of, rows_so_far, wants_session, wants_node, wants_reply, is_done}
use Rattle.zsnapshots.specs.States.StateRow.{OfHeader}
use Rattle.zsnapshots.specs.support.Reading.{IsReading}
use Rattle.zsnapshots.proofs.Cached.{view}

none_wanted : (a b c : Bool) → cond a false (cond b false (cond c false true)) ≡ true → (a ≡ false) × ((b ≡ false) × (c ≡ false))
none_wanted true b c is = absurd (true≢false (sym is))
none_wanted false true c is = absurd (true≢false (sym is))
none_wanted false false true is = absurd (true≢false (sym is))
none_wanted false false false is = (refl, (refl, refl))

module _ (h : Header) (u : MachineState) (sessions nodes replies : ℕ) (session : Option ℕ) (path : Path) (client : Option ℕ)
    (is : IsReading h u sessions nodes replies session path client) (done : is_done (view h u) ≡ true) where
  head_is : head_of u ≡ h
  head_is =
      let none = none_wanted (wants_session (view h u)) (wants_node (view h u)) (wants_reply (view h u)) done in
      let sessions_left = is.sessions_left in
      let nodes_left = is.nodes_left in
      let replies_left = is.replies_left in
      let all_sessions = ltb-false (length (sessions_of u)) h.sessions none.0 in
      let all_nodes = ltb-false (length (below_of u)) h.nodes none.1.0 in
      let all_replies = ltb-false (length (replies_of u)) h.replies none.1.1 in
      let same_sessions : length (sessions_of u) ≡ h.sessions = omega (arith, sessions_left, all_sessions) in
      let same_nodes : length (below_of u) ≡ h.nodes = omega (arith, nodes_left, all_nodes) in
      let same_replies : length (replies_of u) ≡ h.replies = omega (arith, replies_left, all_replies) in
      λ i. record {
        last = is.last i;
        time = is.time i;
        zxid = is.zxid i;
        limits = is.limits i;
        sessions = same_sessions i;
        nodes = same_nodes i;
        replies = same_replies i;
      }

  pub rows_are : rows_of u ≡ rows_so_far (view h u)
  rows_are = ap (λ (x : Header). OfHeader x ∷ body_of u) head_is
