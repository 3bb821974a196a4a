-- A reaction that a log serves: in a longer log, and in a shorter one that has its place.
use Rattle.std.specs.Prelude.{if◌then◌else◌}
use Rattle.std.proofs.Common.{◌≡◌, ◌+◌, ◌≤◌, true, false, List, [], ◌∷◌, ◌++◌, length, refl, sym, ap, ◌∙◌, arith, append_assoc, length-append}
use Rattle.ztree.specs.Tree.{Tree}
use Rattle.zcalls.specs.declared.call.Call.{Call}
use Rattle.zcalls.specs.declared.call.Call.TheVariants as call
use Rattle.zcalls.specs.declared.call.Update.{Update}
use Rattle.zcalls.specs.Cached.{Plain}
use Rattle.zprotocol.specs.server.Machine.{plain_from}
use Rattle.zlinearizability.specs.legal.Prefix.{IsPrefix}
use Rattle.zheads.specs.OneLog.{state_from}
use Rattle.ztree_service.specs.log.Logs.{calls_of, tree_after}
use Rattle.zfront.specs.Front.{updates_among}
use Rattle.zfront_laws.specs.Making.{updates_in}
use Rattle.zcluster_laws.specs.Cluster.{Reaction, ends_in_update, need}
use Rattle.zcluster_laws.specs.Laws.{IsServed}

-- states after more updates
pub state_more : {P : Type 0} (plain : Plain P) (p : P) (first second : List Update)
    → state_from plain p (first ++ second) ≡ state_from plain (state_from plain p first) second
state_more plain p [] second = refl
state_more plain p (u ∷ first) second = state_more plain (plain.update p 0 u).0 first second

-- the tree after calls is that after their updates
pub tree_of_calls : (t first : Tree) (calls : List Call) → tree_after first calls ≡ state_from (plain_from t) first (updates_among calls)
tree_of_calls t first [] = refl
tree_of_calls t first (call.Update u ∷ calls) = tree_of_calls t ((plain_from t).update first 0 u).0 calls
tree_of_calls t first (call.Query q ∷ calls) = tree_of_calls t first calls

-- a reaction waits for no entry before its place
pub place_before_need : (b : Reaction) → b.place ≤ need b
place_before_need b = elim (ends_in_update (calls_of b.calls)) as (λ x. b.place ≤ (if x then b.place else b.place + 1))
    [ true ↦ omega arith | false ↦ omega arith ]

-- a list cut at a position
cut_place : {A : Type 0} (front rest before after : List A) → front ++ rest ≡ before ++ after → length before ≤ length front
    → (more : List A) × (front ≡ before ++ more)
cut_place front rest [] after is le = (front, refl)
cut_place [] rest (b ∷ before) after is le = absurd (omega arith)
cut_place (f ∷ front) rest (b ∷ before) after is le =
    let same : f ≡ b = cc is in
    let tails : front ++ rest ≡ before ++ after = cc is in
    let more = cut_place front rest before after tails (omega arith) in
    (more.0, λ i. same i ∷ more.1 i)

module _ (t : Tree) where
  pub served_more : (log more : List Update) (b : Reaction) → IsPrefix log more → IsServed t log b → IsServed t more b
  served_more log more b (rest, longer) x =
      let u = updates_in b.calls in
      record {
        early = x.early;
        since = x.since;
        after = x.after ++ rest;
        whole = longer ∙ ap (λ l. l ++ rest) x.whole ∙ append_assoc (x.early ++ x.since) (u ++ x.after) rest
            ∙ ap (λ l. (x.early ++ x.since) ++ l) (append_assoc u x.after rest);
        began = x.began;
        from = x.from;
        place = x.place;
        leads = x.leads;
      }

  pub place_in : (log : List Update) (b : Reaction) → IsServed t log b → b.place ≤ length log
  place_in log b x =
      let u = updates_in b.calls in
      let size : length log ≡ length ((x.early ++ x.since) ++ (u ++ x.after)) = ap length x.whole in
      let sum : length ((x.early ++ x.since) ++ (u ++ x.after)) ≡ length (x.early ++ x.since) + length (u ++ x.after) =
      length-append (x.early ++ x.since) (u ++ x.after) in
      let tail : length (u ++ x.after) ≡ length u + length x.after = length-append u x.after in
      let front : length ((x.early ++ x.since) ++ u) ≡ length (x.early ++ x.since) + length u = length-append (x.early ++ x.since) u in
      let place : b.place ≡ length ((x.early ++ x.since) ++ u) = x.place in omega arith

  pub served_front : (front log : List Update) (b : Reaction) → IsPrefix front log → b.place ≤ length front → IsServed t log b → IsServed t front b
  served_front front log b (rest, longer) le x =
      let u = updates_in b.calls in
      let place : b.place ≡ length ((x.early ++ x.since) ++ u) = x.place in
      let here = cut_place front rest ((x.early ++ x.since) ++ u) x.after
      (sym longer ∙ x.whole ∙ sym (append_assoc (x.early ++ x.since) u x.after)) (omega arith) in
      record {
        early = x.early;
        since = x.since;
        after = here.0;
        whole = here.1 ∙ append_assoc (x.early ++ x.since) u here.0;
        began = x.began;
        from = x.from;
        place = x.place;
        leads = x.leads;
      }
