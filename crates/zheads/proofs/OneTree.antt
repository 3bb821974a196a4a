-- What all heads of a chain acknowledge is one plain service, in real time.
use Rattle.std.specs.Prelude.{if◌then◌else◌}
use Rattle.std.proofs.Common.{◌≡◌, ℕ, ◌+◌, Bool, true, false, ◌==◌, nat_lt, List, [], ◌∷◌, ◌++◌, length, Option, Some, None, refl, sym, ap, ◌∙◌, arith}
use Rattle.zcalls.specs.declared.call.Call.TheVariants as call
use Rattle.zcalls.specs.declared.call.Entry.{Entry}
use Rattle.zcalls.specs.Cached.{Plain, CachedState}
use Rattle.zcalls.specs.PlainTree.{plain_tree}
use Rattle.zprotocol.specs.server.Machine.{Does, machine_of, plain_from}
use Rattle.zprotocol.specs.server.View.{ServerView, Neighbour, member, spare}
use Rattle.zprotocol.specs.server.Table as server
use Rattle.zprotocol.specs.declared.process.Process.TheVariants.{Server}
use Rattle.zprotocol.specs.world.Events.{does_in, let_go}
use Rattle.zlinearizability.specs.legal.Prefix.{IsPrefix}
use Rattle.zlinearizability.specs.chain.Flow.{log_machine, Log}
use Rattle.zlinearizability.specs.chain.Account.{Account, opening_account}
use Rattle.zlinearizability.specs.Cuts.{Stays}
use Rattle.zlinearizability.proofs.legal_lemmas.lists.Prefixes.{prefix_same, prefix_of}
use Rattle.zlinearizability.proofs.chain_lemmas.tables.Lasts.{lasts_kept}
use Rattle.zlinearizability.proofs.chain_lemmas.steps.Opening.{opening_sound}
use Rattle.zheads.specs.Heads.{Heads, HeadEvent, Append, Look, InChain, head_machine, update_input, update_note, query_note, begun, acts, next, run_heads, opening_heads}
use Rattle.zheads.specs.OneLog.{IsOneLog}
use Rattle.zheads.specs.Law.{AcknowledgedIsOne, AcknowledgedIsOneTree, AcknowledgedFromIsOneTree}
use Rattle.zheads.proofs.Known.{IsKnownView}
use Rattle.zheads.proofs.KnownSteps.{IsKnown}
use Rattle.zheads.proofs.Mirrored.{opening_shown}
use Rattle.zheads.proofs.Fits.{updates, prefix_updates, entry_of}
use Rattle.zheads.proofs.Holds.{MadeIn, Holds, HoldsAfter, cut_heads, cut_account, holds_cut, mirrored, holds_event}
use Rattle.zheads.proofs.Appended.{appended}
use Rattle.zheads.proofs.Calls.{holds_look, holds_append}
use Rattle.zheads.proofs.Acknowledges.{holds_acknowledge}

module _ {P : Type 0} (plain : Plain P) where
  abbrev own : Does (CachedState P)
  own = machine_of plain

  -- the log world beside an event of the heads
  abbrev pub account_acts : Heads (CachedState P) → Account → HeadEvent → Account
  account_acts h t (Append s u) =
      elim (head_machine h.world s) [ None ↦ t | Some m ↦ if server.has_room (h.world.servers s) then appended plain t s u else t ]
  account_acts h t (Look s q) = t
  account_acts h t (InChain event) = mirrored plain t event

  stays_so : (h : Heads (CachedState P)) (t : Account) → Holds plain h t → HoldsAfter plain t h t
  stays_so h t x = (x, prefix_same t.committed)

  holds_acts : (h : Heads (CachedState P)) (t : Account) → Holds plain h t → (event : HeadEvent)
      → HoldsAfter plain t (acts own h event) (account_acts h t event)
  holds_acts h t x (Append s u) = by (head_machine h.world s) refl
    where
      roomed : (m : CachedState P) → head_machine h.world s ≡ Some m → (b : Bool) → server.has_room (h.world.servers s) ≡ b
          → HoldsAfter plain t
          (if b then begun (update_note own s (h.world.servers s) m u) (record h { world = let_go (does_in own h.world (Server s) (update_input (h.world.servers s) u)) }) else h)
          (if b then appended plain t s u else t)
      roomed m is true room = holds_append plain h t x s m u is room
      roomed m is false room = stays_so h t x

      by : (found : Option (CachedState P)) → head_machine h.world s ≡ found
          → HoldsAfter plain t
          (elim found as (λ f. Heads (CachedState P)) [
            | None ↦ h
            | Some m ↦ if server.has_room (h.world.servers s) then begun (update_note own s (h.world.servers s) m u) (record h { world = let_go (does_in own h.world (Server s) (update_input (h.world.servers s) u)) }) else h
          ])
          (elim found as (λ f. Account) [ None ↦ t | Some m ↦ if server.has_room (h.world.servers s) then appended plain t s u else t ])
      by None is = stays_so h t x
      by (Some m) is = roomed m is (server.has_room (h.world.servers s)) refl
  holds_acts h t x (Look s q) = by (head_machine h.world s) refl
    where
      by : (found : Option (CachedState P)) → head_machine h.world s ≡ found
          → HoldsAfter plain t
          (elim found as (λ f. Heads (CachedState P)) [ None ↦ h | Some m ↦ begun (query_note own s (h.world.servers s) m q) h ]) t
      by None is = stays_so h t x
      by (Some m) is = (holds_look plain h t x s m q is, prefix_same t.committed)
  holds_acts h t x (InChain event) = holds_event plain h t x event

  -- beside a run
  abbrev pub account_next : Heads (CachedState P) → Account → Stays × HeadEvent → Account
  account_next h t step = account_acts (cut_heads plain h step.0) (cut_account plain t step.0) step.1

  abbrev pub account_run : Heads (CachedState P) → Account → List (Stays × HeadEvent) → Account
  account_run h t [] = t
  account_run h t (step ∷ more) = account_run (next own h step) (account_next h t step) more

  holds_next : (h : Heads (CachedState P)) (t : Account) → Holds plain h t → (step : Stays × HeadEvent)
      → HoldsAfter plain t (next own h step) (account_next h t step)
  holds_next h t x step =
      let cut = holds_cut plain h t x step.0 in
      let did = holds_acts (cut_heads plain h step.0) (cut_account plain t step.0) cut step.1 in
      (holds_acknowledge plain (acts own (cut_heads plain h step.0) step.1) (account_next h t step) did.0, did.1)

  pub holds_run : (h : Heads (CachedState P)) (t : Account) → Holds plain h t → (steps : List (Stays × HeadEvent))
      → HoldsAfter plain t (run_heads own h steps) (account_run h t steps)
  holds_run h t x [] = stays_so h t x
  holds_run h t x (step ∷ more) =
      let first = holds_next h t x step in
      let rest = holds_run (next own h step) (account_next h t step) first.0 more in
      (rest.0, prefix_of t.committed (account_next h t step).committed (account_run h t (step ∷ more)).committed first.1 rest.1)

  -- more events only make the log longer
  runs_on : (h : Heads (CachedState P)) (t : Account) → Holds plain h t → (steps more : List (Stays × HeadEvent))
      → IsPrefix (account_run h t steps).committed (account_run h t (steps ++ more)).committed
  runs_on h t x [] more = (holds_run h t x more).1
  runs_on h t x (step ∷ steps) more = runs_on (next own h step) (account_next h t step) (holds_next h t x step).0 steps more

  -- before the first event
  nothing : (before after : List Entry) (e : Entry) → [] ≡ before ++ e ∷ after → ⊥
  nothing [] after e is = cc
  nothing (b ∷ before) after e is = cc

  none_is : (log : List Entry) → ◌≡◌ {A = Log} (Some []) (Some log) → [] ≡ log
  none_is log is = cc is

  spare_known : IsKnownView (MadeIn []) 0 spare
  spare_known = record {
    released = λ log n is le rel. absurd (let no : ◌≡◌ {A = Log} None (Some log) = is in cc no);
    blank = λ is. refl;
    made = λ log is. absurd (let no : ◌≡◌ {A = Log} None (Some log) = is in cc no);
  }

  member_known : (pred succ : Option Neighbour) → IsKnownView (MadeIn []) 0 (member (log_machine plain) pred succ)
  member_known pred succ = record {
    released = λ log n is le rel. let size : length {A = Entry} [] ≡ length log = ap length (none_is log is) in omega arith;
    blank = λ is. absurd (let no : ◌≡◌ {A = Log} (Some []) None = is in cc no);
    made = λ log is n e entry. absurd (nothing entry.0 entry.1 e (none_is log is ∙ entry.2));
  }

  known_if : (b : Bool) (v w : ServerView (List Entry)) → IsKnownView (MadeIn []) 0 v → IsKnownView (MadeIn []) 0 w
      → IsKnownView (MadeIn []) 0 (if b then v else w)
  known_if true v w h k = h
  known_if false v w h k = k

  opening_known : (servers : ℕ) → IsKnown (MadeIn []) (opening_account plain servers 0)
  opening_known servers = record {
    views = λ s. known_if (s == 0) spare _ spare_known (known_if (nat_lt servers s) spare _ spare_known (member_known _ _));
    in_flight = λ from to m a. absurd a;
    committed = λ n e entry. absurd (nothing entry.0 entry.1 e entry.2);
  }

  pub holds_opening : (servers : ℕ) → Holds plain (opening_heads own servers) (opening_account plain servers 0)
  holds_opening servers = record {
    shows = opening_shown own plain servers;
    exact = lasts_kept plain servers 0 [];
    sound = opening_sound plain servers 0;
    known = opening_known servers;
    fresh = λ o begun. absurd begun;
    silent = λ c to. refl;
    waiting = λ note a. absurd a;
    done = λ note a. absurd a;
    in_time = λ first second before. absurd before;
  }

  -- the log explains what callers saw
  pub explained : (h : Heads (CachedState P)) (t : Account) → Holds plain h t → IsOneLog plain h.seen (updates t.committed)
  explained h t x = record {
    fits = x.done;
    in_time = x.in_time;
    made = λ n before u is.
        let found = entry_of t.committed n before u is in
        let place : n ≡ length found.0 + 1 = is.2 ∙ ap (λ k. k + 1) (sym found.5) in
        let made = x.known.committed n found.2 (found.0, found.1, found.3, place) in
        (made.0, made.1, made.2 ∙ ap call.Update found.4, made.3);
  }

-- the log of each list of events, over any service
pub acknowledged_is_one : {P : Type 0} (plain : Plain P) (servers : ℕ) → AcknowledgedIsOne plain servers
acknowledged_is_one plain servers =
    let own = machine_of plain in
    let h = opening_heads own servers in
    let t = opening_account plain servers 0 in
    let x = holds_opening plain servers in (
      λ steps. updates (account_run plain h t steps).committed,
      λ steps. explained plain (run_heads own h steps) (account_run plain h t steps) (holds_run plain h t x steps).0,
      λ steps more. prefix_updates (account_run plain h t steps).committed (account_run plain h t (steps ++ more)).committed
          (runs_on plain h t x steps more),
    )

-- over the plain tree, and from any tree on
pub acknowledged_is_one_tree : AcknowledgedIsOneTree
acknowledged_is_one_tree servers = acknowledged_is_one plain_tree servers

pub acknowledged_from_is_one_tree : AcknowledgedFromIsOneTree
acknowledged_from_is_one_tree t servers = acknowledged_is_one (plain_from t) servers
