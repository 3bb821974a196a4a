-- Calls at a head, one after the other: its log goes on with their updates, and no other log
-- changes.
use Rattle.std.specs.Prelude.{is_some, if◌then◌else◌}
use Rattle.std.proofs.Common.{◌≡◌, ℕ, true, false, ◌==◌, List, [], ◌∷◌, ◌++◌, Option, Some, None, refl, sym, ap, ◌∙◌, subst, append_assoc, append-nil}
use Rattle.std.proofs.lemmas.List.{map-append}
use Rattle.zcalls.specs.declared.call.Call.{Call}
use Rattle.zcalls.specs.declared.call.Call.TheVariants as call
use Rattle.zcalls.specs.declared.call.Entry.{Entry}
use Rattle.zcalls.specs.declared.call.Update.{Update}
use Rattle.zcalls.specs.Cached.{Plain, CachedState}
use Rattle.zprotocol.specs.declared.process.Process.TheVariants.{Server}
use Rattle.zprotocol.specs.server.Machine.{Does, machine_of}
use Rattle.zprotocol.specs.server.View.{ServerView}
use Rattle.zprotocol.specs.server.Table as server
use Rattle.zprotocol.specs.world.Events.{does_in, let_go}
use Rattle.zlinearizability.specs.legal.Prefix.{IsPrefix}
use Rattle.zlinearizability.specs.chain.Flow.{log_at}
use Rattle.zlinearizability.specs.chain.Account.{Account}
use Rattle.zlinearizability.specs.Cuts.{Stays}
use Rattle.zlinearizability.proofs.legal_lemmas.lists.Prefixes.{prefix_same, prefix_of}
use Rattle.zlinearizability.proofs.legal_lemmas.lists.Tests.{left_of, right_of}
use Rattle.zheads.specs.Heads.{Heads, Append, Look, head_machine, update_input, update_note, begun, acts, next}
use Rattle.zheads.proofs.Fits.{updates}
use Rattle.zheads.proofs.Holds.{Holds, cut_heads, cut_account, holds_cut}
use Rattle.zheads.proofs.Appended.{appended, entry_of_call}
use Rattle.zheads.proofs.OneTree.{account_acts, account_next, holds_run}
use Rattle.zfront.specs.Front.{updates_among}
use Rattle.zcluster_laws.specs.Cluster.{event_of, takes_call, Commits}
use Rattle.zcluster_laws.proofs.HeadLogs.{own_log, other_log}
use Rattle.zcluster_laws.proofs.Facts.{has_log}

pub some_of : {A : Type 0} (found : Option A) → is_some found ≡ true → (x : A) × (found ≡ Some x)
some_of None is = absurd (cc is)
some_of (Some x) is = (x, refl)

-- a log with more updates
pub longer : (log : List Entry) (e : Entry) (u : Update) → e.update ≡ u → updates (log ++ e ∷ []) ≡ updates log ++ u ∷ []
longer log e u is = map-append (λ (d : Entry). d.update) log (e ∷ []) ∙ ap (λ x. updates log ++ x ∷ []) is

module _ {P : Type 0} (plain : Plain P) where
  abbrev own : Does (CachedState P)
  own = machine_of plain

  -- after calls at a head with this log
  pub record After (t : Account) (s : ℕ) (log : List Entry) (calls : List Call) (h : Heads (CachedState P)) : Type 0 where
    pub later : Account
    pub holds : Holds plain h later
    pub committed : IsPrefix t.committed later.committed
    pub live : later.world.failed s ≡ false
    pub new : List Entry
    pub has : log_at later.world s ≡ Some new
    pub more : updates new ≡ updates log ++ updates_among calls
    pub others : (z : ℕ) → (z == s) ≡ false → log_at later.world z ≡ log_at t.world z

  -- one call
  module _ (h : Heads (CachedState P)) (t : Account) (x : Holds plain h t) (s : ℕ) (stays : Stays) where
    abbrev hc : Heads (CachedState P)
    hc = cut_heads plain h stays

    abbrev tc : Account
    tc = cut_account plain t stays

    -- the account and the heads after an update
    module _ (u : Update) (m : CachedState P) (is : head_machine h.world s ≡ Some m) (room : server.has_room (h.world.servers s) ≡ true) where
      account_is : account_acts plain hc tc (Append s u) ≡ appended plain tc s u
      account_is =
          ap (λ f. elim f as (λ (y : Option (CachedState P)). Account) [ None ↦ tc | Some k ↦ if server.has_room (h.world.servers s) then appended plain tc s u else tc ]) is
          ∙ ap (λ b. if b then appended plain tc s u else tc) room

      pub heads_are : acts own hc (Append s u)
          ≡ begun (update_note own s (h.world.servers s) m u) (record hc { world = let_go (does_in own hc.world (Server s) (update_input (h.world.servers s) u)) })
      heads_are =
          ap (λ f. elim f as (λ (y : Option (CachedState P)). Heads (CachedState P)) [
            | None ↦ hc
            | Some k ↦ if server.has_room (h.world.servers s) then begun (update_note own s (h.world.servers s) k u) (record hc { world = let_go (does_in own hc.world (Server s) (update_input (h.world.servers s) u)) }) else hc
          ]) is
          ∙ ap (λ b. if b then begun (update_note own s (h.world.servers s) m u) (record hc { world = let_go (does_in own hc.world (Server s) (update_input (h.world.servers s) u)) }) else hc) room

    pub one_call : (c : Call) → takes_call h.world s c ≡ true → (log : List Entry) → log_at t.world s ≡ Some log
        → After t s log (c ∷ []) (next own h (stays, event_of s c))
    one_call (call.Query q) takes log has =
        let found = some_of (head_machine h.world s) takes in
        let did = holds_run plain h t x ((stays, Look s q) ∷ []) in
        let f = has_log plain h t x s found.0 found.1 in
        record {
          later = tc;
          holds = did.0;
          committed = prefix_same t.committed;
          live = f.0.live;
          new = log;
          has = has;
          more = sym (append-nil (updates log));
          others = λ z other. refl;
        }
    one_call (call.Update u) takes log has =
        let found = some_of (head_machine h.world s) (left_of (is_some (head_machine h.world s)) (server.has_room (h.world.servers s)) takes) in
        let room = right_of (is_some (head_machine h.world s)) (server.has_room (h.world.servers s)) takes in
        let did = holds_run plain h t x ((stays, Append s u) ∷ []) in
        let f = has_log plain h t x s found.0 found.1 in
        let xc = holds_cut plain h t x stays in
        let view : server.has_room (t.world.servers s) ≡ true =
        sym (ap (λ (z : ServerView (CachedState P)). server.has_room z) (x.shows.servers s f.0.live)) ∙ room in
        let step = account_is u found.0 found.1 room in
        let same : account_next plain h t (stays, Append s u) ≡ appended plain tc s u = step in
        let out : (next own h (stays, Append s u)).world.failed s ≡ false =
        ap (λ (y : Heads (CachedState P)). y.world.failed s) (heads_are u found.0 found.1 room) ∙ x.shows.failed s ∙ f.0.live in
        record {
          later = account_next plain h t (stays, Append s u);
          holds = did.0;
          committed = did.1;
          live = sym (did.0.shows.failed s) ∙ out;
          new = log ++ entry_of_call tc u ∷ [];
          has = ap (λ (y : Account). log_at y.world s) same ∙ own_log plain tc s u xc.fresh xc.silent f.0.live log has f.0.head view;
          more = longer log (entry_of_call tc u) u refl;
          others = λ z other. ap (λ (y : Account). log_at y.world z) same ∙ other_log plain tc s u xc.fresh xc.silent f.0.live z other;
        }

  -- several
  pub commits : (h new : Heads (CachedState P)) (t : Account) → Holds plain h t → (s : ℕ) (calls : List Call) → t.world.failed s ≡ false → (log : List Entry)
      → log_at t.world s ≡ Some log → Commits own s calls h new → After t s log calls new
  commits h new t x s [] live log has did =
      record {
        later = t;
        holds = subst (λ y. Holds plain y t) (sym did) x;
        committed = prefix_same t.committed;
        live = live;
        new = log;
        has = has;
        more = sym (append-nil (updates log));
        others = λ z other. refl;
      }
  commits h new t x s (c ∷ calls) live log has (takes, middle, (stays, is), rest) =
      let first = subst (After t s log (c ∷ [])) (sym is) (one_call h t x s stays c takes log has) in
      let second = commits middle new first.later first.holds s calls first.live first.new first.has rest in
      record {
        later = second.later;
        holds = second.holds;
        committed = prefix_of t.committed first.later.committed second.later.committed first.committed second.committed;
        live = second.live;
        new = second.new;
        has = second.has;
        more = second.more ∙ ap (λ l. l ++ updates_among calls) first.more ∙ goes_on c log calls;
        others = λ z other. second.others z other ∙ first.others z other;
      }
    where
      goes_on : (c : Call) (log : List Entry) (calls : List Call)
          → (updates log ++ updates_among (c ∷ [])) ++ updates_among calls ≡ updates log ++ updates_among (c ∷ calls)
      goes_on (call.Update u) log calls = append_assoc (updates log) (u ∷ []) (updates_among calls)
      goes_on (call.Query q) log calls = ap (λ l. l ++ updates_among calls) (append-nil (updates log))
