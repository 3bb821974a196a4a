-- Each call that a front commits is noted at its head with the front's reply.
use Rattle.std.specs.Prelude.{is_some, if◌then◌else◌}
use Rattle.std.proofs.Common.{◌≡◌, ℕ, ◌+◌, ◌≤◌, Bool, true, false, List, [], ◌∷◌, ◌++◌, length, Option, Some, None, refl, sym, ap, ◌∙◌, subst, inl, inr, arith, length-append}
use Rattle.ztree.specs.Tree.{Tree}
use Rattle.zcalls.specs.declared.call.Call.{Call}
use Rattle.zcalls.specs.declared.call.Call.TheVariants as call
use Rattle.zcalls.specs.declared.call.Entry.{Entry}
use Rattle.zcalls.specs.declared.call.Query.{Query}
use Rattle.zcalls.specs.declared.call.Update.{Update}
use Rattle.zcalls.specs.declared.reply.Reply.{Reply}
use Rattle.zcalls.specs.Cached.{CachedState}
use Rattle.zcalls.specs.Lists.{Among}
use Rattle.zprotocol.specs.server.Machine.{Does, machine_of}
use Rattle.zprotocol.specs.server.Table as server
use Rattle.zprotocol.specs.world.PlainTree.{serve}
use Rattle.zlinearizability.specs.chain.Flow.{log_at}
use Rattle.zlinearizability.specs.chain.Account.{Account}
use Rattle.zlinearizability.specs.Cuts.{Stays}
use Rattle.zlinearizability.proofs.legal_lemmas.lists.Members.{among_mid}
use Rattle.zlinearizability.proofs.legal_lemmas.lists.Tests.{left_of, right_of}
use Rattle.zheads.specs.Heads.{Note, Heads, Append, Look, head_machine, update_note, query_note, begun, acts, next}
use Rattle.zheads.specs.OneLog.{state_of}
use Rattle.zheads.proofs.Shown.{machine_after}
use Rattle.zheads.proofs.Fits.{updates, updates_length, reply_is}
use Rattle.zheads.proofs.Holds.{Holds, cut_heads}
use Rattle.ztree_service.specs.log.Logs.{Log, IsOneTreesFrom, calls_of}
use Rattle.zfront.specs.Front.{updates_among}
use Rattle.zcluster_laws.specs.Cluster.{event_of, takes_call, Commits, ends_in_update}
use Rattle.zcluster_laws.proofs.Facts.{has_log, last_of}
use Rattle.zcluster_laws.proofs.Served.{state_more}
use Rattle.zcluster_laws.proofs.Committing.{After, some_of, heads_are, one_call}
use Rattle.zcluster_laws.proofs.Kept.{IsKept, kept_then, kept_next}
use Rattle.zcluster_laws.proofs.Stands.{plain}
use Rattle.zcluster_laws.proofs.Steps.{same_log}

-- the entry that calls wait for, after this many entries
abbrev pub needed : ℕ → List Call → ℕ
needed n calls =
    if ends_in_update calls then n + length (updates_among calls) else (n + length (updates_among calls)) + 1

by_end : (b : Bool) (n k : ℕ) → n ≤ k → n ≤ (if b then k else k + 1)
by_end true n k le = le
by_end false n k le = omega arith

first_need : (n : ℕ) (c : Call) (calls : List Call) → n + 1 ≤ needed n (c ∷ calls)
first_need n (call.Update u) [] = omega arith
first_need n (call.Query q) [] = omega arith
first_need n (call.Update u) (d ∷ calls) = by_end (ends_in_update (d ∷ calls)) (n + 1) (n + length (u ∷ updates_among (d ∷ calls))) (omega arith)
first_need n (call.Query q) (d ∷ calls) = first_need n d calls

rest_need : (n m : ℕ) (c d : Call) (calls : List Call) → m ≡ n + length (updates_among (c ∷ [])) → needed m (d ∷ calls) ≤ needed n (c ∷ (d ∷ calls))
rest_need n m (call.Update u) d calls is = by (ends_in_update (d ∷ calls))
  where
    by : (b : Bool) → (if b then m + length (updates_among (d ∷ calls)) else (m + length (updates_among (d ∷ calls))) + 1)
        ≤ (if b then n + length (u ∷ updates_among (d ∷ calls)) else (n + length (u ∷ updates_among (d ∷ calls))) + 1)
    by true = omega arith
    by false = omega arith
rest_need n m (call.Query q) d calls is = by (ends_in_update (d ∷ calls))
  where
    by : (b : Bool) → (if b then m + length (updates_among (d ∷ calls)) else (m + length (updates_among (d ∷ calls))) + 1)
        ≤ (if b then n + length (updates_among (d ∷ calls)) else (n + length (updates_among (d ∷ calls))) + 1)
    by true = omega arith
    by false = omega arith

module _ (t0 : Tree) where
  abbrev own : Does (CachedState Tree)
  own = machine_of (plain t0)

  -- a call was noted at a server, with this reply, and its entry is no later than this
  pub record IsNoted (h : Heads (CachedState Tree)) (s n : ℕ) (c : Call) (r : Reply) : Type 0 where
    pub note : Note
    pub is_call : note.call ≡ c
    pub is_reply : note.reply ≡ Some r
    pub at : note.server ≡ s
    pub need : note.need ≤ n
    pub kept : IsKept own h note

  abbrev pub AreNoted : Heads (CachedState Tree) → ℕ → ℕ → Log → Type 0
  AreNoted h s n log = (reported : Call × Reply) → Among reported log → IsNoted h s n reported.0 reported.1

  -- one call
  module _ (h : Heads (CachedState Tree)) (t : Account) (x : Holds (plain t0) h t) (s : ℕ) (stays : Stays) (log : List Entry)
      (has : log_at t.world s ≡ Some log) where
    -- the head's machine has the state of its log
    state_is : (m : CachedState Tree) → head_machine h.world s ≡ Some m
        → (m.plain ≡ state_of (plain t0) (updates log)) × (machine_after own log ≡ m) × ((h.world.servers s).last ≡ length log)
    state_is m is =
        let f = has_log (plain t0) h t x s m is in
        let same : f.0.log ≡ log = same_log f.0.log log (log_at t.world s) f.0.has has in (
          f.1 ∙ ap (λ l. state_of (plain t0) (updates l)) same,
          sym (ap (machine_after own) same) ∙ f.2,
          last_of (plain t0) h t x s log f.0.live has,
        )

    looked : (m : CachedState Tree) (q : Query) → head_machine h.world s ≡ Some m
        → acts own (cut_heads (plain t0) h stays) (Look s q) ≡ begun (query_note own s (h.world.servers s) m q) (cut_heads (plain t0) h stays)
    looked m q is = ap (λ f. elim f as (λ (y : Option (CachedState Tree)). Heads (CachedState Tree)) [
      | None ↦ cut_heads (plain t0) h stays
      | Some k ↦ begun (query_note own s (h.world.servers s) k q) (cut_heads (plain t0) h stays)
    ]) is

    one_noted : (c : Call) (r : Reply) → r ≡ (serve (state_of (plain t0) (updates log)) 0 c).1 → takes_call h.world s c ≡ true
        → IsNoted (next own h (stays, event_of s c)) s (length log + 1) c r
    one_noted (call.Query q) r replied takes =
        let found = some_of (head_machine h.world s) takes in
        let f = state_is found.0 found.1 in
        let note : Note = query_note own s (h.world.servers s) found.0 q in
        let last : (h.world.servers s).last ≡ length log = f.2 in
        record {
          note = note;
          is_call = refl;
          is_reply = ap (λ p. Some ((plain t0).ask p q)) f.0 ∙ ap Some (sym replied);
          at = refl;
          need = omega arith;
          kept = kept_then own (acts own (cut_heads (plain t0) h stays) (Look s q)) note
              (subst (λ y. IsKept own y note) (sym (looked found.0 q found.1)) (inl (among_mid note h.waiting [])));
        }
    one_noted (call.Update u) r replied takes =
        let found = some_of (head_machine h.world s) (left_of (is_some (head_machine h.world s)) (server.has_room (h.world.servers s)) takes) in
        let room = right_of (is_some (head_machine h.world s)) (server.has_room (h.world.servers s)) takes in
        let f = state_is found.0 found.1 in
        let note : Note = update_note own s (h.world.servers s) found.0 u in
        let last : (h.world.servers s).last ≡ length log = f.2 in
        record {
          note = note;
          is_call = refl;
          is_reply = (λ i. (own.apply (sym f.1 i) (record { client = 0; number = last i + 1; update = u })).1)
              ∙ reply_is (plain t0) log (record { client = 0; number = 0; update = u }) ∙ ap Some (sym replied);
          at = refl;
          need = omega arith;
          kept = kept_then own (acts own (cut_heads (plain t0) h stays) (Append s u)) note
              (subst (λ y. IsKept own y note) (sym (heads_are (plain t0) h t x s stays u found.0 found.1 room)) (inl (among_mid note h.waiting [])));
        }

  -- later calls keep a note
  pub kept_commits : (s : ℕ) (calls : List Call) (h new : Heads (CachedState Tree)) (note : Note) → Commits own s calls h new → IsKept own h note
      → IsKept own new note
  kept_commits s [] h new note did kept = subst (λ y. IsKept own y note) (sym did) kept
  kept_commits s (c ∷ calls) h new note (takes, middle, (stays, is), rest) kept =
      kept_commits s calls middle new note rest (subst (λ y. IsKept own y note) (sym is) (kept_next own h (stays, event_of s c) note kept))

  -- the state after a call
  state_then : (first second : List Update) (c : Call) → second ≡ first ++ updates_among (c ∷ [])
      → (serve (state_of (plain t0) first) 0 c).0 ≡ state_of (plain t0) second
  state_then first second (call.Update u) is = sym (state_more (plain t0) t0 first (u ∷ [])) ∙ ap (state_of (plain t0)) (sym is)
  state_then first second (call.Query q) is = sym (state_more (plain t0) t0 first []) ∙ ap (state_of (plain t0)) (sym is)

  -- several
  pub calls_noted : (calls : Log) (h new : Heads (CachedState Tree)) (t : Account) → Holds (plain t0) h t → (s : ℕ) → t.world.failed s ≡ false
      → (log : List Entry) → log_at t.world s ≡ Some log → IsOneTreesFrom (state_of (plain t0) (updates log)) calls → Commits own s (calls_of calls) h new
      → AreNoted new s (needed (length log) (calls_of calls)) calls
  calls_noted [] h new t x s live log has is did reported a = absurd a
  calls_noted ((c, r) ∷ calls) h new t x s live log has is (takes, middle, (stays, is_middle), rest) reported (inl e) =
      let replied : r ≡ (serve (state_of (plain t0) (updates log)) 0 c).1 = cc is in
      let first = subst (λ y. IsNoted y s (length log + 1) c r) (sym is_middle) (one_noted h t x s stays log has c r replied takes) in
      let low : length log + 1 ≤ needed (length log) (c ∷ calls_of calls) = first_need (length log) c (calls_of calls) in
      subst (λ (y : Call × Reply). IsNoted new s (needed (length log) (c ∷ calls_of calls)) y.0 y.1) e (record {
        note = first.note;
        is_call = first.is_call;
        is_reply = first.is_reply;
        at = first.at;
        need = omega (arith, first.need);
        kept = kept_commits s (calls_of calls) middle new first.note rest first.kept;
      })
  calls_noted ((c, r) ∷ []) h new t x s live log has is did reported (inr a) = absurd a
  calls_noted ((c, r) ∷ (d ∷ calls)) h new t x s live log has is (takes, middle, (stays, is_middle), rest) reported (inr a) =
      let first = subst (After (plain t0) t s log (c ∷ [])) (sym is_middle) (one_call (plain t0) h t x s stays c takes log has) in
      let state = state_then (updates log) (updates first.new) c first.more in
      let tails : IsOneTreesFrom (serve (state_of (plain t0) (updates log)) 0 c).0 (d ∷ calls) = cc is in
      let last = calls_noted (d ∷ calls) middle new first.later first.holds s first.live first.new first.has
      (subst (λ p. IsOneTreesFrom p (d ∷ calls)) state tails) rest reported a in
      let size : length first.new ≡ length log + length (updates_among (c ∷ [])) =
      sym (updates_length first.new) ∙ ap length first.more ∙ length-append (updates log) (updates_among (c ∷ [])) ∙ ap (λ n. n + length (updates_among (c ∷ []))) (updates_length log) in
      let low : needed (length first.new) (d.0 ∷ calls_of calls) ≤ needed (length log) (c ∷ (d.0 ∷ calls_of calls)) =
      rest_need (length log) (length first.new) c d.0 (calls_of calls) size in
      record { note = last.note; is_call = last.is_call; is_reply = last.is_reply; at = last.at; need = omega (arith, last.need, low); kept = last.kept }
