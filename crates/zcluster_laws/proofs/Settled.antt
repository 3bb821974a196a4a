-- The calls of a reaction that waits are noted, and those of one that was sent are acknowledged.
use Rattle.std.specs.Prelude.{not, ◌&&◌, if◌then◌else◌}
use Rattle.std.proofs.Common.{◌≡◌, ℕ, ◌+◌, Bool, true, false, List, [], ◌∷◌, ◌++◌, length, Some, refl, sym, ap, ◌∙◌, subst, inl, inr, length-append}
use Rattle.ztree.specs.Tree.{Tree}
use Rattle.zcalls.specs.declared.call.Call.{Call}
use Rattle.zcalls.specs.declared.call.Call.TheVariants as call
use Rattle.zcalls.specs.Cached.{CachedState}
use Rattle.zcalls.specs.Lists.{Among}
use Rattle.zprotocol.specs.server.Machine.{Does as Machine, machine_of}
use Rattle.zlinearizability.specs.chain.Account.{Account}
use Rattle.zlinearizability.specs.Cuts.{Stays}
use Rattle.zlinearizability.proofs.legal_lemmas.lists.Members.{among_last}
use Rattle.zheads.specs.Heads.{Note, Acknowledged, Heads, HeadEvent, InChain, has_left_sent, is_acknowledged, next}
use Rattle.zheads.specs.OneLog.{state_of}
use Rattle.zheads.proofs.Fits.{updates, updates_length}
use Rattle.zwatches.specs.declared.limits.WatchLimits.{WatchLimits}
use Rattle.zresponses.specs.declared.clock.Clock.{Clock}
use Rattle.zconnections.specs.buffers.Inputs.{InputView}
use Rattle.ztree_service.specs.log.Logs.{Log, IsOneTreesFrom, calls_of}
use Rattle.zfront.specs.Front.{updates_among}
use Rattle.zfront.specs.Restoring.{beginning}
use Rattle.zfront_laws.specs.Runs as front
use Rattle.zfront_laws.specs.Logs.{input_log}
use Rattle.zfront_laws.proofs.Inputs.{every_step_goes_on}
use Rattle.zcluster_laws.specs.Cluster.{Reaction, Fronted, Handled, Sent, Cluster, Step, Begins, Takes, Sends, Pads, Chain, BeginsAt, TakesAt, SendsAt, Does, Commits, Happens, event_of, ends_in_update, need, drained, with_front, fenced, reaction_of}
use Rattle.zcluster_laws.specs.Laws.{AreAcknowledged}
use Rattle.zcluster_laws.proofs.Facts.{last_of, each_left}
use Rattle.zcluster_laws.proofs.Kept.{IsKept, IsQuiet, kept_next, seen_next, quiet_next}
use Rattle.zcluster_laws.proofs.Committing.{commits}
use Rattle.zcluster_laws.proofs.Stands.{plain, Good, put_front, fenced_front, one_sent, sent_is_not_handled}
use Rattle.zcluster_laws.proofs.Steps.{log_of}
use Rattle.zcluster_laws.proofs.Noted.{AreNoted, calls_noted, needed}

module _ (t0 : Tree) where
  abbrev own : Machine (CachedState Tree)
  own = machine_of (plain t0)

  pub record AreSettled (c : Cluster) : Type 0 where
    pub quiet : IsQuiet own c.heads
    pub noted : (z : ℕ) (p : Fronted) → c.fronts z ≡ Some p → (b : Reaction) → Among b p.held → AreNoted t0 c.heads z (need b) b.calls
    pub acknowledged : (b : Reaction) → Among (Sent b) c.visible → AreAcknowledged c.heads.seen b.calls

  -- from heads to later ones
  record Moves (h new : Heads (CachedState Tree)) : Type 0 where
    pub quiet : IsQuiet own h → IsQuiet own new
    pub kept : (note : Note) → IsKept own h note → IsKept own new note
    pub seen : (note : Note) → Among (Acknowledged note) h.seen → Among (Acknowledged note) new.seen

  next_moves : (h : Heads (CachedState Tree)) (step : Stays × HeadEvent) → Moves h (next own h step)
  next_moves h step = record {
    quiet = λ old. quiet_next own h step;
    kept = kept_next own h step;
    seen = seen_next own h step;
  }

  happens_moves : (event : HeadEvent) (h new : Heads (CachedState Tree)) → Happens own event h new → Moves h new
  happens_moves event h new (stays, is) = subst (Moves h) (sym is) (next_moves h (stays, event))

  commits_move : (s : ℕ) (calls : List Call) (h new : Heads (CachedState Tree)) → Commits own s calls h new → Moves h new
  commits_move s [] h new is = subst (Moves h) (sym is) (record { quiet = λ x. x; kept = λ note x. x; seen = λ note x. x })
  commits_move s (c ∷ calls) h new (takes, middle, did, rest) =
      let first = happens_moves (event_of s c) h middle did in
      let last = commits_move s calls middle new rest in
      record {
        quiet = λ x. last.quiet (first.quiet x);
        kept = λ note x. last.kept note (first.kept note x);
        seen = λ note x. last.seen note (first.seen note x);
      }

  noted_moves : (h new : Heads (CachedState Tree)) → Moves h new → (s n : ℕ) (calls : Log) → AreNoted t0 h s n calls → AreNoted t0 new s n calls
  noted_moves h new moves s n calls noted reported a =
      let old = noted reported a in
      record {
        note = old.note;
        is_call = old.is_call;
        is_reply = old.is_reply;
        at = old.at;
        need = old.need;
        kept = moves.kept old.note old.kept;
      }

  acknowledged_moves : (h new : Heads (CachedState Tree)) → Moves h new → (calls : Log) → AreAcknowledged h.seen calls → AreAcknowledged new.seen calls
  acknowledged_moves h new moves calls all reported a = let old = all reported a in (old.0, moves.seen old.0 old.1, old.2, old.3)

  -- other heads, and fewer fronts
  moved : (c : Cluster) (new : Heads (CachedState Tree)) → Moves c.heads new → AreSettled c → AreSettled (fenced (record c { heads = new }))
  moved c new moves x = record {
    quiet = moves.quiet x.quiet;
    noted = λ z p has b a. let f = fenced_front (record c { heads = new }) z p has in
        noted_moves c.heads new moves z (need b) b.calls (x.noted z p f.2 b a);
    acknowledged = λ b a. acknowledged_moves c.heads new moves b.calls (x.acknowledged b a);
  }

  need_is : (b : Reaction) (n : ℕ) → b.place ≡ n + length (updates_among (calls_of b.calls)) → needed n (calls_of b.calls) ≡ need b
  need_is b n is = ap (λ k. if ends_in_update (calls_of b.calls) then k else k + 1) (sym is)

  module _ (limits : WatchLimits) (secret : List ℕ) (times : Clock) (c : Cluster) (t : Account) (x : Good t0 c t) (y : AreSettled c) where
    begins_settled : (s : ℕ) (new : Cluster) → BeginsAt t0 limits secret times s c new → AreSettled new
    begins_settled s new did =
        let p : Fronted = record { first = did.m.plain; front = beginning limits did.m.plain secret times true; sent = []; held = [] } in
        let all : AreSettled (with_front s p c) = record {
          quiet = y.quiet;
          noted = put_front c.fronts s p (λ z q. (b : Reaction) → Among b q.held → AreNoted t0 c.heads z (need b) b.calls)
              (λ b a. absurd a) (λ z q other has. y.noted z q has);
          acknowledged = y.acknowledged;
        } in
        subst AreSettled (sym did.is) all

    -- all calls of the first reaction are acknowledged
    released : (s : ℕ) (new : Cluster) (did : SendsAt t0 limits secret times s c new) → AreAcknowledged c.heads.seen did.b.calls
    released s new did reported a =
        let b = did.b in
        let one = y.noted s did.p did.has b (subst (Among b) (sym did.waits) (inl refl)) reported a in
        let v = c.heads.world.servers s in
        let left : has_left_sent v one.note.need ≡ true = each_left v one.note.need (need b) one.need did.left in
        let f = log_of t0 limits secret times c t x s did.p did.has in
        let live : c.heads.world.failed s ≡ false = x.holds.shows.failed s ∙ f.live in
        let is : is_acknowledged c.heads.world one.note ≡ true =
        ap (λ z. not (c.heads.world.failed z) && has_left_sent (c.heads.world.servers z) one.note.need) one.at ∙ (λ i. not (live i) && left i) in
        elim one.kept [
          | inl waits ↦ absurd (differ (is_acknowledged c.heads.world one.note) (y.quiet one.note waits) is)
          | inr seen ↦ (one.note, seen, one.is_call, one.is_reply)
        ]
      where
        differ : (b : Bool) → b ≡ false → b ≡ true → ⊥
        differ b f t = cc

    sends_settled : (s : ℕ) (new : Cluster) → SendsAt t0 limits secret times s c new → AreSettled new
    sends_settled s new did =
        let q : Fronted = record did.p { sent = did.p.sent ++ did.b ∷ []; held = did.more } in
        let all : AreSettled (with_front s q (record c { visible = c.visible ++ Sent did.b ∷ [] })) = record {
          quiet = y.quiet;
          noted = put_front c.fronts s q (λ z r. (b : Reaction) → Among b r.held → AreNoted t0 c.heads z (need b) b.calls)
              (λ b a. y.noted s did.p did.has b (subst (Among b) (sym did.waits) (inr a))) (λ z r other has. y.noted z r has);
          acknowledged = λ b a. elim (among_last (Sent b) c.visible (Sent did.b) a) [
            | inl old ↦ y.acknowledged b old
            | inr is ↦ subst (λ r. AreAcknowledged c.heads.seen r.calls) (one_sent did.b b is) (released s new did)
          ];
        } in
        subst AreSettled (sym did.is) all

    takes_settled : (s : ℕ) (input : InputView) (new : Cluster) → TakesAt t0 limits secret times s input c new → AreSettled new
    takes_settled s input new did =
        let log = input_log input did.p.front did.v did.does in
        let b = reaction_of did.p input log (c.heads.world.servers s).last (did.heads.world.servers s).last did.v in
        let q : Fronted = record did.p { front = drained did.v; held = did.p.held ++ b ∷ [] } in
        let st = x.fronts s did.p did.has in
        let f = log_of t0 limits secret times c t x s did.p did.has in
        let after = commits (plain t0) c.heads did.heads t x.holds s (calls_of log) f.live st.log st.has did.commits in
        let goes = every_step_goes_on (front.Takes input) did.p.front did.v st.few did.does in
        let replies : IsOneTreesFrom (state_of (plain t0) (updates st.log)) log = subst (λ p. IsOneTreesFrom p log) st.tree goes.0.0 in
        let noted = calls_noted t0 log c.heads did.heads t x.holds s f.live st.log st.has replies did.commits in
        let place : b.place ≡ length st.log + length (updates_among (calls_of log)) =
        last_of (plain t0) did.heads after.later after.holds s after.new after.live after.has ∙ sym (updates_length after.new) ∙ ap length after.more
        ∙ length-append (updates st.log) (updates_among (calls_of log)) ∙ ap (λ n. n + length (updates_among (calls_of log))) (updates_length st.log) in
        let new_noted : AreNoted t0 did.heads s (need b) log = subst (λ n. AreNoted t0 did.heads s n log) (need_is b (length st.log) place) noted in
        let moves = commits_move s (calls_of log) c.heads did.heads did.commits in
        let later = record c { heads = did.heads; visible = c.visible ++ Handled b ∷ [] } in
        let fronts = put_front c.fronts s q (λ z r. (d : Reaction) → Among d r.held → AreNoted t0 did.heads z (need d) d.calls)
        (λ d a. elim (among_last d did.p.held b a) [
          | inl old ↦ noted_moves c.heads did.heads moves s (need d) d.calls (y.noted s did.p did.has d old)
          | inr is ↦ subst (λ r. AreNoted t0 did.heads s (need r) r.calls) is new_noted
        ])
        (λ z r other has d a. noted_moves c.heads did.heads moves z (need d) d.calls (y.noted z r has d a)) in
        let all : AreSettled (fenced (with_front s q later)) = record {
          quiet = moves.quiet y.quiet;
          noted = λ z r has. fronts z r (fenced_front (with_front s q later) z r has).2;
          acknowledged = λ d a. elim (among_last (Sent d) c.visible (Handled b) a) [
            | inl old ↦ acknowledged_moves c.heads did.heads moves d.calls (y.acknowledged d old)
            | inr is ↦ absurd (sent_is_not_handled b d is)
          ];
        } in
        subst AreSettled (sym did.is) all

    pub step_settled : (step : Step) (new : Cluster) → Does t0 limits secret times step c new → AreSettled new
    step_settled (Begins s) new did = begins_settled s new did
    step_settled (Takes s input) new did = takes_settled s input new did
    step_settled (Sends s) new did = sends_settled s new did
    step_settled (Pads s update) new did =
        subst AreSettled (sym did.is) (moved c did.heads (commits_move s (call.Update update ∷ []) c.heads did.heads did.commits) y)
    step_settled (Chain event) new did = subst AreSettled (sym did.is) (moved c did.heads (happens_moves (InChain event) c.heads did.heads did.happens) y)
