-- What is acknowledged: what left Sent is committed, so what holds of the heads still does.
use Rattle.std.specs.Prelude.{not, nat_le, if◌then◌else◌, filter}
use Rattle.std.proofs.Common.{◌≡◌, ℕ, ◌≤◌, Bool, true, false, List, [], ◌∷◌, ◌++◌, map, length, sym, ap, ◌∙◌, subst, inl, inr, arith}
use Rattle.std.proofs.lemmas.Bool.Decides.{nat_tests}
use Rattle.zcalls.specs.declared.call.Entry.{Entry}
use Rattle.zcalls.specs.Cached.{Plain, CachedState}
use Rattle.zcalls.specs.Lists.{Among}
use Rattle.zcalls.proofs.Among.{test, among_cases}
use Rattle.zprotocol.specs.server.Machine.{Does, machine_of}
use Rattle.zprotocol.specs.server.View.{ServerView}
use Rattle.zprotocol.specs.master.View.{is_among}
use Rattle.zprotocol.proofs.world_lemmas.Among.{among_map, among_image}
use Rattle.zprotocol.proofs.world_lemmas.Orders.{Stand, stand}
use Rattle.zlinearizability.specs.chain.Flow.{length_of}
use Rattle.zlinearizability.specs.chain.Account.{Account}
use Rattle.zlinearizability.proofs.legal_lemmas.lists.Places.{before_second}
use Rattle.zlinearizability.proofs.legal_lemmas.lists.Tests.{left_of, right_of, not_true}
use Rattle.zlinearizability.proofs.chain_lemmas.steps.Opening.{tested_among}
use Rattle.zheads.specs.Heads.{Note, Begun, Acknowledged, Heads, has_left_sent, is_acknowledged, acknowledge}
use Rattle.zheads.specs.OneLog.{Fits}
use Rattle.zheads.proofs.KnownSteps.{known_more}
use Rattle.zheads.proofs.Shown.{shown_sent, shown_view}
use Rattle.zheads.proofs.Fits.{updates, prefix_updates, updates_length, fits_front}
use Rattle.zheads.proofs.Holds.{MadeIn, IsNoted, Holds}
use Rattle.zheads.proofs.Calls.{has_committed, made_more, begun_is_not_acknowledged}

module _ {P : Type 0} (plain : Plain P) where
  abbrev own : Does (CachedState P)
  own = machine_of plain

  -- what has left Sent is committed
  left_is_committed : (h : Heads (CachedState P)) (t : Account) → Holds plain h t → (note : Note) → IsNoted plain t.world note
      → is_acknowledged h.world note ≡ true → Fits plain (updates t.committed) note
  left_is_committed h t x note (log, has, fits, le) is =
      let s = note.server in
      let out : h.world.failed s ≡ false = not_true (h.world.failed s) (left_of (not (h.world.failed s)) (has_left_sent (h.world.servers s) note.need) is) in
      let live : t.world.failed s ≡ false = sym (x.shows.failed s) ∙ out in
      let view = x.shows.servers s live in
      let left : has_left_sent (shown_view own (t.world.servers s)) note.need ≡ true =
      sym (ap (λ (z : ServerView (CachedState P)). has_left_sent z note.need) view)
      ∙ right_of (not (h.world.failed s)) (has_left_sent (h.world.servers s) note.need) is in
      let v = t.world.servers s in
      let sent = map (λ (d : ℕ × Entry). d.0) (map shown_sent v.sent) in
      let low : nat_le note.need v.last ≡ true = left_of (nat_le note.need v.last) (not (is_among note.need sent)) left in
      let gone : is_among note.need sent ≡ false =
      not_true (is_among note.need sent) (right_of (nat_le note.need v.last) (not (is_among note.need sent)) left) in
      let released : (d : Entry) → Among (note.need, d) v.sent → ⊥ = λ d a.
      still (is_among note.need sent) gone (tested_among note.need sent
      (among_map (λ (y : ℕ × Entry). y.0) (shown_sent (note.need, d)) (map shown_sent v.sent) (among_map shown_sent (note.need, d) v.sent a))) in
      let last : v.last ≡ length log = x.exact.views s ∙ ap length_of has in
      let at_most : note.need ≤ v.last = grind (arith, nat_tests, low) in
      let committed : note.need ≤ length t.committed = (x.known.views s).released log note.need has (omega arith) released in
      let size : length (updates t.committed) ≡ length t.committed = updates_length t.committed in
      fits_front plain (updates t.committed) (updates log) note (prefix_updates t.committed log (has_committed plain h t x s log live has)) (omega arith) fits
    where
      still : (b : Bool) → b ≡ false → b ≡ true → ⊥
      still b f t = cc

  in_filter : (test_of : Note → Bool) (notes : List Note) (note : Note) → Among note (filter test_of notes) → Among note notes × (test_of note ≡ true)
  in_filter test_of [] note a = absurd a
  in_filter test_of (n ∷ notes) note a = elim (test (test_of n)) [
    | inl t ↦ elim (subst (Among note) (ap (λ b. if b then n ∷ filter test_of notes else filter test_of notes) t) a) [
      | inl e ↦ (inl e, ap test_of (sym e) ∙ t)
      | inr b ↦ let more = in_filter test_of notes note b in (inr more.0, more.1)
    ]
    | inr f ↦ let more = in_filter test_of notes note (subst (Among note) (ap (λ b. if b then n ∷ filter test_of notes else filter test_of notes) f) a) in
        (inr more.0, more.1)
  ]

  pub holds_acknowledge : (h : Heads (CachedState P)) (t : Account) → Holds plain h t → Holds plain (acknowledge h) t
  holds_acknowledge h t x =
      let now = filter (is_acknowledged h.world) h.waiting in
      record {
        shows = x.shows;
        exact = x.exact;
        sound = x.sound;
        known = known_more (MadeIn h.seen) (MadeIn (h.seen ++ map Acknowledged now)) t (made_more h.seen (map Acknowledged now)) x.known;
        fresh = x.fresh;
        silent = x.silent;
        waiting = λ note a. x.waiting note (in_filter (λ n. not (is_acknowledged h.world n)) h.waiting note a).0;
        done = λ note a. elim (among_cases (Acknowledged note) h.seen (map Acknowledged now) a) [
          | inl old ↦ x.done note old
          | inr new ↦
              let found = among_image Acknowledged (Acknowledged note) now new in
              let same : found.0 ≡ note = cc found.2 in
              let kept = in_filter (is_acknowledged h.world) h.waiting found.0 found.1 in
              subst (Fits plain (updates t.committed)) same (left_is_committed h t x found.0 (x.waiting found.0 kept.0) kept.1)
        ];
        in_time = λ first second before. elim (stand (Acknowledged first) (Begun second) h.seen (map Acknowledged now) before) [
          | Stand.InFirst b ↦ x.in_time first second b
          | Stand.InEach a b ↦ absurd (never now second b)
          | Stand.InSecond b ↦ absurd (never now second (before_second (Acknowledged first) (Begun second) (map Acknowledged now) b))
        ];
      }
    where
      never : (notes : List Note) (note : Note) → Among (Begun note) (map Acknowledged notes) → ⊥
      never notes note a =
          let found = among_image Acknowledged (Begun note) notes a in begun_is_not_acknowledged note found.0 (sym found.2)
