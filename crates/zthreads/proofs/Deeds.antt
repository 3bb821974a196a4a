-- One more deed.
use Rattle.std.proofs.Common.{◌≡◌, Bool, true, true≢false, List, [], ◌∷◌, ◌++◌, None, sym, refl, ap, ◌∙◌, subst, append-nil}
use Rattle.std.specs.Option.{option_map}
use Rattle.zprotocol.specs.server.Machine.{cached_tree}
use Rattle.zprotocol.specs.declared.process.Process.{Process}
use Rattle.zprotocol.specs.world.History.{History}
use Rattle.zprotocol.specs.world.Links.{messages_to}
use Rattle.zprotocol.specs.declared.traces.trace.TraceEvent.{TraceEvent}
use Rattle.zprotocol.specs.traces.Deeds.{Row, IsStamped, stamp_of, taken_from, takes, stamped}
use Rattle.zprotocol.proofs.traces_lemmas.Deeds.{goes_more, left_more, last_more, trace_more, takes_more, puts_more, reported_more}
use Rattle.zchannels.specs.Rings.{put_of}
use Rattle.zprotocol.specs.Places.{process_at}
use Rattle.zthreads.specs.Endpoints.{TreeDeed, TreeStanding, TreeTaken, TreePost, Self, Books, Accounts, IsEvent, took_from}

-- what is recorded doesn't count once the trace is cut
pub accounts_cut : (who : Self) (b : Books) (s : TreeStanding) (t : TreeTaken) (waits : List TreePost) (deeds : List TreeDeed)
    (trace : List TraceEvent) (reported : History) (cut : Bool) → cut ≡ true
    → Accounts who b s t waits deeds → Accounts who (record b { trace = trace; reported = reported; is_cut = cut }) s t waits deeds
accounts_cut who b s t waits deeds trace reported cut is a =
    record {
      goes = a.goes;
      left = a.left;
      last = a.last;
      traced = λ whole. absurd (true≢false (sym is ∙ whole));
      reported = λ whole. absurd (true≢false (sym is ∙ whole));
      taken = a.taken;
      others = a.others;
      put = a.put;
    }

-- an event more
pub accounts_more : (who : Self) (b : Books) (s s' : TreeStanding) (t : TreeTaken) (posts : List TreePost)
    (deeds : List TreeDeed) (e : TraceEvent) (reported : History)
    → Accounts who b s t [] deeds → IsEvent who.me b.stamp s t e.act e.stamp s' posts reported
    → (deeds' : List TreeDeed) × Accounts who (record {
      ins = b.ins;
      outs = b.outs;
      trace = b.trace ++ e ∷ [];
      reported = b.reported
          ++ reported;
      stamp = e.stamp;
      is_cut = b.is_cut;
    }) s' None posts deeds'
accounts_more who b s s' t posts deeds e reported a event =
    let d : TreeDeed = record { event = e; took = option_map (λ x. x.1) t; left = s'; posts = posts; reported = reported } in (
      deeds ++ d ∷ [],
      record {
        goes = goes_more cached_tree who.me who.opening 0 deeds d a.goes
            (subst (λ x. Row cached_tree who.me x e.act d.took s' posts reported) (sym a.left) event.row)
            (subst (λ n. IsStamped who.me n (stamp_of d.took) e.stamp) (sym a.last) event.at);
        left = left_more who.opening deeds d;
        last = last_more 0 deeds d;
        traced = λ whole. trace_more deeds d ∙ ap (λ l. l ++ e ∷ []) (a.traced whole);
        reported = λ whole. reported_more deeds d ∙ ap (λ l. l ++ reported) (a.reported whole);
        taken = λ i r at. a.taken i r at ∙ ap (λ l. takes (process_at i) deeds ++ l) (sym (event.from (process_at i)))
            ∙ sym (takes_more (process_at i) deeds d) ∙ sym (append-nil (takes (process_at i) (deeds ++ d ∷ [])));
        others = λ p outside.
            let o = a.others p outside in
            (takes_more p deeds d ∙ ap (λ l. l ++ taken_from p e.act d.took) o.0 ∙ event.from p ∙ o.1, refl);
        put = λ i x at. ap (λ l. l ++ stamped e.stamp (messages_to (process_at i) posts)) (sym (append-nil (put_of x)) ∙ a.put i x at)
            ∙ sym (puts_more (process_at i) deeds d);
      },
    )

-- an event more that took no message, while one is stored
pub accounts_beside : (who : Self) (b : Books) (s s' : TreeStanding) (t : TreeTaken) (posts : List TreePost)
    (deeds : List TreeDeed) (e : TraceEvent) (reported : History)
    → Accounts who b s t [] deeds → IsEvent who.me b.stamp s None e.act e.stamp s' posts reported
    → (deeds' : List TreeDeed) × Accounts who (record {
      ins = b.ins;
      outs = b.outs;
      trace = b.trace ++ e ∷ [];
      reported = b.reported
          ++ reported;
      stamp = e.stamp;
      is_cut = b.is_cut;
    }) s' t posts deeds'
accounts_beside who b s s' t posts deeds e reported a event =
    let d : TreeDeed = record { event = e; took = None; left = s'; posts = posts; reported = reported } in
    let none : (p : Process) → takes p (deeds ++ d ∷ []) ≡ takes p deeds = λ p. takes_more p deeds d
    ∙ ap (λ l. takes p deeds ++ l) (event.from p) ∙ append-nil (takes p deeds) in (
      deeds ++ d ∷ [],
      record {
        goes = goes_more cached_tree who.me who.opening 0 deeds d a.goes
            (subst (λ x. Row cached_tree who.me x e.act d.took s' posts reported) (sym a.left) event.row)
            (subst (λ n. IsStamped who.me n (stamp_of d.took) e.stamp) (sym a.last) event.at);
        left = left_more who.opening deeds d;
        last = last_more 0 deeds d;
        traced = λ whole. trace_more deeds d ∙ ap (λ l. l ++ e ∷ []) (a.traced whole);
        reported = λ whole. reported_more deeds d ∙ ap (λ l. l ++ reported) (a.reported whole);
        taken = λ i r at. a.taken i r at ∙ ap (λ l. l ++ took_from (process_at i) t) (sym (none (process_at i)));
        others = λ p outside. let o = a.others p outside in (none p ∙ o.0, o.1);
        put = λ i x at. ap (λ l. l ++ stamped e.stamp (messages_to (process_at i) posts)) (sym (append-nil (put_of x)) ∙ a.put i x at)
            ∙ sym (puts_more (process_at i) deeds d);
      },
    )

-- the same two, where nothing of it is recorded
module _ (who : Self) (b : Books) (s s' : TreeStanding) (t : TreeTaken) (posts : List TreePost) (deeds : List TreeDeed)
    (e : TraceEvent) (reported : History)
    (trace : List TraceEvent) (seen : History) (cut : Bool) (is : cut ≡ true) (a : Accounts who b s t [] deeds) where
  pub more_cut : IsEvent who.me b.stamp s t e.act e.stamp s' posts reported
      → (deeds' : List TreeDeed)
      × Accounts who (record { ins = b.ins; outs = b.outs; trace = trace; reported = seen; stamp = e.stamp; is_cut = cut }) s' None posts deeds'
  more_cut event =
      let m = accounts_more who b s s' t posts deeds e reported a event in
      let more : Books = record {
        ins = b.ins;
        outs = b.outs;
        trace = b.trace ++ e ∷ [];
        reported = b.reported
            ++ reported;
        stamp = e.stamp;
        is_cut = b.is_cut;
      } in
      (m.0, accounts_cut who more s' None posts m.0 trace seen cut is m.1)

  pub beside_cut : IsEvent who.me b.stamp s None e.act e.stamp s' posts reported
      → (deeds' : List TreeDeed)
      × Accounts who (record { ins = b.ins; outs = b.outs; trace = trace; reported = seen; stamp = e.stamp; is_cut = cut }) s' t posts deeds'
  beside_cut event =
      let m = accounts_beside who b s s' t posts deeds e reported a event in
      let more : Books = record {
        ins = b.ins;
        outs = b.outs;
        trace = b.trace ++ e ∷ [];
        reported = b.reported
            ++ reported;
        stamp = e.stamp;
        is_cut = b.is_cut;
      } in
      (m.0, accounts_cut who more s' t posts m.0 trace seen cut is m.1)
