-- The tail argument: a member that has no successor after its step commits its whole log.
use Rattle.std.specs.Prelude.{is_none}
use Rattle.std.proofs.Common.{◌≡◌, ◌⊎◌, ℕ, true, ◌==◌, List, [], ◌++◌, length, Option, Some, None, sym, ap, ◌∙◌, subst}
use Rattle.std.proofs.Common.{inl, inr, eqb-true, append-nil}
use Rattle.zcalls.specs.declared.call.Entry.{Entry}
use Rattle.zcalls.specs.Lists.{Among, ComesBefore}
use Rattle.zcalls.specs.Cached.{Plain}
use Rattle.zcalls.proofs.Among.{test}
use Rattle.zprotocol.specs.declared.process.Process.{Process}
use Rattle.zprotocol.specs.declared.process.Process.TheVariants.{Server}
use Rattle.zprotocol.specs.server.View.{ServerView, Neighbour}
use Rattle.zprotocol.specs.master.View.{members}
use Rattle.zlinearizability.specs.legal.Prefix.{IsPrefix}
use Rattle.zlinearizability.specs.legal.Items.{Item, AllBegun, new_items}
use Rattle.zlinearizability.proofs.legal_lemmas.lists.Members.{among_left}
use Rattle.zlinearizability.proofs.legal_lemmas.lists.Prefixes.{prefix_same, prefix_of}
use Rattle.zlinearizability.proofs.legal_lemmas.acts.NewItems.{grown_committed, grown_replays, grown_rises, grown_in_time, grown_answered}
use Rattle.zlinearizability.proofs.legal_lemmas.lists.Places.{two_places}
use Rattle.zlinearizability.specs.chain.Flow.{LogWorld, Log, or_else, log_at, final_log_by, final_log, first_snapshot_by, first_log}
use Rattle.zlinearizability.specs.chain.Chain.{IsAhead, IsMember}
use Rattle.zlinearizability.specs.chain.Account.{Account}
use Rattle.zlinearizability.specs.chain.Sound.{IsSound, AllShowCommitted, TailHoldsCommitted}
use Rattle.zlinearizability.proofs.chain_lemmas.flow.Flow.{flow_below, IsBelow}
use Rattle.zlinearizability.proofs.chain_lemmas.links.Links.{at_same, at_other}
use Rattle.zlinearizability.proofs.chain_lemmas.steps.Sends.{below_some, final_log_of_log}
use Rattle.zlinearizability.proofs.chain_lemmas.steps.Takes.{with_view, first_log_elsewhere}
use Rattle.zlinearizability.proofs.chain_lemmas.steps.Views.{AreGoodLists}

-- who shows a log could have one
pub final_log_of_first_log : (w : LogWorld) (s : ℕ) (log : List Entry) → first_log w s ≡ Some log
    → (more : List Entry) × (final_log w s ≡ Some more) × IsPrefix log more
final_log_of_first_log w s log is = by (w.servers s).pred is
  where
    none : (l : Log) → or_else l None ≡ Some log → IsBelow (Some log) l
    none None h = absurd (cc h)
    none (Some l) h = ([], (let e : Some l ≡ Some log = h in cc e) ∙ sym (append-nil log))

    by : (pred : Option Neighbour) → or_else (log_at w s) (first_snapshot_by w s pred) ≡ Some log
        → (more : List Entry) × (final_log_by w s (log_at w s) pred ≡ Some more) × IsPrefix log more
    by None h = below_some log (log_at w s) (none (log_at w s) h)
    by (Some pred) h = below_some log (final_log_by w s (log_at w s) (Some pred))
        (subst (λ l. IsBelow l (final_log_by w s (log_at w s) (Some pred))) h (flow_below pred.1 (log_at w s) (w.links (Server pred.0) (Server s))))

module _ {P : Type 0} (plain : Plain P) (t : Account) (s : IsSound plain t) (from : Process)
    (y : ℕ) (y_in : IsMember t.world y) (v : ServerView (List Entry)) (log : List Entry) (has : v.machine ≡ Some log)
    (longer : IsPrefix t.committed log)
    (begun : AllBegun t.world.history log)
    (ahead_of : (x : ℕ) → ComesBefore x y (members t.world.master) → (l : List Entry) → final_log (with_view t.world from y v) y ≡ Some l
    → IsAhead t.world x l)
    (sound : (committed : List Entry) (items : List Item) → ((i : Item) → Among i t.items → Among i items)
    → AreGoodLists plain (with_view t.world from y v) committed items
    → IsSound plain (record { world = with_view t.world from y v; committed = committed; items = items }))
    (nobody : (z : ℕ) → ComesBefore y z (members t.world.master) → (l : List Entry) → final_log t.world z ≡ Some l → ⊥) where
  abbrev w : LogWorld
  w = t.world

  abbrev w1 : LogWorld
  w1 = with_view t.world from y v

  view_here : w1.servers y ≡ v
  view_here = at_same y v w.servers

  log_here : log_at w1 y ≡ Some log
  log_here = ap (λ (u : ServerView (List Entry)). u.machine) view_here ∙ has

  first_log_here : first_log w1 y ≡ Some log
  first_log_here = ap (λ l. or_else l (first_snapshot_by w1 y (w1.servers y).pred)) log_here

  -- who is before the taker is ahead of its log
  ahead : (z : ℕ) → ComesBefore z y (members w.master) → IsAhead w z log
  ahead z before =
      let more = final_log_of_log w1 y log log_here in
      let h = ahead_of z before more.0 more.1 in
      record {
        own = h.own;
        holds = h.holds;
        begins = prefix_of log more.0 h.own more.2 h.begins;
        has_successor =
            h.has_successor;
        no_tail_order = h.no_tail_order;
      }

  shown_there : (z : ℕ) (shown : List Entry) → (ComesBefore z y (members w.master) ⊎ ComesBefore y z (members w.master))
      → first_log w z ≡ Some shown → IsPrefix log shown
  shown_there z shown (inl before) is =
      let h = ahead z before in
      let mine : Some h.own ≡ Some shown = sym (ap (λ l. or_else l (first_snapshot_by w z (w.servers z).pred)) h.holds) ∙ is in
      subst (IsPrefix log) (cc mine) h.begins
  shown_there z shown (inr behind) is = let more = final_log_of_first_log w z shown is in absurd (nobody z behind more.0 more.1)

  all_show : AllShowCommitted w1 log
  all_show z shown member is = elim (test (z == y)) [
    | inl e ↦ let mine : Some log ≡ Some shown = sym first_log_here ∙ subst (λ x. first_log w1 x ≡ Some shown) (eqb-true _ _ e) is in
        subst (IsPrefix log) (cc mine) (prefix_same log)
    | inr f ↦ elim (two_places z y (members w.master) member y_in) [
      | inl e ↦ let mine : Some log ≡ Some shown = sym first_log_here ∙ subst (λ x. first_log w1 x ≡ Some shown) e is in
          subst (IsPrefix log) (cc mine) (prefix_same log)
      | inr p ↦ shown_there z shown p (sym (first_log_elsewhere w from y v z f) ∙ is)
    ]
  ]

  tail_there : (z : ℕ) (l : List Entry) → (ComesBefore z y (members w.master) ⊎ ComesBefore y z (members w.master))
      → log_at w z ≡ Some l → is_none (w.servers z).succ ≡ true → l ≡ log
  tail_there z l (inl before) is ends = let h = (ahead z before).has_successor in cc
  tail_there z l (inr behind) is ends = let more = final_log_of_log w z l is in absurd (nobody z behind more.0 more.1)

  tail_holds : TailHoldsCommitted w1 log
  tail_holds z l member is ends = elim (test (z == y)) [
    | inl e ↦ let mine : Some l ≡ Some log = sym (subst (λ x. log_at w1 x ≡ Some l) (eqb-true _ _ e) is) ∙ log_here in cc mine
    | inr f ↦ elim (two_places z y (members w.master) member y_in) [
      | inl e ↦ let mine : Some l ≡ Some log = sym (subst (λ x. log_at w1 x ≡ Some l) e is) ∙ log_here in cc mine
      | inr p ↦ let old = at_other y v w.servers z f in
          tail_there z l p (sym (ap (λ (u : ServerView (List Entry)). u.machine) old) ∙ is)
          (sym (ap (λ (u : ServerView (List Entry)). is_none u.succ) old) ∙ ends)
    ]
  ]

  -- the log is committed, and what acts of it becomes items
  pub commit_sound : IsSound plain (record { world = w1; committed = log; items = t.items ++ new_items plain (length w.history) t.committed log })
  commit_sound =
      sound log (t.items ++ new_items plain (length w.history) t.committed log)
      (λ i a. among_left i t.items (new_items plain (length w.history) t.committed log) a)
      (record {
        shown = all_show;
        tail = tail_holds;
        committed_begun = begun;
        acted = grown_committed plain w.history t.committed log t.items longer begun s.acted;
        replays = grown_replays plain w.history t.committed log t.items longer begun s.acted s.replays;
        rising = grown_rises plain w.history t.committed log t.items longer begun s.in_time s.rising;
        in_time = grown_in_time plain w.history t.committed log t.items longer begun s.in_time;
        answered = grown_answered plain w.history t.committed log t.items longer begun s.answered;
      })
