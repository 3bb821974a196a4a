-- A server takes a message of another server: its new view is good.
use Rattle.std.specs.Prelude.{is_none}
use Rattle.std.proofs.Common.{◌≡◌, ℕ, true, List, ◌∷◌, Option, Some, None, refl, sym, ap, ◌∙◌, subst, inl}
use Rattle.zcalls.specs.declared.call.Entry.{Entry}
use Rattle.zcalls.specs.Lists.{Among}
use Rattle.zcalls.specs.Cached.{Plain}
use Rattle.zprotocol.specs.declared.process.Process.TheVariants.{Server}
use Rattle.zprotocol.specs.server.View.{Neighbour}
use Rattle.zprotocol.specs.server.Table.{ServerResult, server_step}
use Rattle.zprotocol.proofs.server_lemmas.Cases.{server_case}
use Rattle.zlinearizability.specs.legal.Prefix.{IsPrefix}
use Rattle.zlinearizability.proofs.legal_lemmas.lists.Tests.{left_of, right_of}
use Rattle.zlinearizability.specs.chain.Flow.{log_machine, LogWorld, LogMessage, first_log}
use Rattle.zlinearizability.specs.chain.Last.{HasExactLast}
use Rattle.zlinearizability.specs.chain.Messages.{IsJustified}
use Rattle.zlinearizability.specs.chain.Account.{Account}
use Rattle.zlinearizability.specs.chain.Sound.{IsSound}
use Rattle.zlinearizability.proofs.chain_lemmas.tables.RowViews.{row_sent, row_begun, row_blank}
use Rattle.zlinearizability.proofs.chain_lemmas.steps.Takes.{takes_stays, neighbours_stay, with_view}
use Rattle.zlinearizability.proofs.chain_lemmas.steps.Views.{IsGoodView}
use Rattle.zlinearizability.proofs.servers_lemmas.TakerLogs.{taker_grows, final_log_taker, first_log_taker}

none_is : (pred : Option Neighbour) → is_none pred ≡ true → (p k : ℕ) → pred ≡ Some (p, k) → ⊥
none_is None h p k e = cc
none_is (Some pred) h p k e = cc h

module _ {P : Type 0} (plain : Plain P) (t : Account) (s : IsSound plain t) (p y : ℕ) (m : LogMessage) (rest : List LogMessage)
    (link : t.world.links (Server p) (Server y) ≡ m ∷ rest) (exact : HasExactLast (t.world.servers y)) where
  abbrev w : LogWorld
  w = t.world

  abbrev taken : ServerResult (List Entry)
  taken = server_step (log_machine plain) (t.world.servers y) (Server p) m

  justified : IsJustified w t.items (Server p) (Server y) m
  justified = s.justified (Server p) (Server y) m (subst (Among m) (sym link) (inl refl))

  -- the new view is good
  pub good_view : IsGoodView w (Server p) y taken.0
  good_view =
      let v = w.servers y in
      let row = server_case (log_machine plain) v (Server p) m in
      let stay = neighbours_stay plain v (Server p) m taken row refl in
      record {
        pred = stay.0;
        succ = stay.1;
        grows = taker_grows plain w p y m rest link exact;
        ahead = λ x before log is. s.ordered x y before log (sym (final_log_taker plain w p y m rest link exact) ∙ is);
        blank = λ unused. row_blank plain v (Server p) m taken row refl (s.blank y unused).0;
        fresh = λ is. ap is_none (takes_stays plain v p m (λ k e. none_is v.pred (right_of (is_none v.machine) (is_none v.pred) is) p k e))
            ∙ left_of (is_none v.machine) (is_none v.pred) is;
        sent = row_sent plain v (Server p) m taken row exact (s.sent y);
        begun = row_begun plain w t.items y v (Server p) m taken row justified (s.begun y);
      }

  -- what it shows first only grows
  pub good_first_log : (log : List Entry) → first_log (with_view w (Server p) y taken.0) y ≡ Some log
      → (shown : List Entry) × (first_log w y ≡ Some shown) × IsPrefix shown log
  good_first_log = first_log_taker plain w p y m rest link exact
