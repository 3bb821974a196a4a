-- The new view of a server with a log that hears of a new successor, whatever the successor has.
use Rattle.std.proofs.Common.{◌≡◌, ℕ, false, List, ◌∷◌, Option, Some, refl, sym, ap, ◌∙◌, subst, inl}
use Rattle.zcalls.specs.declared.call.Entry.{Entry}
use Rattle.zcalls.specs.Cached.{Plain}
use Rattle.zcalls.specs.Lists.{Among}
use Rattle.zprotocol.specs.declared.message.Message.TheVariants as message
use Rattle.zprotocol.specs.declared.process.Process.TheVariants.{Master, Server}
use Rattle.zprotocol.specs.server.View.{ServerView, Neighbour}
use Rattle.zlinearizability.proofs.legal_lemmas.lists.Prefixes.{prefix_same}
use Rattle.zlinearizability.specs.chain.Flow.{LogMessage, or_else}
use Rattle.zlinearizability.specs.chain.Chain.{IsOpened, IsPast, LeadsTo, is_fresh}
use Rattle.zlinearizability.specs.chain.Account.{Account}
use Rattle.zlinearizability.specs.chain.Sound.{IsSound}
use Rattle.zlinearizability.proofs.master_lemmas.orders.OrderSteps.{IsGoodTurn}
use Rattle.zlinearizability.proofs.master_lemmas.orders.Neighbours.{final_log_of, first_log_of, same_final_log, same_first}

module _ {P : Type 0} (plain : Plain P) (t : Account) (s : IsSound plain t) (y epoch z : ℕ) (has : Option ℕ) (rest : List LogMessage)
    (link : t.world.links Master (Server y) ≡ message.NewSucc epoch z has ∷ rest) (alive : t.world.failed y ≡ false) where
  abbrev m : LogMessage
  m = message.NewSucc epoch z has

  abbrev led : ServerView (List Entry)
  led = record (t.world.servers y) { succ = Some (z, epoch) }

  -- the successor has taken the epoch
  pub successor_opened : IsOpened t.world z epoch
  successor_opened = s.justified Master (Server y) m (subst (Among m) (sym link) (inl refl))

  -- the log, the predecessor and Sent stay, and so does what the server shows and would hold
  pub good_successor : IsGoodTurn t.world y led rest
  good_successor = record {
    machine = refl;
    succ = λ some no_order. refl;
    final_log = λ log is. (
      log,
      sym (final_log_of plain t s y m rest link alive led ∙ same_final_log plain t s y m rest link alive led led.machine led.pred) ∙ is,
      prefix_same log,
    );
    shows = λ log is. (
      log,
      sym (first_log_of plain t s y m rest link alive led ∙ ap (or_else led.machine) (same_first plain t s y m rest link alive led led.pred)) ∙ is,
      prefix_same log,
    );
    line = λ place is. subst (λ q. LeadsTo (IsPast t.world) (is_fresh t.world y) (t.world.servers y).pred q place) link (s.line y place is);
    successor = λ x k is. let pair : ◌≡◌ {A = Neighbour} (z, epoch) (x, k) = cc is in
        subst (λ (q : Neighbour). IsOpened t.world q.0 q.1) pair successor_opened;
    sent = s.sent y;
  }
