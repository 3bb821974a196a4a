-- The event Take at a server with a log, of the master's NewSucc with a number: it sends what the successor lacks.
use Rattle.std.proofs.Common.{◌≡◌, ℕ, false, List, [], ◌∷◌, map, Option, Some, None, refl, sym, ap, ◌∙◌, subst, inl, inr}
use Rattle.zcalls.specs.declared.call.Entry.{Entry}
use Rattle.zcalls.specs.Lists.{Among}
use Rattle.zcalls.specs.Cached.{Plain}
use Rattle.zprotocol.specs.declared.message.Message.TheVariants as message
use Rattle.zprotocol.specs.declared.process.Process.TheVariants.{Master, Server}
use Rattle.zprotocol.specs.server.View.{ServerView, Neighbour}
use Rattle.zprotocol.specs.server.Table.{forward_post, entries_above, new_succ_row}
use Rattle.zprotocol.specs.server.Table as server
use Rattle.zprotocol.proofs.server_lemmas.Fields.{view_of}
use Rattle.zprotocol.specs.declared.world.event.Event.TheVariants.{Take}
use Rattle.zprotocol.specs.world.Links.{without_front}
use Rattle.zprotocol.specs.world.Does.{Hear}
use Rattle.zprotocol.specs.world.Events.{does_in}
use Rattle.zlinearizability.specs.legal.Prefix.{IsEntry}
use Rattle.zlinearizability.specs.legal.Items.{AllBegun}
use Rattle.zlinearizability.proofs.legal_lemmas.lists.Members.{among_mid}
use Rattle.zlinearizability.specs.chain.Flow.{log_machine, LogMessage, Log, log_at}
use Rattle.zlinearizability.specs.chain.Chain.{IsOpened, IsMember}
use Rattle.zlinearizability.specs.chain.Account.{Account, account_by}
use Rattle.zlinearizability.specs.chain.Sound.{IsSound, IsSoundAfter}
use Rattle.zlinearizability.proofs.chain_lemmas.links.Links.{at_same, front_among}
use Rattle.zlinearizability.proofs.chain_lemmas.tables.RowViews.{above_among}
use Rattle.zlinearizability.proofs.chain_lemmas.steps.Sends.{put_sent}
use Rattle.zlinearizability.proofs.chain_lemmas.steps.Puts.{account_with_put}
use Rattle.zlinearizability.proofs.chain_lemmas.steps.ServerSteps.{account_with_puts, account_with_view}
use Rattle.zlinearizability.proofs.master_lemmas.orders.OrderSteps.{IsGoodTurn, turn_sound, member}
use Rattle.zlinearizability.proofs.master_lemmas.orders.Neighbours.{after_turn}
use Rattle.zlinearizability.proofs.master_lemmas.orders.NewViews.{successor_opened, good_successor}

-- entries of the sender's log, one after the other
sends : {P : Type 0} (plain : Plain P) (t : Account) (y : ℕ) → IsMember t.world y → (own : List Entry) → log_at t.world y ≡ Some own
    → AllBegun t.world.history own
    → (succ : Neighbour) → IsOpened t.world succ.0 succ.1 → (es : List (ℕ × Entry)) → ((x : ℕ × Entry) → Among x es → IsEntry own x.0 x.1)
    → IsSound plain t → IsSound plain (account_with_puts t y (map (forward_post succ) es))
sends plain t y y_in own holds begun succ opened [] entries s = s
sends plain t y y_in own holds begun succ opened (x ∷ es) entries s =
    let entry = entries x (inl refl) in
    let has : Among x.1 own = subst (Among x.1) (sym entry.2) (among_mid x.1 entry.0 entry.1) in
    sends plain (account_with_put t y (Server succ.0) (message.Update succ.1 x.0 x.1)) y y_in own holds begun succ opened
    es (λ z a. entries z (inr a))
    (put_sent plain t y y_in own holds succ.0 succ.1 x.0 x.1 entry opened (begun x.1 has) s)

-- what an initialised server does
follow_by : (machine : Log) (last : ℕ) (sent : List (ℕ × Entry)) (pred succ : Option Neighbour) (epoch z n : ℕ) (own : List Entry)
    → machine ≡ Some own
    → new_succ_row (view_of machine last sent pred succ) epoch z (Some n)
    ≡ (view_of machine last sent pred (Some (z, epoch)), map (forward_post (z, epoch)) (entries_above n sent))
unfolding new_succ_row
follow_by None last sent pred succ epoch z n own has = absurd (cc has)
follow_by (Some log) last sent pred succ epoch z n own has = refl

module _ {P : Type 0} (plain : Plain P) (t : Account) (s : IsSound plain t) (y epoch z n : ℕ) (rest : List LogMessage)
    (link : t.world.links Master (Server y) ≡ message.NewSucc epoch z (Some n) ∷ rest) (alive : t.world.failed y ≡ false)
    (own : List Entry) (has : log_at t.world y ≡ Some own) where
  abbrev m : LogMessage
  m = message.NewSucc epoch z (Some n)

  abbrev led : ServerView (List Entry)
  led = record (t.world.servers y) { succ = Some (z, epoch) }

  opened : IsOpened t.world z epoch
  opened = successor_opened plain t s y epoch z (Some n) rest link alive

  good_follow : IsGoodTurn t.world y led rest
  good_follow = good_successor plain t s y epoch z (Some n) rest link alive

  followed : server.server_step (log_machine plain) (t.world.servers y) Master m
      ≡ (led, map (forward_post (z, epoch)) (entries_above n (t.world.servers y).sent))
  unfolding server.server_step
  followed = follow_by (t.world.servers y).machine (t.world.servers y).last (t.world.servers y).sent (t.world.servers y).pred
      (t.world.servers y).succ epoch z n own has

  -- the event
  pub take_succ_order : IsSoundAfter plain t (account_by plain t (Take Master (Server y))
      (does_in (log_machine plain) (record t.world { links = without_front t.world.links Master (Server y) }) (Server y) (Hear Master m)))
  take_succ_order = after_turn plain t s y m rest link alive (led, map (forward_post (z, epoch)) (entries_above n (t.world.servers y).sent))
      followed good_follow
      (sends plain (account_with_view plain t Master y led) y (member plain t s y m rest link alive led good_follow) own
      (ap (λ (u : ServerView (List Entry)). u.machine) (at_same y led t.world.servers) ∙ has) (s.begun y own has) (z, epoch)
      (opened.0, λ p a. opened.1 p (front_among t.world.links Master (Server y) Master (Server z) (message.NewPred epoch p) a))
      (entries_above n (t.world.servers y).sent) (λ x a. s.sent y own x.0 x.1 has (above_among n (t.world.servers y).sent x a))
      (turn_sound plain t s y m rest link alive led good_follow))
