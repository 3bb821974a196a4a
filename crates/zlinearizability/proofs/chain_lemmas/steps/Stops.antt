-- A server stops for good: it has failed, and Gone is put.
use Rattle.std.proofs.Common.{◌≡◌, ℕ, true, false, refl}
use Rattle.zcalls.specs.Cached.{Plain}
use Rattle.zprotocol.specs.declared.message.Message.TheVariants as message
use Rattle.zprotocol.specs.declared.process.Process.TheVariants.{Master, Server}
use Rattle.zprotocol.specs.world.World.{at}
use Rattle.zprotocol.specs.world.Does.{stop_effect}
use Rattle.zprotocol.specs.world.Events.{did_in}
use Rattle.zlinearizability.specs.chain.Flow.{LogWorld}
use Rattle.zlinearizability.specs.chain.Chain.{IsMember}
use Rattle.zlinearizability.specs.chain.Account.{Account}
use Rattle.zlinearizability.specs.chain.Sound.{IsSound}
use Rattle.zlinearizability.proofs.chain_lemmas.links.Links.{at_cases, at_same}
use Rattle.zlinearizability.proofs.chain_lemmas.links.LaterWorlds.{justified_later}
use Rattle.zlinearizability.proofs.chain_lemmas.steps.Puts.{put_unread, unread_foreign}

module _ {P : Type 0} (plain : Plain P) (t : Account) (s : IsSound plain t) (x : ℕ) where
  abbrev failed : LogWorld
  failed = record t.world { failed = at x true t.world.failed }

  -- it has failed
  fail_sound : IsSound plain (record t { world = failed })
  fail_sound = record {
    distinct = s.distinct;
    used = s.used;
    blank = s.blank;
    live = λ z is alive. at_cases (λ b. b ≡ false → IsMember t.world z) x true t.world.failed z (λ e h. absurd (cc h)) (λ f h. s.live z is h) alive;
    line = s.line;
    successors = s.successors;
    epochs = s.epochs;
    tail_orders = s.tail_orders;
    ordered = λ a b before log is. let h = s.ordered a b before log is in
        record { own = h.own; holds = h.holds; begins = h.begins; has_successor = h.has_successor; no_tail_order = h.no_tail_order };
    committed = s.committed;
    tail = s.tail;
    sent = s.sent;
    begun = s.begun;
    committed_begun = s.committed_begun;
    justified = λ from to m a. justified_later t.world failed t.items t.items
        (record {
          begun = λ o h. h;
          given = λ i h. h;
          opened = λ z k h. h;
          failed = λ z h. at_cases (λ b. b ≡ true) x
              true t.world.failed z (λ e. refl) (λ f. h);
        }) from to m (s.justified from to m a);
    acted = s.acted;
    replays = s.replays;
    rising = s.rising;
    in_time = s.in_time;
    answered = s.answered;
    once = s.once;
    numbered = s.numbered;
    waits = s.waits;
  }

  -- and its last word is put
  pub stop_sound : IsSound plain (record t { world = did_in t.world (Server x) stop_effect })
  stop_sound = put_unread plain (record t { world = failed }) x Master message.Gone (unread_foreign message.Gone tt)
      (at_same x true t.world.failed) fail_sound
