-- The events of clients, and that a server fails.
use Rattle.std.proofs.Common.{◌≡◌, ℕ, List, ◌∷◌, refl, sym, subst, inl}
use Rattle.zcalls.specs.declared.call.Call.{Call}
use Rattle.zcalls.specs.Lists.{Among}
use Rattle.zcalls.specs.Cached.{Plain}
use Rattle.zprotocol.specs.declared.message.Message.TheVariants as message
use Rattle.zprotocol.specs.declared.process.Process.{Process}
use Rattle.zprotocol.specs.declared.process.Process.TheVariants.{Master, Server, Client}
use Rattle.zprotocol.specs.client.Table as client
use Rattle.zprotocol.specs.declared.world.event.Event.TheVariants.{Begin, Retry, Take, Fail}
use Rattle.zprotocol.specs.world.Links.{without_front}
use Rattle.zprotocol.specs.world.Events.{acts, front_step}
use Rattle.zlinearizability.specs.chain.Flow.{log_machine, LogMessage}
use Rattle.zlinearizability.specs.chain.Account.{Account}
use Rattle.zlinearizability.specs.chain.Sound.{IsSound}
use Rattle.zlinearizability.proofs.chain_lemmas.links.Links.{front_among}
use Rattle.zlinearizability.proofs.chain_lemmas.links.LaterWorlds.{justified_later}
use Rattle.zlinearizability.proofs.chain_lemmas.tables.Lasts.{lasts}
use Rattle.zlinearizability.proofs.chain_lemmas.steps.Stops.{stop_sound}
use Rattle.zlinearizability.proofs.chain_lemmas.steps.Drops.{kept_not_to, dropped_sound}
use Rattle.zlinearizability.proofs.chain_lemmas.Events.{where_enabled, quiet_event, front_there}
use Rattle.zlinearizability.specs.chain.Events.{KeepsSoundOver}
use Rattle.zlinearizability.proofs.clients_lemmas.ClientSteps.{begin_sound}
use Rattle.zlinearizability.proofs.clients_lemmas.ClientMessages.{again_sound, message_taken}

module _ {P : Type 0} (plain : Plain P) where
  -- a client hears
  client_hears : (t : Account) → IsSound plain t → (from : Process) (c : ℕ) (m : LogMessage) (rest : List LogMessage)
      → t.world.links from (Client c) ≡ m ∷ rest
      → IsSound plain (record t { world = front_step (log_machine plain) t.world from (Client c) (m ∷ rest) })
  client_hears t s from c m rest link =
      let popped : Account = record t { world = record t.world { links = without_front t.world.links from (Client c) } } in
      message_taken plain popped (dropped_sound plain t s from (Client c) (kept_not_to t.world from (Client c) (λ z. refl))) c from m
      (justified_later t.world popped.world t.items t.items
      (record {
        begun = λ o h. h;
        given = λ i h. h;
        opened = λ z k h.
            (h.0, λ p a. h.1 p (front_among t.world.links from (Client c) Master (Server z) (message.NewPred k p) a));
        failed = λ z h. h;
      })
      from (Client c) m (s.justified from (Client c) m (subst (Among m) (sym link) (inl refl))))

  -- the events Take at a client
  pub clients_hear : (from : Process) (c : ℕ) → KeepsSoundOver plain (Take from (Client c))
  clients_hear Master c t lasts s = where_enabled plain t (Take Master (Client c)) s (λ e. front_there plain t Master (Client c) e
      (λ m rest link alive. quiet_event plain t _ (client_hears t s Master c m rest link)))
  clients_hear (Server p) c t lasts s = where_enabled plain t (Take (Server p) (Client c)) s (λ e. front_there plain t (Server p) (Client c) e
      (λ m rest link alive. quiet_event plain t _ (client_hears t s (Server p) c m rest link)))
  clients_hear (Client d) c t lasts s = where_enabled plain t (Take (Client d) (Client c)) s (λ e. front_there plain t (Client d) (Client c) e
      (λ m rest link alive. quiet_event plain t _ (client_hears t s (Client d) c m rest link)))

  -- the event Begin
  pub calls_begin : (c : ℕ) (call : Call) → KeepsSoundOver plain (Begin c call)
  calls_begin c call t lasts s = where_enabled plain t (Begin c call) s (λ e. quiet_event plain t _ (begin_sound plain t s c call))

  again_account : (t : Account) → IsSound plain t → (c : ℕ) → IsSound plain (record t { world = acts (log_machine plain) t.world (Retry c) })
  unfolding client.retry_posts
  again_account t s c = again_sound plain t s c (t.world.clients c) refl refl

  -- the event Retry
  pub calls_are_sent_again : (c : ℕ) → KeepsSoundOver plain (Retry c)
  calls_are_sent_again c t lasts s = where_enabled plain t (Retry c) s (λ e. quiet_event plain t _ (again_account t s c))

  -- the event Fail
  pub servers_fail : (x : ℕ) → KeepsSoundOver plain (Fail x)
  servers_fail x t lasts s = where_enabled plain t (Fail x) s (λ e. quiet_event plain t _ (stop_sound plain t s x))
