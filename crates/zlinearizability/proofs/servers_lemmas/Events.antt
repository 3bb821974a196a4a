-- The events Take at a server, from another server or from a client.
use Rattle.std.proofs.Common.{◌≡◌, ℕ, false, List, [], ◌∷◌, length, Some, None, refl, ap, ◌∙◌}
use Rattle.zcalls.specs.declared.call.Query.{Query}
use Rattle.zcalls.specs.Cached.{Plain}
use Rattle.zprotocol.specs.declared.message.Message.TheVariants as message
use Rattle.zprotocol.specs.declared.process.Process.TheVariants.{Server, Client}
use Rattle.zprotocol.specs.declared.world.event.Event.TheVariants.{Take}
use Rattle.zprotocol.specs.world.Events.{front_step}
use Rattle.zlinearizability.specs.chain.Flow.{log_machine, LogMessage, Log}
use Rattle.zlinearizability.specs.chain.Last.{LastsAreLengths}
use Rattle.zlinearizability.specs.chain.Account.{Account, tail_log, query_items_of_front, account_by}
use Rattle.zlinearizability.specs.chain.Sound.{IsSound, IsSoundAfter}
use Rattle.zlinearizability.proofs.chain_lemmas.tables.Lasts.{lasts}
use Rattle.zlinearizability.proofs.chain_lemmas.Events.{where_enabled, front_there}
use Rattle.zlinearizability.specs.chain.Events.{KeepsSoundOver}
use Rattle.zlinearizability.proofs.servers_lemmas.ServerMessages.{take_from_server}
use Rattle.zlinearizability.proofs.servers_lemmas.ClientMessages.{take_from_client}
use Rattle.zlinearizability.proofs.servers_lemmas.Queries.{take_query}

module _ {P : Type 0} (plain : Plain P) where
  -- a server takes whatever is the front of a link from a server
  pub servers_hear_servers : (p y : ℕ) → KeepsSoundOver plain (Take (Server p) (Server y))
  servers_hear_servers p y t lasts s = where_enabled plain t (Take (Server p) (Server y)) s (λ e. front_there plain t (Server p) (Server y) e
      (λ m rest link alive. take_from_server plain t s p y m rest link (lasts.views y) alive))

  -- a client's message that isn't a query
  module _ (t : Account) (lasts : LastsAreLengths t.world) (s : IsSound plain t) (c y : ℕ) where
    silent : (m : LogMessage) (rest : List LogMessage) → t.world.links (Client c) (Server y) ≡ m ∷ rest
        → query_items_of_front plain (length t.world.history) (tail_log (t.world.servers y)) c (m ∷ rest) ≡ [] → t.world.failed y ≡ false
        → IsSoundAfter plain t (account_by plain t (Take (Client c) (Server y))
        (front_step (log_machine plain) t.world (Client c) (Server y) (m ∷ rest)))
    silent m rest link none alive =
        take_from_client plain t s c y m rest link (lasts.views y) alive
        (ap (query_items_of_front plain (length t.world.history) (tail_log (t.world.servers y)) c) link ∙ none)

    query_by : (number : ℕ) (query : Query) (rest : List LogMessage) → t.world.links (Client c) (Server y) ≡ message.Query number query ∷ rest
        → t.world.failed y ≡ false
        → (l : Log) → tail_log (t.world.servers y) ≡ l
        → IsSoundAfter plain t (account_by plain t (Take (Client c) (Server y))
        (front_step (log_machine plain) t.world (Client c) (Server y) (message.Query number query ∷ rest)))
    query_by number query rest link alive None is =
        silent (message.Query number query) rest link
        (ap (λ l. query_items_of_front plain (length t.world.history) l c (message.Query number query ∷ rest)) is) alive
    query_by number query rest link alive (Some log) is = take_query plain t s c y number query rest link (lasts.views y) alive log is

    heard : (m : LogMessage) (rest : List LogMessage) → t.world.links (Client c) (Server y) ≡ m ∷ rest → t.world.failed y ≡ false
        → IsSoundAfter plain t (account_by plain t (Take (Client c) (Server y))
        (front_step (log_machine plain) t.world (Client c) (Server y) (m ∷ rest)))
    heard (message.Query number query) rest link alive = query_by number query rest link alive (tail_log (t.world.servers y)) refl
    heard m rest link alive = silent m rest link refl alive

  -- or from a client
  pub servers_hear_clients : (c y : ℕ) → KeepsSoundOver plain (Take (Client c) (Server y))
  servers_hear_clients c y t lasts s = where_enabled plain t (Take (Client c) (Server y)) s
      (λ e. front_there plain t (Client c) (Server y) e (heard t lasts s c y))
