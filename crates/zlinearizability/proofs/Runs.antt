-- Every event keeps a run sound, so every run is sound, and what is committed stays committed.
use Rattle.std.proofs.Common.{◌≡◌, ℕ, Bool, true, false, if◌then◌else◌, List, [], ◌∷◌, ◌++◌, refl, sym, ap, ◌∙◌, subst}
use Rattle.zcalls.specs.Cached.{Plain}
use Rattle.zcalls.specs.PlainTree.{plain_tree}
use Rattle.zprotocol.specs.declared.process.Process.TheVariants.{Master, Server, Client}
use Rattle.zprotocol.specs.declared.world.event.Event.{Event}
use Rattle.zprotocol.specs.declared.world.event.Event.TheVariants.{Begin, Retry, Take, Ignore, Fail, Order}
use Rattle.zprotocol.specs.world.World.{opening_world}
use Rattle.zprotocol.specs.world.Events.{is_enabled, acts, let_go, run}
use Rattle.zprotocol.specs.world.Keeping.{keeps, run_keeping}
use Rattle.zprotocol.proofs.world_lemmas.Keeping.{run_lets_go}
use Rattle.zlinearizability.specs.legal.Prefix.{IsPrefix}
use Rattle.zlinearizability.proofs.legal_lemmas.lists.Prefixes.{prefix_same, prefix_of}
use Rattle.zlinearizability.specs.chain.Flow.{log_machine}
use Rattle.zlinearizability.specs.chain.Last.{LastsAreLengths}
use Rattle.zlinearizability.specs.chain.Account.{Account, account_by, next_account, account_after, opening_account}
use Rattle.zlinearizability.specs.chain.Sound.{IsSound, IsSoundAfter}
use Rattle.zlinearizability.specs.chain.Events.{KeepsSoundOver}
use Rattle.zlinearizability.proofs.chain_lemmas.tables.Lasts.{lasts_kept, lasts_keep}
use Rattle.zlinearizability.proofs.chain_lemmas.steps.Opening.{opening_sound}
use Rattle.zlinearizability.proofs.chain_lemmas.steps.Drops.{requests_are_lost}
use Rattle.zlinearizability.proofs.servers_lemmas.Events.{servers_hear_servers, servers_hear_clients}
use Rattle.zlinearizability.proofs.clients_lemmas.Events.{clients_hear, calls_begin, calls_are_sent_again, servers_fail}
use Rattle.zlinearizability.proofs.master_lemmas.orders.Orders.{servers_hear_master}
use Rattle.zlinearizability.proofs.master_lemmas.Events.{master_hears, master_obeys}
use Rattle.zlinearizability.specs.Facts.{account_of, EveryRunIsSound, CommittedStays}

-- what is recorded beside the world leaves the world
account_world_if : (b : Bool) (t u : Account) → (if b then t else u).world ≡ (if b then t.world else u.world)
account_world_if true t u = refl
account_world_if false t u = refl

-- the world of an account preserves what failed servers held
pub next_world : {P : Type 0} (plain : Plain P) (t : Account) (event : Event) → (next_account plain t event).world
    ≡ keeps (log_machine plain) t.world event
next_world plain t event = account_world_if (is_enabled t.world event) (account_by plain t event (acts (log_machine plain) t.world event)) t

pub account_world : {P : Type 0} (plain : Plain P) (t : Account) (events : List Event)
    → (account_after plain t events).world ≡ run_keeping (log_machine plain) t.world events
account_world plain t [] = refl
account_world plain t (event ∷ events) =
    account_world plain (next_account plain t event) events ∙ ap (λ w. run_keeping (log_machine plain) w events) (next_world plain t event)

-- the world of the run is what is left of it
pub run_world : {P : Type 0} (plain : Plain P) (servers clients : ℕ) (events : List Event)
    → run (log_machine plain) (opening_world (log_machine plain) servers clients) events
    ≡ let_go (account_after plain (opening_account plain servers clients) events).world
run_world plain servers clients events =
    run_lets_go (log_machine plain) servers clients events ∙ ap let_go (sym (account_world plain (opening_account plain servers clients) events))

module _ {P : Type 0} (plain : Plain P) where
  -- each event
  pub each_event : (event : Event) → KeepsSoundOver plain event
  each_event (Begin c call) = calls_begin plain c call
  each_event (Retry c) = calls_are_sent_again plain c
  each_event (Take from Master) = master_hears plain from
  each_event (Take Master (Server y)) = servers_hear_master plain y
  each_event (Take (Server p) (Server y)) = servers_hear_servers plain p y
  each_event (Take (Client c) (Server y)) = servers_hear_clients plain c y
  each_event (Take from (Client c)) = clients_hear plain from c
  each_event (Ignore from to) = requests_are_lost plain from to
  each_event (Fail x) = servers_fail plain x
  each_event (Order order) = master_obeys plain order

  pub lasts_next : (t : Account) (event : Event) → LastsAreLengths t.world → LastsAreLengths (next_account plain t event).world
  lasts_next t event exact =
      subst LastsAreLengths (sym (next_world plain t event)) (lasts_keep plain t.world event exact)

  -- each list of events
  runs_sound : (t : Account) → LastsAreLengths t.world → IsSound plain t → (events : List Event) → IsSoundAfter plain t (account_after plain t events)
  runs_sound t exact s [] = (s, prefix_same t.committed)
  runs_sound t exact s (event ∷ events) =
      let next = each_event event t exact s in
      let later = runs_sound (next_account plain t event) (lasts_next t event exact) next.0 events in (
        later.0,
        prefix_of t.committed (next_account plain t event).committed (account_after plain (next_account plain t event) events).committed
            next.1 later.1,
      )

  -- from the opening
  pub run_is_sound : (servers clients : ℕ) (events : List Event) → IsSound plain (account_after plain (opening_account plain servers clients) events)
  run_is_sound servers clients events =
      (runs_sound (opening_account plain servers clients) (lasts_kept plain servers clients []) (opening_sound plain servers clients) events).0

-- over the plain tree
pub every_run_is_sound : EveryRunIsSound
every_run_is_sound = run_is_sound plain_tree

-- more events
account_more : (t : Account) (events more : List Event) → account_after plain_tree t (events ++ more)
    ≡ account_after plain_tree (account_after plain_tree t events) more
account_more t [] more = refl
account_more t (event ∷ events) more = account_more (next_account plain_tree t event) events more

-- whatever happens later
pub committed_stays : CommittedStays
committed_stays servers clients events more =
    let t = account_of servers clients events in
    let exact = subst LastsAreLengths (sym (account_world plain_tree (opening_account plain_tree servers clients) events))
    (lasts_kept plain_tree servers clients events) in
    subst (λ (u : Account). IsPrefix t.committed u.committed) (sym (account_more (opening_account plain_tree servers clients) events more))
    (runs_sound plain_tree t exact (every_run_is_sound servers clients events) more).1
