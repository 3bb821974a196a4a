-- The events of the master, and every run: all of it is sound.
use Rattle.std.specs.Prelude.{is_none}
use Rattle.std.proofs.Common.{◌≡◌, ℕ, Bool, true, false, List, ◌∷◌, sym, subst, inl, inr, refl}
use Rattle.zcalls.specs.declared.call.Entry.{Entry}
use Rattle.zcalls.specs.Lists.{Among}
use Rattle.zcalls.specs.Cached.{Plain}
use Rattle.zcalls.proofs.Among.{test}
use Rattle.zprotocol.specs.declared.message.Message.TheVariants as message
use Rattle.zprotocol.specs.declared.process.Process.{Process}
use Rattle.zprotocol.specs.declared.process.Process.TheVariants.{Master, Server, Client}
use Rattle.zprotocol.specs.server.View.{Transfer}
use Rattle.zprotocol.specs.master.View.{MasterView, members, is_among}
use Rattle.zprotocol.specs.declared.master.order.Order.{Order}
use Rattle.zprotocol.specs.declared.master.order.Order.TheVariants.{Join, Retire}
use Rattle.zprotocol.specs.master.Order.{server_of}
use Rattle.zprotocol.specs.master.Table as master
use Rattle.zprotocol.specs.declared.world.event.Event.TheVariants as event
use Rattle.zprotocol.specs.declared.world.event.Event.TheVariants.{Take}
use Rattle.zprotocol.specs.world.Links.{without_front}
use Rattle.zprotocol.specs.Places.{is_server}
use Rattle.zprotocol.specs.world.Events.{front_step}
use Rattle.zlinearizability.proofs.legal_lemmas.lists.Tests.{right_of}
use Rattle.zlinearizability.specs.chain.Flow.{log_machine, LogMessage}
use Rattle.zlinearizability.specs.chain.Messages.{IsJustified}
use Rattle.zlinearizability.specs.chain.Account.{Account}
use Rattle.zlinearizability.specs.chain.Sound.{IsSound}
use Rattle.zlinearizability.proofs.chain_lemmas.links.Links.{front_among}
use Rattle.zlinearizability.proofs.chain_lemmas.links.LaterWorlds.{justified_later}
use Rattle.zlinearizability.proofs.chain_lemmas.steps.Opening.{among_tested}
use Rattle.zlinearizability.proofs.chain_lemmas.steps.Drops.{kept_not_to, dropped_sound}
use Rattle.zlinearizability.proofs.chain_lemmas.Events.{where_enabled, front_there, quiet_event}
use Rattle.zlinearizability.specs.chain.Events.{KeepsSoundOver}
use Rattle.zlinearizability.proofs.master_lemmas.chain.Moves.{world_with_move}
use Rattle.zlinearizability.proofs.master_lemmas.chain.StandingChains.{unheard, have_heard, joined_heard, retire_ordered}
use Rattle.zlinearizability.proofs.master_lemmas.chain.Departures.{gone_heard}
use Rattle.zlinearizability.proofs.master_lemmas.chain.Joins.{joins_sound}

-- who may join wasn't used
not_used : (v : MasterView) (x : ℕ) → is_none (master.order_fault v (Join x)) ≡ true → is_among x v.used ≡ true → ⊥
unfolding master.order_fault
not_used v x free used = let not : ◌≡◌ {A = Bool} false true = rw used at free in cc not

-- who may be ordered to leave is a member
is_member : (v : MasterView) (x : ℕ) → is_none (master.order_fault v (Retire x)) ≡ true → Among x (members v)
unfolding master.order_fault
is_member v x free = elim (test (is_among x (members v))) [
  | inl among ↦ among_tested x (members v) among
  | inr not ↦ let no : ◌≡◌ {A = Bool} false true = rw not at free in absurd (cc no)
]

module _ {P : Type 0} (plain : Plain P) where
  -- what the master does with a message
  heard : (t : Account) → IsSound plain t → (from : Process) (m : LogMessage) → IsJustified t.world t.items from Master m
      → IsSound plain (record t {
        world = world_with_move t.world (master.master_step {T = Transfer (List Entry)} t.world.master from m).0
            (master.master_step t.world.master from m).1;
      })
  unfolding master.master_step
  heard t s (Server x) (message.Have epoch last) justified = have_heard plain t s x epoch last justified
  heard t s (Server x) (message.Joined epoch) justified = joined_heard plain t s x
  heard t s (Server x) message.Gone justified = gone_heard plain t s x justified
  heard t s from m justified = unheard plain t s

  -- the front of a link
  front_heard : (t : Account) → IsSound plain t → (from : Process) (m : LogMessage) (rest : List LogMessage) → t.world.links from Master ≡ m ∷ rest
      → IsSound plain (record t { world = front_step (log_machine plain) t.world from Master (m ∷ rest) })
  front_heard t s from m rest link =
      let dropped : Account = record t { world = record t.world { links = without_front t.world.links from Master } } in
      heard dropped (dropped_sound plain t s from Master (kept_not_to t.world from Master (λ z. refl))) from m
      (justified_later t.world dropped.world t.items t.items
      (record {
        begun = λ o h. h;
        given = λ i h. h;
        opened = λ z k h.
            (h.0, λ p a. h.1 p (front_among t.world.links from Master Master (Server z) (message.NewPred k p) a));
        failed = λ z h. h;
      })
      from Master m (s.justified from Master m (subst (Among m) (sym link) (inl refl))))

  -- the events Take at the master
  pub master_hears : (from : Process) → KeepsSoundOver plain (Take from Master)
  master_hears Master t lasts s = where_enabled plain t (Take Master Master) s (λ e. front_there plain t Master Master e
      (λ m rest link alive. quiet_event plain t _ (front_heard t s Master m rest link)))
  master_hears (Server p) t lasts s = where_enabled plain t (Take (Server p) Master) s (λ e. front_there plain t (Server p) Master e
      (λ m rest link alive. quiet_event plain t _ (front_heard t s (Server p) m rest link)))
  master_hears (Client c) t lasts s = where_enabled plain t (Take (Client c) Master) s (λ e. front_there plain t (Client c) Master e
      (λ m rest link alive. quiet_event plain t _ (front_heard t s (Client c) m rest link)))

  -- what it does at an order that isn't refused
  obeyed : (t : Account) → IsSound plain t → (order : Order) → is_none (master.order_fault t.world.master order) ≡ true
      → IsSound plain (record t {
        world = world_with_move t.world (master.order_step {T = Transfer (List Entry)} t.world.master order).0
            (master.order_step t.world.master order).1;
      })
  obeyed t s (Join x) free = joins_sound plain t s x (not_used t.world.master x free)
  obeyed t s (Retire x) free = retire_ordered plain t s x (is_member t.world.master x free)

  -- the events of orders
  pub master_obeys : (order : Order) → KeepsSoundOver plain (event.Order order)
  master_obeys order t lasts s = where_enabled plain t (event.Order order) s (λ e. quiet_event plain t _
      (obeyed t s order (right_of (is_server (server_of order)) (is_none (master.order_fault t.world.master order)) e)))
