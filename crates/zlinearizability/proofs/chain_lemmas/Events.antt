-- An event: one that is not enabled changes nothing, most commit nothing, and a message that is taken was the front.
use Rattle.std.specs.Prelude.{not}
use Rattle.std.proofs.Common.{◌≡◌, Bool, true, false, List, [], ◌∷◌, ◌++◌, length, refl, sym, ap, ◌∙◌, subst, inl, inr, append-nil}
use Rattle.std.proofs.Math.Seq.{drop-length}
use Rattle.zcalls.specs.Cached.{Plain}
use Rattle.zcalls.specs.Acts.{after_log, acts_from}
use Rattle.zcalls.proofs.Among.{test}
use Rattle.zprotocol.specs.declared.process.Process.{Process}
use Rattle.zprotocol.specs.declared.world.event.Event.{Event}
use Rattle.zprotocol.specs.declared.world.event.Event.TheVariants.{Take}
use Rattle.zprotocol.specs.world.Events.{front_is, has_failed, is_enabled, acts, front_step}
use Rattle.zlinearizability.specs.legal.Items.{all_at_time, new_items}
use Rattle.zlinearizability.proofs.legal_lemmas.lists.Tests.{left_of, right_of, not_true}
use Rattle.zlinearizability.proofs.legal_lemmas.lists.Prefixes.{prefix_same}
use Rattle.zlinearizability.specs.chain.Flow.{log_machine, LogWorld, LogMessage}
use Rattle.zlinearizability.specs.chain.Account.{Account, account_by, next_account}
use Rattle.zlinearizability.specs.chain.Sound.{IsSound, IsSoundAfter}

module _ {P : Type 0} (plain : Plain P) where
  -- an event that isn't enabled changes nothing
  pub where_enabled : (t : Account) (event : Event) → IsSound plain t
      → (is_enabled t.world event ≡ true → IsSoundAfter plain t (account_by plain t event (acts (log_machine plain) t.world event)))
      → IsSoundAfter plain t (next_account plain t event)
  where_enabled t event s did = elim (test (is_enabled t.world event)) [ inl e ↦ rw e (did e) | inr f ↦ rw f (s, prefix_same t.committed) ]

  -- there are no new items where nothing more is committed
  nothing_new : (t : Account) → new_items plain (length t.world.history) t.committed t.committed ≡ []
  nothing_new t = ap (λ es. all_at_time (length t.world.history) (acts_from plain.update (after_log plain t.committed) es)) (drop-length t.committed)

  -- an event after which nothing more is committed
  pub quiet_event : (t : Account) (w : LogWorld) → IsSound plain (record t { world = w })
      → IsSoundAfter plain t (record {
        world = w;
        committed = t.committed;
        items = t.items ++ new_items plain
            (length t.world.history) t.committed t.committed;
      })
  quiet_event t w s = (
    subst (λ more. IsSound plain (record { world = w; committed = t.committed; items = t.items ++ more })) (sym (nothing_new t))
        (subst (λ items. IsSound plain (record { world = w; committed = t.committed; items = items })) (sym (append-nil t.items)) s),
    prefix_same t.committed,
  )

  -- a message is taken: there is a front, and the taker hasn't failed
  pub front_there : (t : Account) (from to : Process) → is_enabled t.world (Take from to) ≡ true
      → ((m : LogMessage) (rest : List LogMessage) → t.world.links from to ≡ m ∷ rest → has_failed t.world to ≡ false
      → IsSoundAfter plain t (account_by plain t (Take from to) (front_step (log_machine plain) t.world from to (m ∷ rest))))
      → IsSoundAfter plain t (account_by plain t (Take from to) (front_step (log_machine plain) t.world from to (t.world.links from to)))
  front_there t from to e did = by (t.world.links from to) refl
    where
      alive : has_failed t.world to ≡ false
      alive = not_true (has_failed t.world to) (right_of (front_is (λ m. true) (t.world.links from to)) (not (has_failed t.world to)) e)

      by : (link : List LogMessage) → t.world.links from to ≡ link
          → IsSoundAfter plain t (account_by plain t (Take from to) (front_step (log_machine plain) t.world from to (t.world.links from to)))
      by [] is = absurd (let none : ◌≡◌ {A = Bool} false true = sym (ap (front_is (λ m. true)) is)
          ∙ left_of (front_is (λ m. true) (t.world.links from to)) (not (has_failed t.world to)) e in cc none)
      by (m ∷ rest) is = subst (λ l. IsSoundAfter plain t (account_by plain t (Take from to) (front_step (log_machine plain) t.world from to l)))
          (sym is) (did m rest is alive)
