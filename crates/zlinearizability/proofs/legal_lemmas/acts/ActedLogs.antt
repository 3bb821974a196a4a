-- What acts of a log: it replays, and leads to the state after the log.
use Rattle.std.proofs.Common.{◌≡◌, ℕ, if◌then◌else◌, List, [], ◌∷◌, ◌++◌, length, drop, Option, refl, sym, ap, ◌∙◌}
use Rattle.std.proofs.lemmas.List.Prefix.{front_rest}
use Rattle.zcalls.specs.declared.call.Call.{Call}
use Rattle.zcalls.specs.declared.call.Call.TheVariants.{Update, Query}
use Rattle.zcalls.specs.declared.call.Entry.{Entry}
use Rattle.zcalls.specs.declared.reply.Reply.{Reply}
use Rattle.zcalls.specs.Cached.{Plain, CachedState, nothing_cached, entry_step}
use Rattle.zcalls.specs.Operation.{Operation}
use Rattle.zcalls.specs.Acts.{after_log, acts_from, acts_of}
use Rattle.zcalls.proofs.ActedLogs.{after, acted_more}
use Rattle.zcalls.proofs.Acting.{Outcome, outcome}
use Rattle.zcalls.proofs.Acting.Outcome.{Acts, Stays}
use Rattle.zprotocol.specs.world.LegalOrder.{operation_step}
use Rattle.zprotocol.specs.world.PlainTree.{service_of}
use Rattle.zlinearizability.specs.legal.Prefix.{IsPrefix}
use Rattle.zlinearizability.specs.legal.Items.{Item, all_at_time, is_update, updates_of, Replays}

module _ {P : Type 0} (plain : Plain P) where
  -- what acted of a log that another log begins
  pub acted_begins : (old new : List Entry) → IsPrefix old new
      → acts_of plain new ≡ acts_of plain old ++ acts_from plain.update (after_log plain old) (drop (length old) new)
  acted_begins old new (rest, e) =
      ap (acts_of plain) e ∙ acted_more plain.update (nothing_cached plain.opening) old rest
      ∙ ap (λ l. acts_of plain old ++ acts_from plain.update (after_log plain old) l) (sym (front_rest new old rest e))

  -- the state after calls
  abbrev pub after_calls : P → List (Operation × Reply) → P
  after_calls p [] = p
  after_calls p (x ∷ xs) = after_calls (operation_step (service_of plain) p x.0).0 xs

  -- the state after items
  abbrev pub after_items : P → List Item → P
  after_items p [] = p
  after_items p (i ∷ is) = after_items (operation_step (service_of plain) p i.operation).0 is

  -- what acts gives each call its reply, and leads to the state
  now_replays : (s : CachedState P) (e : Entry) (now : List (Operation × Reply)) (r : CachedState P × Option Reply) → Outcome plain.update s e now r
      → (time : ℕ) (more : List (Operation × Reply)) → Replays (service_of plain) r.0.plain (all_at_time time more)
      → Replays (service_of plain) s.plain (all_at_time time (now ++ more))
  now_replays s e now r (Acts low) time more h = (refl, h)
  now_replays s e now r (Stays high) time more h = h

  -- what acts of entries replays from the state before them
  pub acted_replays : (time : ℕ) (s : CachedState P) (es : List Entry)
      → Replays (service_of plain) s.plain (all_at_time time (acts_from plain.update s es))
  acted_replays time s [] = tt
  acted_replays time s (e ∷ es) =
      let s' = (entry_step plain.update s e).0 in
      now_replays s e _ _ (outcome plain.update s e) time (acts_from plain.update s' es) (acted_replays time s' es)

  now_leads : (s : CachedState P) (e : Entry) (now : List (Operation × Reply)) (r : CachedState P × Option Reply) → Outcome plain.update s e now r
      → (more : List (Operation × Reply)) → after_calls s.plain (now ++ more) ≡ after_calls r.0.plain more
  now_leads s e now r (Acts low) more = refl
  now_leads s e now r (Stays high) more = refl

  -- and leads to the state after them
  pub acted_leads : (s : CachedState P) (es : List Entry) → after_calls s.plain (acts_from plain.update s es) ≡ (after plain.update s es).plain
  acted_leads s [] = refl
  acted_leads s (e ∷ es) =
      let s' = (entry_step plain.update s e).0 in
      now_leads s e _ _ (outcome plain.update s e) (acts_from plain.update s' es) ∙ acted_leads s' es

  -- a list of items leads where its updates do
  item_leads : (p : P) (o : Operation) (reply : Reply) (more : List (Operation × Reply))
      → after_calls (operation_step (service_of plain) p o).0 more ≡ after_calls p (if is_update o.call then (o, reply) ∷ more else more)
  item_leads p o reply more = by o.call refl
    where
      by : (call : Call) → o.call ≡ call → after_calls (operation_step (service_of plain) p o).0 more
          ≡ after_calls p (if is_update o.call then (o, reply) ∷ more else more)
      by (Update u) e = rw e refl
      by (Query q) e = rw e refl

  -- the items lead where their updates do, as a query leaves the state
  pub items_lead : (p : P) (is : List Item) → after_items p is ≡ after_calls p (updates_of is)
  items_lead p [] = refl
  items_lead p (i ∷ is) = items_lead (operation_step (service_of plain) p i.operation).0 is ∙ item_leads p i.operation i.reply (updates_of is)

  -- more items
  pub replays_more : (p : P) (xs ys : List Item) → Replays (service_of plain) p xs → Replays (service_of plain) (after_items p xs) ys
      → Replays (service_of plain) p (xs ++ ys)
  replays_more p [] ys h k = k
  replays_more p (i ∷ xs) ys h k = (h.0, replays_more (operation_step (service_of plain) p i.operation).0 xs ys h.1 k)
