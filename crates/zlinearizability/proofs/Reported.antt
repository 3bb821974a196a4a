-- What was returned to clients: an answered update is committed, and an answered query saw a log
-- that is.
use Rattle.std.proofs.Common.{◌≡◌, true, List, [], ◌∷◌, ◌++◌, Option, refl, sym, ap, ◌∙◌, subst, inl, inr}
use Rattle.ztree.specs.Tree.{Tree}
use Rattle.zcalls.specs.declared.call.Call.{Call}
use Rattle.zcalls.specs.declared.call.Call.TheVariants.{Update, Query}
use Rattle.zcalls.specs.declared.call.Entry.{Entry}
use Rattle.zcalls.specs.declared.reply.Reply.{Reply}
use Rattle.zcalls.specs.Cached.{CachedState, nothing_cached, entry_step}
use Rattle.zcalls.specs.Lists.{Among}
use Rattle.zcalls.specs.Operation.{Operation, operation_of}
use Rattle.zcalls.specs.PlainTree.{plain_tree}
use Rattle.zcalls.specs.Acts.{after_log, acts_from}
use Rattle.zcalls.proofs.Among.{test}
use Rattle.zcalls.proofs.Acting.{Outcome, outcome}
use Rattle.zcalls.proofs.Acting.Outcome.{Acts, Stays}
use Rattle.zprotocol.specs.declared.world.history.CallEvent.TheVariants.{Answer}
use Rattle.zprotocol.specs.world.History.{IsUpdate, HasBegun}
use Rattle.zprotocol.specs.world.LegalOrder.{operation_step}
use Rattle.zprotocol.specs.world.PlainTree.{service_of}
use Rattle.zlinearizability.specs.legal.Items.{Item, is_update, updates_of, Replays}
use Rattle.zlinearizability.proofs.legal_lemmas.lists.Members.{among_take}
use Rattle.zlinearizability.proofs.legal_lemmas.order.LegalOrders.{one_call, given}
use Rattle.zlinearizability.proofs.legal_lemmas.acts.ActedLogs.{after_items, after_calls, acted_leads, items_lead}
use Rattle.zlinearizability.proofs.legal_lemmas.acts.NewItems.{updates_more}
use Rattle.zlinearizability.specs.chain.Account.{Account}
use Rattle.zlinearizability.specs.chain.Sound.{IsSound}
use Rattle.zlinearizability.specs.Facts.{account_of, AnsweredUpdatesAreCommitted, AnsweredQueriesSawCommitted}
use Rattle.zlinearizability.proofs.Runs.{every_run_is_sound}

-- the item of a call that was answered
record IsItemOfCall (t : Account) (o : Operation) (reply : Reply) : Type 0 where
  pub item : Item
  pub among : Among item t.items
  pub operation : item.operation ≡ o
  pub reported : item.reply ≡ reply

item_of : (t : Account) → IsSound plain_tree t → (o : Operation) (reply : Reply) → HasBegun t.world.history o
    → Among (Answer o.client o.number reply) t.world.history → IsItemOfCall t o reply
item_of t s o reply begun answered =
    let m = given t.items 0 t.world.history s.answered o.client o.number reply answered in
    let its = among_take m.0.time t.world.history _ (s.in_time m.0 m.1).1 in
    let call = one_call t.world.history s.once m.0.operation o its begun (m.2.0, m.2.1) in
    record {
      item = m.0;
      among = m.1;
      operation = λ i. record { client = m.2.0 i; number = m.2.1 i; call = call i };
      reported = m.2.2;
    }

-- an update of the list is among its updates
update_listed : (is : List Item) (i : Item) → Among i is → is_update i.operation.call ≡ true → Among (i.operation, i.reply) (updates_of is)
update_listed [] i a u = absurd a
update_listed (k ∷ is) i (inl e) u =
    let here : is_update k.operation.call ≡ true = subst (λ (j : Item). is_update j.operation.call ≡ true) (sym e) u in
    rw here (inl (ap (λ (j : Item). (j.operation, j.reply)) e))
update_listed (k ∷ is) i (inr a) u = elim (test (is_update k.operation.call)) [
  | inl t ↦ rw t (inr (update_listed is i a u))
  | inr f ↦ rw f (update_listed is i a u)
]

tested_update : (call : Call) → IsUpdate call → is_update call ≡ true
tested_update (Update update) h = refl
tested_update (Query query) h = absurd h

-- the item is an update, and those are what acts of the committed log
pub answered_updates_are_committed : AnsweredUpdatesAreCommitted
answered_updates_are_committed servers clients events o reply update begun answered =
    let t = account_of servers clients events in
    let s = every_run_is_sound servers clients events in
    let found = item_of t s o reply begun answered in
    let is : is_update found.item.operation.call ≡ true =
    subst (λ (p : Operation). is_update p.call ≡ true) (sym found.operation) (tested_update o.call update) in
    subst (Among (o, reply)) s.acted
    (subst (λ (x : Operation × Reply). Among x (updates_of t.items)) (λ i. (found.operation i, found.reported i))
    (update_listed t.items found.item found.among is))

-- what acted of a log, cut in two, is what acted of a beginning of it
split_now : (s : CachedState Tree) (e : Entry) (now : List (Operation × Reply)) (r : CachedState Tree × Option Reply)
    → Outcome plain_tree.update s e now r
    → (es : List Entry)
    → ((front rest : List (Operation × Reply)) → acts_from plain_tree.update r.0 es ≡ front ++ rest
    → (begin : List Entry) × (more : List Entry) × (es ≡ begin ++ more) × (acts_from plain_tree.update r.0 begin ≡ front))
    → (x : Operation × Reply) (front rest : List (Operation × Reply)) → now ++ acts_from plain_tree.update r.0 es ≡ (x ∷ front) ++ rest
    → (begin : List Entry) × (more : List Entry) × (es ≡ begin ++ more) × (now ++ acts_from plain_tree.update r.0 begin ≡ x ∷ front)
split_now s e now r (Acts low) es later x front rest is =
    let m = later front rest (cc is) in
    (m.0, m.1, m.2, (let head : (operation_of e, (plain_tree.update s.plain e.client e.update).1) ≡ x = cc is in λ i. head i ∷ m.3 i))
split_now s e now r (Stays high) es later x front rest is = later (x ∷ front) rest is

acted_split : (s : CachedState Tree) (es : List Entry) (front rest : List (Operation × Reply)) → acts_from plain_tree.update s es ≡ front ++ rest
    → (begin : List Entry) × (more : List Entry) × (es ≡ begin ++ more) × (acts_from plain_tree.update s begin ≡ front)
acted_split s es [] rest is = ([], es, refl, refl)
acted_split s [] (x ∷ front) rest is = absurd (cc is)
acted_split s (e ∷ es) (x ∷ front) rest is =
    let m = split_now s e _ _ (outcome plain_tree.update s e) es (λ f r. acted_split (entry_step plain_tree.update s e).0 es f r) x front rest is in
    (e ∷ m.0, m.1, ap (λ l. e ∷ l) m.2, m.3)

-- what a list of items gives to one of them
record Stands (is : List Item) (i : Item) : Type 0 where
  pub before : List Item
  pub after : List Item
  pub split : is ≡ before ++ i ∷ after

stands : (is : List Item) (i : Item) → Among i is → Stands is i
stands [] i a = absurd a
stands (k ∷ is) i (inl e) = record { before = []; after = is; split = ap (λ j. j ∷ is) e }
stands (k ∷ is) i (inr a) = let m = stands is i a in record { before = k ∷ m.before; after = m.after; split = ap (λ l. k ∷ l) m.split }

replays_at : (p : Tree) (xs : List Item) (i : Item) (ys : List Item) → Replays (service_of plain_tree) p (xs ++ i ∷ ys)
    → (operation_step (service_of plain_tree) (after_items plain_tree p xs) i.operation).1 ≡ i.reply
replays_at p [] i ys h = h.0
replays_at p (x ∷ xs) i ys h = replays_at (operation_step (service_of plain_tree) p x.operation).0 xs i ys h.1

-- the items before it are what acts of a beginning of the committed log
pub answered_queries_saw_committed : AnsweredQueriesSawCommitted
answered_queries_saw_committed servers clients events client number query reply begun answered =
    let t = account_of servers clients events in
    let s = every_run_is_sound servers clients events in
    let o : Operation = record { client = client; number = number; call = Query query } in
    let found = item_of t s o reply begun answered in
    let place = stands t.items found.item found.among in
    let split = acted_split (nothing_cached plain_tree.opening) t.committed (updates_of place.before) (updates_of (found.item ∷ place.after))
    (sym s.acted ∙ ap updates_of place.split ∙ updates_more place.before (found.item ∷ place.after)) in
    let leads : after_items plain_tree plain_tree.opening place.before ≡ (after_log plain_tree split.0).plain =
    items_lead plain_tree plain_tree.opening place.before ∙ ap (after_calls plain_tree plain_tree.opening) (sym split.3)
    ∙ acted_leads plain_tree (nothing_cached plain_tree.opening) split.0 in
    let reported : (operation_step (service_of plain_tree) (after_items plain_tree plain_tree.opening place.before) found.item.operation).1
    ≡ found.item.reply =
    replays_at plain_tree.opening place.before found.item place.after
    (subst (Replays (service_of plain_tree) plain_tree.opening) place.split s.replays) in (
      split.0,
      (split.1, split.2),
      ap (λ p. plain_tree.ask p query) (sym leads)
          ∙ ap (λ (p : Operation). (operation_step (service_of plain_tree) (after_items plain_tree plain_tree.opening place.before) p).1)
          (sym found.operation)
          ∙ reported ∙ found.reported,
    )
