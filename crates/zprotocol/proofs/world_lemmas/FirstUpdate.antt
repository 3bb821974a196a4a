-- The plain tree explains a history in which an update is answered, and then a query from the tree after it.
use Rattle.std.proofs.Common.{◌≡◌, ℕ, List, [], ◌∷◌, inl, inr, refl, sym, ap, arith}
use Rattle.std.specs.Prelude.{◌⊎◌}
use Rattle.ztree.specs.Tree.{opening_tree}
use Rattle.ztree.specs.Limits.{profile}
use Rattle.zcalls.specs.declared.call.Query.{Query as Question}
use Rattle.zcalls.specs.declared.call.Update.{Update as Change}
use Rattle.zcalls.specs.declared.call.Call.{Call}
use Rattle.zcalls.specs.declared.call.Call.TheVariants.{Update, Query}
use Rattle.zcalls.specs.declared.reply.Reply.{Reply}
use Rattle.zcalls.specs.Lists.{Among, ComesBefore}
use Rattle.zcalls.specs.Operation.{Operation, IsSameCall}
use Rattle.zcalls.specs.PlainTree.{plain_tree}
use Rattle.zcalls.specs.Step.{step, query_reply}
use Rattle.zcalls.proofs.LawfulCalls.{trees_are_lawful}
use Rattle.zprotocol.specs.declared.world.history.CallEvent.TheVariants.{Begin, Answer}
use Rattle.zprotocol.specs.world.History.{IsUpdate, IsAnswered, HasBegun, EndsBefore}
use Rattle.zprotocol.specs.world.LegalOrder.{IsReplayed}
use Rattle.zprotocol.specs.world.PlainTree.{service_of, IsExplained}
use Rattle.zprotocol.specs.world.support.OrderRows.{update_is_first}
use Rattle.zprotocol.proofs.world_lemmas.Among.{each_among}
use Rattle.zprotocol.proofs.world_lemmas.OrderRows.{AtAnswer, begin_is_no_answer}
use Rattle.zprotocol.proofs.world_lemmas.FirstCallsFrom.{profile_allowed, opening_can_start}

-- equal answers have one number, and so have equal beginnings
one_number : (c n c' n' : ℕ) (reply reply' : Reply) → Answer c n reply ≡ Answer c' n' reply' → n ≡ n'
one_number c n c' n' reply reply' e = cc

one_beginning : (c n c' n' : ℕ) (call call' : Call) → Begin c n call ≡ Begin c' n' call' → n ≡ n'
one_beginning c n c' n' call call' e = cc

module _ (update : Change) (query : Question) where
  -- the two calls, in their order
  abbrev done : Operation
  done = record { client = 1; number = 1; call = Update update }

  abbrev asked : Operation
  asked = record { client = 1; number = 2; call = Query query }

  abbrev order : List Operation
  order = done ∷ asked ∷ []

  -- both answers are replayed
  are_replayed : (c n : ℕ) (reply : Reply) → Among (Answer c n reply) (update_is_first update query)
      → IsReplayed (service_of plain_tree) order c n reply
  unfolding AtAnswer
  are_replayed c n reply among =
      each_among (AtAnswer (IsReplayed (service_of plain_tree) order)) (update_is_first update query)
      (tt, ((done, refl, refl, inl refl), (tt, ((asked, refl, refl, inr (inl refl)), tt))))
      (Answer c n reply) among

  -- the first ends before the second begins, and nothing else
  ends_before : (a b : Operation) → EndsBefore (update_is_first update query) a b → (a.number ≡ 1) × (b.number ≡ 2)
  ends_before a b (reply, inl p) = absurd (begin_is_no_answer _ _ _ _ _ _ p.0)
  ends_before a b (reply, inr (inl (p, inl q))) = (sym (one_number _ _ _ _ _ _ p), sym (one_beginning _ _ _ _ _ _ q))
  ends_before a b (reply, inr (inl (p, inr (inl q)))) = absurd (begin_is_no_answer _ _ _ _ _ _ (sym q))
  ends_before a b (reply, inr (inl (p, inr (inr q)))) = absurd q
  ends_before a b (reply, inr (inr (inl p))) = absurd (begin_is_no_answer _ _ _ _ _ _ p.0)
  ends_before a b (reply, inr (inr (inr (inl p)))) = absurd p.1
  ends_before a b (reply, inr (inr (inr (inr p)))) = absurd p

  in_time : (a b : Operation) → EndsBefore (update_is_first update query) a b → Among a order → Among b order → ComesBefore a b order
  in_time a b ends (inl e) (inl f) = absurd (omega (arith, (ends_before a b ends).1, ap (λ o. o.number) f))
  in_time a b ends (inl e) (inr (inl f)) = inl (e, inl f)
  in_time a b ends (inr (inl e)) among = absurd (omega (arith, (ends_before a b ends).0, ap (λ o. o.number) e))
  in_time a b ends (inl e) (inr (inr f)) = absurd f
  in_time a b ends (inr (inr e)) among = absurd e

  pub first_update : IsExplained (update_is_first update query)
  first_update = (
    order,
    record {
      begun = each_among (HasBegun (update_is_first update query)) order (inl refl, (inr (inr (inl refl)), tt));
      once = (each_among (λ o. IsSameCall done o → ⊥) (asked ∷ []) ((λ same. omega (arith, same.1)), tt), (λ o among. absurd among, tt));
      answered = are_replayed;
      unanswered = each_among (λ o. IsUpdate o.call ⊎ IsAnswered (update_is_first update query) o) order
          (inl tt, (inr (query_reply (step opening_tree 1 update).0 query, inr (inr (inr (inl refl)))), tt));
      in_time = in_time;
      lawful = (opening_can_start.lawful, (trees_are_lawful profile profile_allowed ((1, update) ∷ []), (trees_are_lawful profile profile_allowed ((1, update) ∷ []), tt)));
    },
  )
