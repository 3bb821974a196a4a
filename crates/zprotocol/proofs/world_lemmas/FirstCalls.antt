-- The plain tree explains the first histories: no one calls, or one query of the opening tree is
-- asked and answered.
use Rattle.std.proofs.Common.{◌≡◌, ℕ, [], ◌∷◌, inl, inr, refl, sym}
use Rattle.ztree.specs.Tree.{opening_tree}
use Rattle.zcalls.specs.declared.call.Query.{Query as Question}
use Rattle.zcalls.specs.declared.call.Call.{Call}
use Rattle.zcalls.specs.declared.call.Call.TheVariants.{Query}
use Rattle.zcalls.specs.declared.reply.Reply.{Reply}
use Rattle.zcalls.specs.Step.{query_reply}
use Rattle.zprotocol.specs.declared.world.history.CallEvent.TheVariants.{Begin, Answer}
use Rattle.zcalls.specs.Lists.{Among}
use Rattle.std.specs.Prelude.{◌⊎◌}
use Rattle.zcalls.specs.Operation.{Operation}
use Rattle.zprotocol.specs.world.History.{History, IsUpdate, IsAnswered, EndsBefore}
use Rattle.zprotocol.specs.world.LegalOrder.{IsReplayed}
use Rattle.zcalls.specs.PlainTree.{plain_tree}
use Rattle.zprotocol.specs.world.PlainTree.{service_of, IsExplained}
use Rattle.zprotocol.proofs.world_lemmas.FirstCallsFrom.{opening_can_start}

-- the order of no calls explains silence
pub silence : IsExplained []
silence = (
  [],
  record {
    begun = λ o among. absurd among;
    once = tt;
    answered = λ c n reply among. absurd among;
    unanswered = λ o among. absurd among;
    in_time = λ a b ends among. absurd among;
    lawful = (opening_can_start.lawful, tt);
  },
)

-- equal answers are of one call and have one reply
same_answer : (c n c' n' : ℕ) (reply reply' : Reply) → Answer c n reply ≡ Answer c' n' reply' → (c ≡ c') × (n ≡ n') × (reply ≡ reply')
same_answer c n c' n' reply reply' e = (cc, cc, cc)

-- a beginning is no answer
begin_is_no_answer : (c n c' n' : ℕ) (call : Call) (reply : Reply) → Begin c n call ≡ Answer c' n' reply → ⊥
begin_is_no_answer c n c' n' call reply e = cc

module _ (query : Question) where
  -- the query, and what callers see of it
  asked : Operation
  asked = record { client = 1; number = 1; call = Query query }

  seen : History
  seen = Begin 1 1 (Query query) ∷ Answer 1 1 (query_reply opening_tree query) ∷ []

  -- the answer is the replay's
  replayed : (c n : ℕ) (reply : Reply) → Among (Answer c n reply) seen → IsReplayed (service_of plain_tree) (asked ∷ []) c n reply
  unfolding asked seen
  replayed c n reply (inl e) = absurd (begin_is_no_answer _ _ _ _ _ _ e)
  replayed c n reply (inr (inl e)) =
      let same = same_answer _ _ _ _ _ _ e in
      (asked, same.0, same.1, inl (rw same.2 refl))
  replayed c n reply (inr (inr e)) = absurd e

  -- nothing ends before another begins
  nothing_ends : (a b : Operation) → EndsBefore seen a b → ⊥
  unfolding seen
  nothing_ends a b (reply, inl p) = begin_is_no_answer _ _ _ _ _ _ p.0
  nothing_ends a b (reply, inr (inl p)) = p.1
  nothing_ends a b (reply, inr (inr p)) = p

  -- the order of that one query explains it
  pub first_query : IsExplained (Begin 1 1 (Query query) ∷ Answer 1 1 (query_reply opening_tree query) ∷ [])
  unfolding asked seen
  first_query = (
    asked ∷ [],
    record {
      begun = begun;
      once = ((λ y among. absurd among), tt);
      answered = replayed;
      unanswered = answered;
      in_time = λ a b ends among. absurd (nothing_ends a b ends);
      lawful = (opening_can_start.lawful, (opening_can_start.lawful, tt));
    },
  )
    where
      begun : (o : Operation) → Among o (asked ∷ []) → Among (Begin o.client o.number o.call) seen
      begun o (inl e) = rw (sym e) (inl refl)
      begun o (inr e) = absurd e

      answered : (o : Operation) → Among o (asked ∷ []) → IsUpdate o.call ⊎ IsAnswered seen o
      answered o (inl e) = rw (sym e) (inr (query_reply opening_tree query, inr (inl refl)))
      answered o (inr e) = absurd e
