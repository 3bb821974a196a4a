-- The order of a run: its history has a legal order, and no other one.
use Rattle.std.proofs.Common.{◌≡◌, ℕ, List, [], ◌∷◌, inl, inr, refl, sym, ap, subst, arith}
use Rattle.std.specs.Prelude.{◌⊎◌}
use Rattle.zcalls.specs.declared.reply.Reply.{Reply}
use Rattle.zprotocol.specs.declared.world.history.CallEvent.TheVariants.{Begin, Answer}
use Rattle.zcalls.specs.Lists.{Among}
use Rattle.zcalls.specs.Operation.{Operation}
use Rattle.zprotocol.specs.world.History.{History, HasBegun, IsUpdate, IsAnswered, EndsBefore}
use Rattle.zcalls.specs.Operation.{IsSameCall}
use Rattle.zprotocol.specs.world.LegalOrder.{IsLegalOrder, IsReplayed}
use Rattle.zprotocol.specs.world.support.Counter.{counter, create, name_reply}
use Rattle.zprotocol.specs.world.support.RunRows.{seen, two_updates}
use Rattle.zprotocol.specs.world.support.OrderRows.{ExplainsTheRun, first_down, second_down}
use Rattle.zprotocol.proofs.world_lemmas.Among.{each_among}
use Rattle.zprotocol.proofs.world_lemmas.Tables.{all_tables}
use Rattle.zprotocol.proofs.world_lemmas.OrderRows.{AtAnswer, begin_is_no_answer}

-- the history of the run
abbrev history : History
history = Begin 0 1 create ∷ Begin 1 1 create ∷ Answer 1 1 (name_reply 1) ∷ Answer 0 1 (name_reply 0) ∷ []

is_history : history ≡ seen 3 two_updates
unfolding all_tables
is_history = refl

-- the order in which the updates went down
abbrev order : List Operation
order = first_down ∷ second_down ∷ []

-- its answers are replayed
are_replayed : (c n : ℕ) (reply : Reply) → Among (Answer c n reply) history → IsReplayed counter order c n reply
unfolding AtAnswer
are_replayed c n reply among =
    each_among (AtAnswer (IsReplayed counter order)) history
    (tt, (tt, ((second_down, refl, refl, inr (inl refl)), ((first_down, refl, refl, inl refl), tt))))
    (Answer c n reply) among

-- no call ends before another begins
none_ends : (a b : Operation) → EndsBefore history a b → ⊥
none_ends a b (reply, inl p) = begin_is_no_answer _ _ _ _ _ _ p.0
none_ends a b (reply, inr (inl p)) = begin_is_no_answer _ _ _ _ _ _ p.0
none_ends a b (reply, inr (inr (inl (p, inl q)))) = begin_is_no_answer _ _ _ _ _ _ (sym q)
none_ends a b (reply, inr (inr (inl (p, inr q)))) = q
none_ends a b (reply, inr (inr (inr (inl p)))) = p.1
none_ends a b (reply, inr (inr (inr (inr p)))) = p

explains : IsLegalOrder (λ state. Unit {0}) counter history order
explains = record {
  begun = each_among (HasBegun history) order (inl refl, (inr (inl refl), tt));
  once = (each_among (λ o. IsSameCall first_down o → ⊥) (second_down ∷ []) ((λ same. omega (arith, same.0)), tt), (λ o among. absurd among, tt));
  answered = are_replayed;
  unanswered = each_among (λ o. IsUpdate o.call ⊎ IsAnswered history o) order (inl tt, (inl tt, tt));
  in_time = λ a b ends among_a among_b. absurd (none_ends a b ends);
  lawful = (tt, (tt, (tt, tt)));
}

-- the order explains the run
pub explains_the_run : ExplainsTheRun order
explains_the_run = subst (λ seen. IsLegalOrder (λ state. Unit {0}) counter seen order) is_history explains

-- two replies that name one node
one_name : (a b : ℕ) → name_reply a ≡ name_reply b → a ≡ b
one_name a b e = cc

-- the other order gives both the wrong name
no_other : IsLegalOrder (λ state. Unit {0}) counter history (second_down ∷ first_down ∷ []) → ⊥
no_other legal =
    let found = legal.answered 0 1 (name_reply 0) (inr (inr (inr (inl refl)))) in
    elim (found.3) [
      | inl e ↦ omega (arith, found.1, ap (λ p. p.0.client) e)
      | inr (inl e) ↦ omega (arith, one_name _ _ (ap (λ p. p.1) e))
      | inr (inr e) ↦ e
    ]

pub other_order_does_not : ExplainsTheRun (second_down ∷ first_down ∷ []) → ⊥
other_order_does_not legal = no_other (subst (λ seen. IsLegalOrder (λ state. Unit {0}) counter seen (second_down ∷ first_down ∷ []))
    (sym is_history) legal)
