-- The worked rows of the legal order.
use Rattle.std.proofs.Common.{◌≡◌, ℕ, [], ◌∷◌, inl, inr, refl, sym, ap, arith}
use Rattle.std.specs.Prelude.{◌⊎◌}
use Rattle.zcalls.specs.declared.call.Call.{Call}
use Rattle.ztree.specs.declared.node.Stat.{Stat}
use Rattle.zcalls.specs.declared.reply.Reply.{Reply}
use Rattle.zcalls.specs.declared.reply.Reply.TheVariants.{Exists}
use Rattle.zprotocol.specs.declared.world.history.CallEvent.{CallEvent}
use Rattle.zprotocol.specs.declared.world.history.CallEvent.TheVariants.{Begin, Answer}
use Rattle.zcalls.specs.Lists.{Among, ComesBefore}
use Rattle.zcalls.specs.Operation.{Operation}
use Rattle.zprotocol.specs.world.History.{IsUpdate, HasBegun, IsAnswered, EndsBefore}
use Rattle.zcalls.specs.Operation.{IsSameCall}
use Rattle.zprotocol.specs.world.LegalOrder.{IsReplayed}
use Rattle.zprotocol.specs.world.support.Counter.{counter, create, name_reply, count_reply}
use Rattle.zprotocol.specs.world.support.OrderRows.{Explains, history_with, true_order, first_create, lost_create}
use Rattle.zprotocol.specs.world.support.OrderRows.{lost_exists, last_exists, strange_create}
use Rattle.zprotocol.proofs.world_lemmas.Among.{each_among}

-- a beginning is no answer
pub begin_is_no_answer : (c n c' n' : ℕ) (call : Call) (reply : Reply) → Begin c n call ≡ Answer c' n' reply → ⊥
begin_is_no_answer c n c' n' call reply e = cc

-- equal answers are of one client
one_client : (c n c' n' : ℕ) (reply reply' : Reply) → Answer c n reply ≡ Answer c' n' reply' → c ≡ c'
one_client c n c' n' reply reply' e = cc

-- equal beginnings are of one client
one_beginner : (c n c' n' : ℕ) (call call' : Call) → Begin c n call ≡ Begin c' n' call' → c ≡ c'
one_beginner c n c' n' call call' e = cc

-- an update's reply is no query's
made_is_no_count : (m n : ℕ) → name_reply m ≡ count_reply n → ⊥
made_is_no_count m n e = cc

-- what is stated of an answer, and nothing of a beginning
unfoldable pub AtAnswer : (ℕ → ℕ → Reply → Type 0) → CallEvent → Type 0
AtAnswer P (Begin c n call) = Unit {0}
AtAnswer P (Answer c n reply) = P c n reply

-- the two answers of the history are replayed
are_replayed : (c n : ℕ) (reply : Reply) → Among (Answer c n reply) (history_with 2) → IsReplayed counter true_order c n reply
unfolding AtAnswer
are_replayed c n reply among =
    each_among (AtAnswer (IsReplayed counter true_order)) (history_with 2)
    (tt, (tt, (tt, ((first_create, refl, refl, inl refl), (tt, ((last_exists, refl, refl, inr (inr (inl refl))), tt))))))
    (Answer c n reply) among

-- nothing but client 1's call ends before another begins, and that is client 2's
ends_before : (a b : Operation) → EndsBefore (history_with 2) a b → (a.client ≡ 1) × (b.client ≡ 2)
ends_before a b (reply, inl p) = absurd (begin_is_no_answer _ _ _ _ _ _ p.0)
ends_before a b (reply, inr (inl p)) = absurd (begin_is_no_answer _ _ _ _ _ _ p.0)
ends_before a b (reply, inr (inr (inl p))) = absurd (begin_is_no_answer _ _ _ _ _ _ p.0)
ends_before a b (reply, inr (inr (inr (inl (p, inl q))))) = (sym (one_client _ _ _ _ _ _ p), sym (one_beginner _ _ _ _ _ _ q))
ends_before a b (reply, inr (inr (inr (inl (p, inr (inl q)))))) = absurd (begin_is_no_answer _ _ _ _ _ _ (sym q))
ends_before a b (reply, inr (inr (inr (inl (p, inr (inr q)))))) = absurd q
ends_before a b (reply, inr (inr (inr (inr (inl p))))) = absurd (begin_is_no_answer _ _ _ _ _ _ p.0)
ends_before a b (reply, inr (inr (inr (inr (inr (inl p)))))) = absurd p.1
ends_before a b (reply, inr (inr (inr (inr (inr (inr p)))))) = absurd p

-- client 1's call is before client 2's, and nothing else ends before another begins
in_time : (a : Operation) → Among a true_order → (b : Operation) → Among b true_order → EndsBefore (history_with 2) a b → ComesBefore a b true_order
in_time = each_among (λ a. (b : Operation) → Among b true_order → EndsBefore (history_with 2) a b → ComesBefore a b true_order) true_order (
  each_among (λ b. EndsBefore (history_with 2) first_create b → ComesBefore first_create b true_order) true_order (
    (λ ends. absurd (omega (arith, (ends_before first_create first_create ends).1))),
    (
      (λ ends. absurd (omega (arith, (ends_before first_create lost_create ends).1))),
      ((λ ends. inl (refl, inr (inl refl))), tt),
    ),
  ),
  (
    (λ b among ends. absurd (omega (arith, (ends_before lost_create b ends).0))),
    ((λ b among ends. absurd (omega (arith, (ends_before last_exists b ends).0))), tt),
  ),
)

-- the order that explains the history
pub explained : Explains 2 2 true_order
explained = record {
  begun = each_among (HasBegun (history_with 2)) true_order (inl refl, (inr (inl refl), (inr (inr (inr (inr (inl refl)))), tt)));
  once = (
    each_among (λ o. IsSameCall first_create o → ⊥) (lost_create ∷ last_exists ∷ []) (
      (λ same. omega (arith, same.0)),
      ((λ same. omega (arith, same.0)), tt),
    ),
    (each_among (λ o. IsSameCall lost_create o → ⊥) (last_exists ∷ []) ((λ same. omega (arith, same.0)), tt), (λ o among. absurd among, tt)),
  );
  answered = are_replayed;
  unanswered = each_among (λ o. IsUpdate o.call ⊎ IsAnswered (history_with 2) o) true_order
      (inl tt, (inl tt, (inr (count_reply 2, inr (inr (inr (inr (inr (inl refl)))))), tt)));
  in_time = λ a b ends among_a among_b. in_time a among_a b among_b ends;
  lawful = (omega arith, (omega arith, (omega arith, (omega arith, tt))));
}

-- without client 2's call its answer isn't replayed
pub left_out : Explains 2 2 (first_create ∷ lost_create ∷ []) → ⊥
left_out legal = elim ((legal.answered 2 1 (count_reply 2) (inr (inr (inr (inr (inr (inl refl))))))).3) [
  | inl e ↦ made_is_no_count _ _ (ap (λ p. p.1) e)
  | inr (inl e) ↦ made_is_no_count _ _ (ap (λ p. p.1) e)
  | inr (inr e) ↦ e
]

-- what is stated of a beginning, and nothing of an answer
AtBeginning : (ℕ → ℕ → Call → Type 0) → CallEvent → Type 0
AtBeginning P (Begin c n call) = P c n call
AtBeginning P (Answer c n reply) = Unit {0}

-- client 4's call has no answer
pub query_unanswered : Explains 2 2 (first_create ∷ lost_create ∷ lost_exists ∷ last_exists ∷ []) → ⊥
unfolding AtAnswer
query_unanswered legal = elim (legal.unanswered lost_exists (inr (inr (inl refl)))) [
  | inl e ↦ e
  | inr e ↦ each_among (AtAnswer (λ c n reply. c ≡ 4 → ⊥)) (history_with 2)
      (tt, (tt, (tt, ((λ is. omega (arith, is)), (tt, ((λ is. omega (arith, is)), tt)))))) (Answer 4 1 e.0) e.1 refl
]

-- client 5 begins no call
pub not_begun : Explains 2 2 (first_create ∷ strange_create ∷ last_exists ∷ []) → ⊥
unfolding AtBeginning
not_begun legal =
    each_among (AtBeginning (λ c n call. c ≡ 5 → ⊥)) (history_with 2)
    ((λ is. omega (arith, is)), ((λ is. omega (arith, is)), ((λ is. omega (arith, is)), (tt, ((λ is. omega (arith, is)), (tt, tt))))))
    (Begin 5 1 create) (legal.begun strange_create (inr (inl refl))) refl

-- equal replies have the same stat
one_stat : (s t : Stat) → Exists s ≡ Exists t → s ≡ t
one_stat s t e = cc

-- equal replies have the same count
one_count : (m n : ℕ) → count_reply m ≡ count_reply n → m ≡ n
one_count m n e = ap (λ s. s.children) (one_stat _ _ e)

-- the replay counts two, and not one
pub wrong_reply : Explains 2 1 true_order → ⊥
wrong_reply legal = elim ((legal.answered 2 1 (count_reply 1) (inr (inr (inr (inr (inr (inl refl))))))).3) [
  | inl e ↦ made_is_no_count _ _ (ap (λ p. p.1) e)
  | inr (inl e) ↦ made_is_no_count _ _ (ap (λ p. p.1) e)
  | inr (inr (inl e)) ↦ omega (arith, one_count _ _ (ap (λ p. p.1) e))
  | inr (inr (inr e)) ↦ e
]

-- client 1 was answered before client 2 began, so its call comes first
pub against_time : Explains 2 0 (last_exists ∷ first_create ∷ []) → ⊥
against_time legal = elim (legal.in_time first_create last_exists (name_reply 0, inr (inr (inr (inl (refl, inl refl)))))
    (inr (inl refl)) (inl refl)) [
      | inl e ↦ omega (arith, ap (λ o. o.client) e.0)
      | inr (inl e) ↦ e.1
      | inr (inr e) ↦ e
    ]
