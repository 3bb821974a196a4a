-- A step of a wrong table loses an invariant.
use Rattle.std.proofs.Common.{◌≡◌, List, [], ◌∷◌, ◌++◌, Some, refl, sym, ap, ◌∙◌, subst, inl, inr, arith}
use Rattle.zcalls.specs.declared.call.Entry.{Entry}
use Rattle.zcalls.specs.Lists.{Among, NoTwo}
use Rattle.zcalls.specs.Operation.{AreOneUpdate}
use Rattle.zcalls.specs.PlainTree.{plain_tree}
use Rattle.zcalls.proofs.ActedLogs.{acted_entries_once}
use Rattle.zprotocol.specs.declared.message.Message.TheVariants as message
use Rattle.zprotocol.specs.declared.process.Process.TheVariants.{Master, Server}
use Rattle.zprotocol.specs.server.Table.{accept_result}
use Rattle.zprotocol.specs.world.Links.{Links}
use Rattle.zlinearizability.specs.legal.Prefix.{IsPrefix}
use Rattle.zlinearizability.specs.chain.Flow.{final_log}
use Rattle.zlinearizability.specs.chain.Chain.{IsAhead}
use Rattle.zlinearizability.specs.chain.Sound.{ChainIsOrdered}
use Rattle.zlinearizability.specs.chain.support.WrongTables.{call, two_members, EarlyAnswersAreRefuted, AnyQueriesAreRefuted}
use Rattle.zlinearizability.specs.chain.support.WrongTables.{OldTailsAreRefuted, AnySubmitsAreRefuted, AnyUpdatesAreRefuted}
use Rattle.zlinearizability.specs.chain.support.WrongTables.{AnySnapshotsAreRefuted, SecondActsAreRefuted}

-- a longer list begins no empty one
begins_nothing : {A : Type 0} (x : A) (xs : List A) → IsPrefix (x ∷ xs) [] → ⊥
begins_nothing x xs h = let none : [] ≡ x ∷ (xs ++ h.0) = h.1 in cc none

-- the answer that is put is that of no item
pub early_answers_are_refuted : EarlyAnswersAreRefuted
early_answers_are_refuted reply = (message.Answer 1 reply, inl refl, λ given. given.1)

-- nor is that to a query
pub any_queries_are_refuted : AnyQueriesAreRefuted
any_queries_are_refuted query = (_, inl refl, λ given. given.1)

-- of a tail that was
pub old_tails_are_refuted : OldTailsAreRefuted
old_tails_are_refuted query = (_, inl refl, λ given. given.1)

-- with nothing at the second member, and nothing that counts in flight to it, the two are in order
in_order : (first : List Entry) (links : Links (List Entry)) → final_log (two_members first (Some []) links) 2 ≡ Some []
    → links Master (Server 1) ≡ []
    → ChainIsOrdered (two_members first (Some []) links)
in_order first links nothing no_orders x y (inl (is_first, inl is_second)) log is =
    let same : [] ≡ log = cc (sym nothing ∙ subst (λ z. final_log (two_members first (Some []) links) z ≡ Some log) (sym is_second) is) in
    subst (λ z. IsAhead (two_members first (Some []) links) z log) is_first (record {
      own = first;
      holds = refl;
      begins = (first, ap (λ l. l ++ first) same);
      has_successor = refl;
      no_tail_order = λ epoch a. subst (Among (message.BecomeTail epoch)) no_orders a;
    })
in_order first links nothing no_orders x y (inl (is_first, inr none)) log is = absurd none
in_order first links nothing no_orders x y (inr (inl (is_second, none))) log is = absurd none
in_order first links nothing no_orders x y (inr (inr none)) log is = absurd none

-- the second member has an entry that the first doesn't have
pub any_submits_are_refuted : AnySubmitsAreRefuted
unfolding accept_result
any_submits_are_refuted = (
  in_order [] _ refl refl,
  λ ordered.
      let ahead = ordered 1 2 (inl (refl, inl refl)) (call 1 ∷ []) refl in
      let own : [] ≡ ahead.own = cc (ahead.holds) in
      begins_nothing (call 1) [] (subst (IsPrefix (call 1 ∷ [])) (sym own) ahead.begins),
)

-- or has at the first position what the first has in the second
pub any_updates_are_refuted : AnyUpdatesAreRefuted
unfolding accept_result
any_updates_are_refuted = (
  in_order (call 1 ∷ call 2 ∷ []) _ refl refl,
  λ ordered.
      let ahead = ordered 1 2 (inl (refl, inl refl)) (call 2 ∷ []) refl in
      let own : call 1 ∷ call 2 ∷ [] ≡ ahead.own = cc (ahead.holds) in
      let first : call 1 ≡ call 2 = cc (own ∙ ahead.begins.1) in
      omega (arith, ap (λ (e : Entry). e.number) first),
)

-- what was committed is lost
pub any_snapshots_are_refuted : AnySnapshotsAreRefuted
any_snapshots_are_refuted begins = begins_nothing (call 1) [] begins

-- and no call acts twice
pub second_acts_are_refuted : SecondActsAreRefuted
second_acts_are_refuted t o first second twice s =
    let once = subst (NoTwo AreOneUpdate) (sym s.acted ∙ twice) (acted_entries_once plain_tree t.committed) in
    once.0 (o, second) (inl refl) (refl, refl)
