-- A chain that begins with any tree explains the first histories: no one calls, or one query of the
-- tree is answered.
use Rattle.std.proofs.Common.{◌≡◌, ◌∙◌, ℕ, List, [], ◌∷◌, inl, inr, refl, sym, ap, subst, arith}
use Rattle.std.specs.List.{AllByRecursion}
use Rattle.std.specs.Prelude.{◌⊎◌}
use Rattle.ztree.specs.Limits.{AreLimits, profile}
use Rattle.ztree.specs.Tree.{Tree, opening_within, opening_tree}
use Rattle.ztree.specs.declared.limits.TreeLimits.{TreeLimits}
use Rattle.ztree.proofs.Lawful.{lawful_opening}
use Rattle.zcalls.specs.declared.call.Query.{Query as Question}
use Rattle.zcalls.specs.declared.call.Call.TheVariants.{Query}
use Rattle.zcalls.specs.declared.reply.Reply.{Reply}
use Rattle.zcalls.specs.Lists.{Among}
use Rattle.zcalls.specs.Operation.{Operation}
use Rattle.zcalls.specs.Step.{query_reply}
use Rattle.zcalls.proofs.Bounds.{no_sessions}
use Rattle.zprotocol.specs.server.Machine.{plain_from}
use Rattle.zprotocol.specs.declared.world.history.CallEvent.TheVariants.{Begin, Answer}
use Rattle.zprotocol.specs.world.History.{History, IsUpdate, HasBegun, IsAnswered, EndsBefore}
use Rattle.zprotocol.specs.world.LegalOrder.{IsReplayed, operation_step, replies_from}
use Rattle.zprotocol.specs.world.PlainTree.{service_of}
use Rattle.zprotocol.specs.world.FromTree.{CanStart, IsExplainedFrom}
use Rattle.zprotocol.specs.world.support.OrderRows.{query_of}
use Rattle.zprotocol.proofs.world_lemmas.Among.{each_among}
use Rattle.zprotocol.proofs.world_lemmas.OrderRows.{AtAnswer, begin_is_no_answer}

-- an initial tree can start a chain
pub initial_can_start : (limits : TreeLimits) → AreLimits limits → CanStart (opening_within limits)
initial_can_start limits allowed = record { lawful = lawful_opening limits allowed; granted = no_sessions limits.timeout }

-- a tree can have the limits of the profile, so its initial tree can
pub profile_allowed : AreLimits profile
profile_allowed =
    record { some_nodes = omega arith; few_nodes = omega arith; few_sessions = omega arith; least_timeout = omega arith; most_timeout = omega arith }

pub opening_can_start : CanStart opening_tree
opening_can_start = initial_can_start profile profile_allowed

module _ (t : Tree) (can : CanStart t) where
  -- the order of no calls explains silence
  pub silence_from : IsExplainedFrom t []
  silence_from = (
    [],
    record {
      begun = λ o among. absurd among;
      once = tt;
      answered = λ c n reply among. absurd among;
      unanswered = λ o among. absurd among;
      in_time = λ a b ends among. absurd among;
      lawful = (can.lawful, tt);
    },
  )

  module _ (query : Question) where
    -- the query, and what callers see of it
    abbrev asked : Operation
    asked = record { client = 1; number = 1; call = Query query }

    abbrev seen : History
    seen = query_of query (query_reply t query)

    replayed : (c n : ℕ) (reply : Reply) → Among (Answer c n reply) seen → IsReplayed (service_of (plain_from t)) (asked ∷ []) c n reply
    unfolding AtAnswer
    replayed c n reply among =
        each_among (AtAnswer (IsReplayed (service_of (plain_from t)) (asked ∷ []))) seen (tt, ((asked, refl, refl, inl refl), tt))
        (Answer c n reply) among

    -- nothing ends before another begins
    nothing_ends : (a b : Operation) → EndsBefore seen a b → ⊥
    nothing_ends a b (reply, inl p) = begin_is_no_answer _ _ _ _ _ _ p.0
    nothing_ends a b (reply, inr (inl p)) = p.1
    nothing_ends a b (reply, inr (inr p)) = p

    -- the order of that one query explains it
    pub first_query_from : IsExplainedFrom t seen
    first_query_from = (
      asked ∷ [],
      record {
        begun = each_among (HasBegun seen) (asked ∷ []) (inl refl, tt);
        once = ((λ y among. absurd among), tt);
        answered = replayed;
        unanswered = each_among (λ o. IsUpdate o.call ⊎ IsAnswered seen o) (asked ∷ []) (inr (query_reply t query, inr (inl refl)), tt);
        in_time = λ a b ends among. absurd (nothing_ends a b ends);
        lawful = (can.lawful, (can.lawful, tt));
      },
    )

-- a query that is among calls which are all that query gets the tree's reply
module _ (query : Question) (reply : Reply) where
  abbrev the_query : Operation
  the_query = record { client = 1; number = 1; call = Query query }

  only_reply : (t : Tree) (o : Operation) (order : List Operation) → AllByRecursion (λ p. p ≡ the_query) order
      → Among (o, reply) (replies_from (service_of (plain_from t)) t order) → reply ≡ query_reply t query
  only_reply t o [] all among = absurd among
  only_reply t o (p ∷ order) all (inl e) =
      ap (λ (did : Operation × Reply). did.1) (sym e) ∙ ap (λ (q : Operation). (operation_step (service_of (plain_from t)) t q).1) all.0
  only_reply t o (p ∷ order) all (inr among) =
      only_reply t o order all.1
      (subst (λ (q : Operation). Among (o, reply) (replies_from (service_of (plain_from t)) (operation_step (service_of (plain_from t)) t q).0
      order)) all.0 among)

  -- the only call that began
  begun_is_it : (o : Operation) → HasBegun (query_of query reply) o → o ≡ the_query
  begun_is_it o (inl e) = the_same (sym e)
    where
      the_same : Begin o.client o.number o.call ≡ Begin 1 1 (Query query) → o ≡ the_query
      the_same e = let c : o.client ≡ 1 = cc in let n : o.number ≡ 1 = cc in let q : o.call ≡ Query query = cc in λ i.
          record { client = c i; number = n i; call = q i }
  begun_is_it o (inr (inl e)) = absurd (begin_is_no_answer _ _ _ _ _ _ (sym e))
  begun_is_it o (inr (inr e)) = absurd e

  all_it : (order : List Operation) → ((o : Operation) → Among o order → o ≡ the_query) → AllByRecursion (λ p. p ≡ the_query) order
  all_it [] each = tt
  all_it (o ∷ order) each = (each o (inl refl), all_it order (λ p among. each p (inr among)))

  pub no_other_reply : (t : Tree) → IsExplainedFrom t (query_of query reply) → reply ≡ query_reply t query
  no_other_reply t (order, legal) =
      let replayed = legal.answered 1 1 reply (inr (inl refl)) in
      only_reply t replayed.0 order (all_it order (λ o among. begun_is_it o (legal.begun o among))) replayed.3
