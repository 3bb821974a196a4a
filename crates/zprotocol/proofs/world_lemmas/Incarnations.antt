-- Two incarnations, one after the other, are one.
use Rattle.std.specs.List.{AllByRecursion}
use Rattle.std.proofs.Common.{◌≡◌, ◌⊎◌, ℕ, ◌+◌, ◌<◌, ◌≤◌, List, [], ◌∷◌, ◌++◌, refl, sym, ap, ◌∙◌, subst, inl, inr, arith}
use Rattle.ztree.specs.Tree.{Tree, opening_tree}
use Rattle.ztree.specs.Lawful.{IsLawful}
use Rattle.zcalls.specs.declared.call.Call.{Call}
use Rattle.zcalls.specs.declared.call.Call.TheVariants.{Update, Query}
use Rattle.zcalls.specs.declared.reply.Reply.{Reply}
use Rattle.zcalls.specs.Lists.{Among, ComesBefore, NoTwo}
use Rattle.zcalls.specs.Operation.{Operation, IsSameCall}
use Rattle.zcalls.proofs.Among.{among_cases}
use Rattle.zcalls.specs.PlainTree.{plain_tree}
use Rattle.zprotocol.specs.server.Machine.{plain_from}
use Rattle.zprotocol.specs.declared.world.history.CallEvent.{CallEvent}
use Rattle.zprotocol.specs.declared.world.history.CallEvent.TheVariants.{Begin, Answer}
use Rattle.zprotocol.specs.world.History.{History, IsUpdate, HasBegun, IsAnswered, EndsBefore}
use Rattle.zprotocol.specs.world.LegalOrder.{Service, operation_step, replies_from, states_from, IsReplayed, IsLegalOrder}
use Rattle.zprotocol.specs.world.PlainTree.{service_of, call_step}
use Rattle.zprotocol.specs.world.Incarnations.{state_after, later_event, later_history, later_operation, later_order}
use Rattle.zprotocol.specs.world.Incarnations.{CountsFromOne, CountsUpTo, TwoIncarnationsAreOne, TheSecondIncarnationLeavesTheTree}
use Rattle.zprotocol.proofs.world_lemmas.Among.{among_map, among_first, among_second, among_image}
use Rattle.zprotocol.proofs.world_lemmas.Orders.{before_first, before_second, before_across, Stand, stand, before_map, before_image, no_two_both, no_two_image}

-- what an event that was counted on was before
later_begin : (last : ℕ) (e : CallEvent) (c m : ℕ) (call : Call) → later_event last e ≡ Begin c m call
    → (n : ℕ) × (last + n ≡ m) × (e ≡ Begin c n call)
later_begin last (Begin d n other) c m call is =
    let client : d ≡ c = cc in let same : other ≡ call = cc in (n, cc, λ i. Begin (client i) n (same i))
later_begin last (Answer d n reply) c m call is = absurd (cc is)

later_answer : (last : ℕ) (e : CallEvent) (c m : ℕ) (reply : Reply) → later_event last e ≡ Answer c m reply
    → (n : ℕ) × (last + n ≡ m) × (e ≡ Answer c n reply)
later_answer last (Answer d n other) c m reply is =
    let client : d ≡ c = cc in let same : other ≡ reply = cc in (n, cc, λ i. Answer (client i) n (same i))
later_answer last (Begin d n call) c m reply is = absurd (cc is)

module _ {P : Type 0} (service : Service P) where
  -- calls after others
  pub state_both : (p : P) (a b : List Operation) → state_after service p (a ++ b) ≡ state_after service (state_after service p a) b
  state_both p [] b = refl
  state_both p (o ∷ a) b = state_both (operation_step service p o).0 a b

  replies_both : (p : P) (a b : List Operation) → replies_from service p (a ++ b) ≡ replies_from service p a
      ++ replies_from service (state_after service p a) b
  replies_both p [] b = refl
  replies_both p (o ∷ a) b = ap (λ rs. (o, (operation_step service p o).1) ∷ rs) (replies_both (operation_step service p o).0 a b)

  lawful_both : (Lawful : P → Type 0) (p : P) (a b : List Operation) → AllByRecursion Lawful (states_from service p a)
      → AllByRecursion Lawful (states_from service (state_after service p a) b) → AllByRecursion Lawful (states_from service p (a ++ b))
  lawful_both Lawful p [] b first second = second
  lawful_both Lawful p (o ∷ a) b first second = (first.0, lawful_both Lawful (operation_step service p o).0 a b first.1 second)

  -- where a service begins doesn't matter to what it does
  abbrev begun_with : P → Service P
  begun_with u = record service { opening = u }

  pub state_anyway : (u p : P) (b : List Operation) → state_after (begun_with u) p b ≡ state_after service p b
  state_anyway u p [] = refl
  state_anyway u p (o ∷ b) = state_anyway u (operation_step service p o).0 b

  pub replies_anyway : (u p : P) (b : List Operation) → replies_from (begun_with u) p b ≡ replies_from service p b
  replies_anyway u p [] = refl
  replies_anyway u p (o ∷ b) = ap (λ rs. (o, (operation_step service p o).1) ∷ rs) (replies_anyway u (operation_step service p o).0 b)

  pub states_anyway : (u p : P) (b : List Operation) → states_from (begun_with u) p b ≡ states_from service p b
  states_anyway u p [] = refl
  states_anyway u p (o ∷ b) = ap (λ ps. p ∷ ps) (states_anyway u (operation_step service p o).0 b)

  -- a call whose reply is among the replies is among the calls
  pub replied_is_among : (p : P) (o : Operation) (reply : Reply) (os : List Operation) → Among (o, reply) (replies_from service p os) → Among o os
  replied_is_among p o reply [] among = absurd among
  replied_is_among p o reply (x ∷ os) (inl e) = inl (ap (λ (did : Operation × Reply). did.0) e)
  replied_is_among p o reply (x ∷ os) (inr among) = inr (replied_is_among (operation_step service p x).0 o reply os among)

  -- calls that are counted on do the same
  pub state_later : (last : ℕ) (p : P) (b : List Operation) → state_after service p (later_order last b) ≡ state_after service p b
  state_later last p [] = refl
  state_later last p (o ∷ b) = state_later last (operation_step service p o).0 b

  replies_later : (last : ℕ) (p : P) (b : List Operation) (o : Operation) (reply : Reply) → Among (o, reply) (replies_from service p b)
      → Among (later_operation last o, reply) (replies_from service p (later_order last b))
  replies_later last p [] o reply among = absurd among
  replies_later last p (q ∷ b) o reply (inl e) = inl (ap (λ (did : Operation × Reply). (later_operation last did.0, did.1)) e)
  replies_later last p (q ∷ b) o reply (inr among) = inr (replies_later last (operation_step service p q).0 b o reply among)

  states_later : (last : ℕ) (p : P) (b : List Operation) → states_from service p (later_order last b) ≡ states_from service p b
  states_later last p [] = refl
  states_later last p (o ∷ b) = ap (λ ps. p ∷ ps) (states_later last (operation_step service p o).0 b)

module _ {P : Type 0} (Lawful : P → Type 0) (service : Service P) (u : P) (first second : History) (a b : List Operation) (last : ℕ)
    (legal : IsLegalOrder Lawful service first a) (few : CountsUpTo last first) (leaves : u ≡ state_after service service.opening a)
    (next : IsLegalOrder Lawful (record service { opening = u }) second b) (some : CountsFromOne second) where
  abbrev both : History
  both = first ++ later_history last second

  abbrev order : List Operation
  order = a ++ later_order last b

  -- calls of the first incarnation have numbers up to the last one, and those of the second are above it
  old_number : (o : Operation) → Among o a → o.number ≤ last
  old_number o among = few o (legal.begun o among)

  old_answer : (c n : ℕ) (reply : Reply) → Among (Answer c n reply) first → n ≤ last
  old_answer c n reply among = let r = legal.answered c n reply among in subst (λ m. m ≤ last) r.2
      (old_number r.0 (replied_is_among service service.opening r.0 reply a r.3))

  new_number : (o : Operation) → Among o (later_order last b) → last < o.number
  new_number o among =
      let m = among_image (later_operation last) o b among in
      let above : 0 < m.0.number = some m.0 (next.begun m.0 m.1) in
      subst (λ (p : Operation). last < p.number) m.2 (omega (arith, above))

  -- so a call is at the position that its number says
  stands_first : (o : Operation) → o.number ≤ last → Among o order → Among o a
  stands_first o low among = elim (among_cases o a (later_order last b) among) [
    | inl inside ↦ inside
    | inr behind ↦ let high = new_number o behind in absurd (omega (arith, low, high))
  ]

  stands_second : (o : Operation) → last < o.number → Among o order → Among o (later_order last b)
  stands_second o high among = elim (among_cases o a (later_order last b) among) [
    | inl inside ↦ let low = old_number o inside in absurd (omega (arith, low, high))
    | inr behind ↦ behind
  ]

  begun_later : (o : Operation) → HasBegun second o → HasBegun both (later_operation last o)
  begun_later o begun = among_second _ first (later_history last second) (among_map (later_event last) (Begin o.client o.number o.call) second begun)

  begun : (o : Operation) → Among o order → HasBegun both o
  begun o among = elim (among_cases o a (later_order last b) among) [
    | inl inside ↦ among_first _ first (later_history last second) (legal.begun o inside)
    | inr behind ↦ let m = among_image (later_operation last) o b behind in subst (HasBegun both) m.2 (begun_later m.0 (next.begun m.0 m.1))
  ]

  unanswered : (o : Operation) → Among o order → IsUpdate o.call ⊎ IsAnswered both o
  unanswered o among = elim (among_cases o a (later_order last b) among) [
    | inl inside ↦ elim (legal.unanswered o inside) [
      | inl update ↦ inl update
      | inr (reply, reported) ↦ inr (reply, among_first _ first (later_history last second) reported)
    ]
    | inr behind ↦
        let m = among_image (later_operation last) o b behind in
        subst (λ (p : Operation). IsUpdate p.call ⊎ IsAnswered both p) m.2
        (elim (next.unanswered m.0 m.1) [
          | inl update ↦ inl update
          | inr (reply, reported) ↦
              inr (
                reply,
                among_second _ first (later_history last second)
                    (among_map (later_event last) (Answer m.0.client m.0.number reply) second reported),
              )
        ])
  ]

  once : NoTwo IsSameCall order
  once =
      no_two_both IsSameCall a (later_order last b) legal.once
      (no_two_image (later_operation last) IsSameCall IsSameCall b (λ x y same. (same.0, (let number = same.1 in omega (arith, number)))) next.once)
      (λ x y inside behind same. let low = old_number x inside in let high = new_number y behind in let number = same.1
      in omega (arith, low, high, number))

  -- every reply is the replay's
  all_replies : replies_from service service.opening order ≡ replies_from service service.opening a ++ replies_from service u (later_order last b)
  all_replies =
      replies_both service service.opening a (later_order last b)
      ∙ ap (λ p. replies_from service service.opening a ++ replies_from service p (later_order last b)) (sym leaves)

  answered : (c n : ℕ) (reply : Reply) → Among (Answer c n reply) both → IsReplayed service order c n reply
  answered c n reply among = elim (among_cases _ first (later_history last second) among) [
    | inl inside ↦
        let r = legal.answered c n reply inside in (
          r.0,
          r.1,
          r.2,
          subst (Among (r.0, reply)) (sym all_replies) (among_first _ (replies_from service service.opening a)
              (replies_from service u (later_order last b)) r.3),
        )
    | inr behind ↦
        let m = among_image (later_event last) (Answer c n reply) second behind in
        let e = later_answer last m.0 c n reply m.2 in
        let r = next.answered c e.0 reply (subst (λ x. Among x second) e.2 m.1) in (
          later_operation last r.0,
          r.1,
          ap (λ k. last + k) r.2 ∙ e.1,
          subst (Among (later_operation last r.0, reply)) (sym all_replies)
              (among_second _ (replies_from service service.opening a) (replies_from service u (later_order last b))
              (replies_later service last u b r.0 reply (subst (Among (r.0, reply)) (replies_anyway service u u b) r.3))),
        )
  ]

  -- and the order respects what ended before another call began
  later_in_time : (x y : Operation) (reply : Reply)
      → ComesBefore (Answer x.client x.number reply) (Begin y.client y.number y.call) (later_history last second)
      → Among x (later_order last b) → Among y (later_order last b) → ComesBefore x y (later_order last b)
  later_in_time x y reply before x_there y_there =
      let xs = among_image (later_operation last) x b x_there in
      let ys = among_image (later_operation last) y b y_there in
      let m = before_image (later_event last) _ _ second before in
      let e = later_answer last m.0 x.client x.number reply m.3 in
      let f = later_begin last m.1 y.client y.number y.call m.4 in
      let x_client : xs.0.client ≡ x.client = ap (λ (p : Operation). p.client) xs.2 in
      let y_client : ys.0.client ≡ y.client = ap (λ (p : Operation). p.client) ys.2 in
      let y_call : ys.0.call ≡ y.call = ap (λ (p : Operation). p.call) ys.2 in
      let x_is : last + xs.0.number ≡ x.number = ap (λ (p : Operation). p.number) xs.2 in
      let y_is : last + ys.0.number ≡ y.number = ap (λ (p : Operation). p.number) ys.2 in
      let x_number : e.0 ≡ xs.0.number = (let there = e.1 in omega (arith, there, x_is)) in
      let y_number : f.0 ≡ ys.0.number = (let there = f.1 in omega (arith, there, y_is)) in
      let ended : m.0 ≡ Answer xs.0.client xs.0.number reply = e.2 ∙ (λ i. Answer (sym x_client i) (x_number i) reply) in
      let began : m.1 ≡ Begin ys.0.client ys.0.number ys.0.call = f.2 ∙ (λ i. Begin (sym y_client i) (y_number i) (sym y_call i)) in
      let ends : EndsBefore second xs.0 ys.0 = (
        reply,
        subst (λ v. ComesBefore (Answer xs.0.client xs.0.number reply) v second)
            began (subst (λ v. ComesBefore v m.1 second) ended m.2),
      ) in
      subst (λ (p : Operation). ComesBefore p y (later_order last b)) xs.2
      (subst (λ (q : Operation). ComesBefore (later_operation last xs.0) q (later_order last b)) ys.2
      (before_map (later_operation last) xs.0 ys.0 b (next.in_time xs.0 ys.0 ends xs.1 ys.1)))

  later_begins : (o : Operation) → Among (Begin o.client o.number o.call) (later_history last second) → last < o.number
  later_begins o among =
      let m = among_image (later_event last) _ second among in
      let e = later_begin last m.0 o.client o.number o.call m.2 in
      let above : 0 < e.0 = some (record { client = o.client; number = e.0; call = o.call }) (subst (λ x. Among x second) e.2 m.1) in
      let there = e.1 in
      omega (arith, above, there)

  later_ends : (o : Operation) (reply : Reply) → Among (Answer o.client o.number reply) (later_history last second) → last < o.number
  later_ends o reply among =
      let m = among_image (later_event last) _ second among in
      let e = later_answer last m.0 o.client o.number reply m.2 in
      let r = next.answered o.client e.0 reply (subst (λ x. Among x second) e.2 m.1) in
      let above = new_number (later_operation last r.0)
      (among_map (later_operation last) r.0 b (replied_is_among (record service { opening = u }) u r.0 reply b r.3)) in
      let there = e.1 in
      let number = r.2 in
      omega (arith, above, there, number)

  in_time : (x y : Operation) → EndsBefore both x y → Among x order → Among y order → ComesBefore x y order
  in_time x y (reply, before) x_there y_there = elim (stand _ _ first (later_history last second) before) [
    | Stand.InFirst inside ↦
        let x_low = old_answer x.client x.number reply (before_is_among _ _ first inside).0 in
        let y_low = few y (before_is_among _ _ first inside).1 in
        before_first x y a (later_order last b) (legal.in_time x y (reply, inside) (stands_first x x_low x_there) (stands_first y y_low y_there))
    | Stand.InEach ended began ↦
        before_across x y a (later_order last b) (stands_first x (old_answer x.client x.number reply ended) x_there)
        (stands_second y (later_begins y began) y_there)
    | Stand.InSecond behind ↦
        let m = before_is_among _ _ (later_history last second) behind in
        before_second x y a (later_order last b)
        (later_in_time x y reply behind (stands_second x (later_ends x reply m.0) x_there) (stands_second y (later_begins y m.1) y_there))
  ]
    where
      before_is_among : (u v : CallEvent) (h : History) → ComesBefore u v h → Among u h × Among v h
      before_is_among u v [] p = absurd p
      before_is_among u v (z ∷ h) (inl (here, among)) = (inl here, inr among)
      before_is_among u v (z ∷ h) (inr p) = let m = before_is_among u v h p in (inr m.0, inr m.1)

  lawful : AllByRecursion Lawful (states_from service service.opening order)
  lawful =
      lawful_both service Lawful service.opening a (later_order last b) legal.lawful
      (subst (λ p. AllByRecursion Lawful (states_from service p (later_order last b))) leaves
      (subst (AllByRecursion Lawful) (states_anyway service u u b ∙ sym (states_later service last u b)) next.lawful))

  pub two_incarnations : IsLegalOrder Lawful service both order
  two_incarnations = record { begun = begun; once = once; answered = answered; unanswered = unanswered; in_time = in_time; lawful = lawful }

-- the plain tree does the same whatever tree it began with
same_call : (t u : Tree) (p : Tree) (client : ℕ) (call : Call) → call_step (plain_from u) p client call ≡ call_step (plain_from t) p client call
same_call t u p client (Update update) = refl
same_call t u p client (Query query) = refl

pub same_service : (t u : Tree) → service_of (plain_from u) ≡ record (service_of (plain_from t)) { opening = u }
same_service t u = λ i. record { opening = u; step = λ p client call. same_call t u p client call i }

-- so it gives the same replies
pub plain_replies : (u p : Tree) (order : List Operation) → replies_from (service_of (plain_from u)) p order
    ≡ replies_from (service_of plain_tree) p order
plain_replies u p order =
    ap (λ (s : Service Tree). replies_from s p order) (same_service opening_tree u) ∙ replies_anyway (service_of plain_tree) u p order

pub two_incarnations_are_one : TwoIncarnationsAreOne
two_incarnations_are_one t u first second before after last legal few leaves next some =
    two_incarnations IsLawful (service_of (plain_from t)) u first second before after last legal few leaves
    (subst (λ (s : Service Tree). IsLegalOrder IsLawful s second after) (same_service t u) next) some

pub the_second_incarnation_leaves_the_tree : TheSecondIncarnationLeavesTheTree
the_second_incarnation_leaves_the_tree t u before after last leaves =
    state_both (service_of (plain_from t)) t before (later_order last after)
    ∙ state_later (service_of (plain_from t)) last (state_after (service_of (plain_from t)) t before) after
    ∙ ap (λ p. state_after (service_of (plain_from t)) p after) (sym leaves)
    ∙ sym (state_anyway (service_of (plain_from t)) u u after)
    ∙ ap (λ (s : Service Tree). state_after s u after) (sym (same_service t u))
