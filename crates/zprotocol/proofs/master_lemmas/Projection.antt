-- The master table commutes with every map between machines: it looks at none.
use Rattle.std.proofs.Common.{◌≡◌, refl, sym, ap, ◌∙◌, ℕ, ◌+◌, Bool, true, false, ◌==◌, Option, None, Some, List, [], ◌∷◌, ◌++◌, map}
use Rattle.std.specs.Prelude.{if◌then◌else◌}
use Rattle.std.specs.List.{last_or, range_with_len}
use Rattle.zprotocol.specs.declared.message.Message.TheVariants as message
use Rattle.zprotocol.specs.declared.process.Process.{Process}
use Rattle.zprotocol.specs.declared.process.Process.TheVariants.{Server, Client}
use Rattle.zprotocol.specs.server.View.{Neighbour, Transfer, MessageOf, Post}
use Rattle.zprotocol.specs.server.support.Homomorphism.{message_with, posts_with}
use Rattle.zprotocol.specs.master.View.{MasterView, is_among, with_number, members, is_joining, head_of, tail_of}
use Rattle.zprotocol.specs.master.Table.{MasterResult, no_effect, config_posts, and_report_clients, order_step, before, have_row, joined_row, MendedChain, without_first, without_next, mended_chain_behind, mended_chain, without_member, gone_row, master_step}
use Rattle.zprotocol.specs.declared.master.order.Order.{Order}
use Rattle.zprotocol.specs.declared.master.order.Order.TheVariants.{Join, Retire}
use Rattle.zprotocol.specs.master.Laws.{master_result_with}

module _ {M N : Type 0} (h : M → N) where
  -- posts are mapped one by one
  posts_append : (posts more : List (Post M)) → posts_with h (posts ++ more) ≡ posts_with h posts ++ posts_with h more
  posts_append [] more = refl
  posts_append (post ∷ posts) more = ap (λ rest. (post.0, message_with h post.1) ∷ rest) (posts_append posts more)

  -- what clients are sent names no machine
  configs_with : (v : MasterView) (clients : List ℕ)
      → posts_with h (map (λ c. (Client c, message.Config v.epoch (head_of v) (tail_of v))) clients)
      ≡ map (λ c. (Client c, message.Config v.epoch (head_of v) (tail_of v))) clients
  configs_with v [] = refl
  configs_with v (c ∷ clients) = ap (λ rest. (Client c, message.Config v.epoch (head_of v) (tail_of v)) ∷ rest) (configs_with v clients)

  reported_with : (v : MasterView) (first : List (Post M)) (first' : List (Post N)) → first' ≡ posts_with h first → and_report_clients v first' ≡ master_result_with h (and_report_clients v first)
  reported_with v first first' p =
      let q : first' ++ config_posts v ≡ posts_with h (first ++ config_posts v) =
      ap (λ posts. posts ++ config_posts v) p ∙ ap (λ posts. posts_with h first ++ posts) (sym (configs_with v (range_with_len 0 v.clients))) ∙ sym (posts_append first (config_posts v))
      in λ i. (v, q i)

  -- a mended chain, and posts whose machines are mapped
  mended_by : MendedChain (Transfer M) → MendedChain (Transfer N)
  mended_by did = (did.0, posts_with h did.1)

  if_mended : (b : Bool) (x y : MendedChain (Transfer M)) (x' y' : MendedChain (Transfer N)) → x' ≡ mended_by x → y' ≡ mended_by y → (if b then x' else y') ≡ mended_by (if b then x else y)
  if_mended true x y x' y' p q = p
  if_mended false x y x' y' p q = q

  without_first_with : (epoch : ℕ) (rest : List Neighbour) → without_first epoch rest ≡ mended_by (without_first epoch rest)
  unfolding mended_by
  without_first_with epoch [] = refl
  without_first_with epoch (t ∷ rest) = refl

  without_next_with : (epoch p : ℕ) (rest : List Neighbour) → without_next epoch p rest ≡ mended_by (without_next epoch p rest)
  unfolding mended_by
  without_next_with epoch p [] = refl
  without_next_with epoch p (t ∷ rest) = refl

  -- a member before what is mended stays
  behind : {K : Type 0} → Neighbour → MendedChain K → MendedChain K
  behind t did = (t ∷ did.0, did.1)

  mended_behind_with : (epoch s p : ℕ) (chain : List Neighbour) → mended_chain_behind epoch s p chain ≡ mended_by (mended_chain_behind epoch s p chain)
  unfolding mended_by behind
  mended_behind_with epoch s p [] = refl
  mended_behind_with epoch s p (t ∷ rest) =
      if_mended (t.0 == s)
      (without_next epoch p rest) (behind t (mended_chain_behind epoch s t.0 rest))
      (without_next epoch p rest) (behind t (mended_chain_behind epoch s t.0 rest))
      (without_next_with epoch p rest) (ap (behind t) (mended_behind_with epoch s t.0 rest))

  mended_with : (epoch s : ℕ) (chain : List Neighbour) → mended_chain epoch s chain ≡ mended_by (mended_chain epoch s chain)
  unfolding mended_by behind
  mended_with epoch s [] = refl
  mended_with epoch s (t ∷ rest) =
      if_mended (t.0 == s)
      (without_first epoch rest) (behind t (mended_chain_behind epoch s t.0 rest))
      (without_first epoch rest) (behind t (mended_chain_behind epoch s t.0 rest))
      (without_first_with epoch rest) (ap (behind t) (mended_behind_with epoch s t.0 rest))

  if_with : (b : Bool) (x y : MasterResult (Transfer M)) (x' y' : MasterResult (Transfer N)) → x' ≡ master_result_with h x → y' ≡ master_result_with h y → (if b then x' else y') ≡ master_result_with h (if b then x else y)
  if_with true x y x' y' p q = p
  if_with false x y x' y' p q = q

  -- the master after a member has failed, when it is known how the chain is mended
  after_gone : {K : Type 0} → MasterView → ℕ → MendedChain K → MasterResult K
  after_gone v s chain = and_report_clients (without_member v s chain.0) chain.1

  -- one row after the other
  gone_with : (v : MasterView) (s : ℕ) → gone_row v s ≡ master_result_with h (gone_row v s)
  unfolding gone_row after_gone mended_by
  gone_with v s =
      let did : MendedChain (Transfer M) = mended_chain (v.epoch + 1) s v.chain in
      if_with (is_among s (members v))
      (after_gone v s did) (record v { used = with_number s v.used }, [])
      (after_gone v s (mended_chain (v.epoch + 1) s v.chain)) (record v { used = with_number s v.used }, [])
      (ap (after_gone v s) (mended_with (v.epoch + 1) s v.chain)
      ∙ reported_with (without_member v s did.0) did.1 (posts_with h did.1) refl)
      refl

  joined_with : (v : MasterView) (s : ℕ) → joined_row v s ≡ master_result_with h (joined_row v s)
  unfolding joined_row
  joined_with v s =
      let w : MasterView = record v { joining = None; epoch = v.epoch + 1 } in
      if_with (is_joining v s) (and_report_clients w []) (no_effect v) (and_report_clients w []) (no_effect v) (reported_with w [] [] refl) refl

  -- Have, by the member that is found before its sender
  have_found : {K : Type 0} → MasterView → ℕ → ℕ → Option ℕ → Option ℕ → MasterResult K
  have_found v s epoch last None = no_effect v
  have_found v s epoch last (Some p) = (v, (Server p, message.NewSucc epoch s last) ∷ [])

  have_found_with : (v : MasterView) (s epoch : ℕ) (last found : Option ℕ) → have_found {K = Transfer N} v s epoch last found ≡ master_result_with h (have_found {K = Transfer M} v s epoch last found)
  unfolding have_found
  have_found_with v s epoch last None = refl
  have_found_with v s epoch last (Some p) = refl

  have_with : (v : MasterView) (s epoch : ℕ) (last : Option ℕ) → have_row v s epoch last ≡ master_result_with h (have_row v s epoch last)
  unfolding have_row have_found
  have_with v s epoch last = have_found_with v s epoch last (before s epoch v.chain)

  -- a join, by the last member that is found
  join_found : {K : Type 0} → MasterView → ℕ → Option ℕ → MasterResult K
  join_found v s None = no_effect v
  join_found v s (Some last) =
      (record v { chain = v.chain ++ (s, v.epoch + 1) ∷ []; joining = Some s; used = with_number s v.used; epoch = v.epoch + 1 }, (Server s, message.NewPred (v.epoch + 1) last) ∷ [])

  join_found_with : (v : MasterView) (s : ℕ) (found : Option ℕ) → join_found {K = Transfer N} v s found ≡ master_result_with h (join_found {K = Transfer M} v s found)
  unfolding join_found
  join_found_with v s None = refl
  join_found_with v s (Some last) = refl

  pub order_with : (v : MasterView) (order : Order) → order_step v order ≡ master_result_with h (order_step v order)
  unfolding order_step join_found
  order_with v (Join s) = join_found_with v s (last_or None (members v))
  order_with v (Retire s) = refl

  -- the table
  pub table_with : (v : MasterView) (from : Process) (m : MessageOf M) → master_step v from (message_with h m) ≡ master_result_with h (master_step v from m)
  unfolding master_step
  table_with v (Server s) (message.Have epoch last) = have_with v s epoch last
  table_with v (Server s) (message.Joined epoch) = joined_with v s
  table_with v (Server s) message.Gone = gone_with v s
  table_with v from m = refl
