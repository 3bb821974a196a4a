-- What the master and clients put: orders and configurations, and requests.
use Rattle.std.specs.List.{range_with_len, last_or}
use Rattle.std.proofs.Common.{ℕ, ◌+◌, nat_lt, ◌==◌, List, [], ◌∷◌, ◌++◌, Option, Some, None, inl, inr}
use Rattle.zcalls.specs.declared.call.Call.{Call}
use Rattle.zcalls.specs.declared.call.Call.TheVariants as call
use Rattle.zcalls.specs.declared.reply.Reply.{Reply}
use Rattle.zcalls.proofs.Among.{test}
use Rattle.zprotocol.specs.declared.message.Message.TheVariants as message
use Rattle.zprotocol.specs.declared.process.Process.{Process}
use Rattle.zprotocol.specs.declared.process.Process.TheVariants.{Master, Server, Client}
use Rattle.zprotocol.specs.server.View.{MessageOf, Post, Neighbour, Transfer}
use Rattle.zprotocol.specs.master.View.{MasterView, is_among, members, is_joining, head_of, tail_of, with_number}
use Rattle.zprotocol.specs.declared.master.order.Order.{Order}
use Rattle.zprotocol.specs.declared.master.order.Order.TheVariants.{Join, Retire}
use Rattle.zprotocol.specs.master.Table as master
use Rattle.zprotocol.specs.client.View.{ClientView}
use Rattle.zprotocol.specs.client.Table as client
use Rattle.zlinearizability.proofs.chain_lemmas.links.Links.{AllPosts, all_none, all_and, all_append, all_map}

-- an order to a server, or a configuration
abbrev pub IsOrder : {M : Type 0} → MessageOf M → Type 0
IsOrder (message.NewPred epoch p) = Unit {0}
IsOrder (message.NewSucc epoch t last) = Unit {0}
IsOrder (message.BecomeHead epoch) = Unit {0}
IsOrder (message.BecomeTail epoch) = Unit {0}
IsOrder message.Retire = Unit {0}
IsOrder (message.Config epoch head tail) = Unit {0}
IsOrder other = ⊥

-- a request
abbrev pub IsRequest : {M : Type 0} → MessageOf M → Type 0
IsRequest (message.Submit number update) = Unit {0}
IsRequest (message.Query number query) = Unit {0}
IsRequest other = ⊥

module _ {M : Type 0} where
  -- the master's
  reported_orders : (v : MasterView) (first : List (Post M)) → AllPosts IsOrder first → AllPosts IsOrder (master.and_report_clients v first).1
  reported_orders v first h =
      all_append IsOrder first (master.config_posts v) h (all_map IsOrder (λ c. (Client c, message.Config v.epoch (head_of v) (tail_of v)))
      (range_with_len 0 v.clients) (λ c. tt))

  one_order : (post : Post M) → IsOrder post.1 → AllPosts IsOrder (post ∷ [])
  one_order post h = all_and IsOrder post [] h (all_none IsOrder)

  next_orders : (epoch p : ℕ) (rest : List Neighbour) → AllPosts IsOrder (master.without_next {T = Transfer M} epoch p rest).1
  next_orders epoch p [] = one_order (Server p, message.BecomeTail epoch) tt
  next_orders epoch p (t ∷ rest) = one_order (Server t.0, message.NewPred epoch p) tt

  behind_orders : (epoch s p : ℕ) (chain : List Neighbour) → AllPosts IsOrder (master.mended_chain_behind {T = Transfer M} epoch s p chain).1
  behind_orders epoch s p [] = all_none IsOrder
  behind_orders epoch s p (t ∷ rest) = elim (test (t.0 == s)) [
    | inl e ↦ rw e (next_orders epoch p rest)
    | inr f ↦ rw f (behind_orders epoch s t.0 rest)
  ]

  first_orders : (epoch : ℕ) (rest : List Neighbour) → AllPosts IsOrder (master.without_first {T = Transfer M} epoch rest).1
  first_orders epoch [] = all_none IsOrder
  first_orders epoch (t ∷ rest) = one_order (Server t.0, message.BecomeHead epoch) tt

  mended_orders : (epoch s : ℕ) (chain : List Neighbour) → AllPosts IsOrder (master.mended_chain {T = Transfer M} epoch s chain).1
  mended_orders epoch s [] = all_none IsOrder
  mended_orders epoch s (t ∷ rest) = elim (test (t.0 == s)) [
    | inl e ↦ rw e (first_orders epoch rest)
    | inr f ↦ rw f (behind_orders epoch s t.0 rest)
  ]

  have_orders : (v : MasterView) (s epoch : ℕ) (last found : Option ℕ)
      → AllPosts IsOrder (elim found as (λ x. MasterView × List (Post M))
      [ None ↦ (v, []) | Some p ↦ (v, (Server p, message.NewSucc epoch s last) ∷ []) ]).1
  have_orders v s epoch last None = all_none IsOrder
  have_orders v s epoch last (Some p) = one_order (Server p, message.NewSucc epoch s last) tt

  takes_have_orders : (v : MasterView) (s epoch : ℕ) (last : Option ℕ) → AllPosts IsOrder (master.have_row {T = Transfer M} v s epoch last).1
  unfolding master.have_row
  takes_have_orders v s epoch last = have_orders v s epoch last (master.before s epoch v.chain)

  takes_joined_orders : (v : MasterView) (s : ℕ) → AllPosts IsOrder (master.joined_row {T = Transfer M} v s).1
  unfolding master.joined_row
  takes_joined_orders v s = elim (test (is_joining v s)) [
    | inl t ↦ rw t (reported_orders (record v { joining = None; epoch = v.epoch + 1 }) [] (all_none IsOrder))
    | inr f ↦ rw f (all_none IsOrder)
  ]

  takes_gone_orders : (v : MasterView) (s : ℕ) → AllPosts IsOrder (master.gone_row {T = Transfer M} v s).1
  unfolding master.gone_row
  takes_gone_orders v s = elim (test (is_among s (members v))) [
    | inl t ↦ rw t (reported_orders (master.without_member v s (master.mended_chain {T = Transfer M} (v.epoch + 1) s v.chain).0)
        (master.mended_chain (v.epoch + 1) s v.chain).1 (mended_orders (v.epoch + 1) s v.chain))
    | inr f ↦ rw f (all_none IsOrder)
  ]

  -- whatever the master hears
  pub master_orders : (v : MasterView) (from : Process) (m : MessageOf M) → AllPosts IsOrder (master.master_step v from m).1
  unfolding master.master_step
  master_orders v (Server s) (message.Have epoch last) = takes_have_orders v s epoch last
  master_orders v (Server s) (message.Joined epoch) = takes_joined_orders v s
  master_orders v (Server s) message.Gone = takes_gone_orders v s
  master_orders v from m = all_none IsOrder

  join_orders_by : (v : MasterView) (s : ℕ) (last : Option ℕ)
      → AllPosts IsOrder (elim last as (λ x. MasterView × List (Post M)) [
        | None ↦ (v, [])
        | Some last ↦ (
          record v { chain = v.chain ++ (s, v.epoch + 1) ∷ []; joining = Some s; used = with_number s v.used; epoch = v.epoch + 1 },
          (Server s, message.NewPred (v.epoch + 1) last) ∷ [],
        )
      ]).1
  join_orders_by v s None = all_none IsOrder
  join_orders_by v s (Some last) = one_order (Server s, message.NewPred (v.epoch + 1) last) tt

  -- at an order of the operator
  pub order_orders : (v : MasterView) (order : Order) → AllPosts IsOrder (master.order_step {T = Transfer M} v order).1
  unfolding master.order_step
  order_orders v (Join s) = join_orders_by v s (last_or None (members v))
  order_orders v (Retire s) = one_order (Server s, message.Retire) tt

  -- a client's
  one_request : (post : Post M) → IsRequest post.1 → AllPosts IsRequest (post ∷ [])
  one_request post h = all_and IsRequest post [] h (all_none IsRequest)

  to_requests : (s : Option ℕ) (m : MessageOf M) → IsRequest m → AllPosts IsRequest (client.to_server s m)
  to_requests None m h = all_none IsRequest
  to_requests (Some s) m h = one_request (Server s, m) h

  sent_requests : (head tail : Option ℕ) (number : ℕ) (c : Call) → AllPosts IsRequest (client.call_posts {T = Transfer M} head tail number c)
  sent_requests head tail number (call.Update update) = to_requests head (message.Submit number update) tt
  sent_requests head tail number (call.Query query) = to_requests tail (message.Query number query) tt

  outstanding_requests : (head tail : Option ℕ) (outstanding : Option (ℕ × Call))
      → AllPosts IsRequest (elim outstanding as (λ x. List (Post M)) [ None ↦ [] | Some waits ↦ client.call_posts head tail waits.0 waits.1 ])
  outstanding_requests head tail None = all_none IsRequest
  outstanding_requests head tail (Some waits) = sent_requests head tail waits.0 waits.1

  -- the call that a client waits for
  pub send_requests : (v : ClientView) → AllPosts IsRequest (client.outstanding_posts {T = Transfer M} v)
  send_requests v = outstanding_requests v.head v.tail v.outstanding

  -- at a beginning
  pub begin_requests : (v : ClientView) (c : Call) → AllPosts IsRequest (client.begin_step {T = Transfer M} v c).1
  unfolding client.begin_step
  begin_requests v c = send_requests (record v { number = v.number + 1; outstanding = Some (v.number + 1, c) })

  -- at a retry
  pub retry_requests : (v : ClientView) → AllPosts IsRequest (client.retry_posts {T = Transfer M} v)
  unfolding client.retry_posts
  retry_requests v = send_requests v

  answer_requests : (v : ClientView) (number : ℕ) (reply : Reply) → AllPosts IsRequest (client.answer_row {T = Transfer M} v number reply).1
  unfolding client.answer_row
  answer_requests v number reply = elim (test (client.is_waiting_for v number))
      [ inl t ↦ rw t (all_none IsRequest) | inr f ↦ rw f (all_none IsRequest) ]

  config_requests : (v : ClientView) (epoch : ℕ) (head tail : Option ℕ) → AllPosts IsRequest (client.config_row {T = Transfer M} v epoch head tail).1
  unfolding client.config_row
  config_requests v epoch head tail = elim (test (nat_lt v.epoch epoch)) [
    | inl t ↦ rw t (send_requests (record v { epoch = epoch; head = head; tail = tail }))
    | inr f ↦ rw f (all_none IsRequest)
  ]

  -- at a message
  pub client_requests : (v : ClientView) (from : Process) (m : MessageOf M) → AllPosts IsRequest (client.client_step v from m).1
  unfolding client.client_step
  client_requests v (Server s) (message.Answer number reply) = answer_requests v number reply
  client_requests v Master (message.Config epoch head tail) = config_requests v epoch head tail
  client_requests v from m = all_none IsRequest
