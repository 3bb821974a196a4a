-- The three tables speak of processes of the world alone, where what they know and hear does.
use Rattle.std.proofs.Common.{◌≡◌, ℕ, ◌+◌, ◌≤◌, zero, suc, Bool, true, false, if◌then◌else◌, nat_lt, ◌==◌, List, []}
use Rattle.std.proofs.Common.{◌∷◌, ◌++◌, map, Option, Some, None, refl, subst, arith}
use Rattle.std.specs.Prelude.{◌&&◌, not, filter}
use Rattle.std.specs.List.{AllByRecursion, range_with_len, last_or}
use Rattle.std.proofs.lemmas.Bool.{lt-ltb}
use Rattle.zcalls.specs.declared.call.Call.{Call}
use Rattle.zcalls.specs.declared.call.Call.TheVariants as call
use Rattle.zcalls.specs.declared.call.Entry.{Entry}
use Rattle.zcalls.specs.declared.reply.Reply.{Reply}
use Rattle.zprotocol.specs.declared.message.Message.TheVariants as message
use Rattle.zprotocol.specs.declared.process.Process.{Process}
use Rattle.zprotocol.specs.declared.process.Process.TheVariants.{Server, Client}
use Rattle.zprotocol.specs.server.Machine.{Does}
use Rattle.zprotocol.specs.server.View.{ServerView, Neighbour, Transfer, MessageOf, Post}
use Rattle.zprotocol.specs.server.Table.{ServerResult, ack_posts, answer_posts, forward_post, entries_above, missing_posts}
use Rattle.zprotocol.specs.server.support.Cases.{IsAccepted, Processes, Forwards, IsRow, Ignores, Submits, Updates}
use Rattle.zprotocol.specs.server.support.Cases.{Asks, Acknowledges, Shows, Turns, Follows, Leads, Ends}
use Rattle.zprotocol.specs.client.View.{ClientView}
use Rattle.zprotocol.specs.client.Table.{call_posts, outstanding_posts}
use Rattle.zprotocol.specs.master.View.{MasterView, with_number, members, is_joining, first_of, head_of, tail_of}
use Rattle.zprotocol.specs.declared.master.order.Order.{Order}
use Rattle.zprotocol.specs.declared.master.order.Order.TheVariants.{Join, Retire}
use Rattle.zprotocol.specs.master.Order.{server_of}
use Rattle.zprotocol.specs.master.Table.{before, config_posts, MendedChain, order_step}
use Rattle.zprotocol.specs.master.support.Cases as master
use Rattle.zprotocol.specs.Places.{is_server}
use Rattle.zprotocol.specs.world.support.Within.{is_process, IsServer, IsNamed, IsNear, IsOfClient, SpeaksWithin}
use Rattle.zprotocol.specs.world.support.Within.{GoesWithin, IsViewWithin, IsMemberWithin}

-- a fact of all that two lists hold
pub all_both : {A : Type 0} (P : A → Type 0) (xs ys : List A) → AllByRecursion P xs → AllByRecursion P ys → AllByRecursion P (xs ++ ys)
all_both P [] ys first second = second
all_both P (x ∷ xs) ys first second = (first.0, all_both P xs ys first.1 second)

-- a choice between two lists
all_chosen : {A : Type 0} (P : A → Type 0) (b : Bool) (xs ys : List A) → AllByRecursion P xs → AllByRecursion P ys
    → AllByRecursion P (if b then xs else ys)
all_chosen P true xs ys first second = first
all_chosen P false xs ys first second = second

-- what is left of a list
all_filtered : {A : Type 0} (P : A → Type 0) (test : A → Bool) (xs : List A) → AllByRecursion P xs → AllByRecursion P (filter test xs)
all_filtered P test [] all = tt
all_filtered P test (x ∷ xs) all =
    all_chosen P (test x) (x ∷ filter test xs) (filter test xs) (all.0, all_filtered P test xs all.1) (all_filtered P test xs all.1)

-- the front of a list, and what follows
all_front : {A : Type 0} (P : A → Type 0) (xs ys : List A) → AllByRecursion P (xs ++ ys) → AllByRecursion P xs × AllByRecursion P ys
all_front P [] ys all = (tt, all)
all_front P (x ∷ xs) ys all = let rest = all_front P xs ys all.1 in ((all.0, rest.0), rest.1)

-- the numbers of a chain
numbers_within : (chain : List Neighbour) → AllByRecursion IsMemberWithin chain
    → AllByRecursion (λ s. is_server s ≡ true) (map (λ member. member.0) chain)
numbers_within [] all = tt
numbers_within (t ∷ chain) all = (all.0, numbers_within chain all.1)

first_within : (xs : List ℕ) → AllByRecursion (λ s. is_server s ≡ true) xs → IsNamed (first_of xs)
first_within [] all = tt
first_within (x ∷ xs) all = all.0

last_within : (o : Option ℕ) (xs : List ℕ) → IsNamed o → AllByRecursion (λ s. is_server s ≡ true) xs → IsNamed (last_or o xs)
last_within o [] named all = named
last_within o (x ∷ xs) named all = last_within (Some x) xs all.0 all.1

named_if : (b : Bool) (x y : Option ℕ) → IsNamed x → IsNamed y → IsNamed (if b then x else y)
named_if true x y first second = first
named_if false x y first second = second

before_within : (s epoch : ℕ) (chain : List Neighbour) → AllByRecursion IsMemberWithin chain → IsNamed (before s epoch chain)
before_within s epoch [] all = tt
before_within s epoch (p ∷ []) all = tt
before_within s epoch (p ∷ (t ∷ rest)) all = named_if ((t.0 == s) && (t.1 == epoch)) (Some p.0) (before s epoch (t ∷ rest))
    all.0 (before_within s epoch (t ∷ rest) all.1)

-- the used numbers with one more
more_used : (s : ℕ) (numbers : List ℕ) → is_server s ≡ true → AllByRecursion IsServer numbers → AllByRecursion IsServer (with_number s numbers)
more_used s [] is all = (is, tt)
more_used s (number ∷ numbers) is all =
    all_chosen IsServer (number == s) (number ∷ numbers) (if nat_lt s number then s ∷ number ∷ numbers else number ∷ with_number s numbers) all
    (all_chosen IsServer (nat_lt s number) (s ∷ number ∷ numbers) (number ∷ with_number s numbers) (is, all) (all.0, more_used s numbers is all.1))

-- the master, with as many clients
pub record IsMasterWithin (n : ℕ) (v : MasterView) : Type 0 where
  pub counted : v.clients ≡ n
  pub chain : AllByRecursion IsMemberWithin v.chain
  pub used : AllByRecursion IsServer v.used

module _ (M : Type 0) (n : ℕ) where
  -- what is put goes within
  abbrev GoWithin : List (Post M) → Type 0
  GoWithin posts = AllByRecursion (GoesWithin n) posts

  acks_within : (pred : Option Neighbour) (k : ℕ) → IsNear pred → GoWithin (ack_posts pred k)
  acks_within None k near = tt
  acks_within (Some pred) k near = ((near, tt), tt)

  answers_within : (e : Entry) (reply : Option Reply) → nat_lt e.client n ≡ true → GoWithin (answer_posts e reply)
  answers_within e None within = tt
  answers_within e (Some reply) within = ((within, tt), tt)

  forwards_within : (succ : Neighbour) (sent : List (ℕ × Entry)) → is_server succ.0 ≡ true → AllByRecursion (IsOfClient n) sent
      → GoWithin (map (forward_post succ) sent)
  forwards_within succ [] near all = tt
  forwards_within succ (e ∷ sent) near all = ((near, all.0), forwards_within succ sent near all.1)

  -- a server's new view and what it puts
  abbrev IsResultWithin : ServerResult M → Type 0
  IsResultWithin r = IsViewWithin n r.0 × GoWithin r.1

  accepted_within : (does : Does M) (v : ServerView M) (m : M) (k : ℕ) (e : Entry) (r : ServerResult M) → IsViewWithin n v → nat_lt e.client n ≡ true
      → IsAccepted does v m k e r → IsResultWithin r
  accepted_within does v m k e _ view within (Processes none) = (
    record { near_pred = view.near_pred; near_succ = view.near_succ; of_clients = view.of_clients },
    all_both (GoesWithin n) _ _ (answers_within e (does.apply m e).1 within) (acks_within v.pred k view.near_pred),
  )
  accepted_within does v m k e _ view within (Forwards succ is) =
      let near : IsNear (Some succ) = subst IsNear is view.near_succ in (
        record {
          near_pred = view.near_pred;
          near_succ = view.near_succ;
          of_clients = all_both (IsOfClient n) v.sent ((k, e) ∷ []) view.of_clients (within, tt);
        },
        ((near, within), tt),
      )

  missing_within : (v : ServerView M) (m : M) (t epoch : ℕ) (last : Option ℕ) → IsViewWithin n v → is_server t ≡ true
      → GoWithin (missing_posts v m (t, epoch) last)
  missing_within v m t epoch None view near = ((near, tt), tt)
  missing_within v m t epoch (Some k) view near =
      forwards_within (t, epoch) (entries_above k v.sent) near (all_filtered (IsOfClient n) (λ e. nat_lt k e.0) v.sent view.of_clients)

  acks_all_within : (v : ServerView M) (machine : Option M) → IsViewWithin n v
      → GoWithin (elim machine [ None ↦ [] | Some m ↦ ack_posts v.pred v.last ])
  acks_all_within v None view = tt
  acks_all_within v (Some m) view = acks_within v.pred v.last view.near_pred

  -- a server's row
  pub row_within : (does : Does M) (v : ServerView M) → IsViewWithin n v → (from : Process) (m : MessageOf M) (r : ServerResult M)
      → is_process n from ≡ true → SpeaksWithin n m → IsRow does v from m r → IsResultWithin r
  row_within does v view _ _ _ from within (Ignores f m) = (view, tt)
  row_within does v view _ _ r from within (Submits c number update m r' is none room accepted) =
      accepted_within does v m _ (record { client = c; number = number; update = update }) r view from accepted
  row_within does v view _ _ r from within (Updates p epoch k e m r' is near next room accepted) = accepted_within does v m k e r view within accepted
  row_within does v view _ _ _ from within (Asks c number query m is none) = (view, ((from, tt), tt))
  row_within does v view _ _ _ from within (Acknowledges t epoch k is) = (
    record {
      near_pred = view.near_pred;
      near_succ = view.near_succ;
      of_clients = all_filtered (IsOfClient n) (λ e. nat_lt k e.0) v.sent view.of_clients;
    },
    acks_within v.pred k view.near_pred,
  )
  row_within does v view _ _ _ from within (Shows p epoch transfer none is) =
      (record { near_pred = view.near_pred; near_succ = view.near_succ; of_clients = tt }, ((from, tt), ((refl, tt), tt)))
  row_within does v view _ _ _ from within (Turns epoch p) =
      (record { near_pred = within; near_succ = view.near_succ; of_clients = view.of_clients }, ((refl, tt), tt))
  row_within does v view _ _ _ from within (Follows epoch t last m is) = (
    record { near_pred = view.near_pred; near_succ = within; of_clients = view.of_clients },
    missing_within v m t epoch last view within,
  )
  row_within does v view _ _ _ from within (Leads epoch) =
      (record { near_pred = tt; near_succ = view.near_succ; of_clients = view.of_clients }, tt)
  row_within does v view _ _ _ from within (Ends epoch) =
      (record { near_pred = view.near_pred; near_succ = tt; of_clients = tt }, acks_all_within v v.machine view)

  -- what a client puts
  calls_within : (head tail : Option ℕ) (number : ℕ) (c : Call) → IsNamed head → IsNamed tail → GoWithin (call_posts head tail number c)
  calls_within None tail number (call.Update update) h t = tt
  calls_within (Some s) tail number (call.Update update) h t = ((h, tt), tt)
  calls_within head None number (call.Query query) h t = tt
  calls_within head (Some s) number (call.Query query) h t = ((t, tt), tt)

  pub outstanding_within : (v : ClientView) (waits : Option (ℕ × Call)) → IsNamed v.head → IsNamed v.tail
      → GoWithin (outstanding_posts (record v { outstanding = waits }))
  outstanding_within v None h t = tt
  outstanding_within v (Some w) h t = calls_within v.head v.tail w.0 w.1 h t

  clients_within : (epoch : ℕ) (head tail : Option ℕ) (from count : ℕ) → from + count ≤ n → IsNamed head → IsNamed tail
      → GoWithin (map (λ c. (Client c, message.Config epoch head tail)) (range_with_len from count))
  clients_within epoch head tail from zero few h t = tt
  clients_within epoch head tail from (suc count) few h t =
      ((lt-ltb from n (omega (arith, few)), (h, t)), clients_within epoch head tail (from + 1) count (omega (arith, few)) h t)

  configs_within : (v : MasterView) → IsMasterWithin n v → GoWithin (config_posts v)
  configs_within v within =
      let all = numbers_within v.chain within.chain in
      let head : IsNamed (head_of v) = first_within (members v) all in
      clients_within v.epoch (head_of v) (tail_of v) 0 v.clients (omega (arith, within.counted)) head
      (last_within (head_of v) (filter (λ s. not (is_joining v s)) (members v)) head
      (all_filtered (λ s. is_server s ≡ true) (λ s. not (is_joining v s)) (members v) all))

  mended_within : (epoch s : ℕ) (chain : List Neighbour) (done : MendedChain (Transfer M)) → AllByRecursion IsMemberWithin chain
      → master.IsMended epoch s chain done
      → AllByRecursion IsMemberWithin done.0 × GoWithin done.1
  mended_within epoch s _ _ all (master.Only k) = (tt, tt)
  mended_within epoch s _ _ all (master.First k t rest) = (all.1, ((all.1.0, tt), tt))
  mended_within epoch s _ _ all (master.Last front p k) =
      let parts = all_front IsMemberWithin front (p ∷ (s, k) ∷ []) all in
      (all_both IsMemberWithin front (p ∷ []) parts.0 (parts.1.0, tt), ((parts.1.0, tt), tt))
  mended_within epoch s _ _ all (master.Between front p k t rest) =
      let parts = all_front IsMemberWithin front (p ∷ (s, k) ∷ t ∷ rest) all in
      (all_both IsMemberWithin front (p ∷ (t.0, epoch) ∷ rest) parts.0 (parts.1.0, (parts.1.1.1.0, parts.1.1.1.1)), ((parts.1.1.1.0, parts.1.0), tt))

  -- the master's row
  pub master_within : (v : MasterView) → IsMasterWithin n v → (from : Process) (m : MessageOf M) (r : MasterView × List (Post M))
      → is_process n from ≡ true → master.IsMasterRow v from m r → IsMasterWithin n r.0 × GoWithin r.1
  master_within v within _ _ _ from (master.Ignores f m) = (within, tt)
  master_within v within _ _ _ from (master.Reports s epoch last p is) =
      let named : IsNamed (Some p) = subst IsNamed is (before_within s epoch v.chain within.chain) in
      (within, ((named, from), tt))
  master_within v within _ _ _ from (master.Joins s epoch is) =
      let w : MasterView = record v { joining = None; epoch = v.epoch + 1 } in
      let same : IsMasterWithin n w = record { counted = within.counted; chain = within.chain; used = within.used } in
      (same, configs_within w same)
  master_within v within _ _ _ from (master.LeavesOutside s out) =
      (record { counted = within.counted; chain = within.chain; used = more_used s v.used from within.used }, tt)
  master_within v within _ _ _ from (master.Leaves s chain among mended) =
      let left = mended_within (v.epoch + 1) s v.chain chain within.chain mended in
      let same : IsMasterWithin n (master.after_gone v s chain) = record { counted = within.counted; chain = left.0; used = within.used } in
      (same, all_both (GoesWithin n) chain.1 (config_posts (master.after_gone v s chain)) left.1 (configs_within (master.after_gone v s chain) same))

  -- a join, by the last member that is found
  join_found : MasterView → ℕ → Option ℕ → MasterView × List (Post M)
  join_found v s None = (v, [])
  join_found v s (Some last) = (
    record v { chain = v.chain ++ (s, v.epoch + 1) ∷ []; joining = Some s; used = with_number s v.used; epoch = v.epoch + 1 },
    (Server s, message.NewPred (v.epoch + 1) last) ∷ [],
  )

  found_within : (v : MasterView) (s : ℕ) → IsMasterWithin n v → is_server s ≡ true → (found : Option ℕ) → IsNamed found
      → IsMasterWithin n (join_found v s found).0 × GoWithin (join_found v s found).1
  unfolding join_found
  found_within v s within is None named = (within, tt)
  found_within v s within is (Some last) named = (
    record {
      counted = within.counted;
      chain = all_both IsMemberWithin v.chain ((s, v.epoch + 1) ∷ []) within.chain (is, tt);
      used = more_used s v.used is within.used;
    },
    ((is, named), tt),
  )

  -- an order
  pub order_within : (v : MasterView) (order : Order) → IsMasterWithin n v → is_server (server_of order) ≡ true
      → IsMasterWithin n (order_step {T = Transfer M} v order).0 × GoWithin (order_step {T = Transfer M} v order).1
  unfolding order_step join_found
  order_within v (Join s) within is = found_within v s within is (last_or None (members v))
      (last_within None (members v) tt (numbers_within v.chain within.chain))
  order_within v (Retire s) within is = (record { counted = within.counted; chain = within.chain; used = within.used }, ((is, tt), tt))
