-- An entry has one order at most, so a replica hands out all that the master sends to its server.
use Rattle.std.proofs.Common.{◌≡◌, ℕ, ◌+◌, Bool, true, false, cond, Option, None, Some, List, [], ◌∷◌, ◌++◌, refl, sym, ap, subst, ◌∙◌}
use Rattle.std.specs.List.{last_or}
use Rattle.std.specs.Option.{option_to_list}
use Rattle.zprotocol.specs.declared.message.Message.{Message}
use Rattle.zprotocol.specs.declared.message.Message.TheVariants as message
use Rattle.zprotocol.specs.declared.process.Process.{Process}
use Rattle.zprotocol.specs.declared.process.Process.TheVariants.{Server}
use Rattle.zprotocol.specs.declared.master.order.Order.{Order}
use Rattle.zprotocol.specs.declared.master.order.Order.TheVariants as order
use Rattle.zprotocol.specs.server.View.{Neighbour, PostOf}
use Rattle.zprotocol.specs.master.View.{MasterView, members, with_number}
use Rattle.zprotocol.specs.master.Table.{MasterResult, MendedChain, config_posts, no_effect, order_step, without_member}
use Rattle.zprotocol.specs.master.support.Cases.{IsMended, Only, First, Last, Between, IsMasterRow, Ignores, Reports, Joins, LeavesOutside, Leaves}
use Rattle.zprotocol.proofs.master_lemmas.Cases.{master_case}
use Rattle.zprotocol.proofs.master_lemmas.Orders.{order_counts}
use Rattle.zmaster_log.specs.declared.entry.LogEntry.{LogEntry}
use Rattle.zmaster_log.specs.declared.entry.LogEntry.TheVariants as log
use Rattle.zmaster_log.specs.Log.{MembershipView, Played, subject_of, message_of, is_this_server, opened, may_join, joins, may_retire, retires, is_next, takes, join_played, retire_played, report_played, plays, plays_all, skipped, messages_to, first_to}
use Rattle.zmaster_log.specs.Laws.{orders_handed, OrdersAreTheMasters}

module _ (T : Type 0) where
  -- one message at most
  abbrev IsFew : List (PostOf T) → Type 0
  IsFew [] = Unit {0}
  IsFew (post ∷ []) = Unit {0}
  IsFew (post ∷ other ∷ posts) = ⊥

  -- a master without clients sends no configuration
  no_config : (v : MasterView) → v.clients ≡ 0 → config_posts {T = T} v ≡ []
  no_config v none = rw none refl

  few_before : (v : MasterView) (posts : List (PostOf T)) → v.clients ≡ 0 → IsFew posts → IsFew (posts ++ config_posts v)
  few_before v [] none few = subst IsFew (sym (no_config v none)) tt
  few_before v (post ∷ []) none few = subst (λ (more : List (PostOf T)). IsFew (post ∷ more)) (sym (no_config v none)) tt
  few_before v (post ∷ other ∷ posts) none few = absurd few

  few_mended : (epoch s : ℕ) (chain : List Neighbour) (done : MendedChain T) → IsMended epoch s chain done → IsFew done.1
  few_mended epoch s _ _ (Only k) = tt
  few_mended epoch s _ _ (First k t rest) = tt
  few_mended epoch s _ _ (Last front p k) = tt
  few_mended epoch s _ _ (Between front p k t rest) = tt

  -- ---- the table

  few_row : (v : MasterView) → v.clients ≡ 0 → (from : Process) (m : Message T) (r : MasterResult T) → IsMasterRow v from m r → IsFew r.1
  few_row v none _ _ _ (Ignores from m) = tt
  few_row v none _ _ _ (Reports s epoch last p is) = tt
  few_row v none _ _ _ (Joins s epoch is) = few_before (record v { joining = None; epoch = v.epoch + 1 }) [] none tt
  few_row v none _ _ _ (LeavesOutside s out) = tt
  few_row v none _ _ _ (Leaves s chain among mended) = few_before (without_member v s chain.0) chain.1 none (few_mended (v.epoch + 1) s v.chain chain mended)

  row_counts : (v : MasterView) (from : Process) (m : Message T) (r : MasterResult T) → IsMasterRow v from m r → r.0.clients ≡ v.clients
  row_counts v _ _ _ (Ignores from m) = refl
  row_counts v _ _ _ (Reports s epoch last p is) = refl
  row_counts v _ _ _ (Joins s epoch is) = refl
  row_counts v _ _ _ (LeavesOutside s out) = refl
  row_counts v _ _ _ (Leaves s chain among mended) = refl

  few_ordered : (v : MasterView) (o : Order) → IsFew (order_step {T = T} v o).1
  unfolding order_step
  few_ordered v (order.Join s) = by (last_or None (members v))
    where
      by : (last : Option ℕ) → IsFew (elim last as (λ _. MasterResult T) [
        | None ↦ no_effect v
        | Some l ↦ (
          record v { chain = v.chain ++ (s, v.epoch + 1) ∷ []; joining = Some s; used = with_number s v.used; epoch = v.epoch + 1 },
          (Server s, message.NewPred (v.epoch + 1) l) ∷ [],
        )
      ]).1
      by None = tt
      by (Some l) = tt
  few_ordered v (order.Retire s) = tt

  -- ---- one entry

  -- nothing is sent by what is skipped, and the master stays
  few_if : (test : Bool) (m : MembershipView) (did : Played T) → IsFew did.1 → IsFew (cond test did (skipped m)).1
  few_if true m did few = few
  few_if false m did few = tt

  none_if : (test : Bool) (m : MembershipView) (did : Played T) → m.master.clients ≡ 0 → did.0.master.clients ≡ 0 → (cond test did (skipped m)).0.master.clients ≡ 0
  none_if true m did none also = also
  none_if false m did none also = none

  few_played : (m : MembershipView) (entry : LogEntry) → m.master.clients ≡ 0 → IsFew (plays {T = T} m entry).1
  unfolding join_played retire_played report_played
  few_played m (log.Opening nodes) none = tt
  few_played m (log.Join s node) none = few_if (may_join m s) m (joins m s node) (few_ordered m.master (order.Join s))
  few_played m (log.Retire s) none = few_if (may_retire m s) m (retires m s) (few_ordered m.master (order.Retire s))
  few_played m (log.Reported r) none =
      few_if (is_next m r) m (takes m r) (few_row m.master none _ _ _ (master_case m.master (Server (subject_of r.author r.news)) (message_of r.news)))

  still_none : (m : MembershipView) (entry : LogEntry) → m.master.clients ≡ 0 → (plays {T = T} m entry).0.master.clients ≡ 0
  unfolding join_played retire_played report_played
  still_none m (log.Opening nodes) none = none
  still_none m (log.Join s node) none = none_if (may_join m s) m (joins m s node) none (order_counts T m.master (order.Join s) ∙ none)
  still_none m (log.Retire s) none = none_if (may_retire m s) m (retires m s) none (order_counts T m.master (order.Retire s) ∙ none)
  still_none m (log.Reported r) none =
      none_if (is_next m r) m (takes m r) none (row_counts m.master _ _ _ (master_case {T = T} m.master (Server (subject_of r.author r.news)) (message_of r.news)) ∙ none)

  -- ---- all entries

  -- the messages of both parts
  messages_append : (s : ℕ) (posts more : List (PostOf T)) → messages_to s (posts ++ more) ≡ messages_to s posts ++ messages_to s more
  messages_append s [] more = refl
  messages_append s (post ∷ posts) more = by (messages_append s posts more) (is_this_server s post.0)
    where
      by : messages_to s (posts ++ more) ≡ messages_to s posts ++ messages_to s more → (test : Bool) → cond test (post.1 ∷ messages_to s (posts ++ more)) (messages_to s (posts ++ more))
          ≡ cond test (post.1 ∷ messages_to s posts) (messages_to s posts) ++ messages_to s more
      by rest true = ap (λ (ms : List (Message T)). post.1 ∷ ms) rest
      by rest false = rest

  -- the first of one at most is all
  one_is_all : (s : ℕ) (posts : List (PostOf T)) → IsFew posts → option_to_list (first_to s posts) ≡ messages_to s posts
  one_is_all s [] few = refl
  one_is_all s (post ∷ []) few = by (is_this_server s post.0)
    where
      by : (test : Bool) → option_to_list (cond test (Some post.1) None) ≡ cond test (post.1 ∷ []) []
      by true = refl
      by false = refl
  one_is_all s (post ∷ other ∷ posts) few = absurd few

  handed : (s : ℕ) (m : MembershipView) (entries : List LogEntry) → m.master.clients ≡ 0 → orders_handed {T = T} s m entries ≡ messages_to s (plays_all m entries).1
  handed s m [] none = refl
  handed s m (entry ∷ entries) none =
      let first = plays {T = T} m entry in
      ap (λ (ms : List (Message T)). ms ++ orders_handed s first.0 entries) (one_is_all s first.1 (few_played m entry none))
      ∙ ap (λ (ms : List (Message T)). messages_to s first.1 ++ ms) (handed s first.0 entries (still_none m entry none))
      ∙ sym (messages_append s first.1 (plays_all first.0 entries).1)

  pub orders_are_the_masters : OrdersAreTheMasters T
  unfolding opened
  orders_are_the_masters nodes entries s = handed s (opened nodes) entries refl
