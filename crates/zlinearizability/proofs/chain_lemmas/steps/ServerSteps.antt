-- A server takes a message that isn't the master's: the step of its view is sound, and so is what
-- it puts that no one reads.
use Rattle.std.specs.Prelude.{is_none}
use Rattle.std.proofs.Common.{◌≡◌, ℕ, true, false, List, [], ◌∷◌, ◌++◌, length, Option, Some, None, refl, sym, ap, ◌∙◌}
use Rattle.std.proofs.Common.{subst, inl, inr, append-nil, append_assoc}
use Rattle.std.proofs.Math.Seq.{drop-length}
use Rattle.zcalls.specs.declared.call.Entry.{Entry}
use Rattle.zcalls.specs.declared.reply.Reply.{Reply}
use Rattle.zcalls.specs.Lists.{Among}
use Rattle.zcalls.specs.Cached.{Plain}
use Rattle.zcalls.specs.Acts.{after_log, acts_from}
use Rattle.zcalls.proofs.Among.{test}
use Rattle.zprotocol.specs.declared.process.Process.{Process}
use Rattle.zprotocol.specs.declared.process.Process.TheVariants.{Master, Server}
use Rattle.zprotocol.specs.server.View.{ServerView, Neighbour, Post}
use Rattle.zprotocol.specs.server.Table.{ack_posts, answer_posts}
use Rattle.zprotocol.specs.master.View.{is_among}
use Rattle.zprotocol.specs.world.Links.{Links, is_same, messages_to, put}
use Rattle.zlinearizability.specs.legal.Prefix.{IsPrefix}
use Rattle.zlinearizability.specs.legal.Items.{Item, IsGiven, all_at_time, new_items}
use Rattle.zlinearizability.proofs.legal_lemmas.lists.Prefixes.{prefix_of, prefix_same}
use Rattle.zlinearizability.specs.chain.Flow.{LogWorld, Log, or_else, first_snapshot_by, first_log}
use Rattle.zlinearizability.specs.chain.Chain.{IsMember}
use Rattle.zlinearizability.specs.chain.Messages.{IsJustified}
use Rattle.zlinearizability.specs.chain.Account.{Account, tail_log, committed_after}
use Rattle.zlinearizability.specs.chain.Sound.{IsSound, IsSoundAfter, TailHoldsCommitted}
use Rattle.zlinearizability.proofs.chain_lemmas.links.Links.{at_same, at_cases}
use Rattle.zlinearizability.proofs.chain_lemmas.steps.Puts.{IsUnread, unread_foreign, account_with_put, put_unread}
use Rattle.zlinearizability.proofs.chain_lemmas.steps.Takes.{with_view, committed_view}
use Rattle.zlinearizability.proofs.chain_lemmas.steps.Views.{IsGoodView, view_sound}
use Rattle.zlinearizability.proofs.chain_lemmas.steps.Commits.{commit_sound}

-- messages put one after the other
abbrev pub account_with_puts : Account → ℕ → List (Post (List Entry)) → Account
account_with_puts t y [] = t
account_with_puts t y (post ∷ posts) = account_with_puts (account_with_put t y post.0 post.1) y posts

-- are put at once
put_more : {M : Type 0} (links : Links M) (sender : Process) (post : Post M) (posts : List (Post M)) (p q : Process)
    → put (put links sender (post ∷ [])) sender posts p q ≡ put links sender (post ∷ posts) p q
put_more links sender post posts p q = elim (test (is_same p sender)) [
  | inl t ↦ rw t (elim (test (is_same q post.0)) [
    | inl s ↦ rw s (append_assoc (links p q) (post.1 ∷ []) (messages_to q posts))
    | inr f ↦ rw f (ap (λ l. l ++ messages_to q posts) (append-nil (links p q)))
  ])
  | inr f ↦ rw f refl
]

put_none : {M : Type 0} (links : Links M) (sender p q : Process) → put links sender [] p q ≡ links p q
put_none links sender p q = elim (test (is_same p sender)) [ inl t ↦ rw t (append-nil (links p q)) | inr f ↦ rw f refl ]

-- one after the other or at once is the same
pub puts_at_once : (t : Account) (y : ℕ) (posts : List (Post (List Entry))) → account_with_puts t y posts
    ≡ record t { world = record t.world { links = put t.world.links (Server y) posts } }
puts_at_once t y [] = λ i. record t { world = record t.world { links = λ p q. sym (put_none t.world.links (Server y) p q) i } }
puts_at_once t y (post ∷ posts) =
    puts_at_once (account_with_put t y post.0 post.1) y posts
    ∙ (λ i. record t { world = record t.world { links = λ p q. put_more t.world.links (Server y) post posts p q i } })

-- a message that no one reads, and that is justified
abbrev pub IsUnreadAndJustified : LogWorld → List Item → ℕ → Post (List Entry) → Type 0
IsUnreadAndJustified w items y post = IsUnread post.1 × IsJustified w items (Server y) post.0 post.1

-- a run after messages were put continues from where it was before them
pub after_puts : {P : Type 0} (plain : Plain P) (t u later : Account) (y : ℕ) (posts : List (Post (List Entry))) → account_with_puts u y posts ≡ later
    → IsSound plain (account_with_puts u y posts) → IsPrefix t.committed u.committed → IsSoundAfter plain t later
after_puts plain t u later y posts is sound begins =
    (subst (IsSound plain) is sound, subst (λ (v : Account). IsPrefix t.committed v.committed) (sym (puts_at_once u y posts) ∙ is) begins)

-- such messages are put
pub puts_unread : {P : Type 0} (plain : Plain P) (t : Account) (y : ℕ) (posts : List (Post (List Entry)))
    → ((post : Post (List Entry)) → Among post posts → IsUnread post.1 × IsJustified t.world t.items (Server y) post.0 post.1)
    → IsSound plain t → IsSound plain (account_with_puts t y posts)
puts_unread plain t y [] good s = s
puts_unread plain t y (post ∷ posts) good s =
    let first = good post (inl refl) in
    puts_unread plain (account_with_put t y post.0 post.1) y posts (λ q a. good q (inr a))
    (put_unread plain t y post.0 post.1 (unread_foreign post.1 first.0) first.1 s)

-- acknowledgements
pub acks_unread : (w : LogWorld) (items : List Item) (y : ℕ) (pred : Option Neighbour) (n : ℕ) (post : Post (List Entry))
    → Among post (ack_posts pred n)
    → IsUnread post.1 × IsJustified w items (Server y) post.0 post.1
acks_unread w items y None n post a = absurd a
acks_unread w items y (Some pred) n post (inl e) = subst (λ (q : Post (List Entry)). IsUnread q.1 × IsJustified w items (Server y) q.0 q.1) e (tt, tt)
acks_unread w items y (Some pred) n post (inr a) = absurd a

-- an answer to an entry
pub answers_unread : (w : LogWorld) (items : List Item) (y : ℕ) (e : Entry) (reply : Option Reply)
    → ((r : Reply) → reply ≡ Some r → IsGiven items e.client e.number r)
    → (post : Post (List Entry)) → Among post (answer_posts e reply) → IsUnread post.1 × IsJustified w items (Server y) post.0 post.1
answers_unread w items y e None given post a = absurd a
answers_unread w items y e (Some reply) given post (inl is) =
    subst (λ (q : Post (List Entry)). IsUnread q.1 × IsJustified w items (Server y) q.0 q.1) is (tt, given reply refl)
answers_unread w items y e (Some reply) given post (inr a) = absurd a

-- after a row: the view, the committed log and the items
abbrev pub account_with_view : {P : Type 0} → Plain P → Account → Process → ℕ → ServerView (List Entry) → Account
account_with_view plain t from y v =
    record {
      world = with_view t.world from y v;
      committed = committed_after (tail_log v) t.committed;
      items = t.items ++ new_items plain (length t.world.history) t.committed (committed_after (tail_log v) t.committed);
    }

-- the log of a tail
pub tail_log_is : (v : ServerView (List Entry)) (log : List Entry) → tail_log v ≡ Some log → (v.machine ≡ Some log) × (is_none v.succ ≡ true)
tail_log_is v log h = elim (test (is_none v.succ)) [
  | inl t ↦ (rw t at h, t)
  | inr f ↦ let is : ◌≡◌ {A = Log} None (Some log) = rw f at h in absurd (cc is)
]

-- who is a tail with a log has a tail's log
pub no_tail_log : (v : ServerView (List Entry)) (log : List Entry) → tail_log v ≡ None → v.machine ≡ Some log → is_none v.succ ≡ true → ⊥
no_tail_log v log none has ends = let is : ◌≡◌ {A = Log} None (Some log) = sym (rw ends at none) ∙ has in cc is

module _ {P : Type 0} (plain : Plain P) (t : Account) (s : IsSound plain t) (from : Process) (not_master : is_same Master from ≡ false)
    (y : ℕ) (v : ServerView (List Entry)) (good : IsGoodView t.world from y v)
    (shows : (log : List Entry) → first_log (with_view t.world from y v) y ≡ Some log
    → (shown : List Entry) × (first_log t.world y ≡ Some shown) × IsPrefix shown log)
    (alive : t.world.failed y ≡ false) where
  abbrev w : LogWorld
  w = t.world

  abbrev w1 : LogWorld
  w1 = with_view t.world from y v

  -- where the taker has a successor, or no log, nothing is committed
  quiet_tail : tail_log v ≡ None → TailHoldsCommitted w1 t.committed
  quiet_tail none z log member is ends =
      at_cases (λ u. u.machine ≡ Some log → is_none u.succ ≡ true → log ≡ t.committed) y v w.servers z
      (λ e a b. absurd (no_tail_log v log none a b)) (λ f. s.tail z log member) is ends

  quiet : tail_log v ≡ None → IsSound plain (record t { world = w1 })
  quiet none = view_sound plain t s from not_master y v good t.committed t.items (λ i a. a) (record {
    shown = committed_view w from y v t.committed shows s.committed;
    tail = quiet_tail none;
    committed_begun = s.committed_begun;
    acted = s.acted;
    replays = s.replays;
    rising = s.rising;
    in_time = s.in_time;
    answered = s.answered;
  })

  -- a tail is a member
  is_member : (log : List Entry) → tail_log v ≡ Some log → IsMember w y
  is_member log is = elim (test (is_among y w.master.used)) [
    | inl used ↦ s.live y used alive
    | inr f ↦ absurd (let blank = good.blank (λ h. cc (f, h)) in
        let none : ◌≡◌ {A = Log} None (Some log) = sym (ap tail_log blank) ∙ is in cc none)
  ]

  -- and holds what was committed
  tail_begins : (log : List Entry) → tail_log v ≡ Some log → IsPrefix t.committed log
  tail_begins log is =
      let view = at_same y v w.servers in
      let now : first_log w1 y ≡ Some log =
      ap (λ (u : ServerView (List Entry)). or_else u.machine (first_snapshot_by w1 y u.pred)) view
      ∙ ap (λ l. or_else l (first_snapshot_by w1 y v.pred)) (tail_log_is v log is).0 in
      let shown = shows log now in
      prefix_of t.committed shown.0 log (s.committed y shown.0 (is_member log is) shown.1) shown.2

  begins_by : (l : Log) → tail_log v ≡ l → IsPrefix t.committed (committed_after l t.committed)
  begins_by None is = prefix_same t.committed
  begins_by (Some log) is = tail_begins log is

  -- what was committed stays committed
  pub view_step_begins : IsPrefix t.committed (account_with_view plain t from y v).committed
  view_step_begins = begins_by (tail_log v) refl

  -- a tail commits its log, which may be what was committed
  commits : (log : List Entry) → tail_log v ≡ Some log
      → IsSound plain (record { world = w1; committed = log; items = t.items ++ new_items plain (length w.history) t.committed log })
  commits log is =
      let tail = tail_log_is v log is in
      commit_sound plain t s from y (is_member log is) v log tail.0 (tail_begins log is)
      (good.begun log tail.0) good.ahead (view_sound plain t s from not_master y v good)
      (λ z behind l has. let ahead = s.ordered y z behind l has in
      let ends : is_none (w.servers y).succ ≡ true = sym (ap is_none good.succ) ∙ tail.1 in
      let not : is_none (w.servers y).succ ≡ false = ahead.has_successor in cc (ends, not))

  nothing_new : (log : List Entry) → new_items plain (length w.history) log log ≡ []
  nothing_new log = ap (λ es. all_at_time (length w.history) (acts_from plain.update (after_log plain log) es)) (drop-length log)

  -- the view changes
  view_step : (l : Log) → tail_log v ≡ l → IsSound plain (record {
    world = w1;
    committed = committed_after l t.committed;
    items = t.items ++ new_items plain (length w.history) t.committed (committed_after l t.committed);
  })
  view_step None is =
      subst (λ more. IsSound plain (record { world = w1; committed = t.committed; items = t.items ++ more })) (sym (nothing_new t.committed))
      (subst (λ items. IsSound plain (record { world = w1; committed = t.committed; items = items })) (sym (append-nil t.items)) (quiet is))
  view_step (Some log) is = commits log is

  -- all facts hold after the step
  pub view_step_sound : IsSound plain (account_with_view plain t from y v)
  view_step_sound = view_step (tail_log v) refl
