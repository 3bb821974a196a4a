-- What is in flight after messages are put or a front is taken, and a family after one value is
-- replaced.
use Rattle.std.specs.Prelude.{◌&&◌}
use Rattle.std.proofs.Common.{◌≡◌, ◌⊎◌, ℕ, false, cond, ◌==◌, List, [], ◌∷◌, ◌++◌, drop, map, refl, sym, ap, subst, inl, inr, eqb-true, eq-eqb}
use Rattle.zcalls.specs.Lists.{Among}
use Rattle.zcalls.proofs.Among.{test, among_cases}
use Rattle.zprotocol.specs.declared.process.Process.{Process}
use Rattle.zprotocol.specs.server.View.{MessageOf, Post}
use Rattle.zprotocol.specs.world.Links.{Links, is_same, messages_to, put, without_front}
use Rattle.zprotocol.specs.world.World.{at}
use Rattle.zprotocol.proofs.world_lemmas.Processes.{same_process}

-- one value of a family
pub at_cases : {V : Type 0} (P : V → Type 0) (n : ℕ) (v : V) (f : ℕ → V) (m : ℕ) → (m ≡ n → P v) → ((m == n) ≡ false → P (f m)) → P (at n v f m)
at_cases P n v f m same other = elim (test (m == n)) [ inl t ↦ rw t (same (eqb-true _ _ t)) | inr f ↦ rw f (other f) ]

-- the value that was replaced
pub at_same : {V : Type 0} (n : ℕ) (v : V) (f : ℕ → V) → at n v f n ≡ v
at_same n v f = ap (λ b. cond b v (f n)) (eq-eqb n n refl)

-- what is replaced by itself stays
at_itself_by : {V : Type 0} (n : ℕ) (f : ℕ → V) (m : ℕ) → at n (f n) f m ≡ f m
at_itself_by n f m = elim (test (m == n)) [ inl e ↦ rw e (ap f (sym (eqb-true m n e))) | inr other ↦ rw other refl ]

pub at_itself : {V : Type 0} (n : ℕ) (f : ℕ → V) → at n (f n) f ≡ f
at_itself n f = λ i m. at_itself_by n f m i

-- the others
pub at_other : {V : Type 0} (n : ℕ) (v : V) (f : ℕ → V) (m : ℕ) → (m == n) ≡ false → at n v f m ≡ f m
at_other n v f m e = ap (λ b. cond b v (f m)) e

module _ {M : Type 0} where
  -- what is put for a receiver
  addressed_among : (to : Process) (posts : List (Post M)) (m : MessageOf M) → Among m (messages_to to posts) → Among (to, m) posts
  addressed_among to [] m a = absurd a
  addressed_among to (post ∷ posts) m a = elim (test (is_same to post.0)) [
    | inl t ↦ first (addressed_among to posts m) (same_process to post.0 t)
        (subst (λ l. Among m l) (ap (λ b. cond b (post.1 ∷ messages_to to posts) (messages_to to posts)) t) a)
    | inr f ↦ inr (addressed_among to posts m (subst (λ l. Among m l) (ap (λ b. cond b (post.1 ∷ messages_to to posts) (messages_to to posts)) f) a))
  ]
    where
      first : (Among m (messages_to to posts) → Among (to, m) posts) → to ≡ post.0 → Among m (post.1 ∷ messages_to to posts)
          → Among (to, m) (post ∷ posts)
      first rest same (inl e) = inl (λ i. (sym same i, e i))
      first rest same (inr b) = inr (rest b)

  -- what is in flight was there, or was put
  pub put_among : (links : Links M) (sender : Process) (posts : List (Post M)) (from to : Process) (m : MessageOf M)
      → Among m (put links sender posts from to) → Among m (links from to) ⊎ ((from ≡ sender) × Among (to, m) posts)
  put_among links sender posts from to m a = elim (test (is_same from sender)) [
    | inl t ↦ elim (among_cases m (links from to) (messages_to to posts)
        (subst (λ l. Among m l) (ap (λ b. cond b (links from to ++ messages_to to posts) (links from to)) t) a)) [
          | inl old ↦ inl old
          | inr new ↦ inr (same_process from sender t, addressed_among to posts m new)
        ]
    | inr f ↦ inl (subst (λ l. Among m l) (ap (λ b. cond b (links from to ++ messages_to to posts) (links from to)) f) a)
  ]

  -- what is in flight without a front was there
  drop_among : (link : List (MessageOf M)) (m : MessageOf M) → Among m (drop 1 link) → Among m link
  drop_among [] m a = a
  drop_among (x ∷ link) m a = inr a

  -- what is in flight without a front was in flight with it
  pub front_among : (links : Links M) (sender taker from to : Process) (m : MessageOf M) → Among m (without_front links sender taker from to)
      → Among m (links from to)
  front_among links sender taker from to m a = elim (test (is_same from sender && is_same to taker)) [
    | inl t ↦ drop_among (links from to) m (subst (λ l. Among m l) (ap (λ b. cond b (drop 1 (links from to)) (links from to)) t) a)
    | inr f ↦ subst (λ l. Among m l) (ap (λ b. cond b (drop 1 (links from to)) (links from to)) f) a
  ]

  -- all of some posts
  abbrev pub AllPosts : (MessageOf M → Type 0) → List (Post M) → Type 0
  AllPosts Q posts = (post : Post M) → Among post posts → Q post.1

  -- of no posts
  pub all_none : (Q : MessageOf M → Type 0) → AllPosts Q []
  all_none Q post a = absurd a

  -- of one post more
  pub all_and : (Q : MessageOf M → Type 0) (first : Post M) (posts : List (Post M)) → Q first.1 → AllPosts Q posts → AllPosts Q (first ∷ posts)
  all_and Q first posts h k post (inl e) = subst (λ (p : Post M). Q p.1) e h
  all_and Q first posts h k post (inr a) = k post a

  -- of posts after posts
  pub all_append : (Q : MessageOf M → Type 0) (posts more : List (Post M)) → AllPosts Q posts → AllPosts Q more → AllPosts Q (posts ++ more)
  all_append Q posts more h k post a = elim (among_cases post posts more a) [ inl b ↦ h post b | inr c ↦ k post c ]

  -- of a post for each
  pub all_map : {A : Type 0} (Q : MessageOf M → Type 0) (f : A → Post M) (xs : List A) → ((x : A) → Q (f x).1) → AllPosts Q (map f xs)
  all_map Q f [] h = all_none Q
  all_map Q f (x ∷ xs) h = all_and Q (f x) (map f xs) (h x) (all_map Q f xs h)
