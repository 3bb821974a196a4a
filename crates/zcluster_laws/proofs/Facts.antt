-- A head beside its log: its machine's state is that of the log, the committed log begins it, and
-- what has left Sent is committed.
use Rattle.std.specs.List.{list_any}
use Rattle.std.specs.Prelude.{◌||◌, ◌&&◌, not, is_none, nat_le, if◌then◌else◌}
use Rattle.std.proofs.Common.{◌≡◌, ℕ, ◌≤◌, Bool, true, false, List, map, length, Option, Some, None, refl, sym, ap, ◌∙◌, arith, [], ◌∷◌, inl, inr}
use Rattle.std.proofs.lemmas.Bool.Decides.{nat_tests}
use Rattle.zcalls.specs.declared.call.Entry.{Entry}
use Rattle.zcalls.specs.Cached.{Plain, CachedState}
use Rattle.zcalls.specs.Lists.{Among}
use Rattle.zcalls.proofs.Among.{test}
use Rattle.zprotocol.specs.server.Machine.{Does, machine_of}
use Rattle.zprotocol.specs.server.View.{ServerView, Neighbour}
use Rattle.zprotocol.specs.master.View.{is_among}
use Rattle.zprotocol.proofs.world_lemmas.Among.{among_map, among_image}
use Rattle.zlinearizability.specs.legal.Prefix.{IsPrefix}
use Rattle.zlinearizability.specs.chain.Flow.{Log, log_at, length_of}
use Rattle.zlinearizability.specs.chain.Account.{Account}
use Rattle.zlinearizability.proofs.legal_lemmas.lists.Tests.{left_of, right_of, not_true}
use Rattle.zlinearizability.proofs.chain_lemmas.steps.Opening.{among_tested, tested_among}
use Rattle.zheads.specs.Heads.{Heads, head_machine, has_left_sent}
use Rattle.zheads.specs.OneLog.{state_of}
use Rattle.zheads.proofs.Shown.{machine_after, shown_machine, shown_sent, shown_view}
use Rattle.zheads.proofs.Fits.{updates, prefix_updates, state_is}
use Rattle.zheads.proofs.Holds.{Holds}
use Rattle.zheads.proofs.Calls.{has_committed}
use Rattle.zcluster_laws.specs.Cluster.{have_left_sent}

-- a head, by its own view
head_by : {M : Type 0} (out : Bool) (pred : Option Neighbour) (own : Option M) (m : M)
    → (if out then None else if is_none pred then own else None) ≡ Some m → (out ≡ false) × (pred ≡ None) × (own ≡ Some m)
head_by {M} true pred own m is = absurd (let no : ◌≡◌ {A = Option M} None (Some m) = is in cc no)
head_by false None own m is = (refl, refl, is)
head_by {M} false (Some pred) own m is = absurd (let no : ◌≡◌ {A = Option M} None (Some m) = is in cc no)

is_not : (b : Bool) → b ≡ false → b ≡ true → ⊥
is_not b f t = cc

any_among : (keeps : ℕ × Entry → Bool) (xs : List (ℕ × Entry)) (x : ℕ × Entry) → Among x xs → keeps x ≡ true → list_any keeps xs ≡ true
any_among keeps [] x a is = absurd a
any_among keeps (y ∷ xs) x (inl e) is = ap (λ b. b || list_any keeps xs) (ap keeps e ∙ is)
any_among keeps (y ∷ xs) x (inr a) is = elim (test (keeps y)) [
  | inl t ↦ ap (λ b. b || list_any keeps xs) t
  | inr f ↦ ap (λ b. b || list_any keeps xs) f ∙ any_among keeps xs x a is
]

-- where the entries up to a number have left Sent, each of them has
pub each_left : {M : Type 0} (v : ServerView M) (k n : ℕ) → k ≤ n → have_left_sent v n ≡ true → has_left_sent v k ≡ true
each_left v k n le is =
    let numbers = map (λ (d : ℕ × Entry). d.0) v.sent in
    let any = list_any (λ (d : ℕ × Entry). nat_le d.0 n) v.sent in
    let low : nat_le n v.last ≡ true = left_of (nat_le n v.last) (not any) is in
    let gone : any ≡ false = not_true any (right_of (nat_le n v.last) (not any) is) in
    let here : nat_le k v.last ≡ true = grind (arith, nat_tests, low) in
    let left : is_among k numbers ≡ false = elim (test (is_among k numbers)) [
      | inl t ↦
          let one = among_image (λ (d : ℕ × Entry). d.0) k v.sent (among_tested k numbers t) in
          let at_most : nat_le one.0.0 n ≡ true = ap (λ j. nat_le j n) one.2 ∙ grind (arith, nat_tests) in
          absurd (is_not any gone (any_among (λ (d : ℕ × Entry). nat_le d.0 n) v.sent one.0 one.1 at_most))
      | inr f ↦ f
    ] in
    λ i. here i && not (left i)

module _ {P : Type 0} (plain : Plain P) where
  abbrev own : Does (CachedState P)
  own = machine_of plain

  -- what holds of a server that isn't out, and has a log
  pub record HasLog (h : Heads (CachedState P)) (t : Account) (s : ℕ) : Type 0 where
    pub log : List Entry
    pub has : log_at t.world s ≡ Some log
    pub live : t.world.failed s ≡ false
    pub head : (t.world.servers s).pred ≡ None

  log_by : (l : Log) (m : CachedState P) → shown_machine own l ≡ Some m → (log : List Entry) × (l ≡ Some log) × (machine_after own log ≡ m)
  log_by None m is = absurd (let no : ◌≡◌ {A = Option (CachedState P)} None (Some m) = is in cc no)
  log_by (Some log) m is = (log, refl, (let same : ◌≡◌ {A = Option (CachedState P)} (Some (machine_after own log)) (Some m) = is in cc same))

  module _ (h : Heads (CachedState P)) (t : Account) (x : Holds plain h t) (s : ℕ) where
    -- the view shows that of the log world
    pub view_of : t.world.failed s ≡ false → h.world.servers s ≡ shown_view own (t.world.servers s)
    view_of live = x.shows.servers s live

    -- its last number is the length of its log
    pub last_of : (log : List Entry) → t.world.failed s ≡ false → log_at t.world s ≡ Some log → (h.world.servers s).last ≡ length log
    last_of log live has = ap (λ (z : ServerView (CachedState P)). z.last) (view_of live) ∙ x.exact.views s ∙ ap length_of has

    -- a head has a log, which gives its state
    pub has_log : (m : CachedState P) → head_machine h.world s ≡ Some m
        → (f : HasLog h t s) × (m.plain ≡ state_of plain (updates f.log)) × (machine_after own f.log ≡ m)
    has_log m is =
        let facts = head_by (h.world.failed s) (h.world.servers s).pred (h.world.servers s).machine m is in
        let live : t.world.failed s ≡ false = sym (x.shows.failed s) ∙ facts.0 in
        let view = view_of live in
        let found = log_by (t.world.servers s).machine m (sym (ap (λ (z : ServerView (CachedState P)). z.machine) view) ∙ facts.2) in (
          record { log = found.0; has = found.1; live = live; head = sym (ap (λ (z : ServerView (CachedState P)). z.pred) view) ∙ facts.1 },
          sym (ap (λ (y : CachedState P). y.plain) found.2) ∙ state_is plain found.0,
          found.2,
        )

    -- the committed log begins the head's
    pub begins : (f : HasLog h t s) → IsPrefix (updates t.committed) (updates f.log)
    begins f = prefix_updates t.committed f.log (has_committed plain h t x s f.log f.live f.has)

    -- an entry that has left Sent is committed
    pub left_is_committed : (f : HasLog h t s) (n : ℕ) → has_left_sent (h.world.servers s) n ≡ true → n ≤ length t.committed
    left_is_committed f n is =
        let left : has_left_sent (shown_view own (t.world.servers s)) n ≡ true =
        sym (ap (λ (z : ServerView (CachedState P)). has_left_sent z n) (view_of f.live)) ∙ is in
        let v = t.world.servers s in
        let sent = map (λ (d : ℕ × Entry). d.0) (map shown_sent v.sent) in
        let low : nat_le n v.last ≡ true = left_of (nat_le n v.last) (not (is_among n sent)) left in
        let gone : is_among n sent ≡ false = not_true (is_among n sent) (right_of (nat_le n v.last) (not (is_among n sent)) left) in
        let released : (d : Entry) → Among (n, d) v.sent → ⊥ = λ d a.
        is_not (is_among n sent) gone (tested_among n sent
        (among_map (λ (y : ℕ × Entry). y.0) (shown_sent (n, d)) (map shown_sent v.sent) (among_map shown_sent (n, d) v.sent a))) in
        let last : v.last ≡ length f.log = x.exact.views s ∙ ap length_of f.has in
        let at_most : n ≤ v.last = grind (arith, nat_tests, low) in (x.known.views s).released f.log n f.has (omega arith) released
