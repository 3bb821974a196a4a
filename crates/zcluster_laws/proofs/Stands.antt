-- What holds of a cluster beside a log world: each front's tree is that of its head's log, which
-- serves the reactions that wait. The committed log serves those that were sent.
use Rattle.std.specs.Prelude.{is_some, if◌then◌else◌}
use Rattle.std.proofs.Common.{◌≡◌, ℕ, ◌+◌, ◌≤◌, false, ◌==◌, List, [], ◌∷◌, ◌++◌, length, Option, Some, None, refl, sym, ap, subst, inl, inr, arith, length-append, eqb-true}
use Rattle.ztree.specs.Tree.{Tree}
use Rattle.zcalls.specs.declared.call.Entry.{Entry}
use Rattle.zcalls.specs.declared.call.Update.{Update}
use Rattle.zcalls.specs.Cached.{Plain, CachedState}
use Rattle.zcalls.specs.Lists.{Among, ComesBefore}
use Rattle.zcalls.proofs.Among.{test}
use Rattle.zprotocol.specs.server.Machine.{plain_from}
use Rattle.zprotocol.specs.world.World.{at}
use Rattle.zprotocol.proofs.world_lemmas.Orders.{Stand, stand}
use Rattle.zlinearizability.specs.legal.Prefix.{IsPrefix}
use Rattle.zlinearizability.specs.chain.Flow.{log_at}
use Rattle.zlinearizability.specs.chain.Account.{Account}
use Rattle.zlinearizability.proofs.legal_lemmas.lists.Members.{among_last}
use Rattle.zlinearizability.proofs.chain_lemmas.links.Links.{at_cases}
use Rattle.zheads.specs.Heads.{head_machine}
use Rattle.zheads.specs.OneLog.{state_of}
use Rattle.zheads.proofs.Fits.{updates, prefix_updates}
use Rattle.zheads.proofs.Holds.{Holds}
use Rattle.zfront_laws.specs.Runs.{KeepsFew}
use Rattle.zcluster_laws.specs.Cluster.{Reaction, Fronted, Visible, Handled, Sent, Cluster, fenced}
use Rattle.zcluster_laws.specs.Laws.{IsServed}
use Rattle.zcluster_laws.proofs.Served.{served_more, place_in}

-- a front that was put at a server, and the others
pub put_front : (fronts : ℕ → Option Fronted) (s : ℕ) (new : Fronted) (R : ℕ → Fronted → Type 0) → R s new
    → ((z : ℕ) (q : Fronted) → (z == s) ≡ false → fronts z ≡ Some q → R z q) → (z : ℕ) (q : Fronted) → at s (Some new) fronts z ≡ Some q → R z q
put_front fronts s new R own others z q =
    at_cases (λ (f : Option Fronted). f ≡ Some q → R z q) s (Some new) fronts z
    (λ same is. let that : new ≡ q = (let eq : ◌≡◌ {A = Option Fronted} (Some new) (Some q) = is in cc eq) in
    subst (λ y. R y q) (sym same) (subst (R s) that own))
    (λ other is. others z q other is)

-- a server, or another
pub by_number : (s z : ℕ) (P Q : ℕ → Type 0) → (P s → Q s) → ((z == s) ≡ false → P z → Q z) → P z → Q z
by_number s z P Q own other has = elim (test (z == s)) [
  | inl t ↦ let same : z ≡ s = eqb-true z s t in subst Q (sym same) (own (subst P same has))
  | inr f ↦ other f has
]

-- only live heads have fronts
pub fenced_front : (c : Cluster) (z : ℕ) (p : Fronted) → (fenced c).fronts z ≡ Some p
    → (m : CachedState Tree) × (head_machine c.heads.world z ≡ Some m) × (c.fronts z ≡ Some p)
fenced_front c z p is = by (head_machine c.heads.world z) refl is
  where
    by : (found : Option (CachedState Tree)) → head_machine c.heads.world z ≡ found → (if is_some found then c.fronts z else None) ≡ Some p
        → (m : CachedState Tree) × (head_machine c.heads.world z ≡ Some m) × (c.fronts z ≡ Some p)
    by None found is = absurd (let no : ◌≡◌ {A = Option Fronted} None (Some p) = is in cc no)
    by (Some m) found is = (m, found, is)

pub prefix_size : {A : Type 0} (xs ys : List A) → IsPrefix xs ys → length xs ≤ length ys
prefix_size xs ys (rest, is) =
    let size : length ys ≡ length (xs ++ rest) = ap length is in
    let sum : length (xs ++ rest) ≡ length xs + length rest = length-append xs rest in omega arith

pub sent_is_not_handled : (a b : Reaction) → Handled a ≡ Sent b → ⊥
sent_is_not_handled a b is = cc

one_reaction : (a b : Reaction) → Handled a ≡ Handled b → a ≡ b
one_reaction a b is = cc is

pub one_sent : (a b : Reaction) → Sent a ≡ Sent b → a ≡ b
one_sent a b is = cc is

module _ (t0 : Tree) where
  abbrev pub plain : Plain Tree
  plain = plain_from t0

  -- a front at a server, whose log is this
  pub record Stands (t : Account) (z : ℕ) (p : Fronted) : Type 0 where
    pub log : List Entry
    pub has : log_at t.world z ≡ Some log
    pub tree : p.front.tree ≡ state_of plain (updates log)
    pub early : List Update
    pub rest : List Update
    pub split : updates log ≡ early ++ rest
    pub began : p.first ≡ state_of plain early
    pub few : KeepsFew p.front
    pub held : (b : Reaction) → Among b p.held → IsServed t0 (updates log) b

  abbrev pub InTime : List Visible → Type 0
  InTime visible = (first second : Reaction) → ComesBefore (Sent first) (Handled second) visible → first.place ≤ second.from

  abbrev pub AllServed : List Update → List Visible → Type 0
  AllServed log visible = (b : Reaction) → Among (Sent b) visible → IsServed t0 log b

  pub record Good (c : Cluster) (t : Account) : Type 0 where
    pub holds : Holds plain c.heads t
    pub heads : (z : ℕ) (p : Fronted) → c.fronts z ≡ Some p → (m : CachedState Tree) × (head_machine c.heads.world z ≡ Some m)
    pub fronts : (z : ℕ) (p : Fronted) → c.fronts z ≡ Some p → Stands t z p
    pub served : AllServed (updates t.committed) c.visible
    pub in_time : InTime c.visible

  -- the same log
  pub stands_still : (t later : Account) (z : ℕ) (p : Fronted) (x : Stands t z p) → log_at later.world z ≡ Some x.log → Stands later z p
  stands_still t later z p x has = record {
    log = x.log;
    has = has;
    tree = x.tree;
    early = x.early;
    rest = x.rest;
    split = x.split;
    began = x.began;
    few = x.few;
    held = x.held;
  }

  -- where the fronts of others are dropped
  pub fences : (c : Cluster) (t : Account) → Holds plain c.heads t
      → ((z : ℕ) (p : Fronted) (m : CachedState Tree) → head_machine c.heads.world z ≡ Some m → c.fronts z ≡ Some p → Stands t z p)
      → AllServed (updates t.committed) c.visible → InTime c.visible → Good (fenced c) t
  fences c t holds fronts served in_time = record {
    holds = holds;
    heads = λ z p has. let f = fenced_front c z p has in (f.0, f.1);
    fronts = λ z p has. let f = fenced_front c z p has in fronts z p f.0 f.1 f.2;
    served = served;
    in_time = in_time;
  }

  -- more is committed
  pub more_served : (t later : Account) (visible : List Visible) → IsPrefix t.committed later.committed → AllServed (updates t.committed) visible
      → AllServed (updates later.committed) visible
  more_served t later visible longer all b a =
      served_more t0 (updates t.committed) (updates later.committed) b (prefix_updates t.committed later.committed longer) (all b a)

  -- an input is handled
  pub served_handled : (log : List Update) (visible : List Visible) (b : Reaction) → AllServed log visible → AllServed log (visible ++ Handled b ∷ [])
  served_handled log visible b all other a = elim (among_last (Sent other) visible (Handled b) a) [
    | inl old ↦ all other old
    | inr is ↦ absurd (sent_is_not_handled b other is)
  ]

  pub handled_in_time : (log : List Update) (visible : List Visible) (b : Reaction) → AllServed log visible → length log ≤ b.from → InTime visible
      → InTime (visible ++ Handled b ∷ [])
  handled_in_time log visible b all le h first second before = elim (stand (Sent first) (Handled second) visible (Handled b ∷ []) before) [
    | Stand.InFirst x ↦ h first second x
    | Stand.InEach a x ↦ elim x [
      | inl is ↦
          let low : first.place ≤ length log = place_in t0 log first (all first a) in
          subst (λ (y : Reaction). first.place ≤ y.from) (one_reaction b second is) (omega arith)
      | inr none ↦ absurd none
    ]
    | Stand.InSecond x ↦ elim x [ inl p ↦ absurd p.1 | inr none ↦ absurd none ]
  ]

  -- a reaction is sent
  pub served_sent : (log : List Update) (visible : List Visible) (b : Reaction) → AllServed log visible → IsServed t0 log b → AllServed log (visible ++ Sent b ∷ [])
  served_sent log visible b all new other a = elim (among_last (Sent other) visible (Sent b) a) [
    | inl old ↦ all other old
    | inr is ↦ subst (IsServed t0 log) (one_sent b other is) new
  ]

  pub sent_in_time : (visible : List Visible) (b : Reaction) → InTime visible → InTime (visible ++ Sent b ∷ [])
  sent_in_time visible b h first second before = elim (stand (Sent first) (Handled second) visible (Sent b ∷ []) before) [
    | Stand.InFirst x ↦ h first second x
    | Stand.InEach a x ↦ elim x [ inl is ↦ absurd (sent_is_not_handled second b (sym is)) | inr none ↦ absurd none ]
    | Stand.InSecond x ↦ elim x [ inl p ↦ absurd p.1 | inr none ↦ absurd none ]
  ]
