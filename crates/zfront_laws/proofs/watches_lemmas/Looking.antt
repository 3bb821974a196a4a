-- What a look reports, and that all watches know the nodes after it.
use Rattle.std.proofs.Common.{◌≡◌, ◌≢◌, ◌∙◌, ℕ, Bool, true, false, List, [], ◌∷◌, ◌++◌, Option, Some, None}
use Rattle.std.proofs.Common.{refl, sym, ap, subst, inl, inr, arith}
use Rattle.std.specs.Prelude.{◌⊎◌, ◌==◌, if◌then◌else◌}
use Rattle.std.proofs.lemmas.Bool.Decides.{nat_tests}
use Rattle.std.specs.List.{AllByRecursion}
use Rattle.std.specs.Option.{option_map}
use Rattle.std.specs.FinMap as finite
use Rattle.ztree.specs.declared.node.Node.{Node}
use Rattle.ztree.specs.declared.node.Stat.{Stat}
use Rattle.ztree.specs.Tree.{Tree, Path, stat_of}
use Rattle.zcalls.specs.Lists.{Among}
use Rattle.zcalls.specs.declared.call.Query.TheVariants.{Exists}
use Rattle.zcalls.specs.declared.reply.Reply.TheVariants as reply
use Rattle.zcalls.specs.Step.{query_reply, on_node}
use Rattle.zjute.specs.declared.event.EventKind.TheVariants.{NodeDeleted, NodeChildrenChanged}
use Rattle.zwatches.specs.declared.changes.event.Event.{Event}
use Rattle.zwatches.specs.changes.Events.{event}
use Rattle.zwatches.specs.changes.Laws.{children_at}
use Rattle.zresponses.specs.effects.Looking.{seen, seen_at, children_seen}
use Rattle.zfront.specs.Front.{looks}
use Rattle.zfront_laws.proofs.watches_lemmas.Telling.{AreApart, IsNowhere}
use Rattle.zfront_laws.proofs.watches_lemmas.Watched.{AreDistinct}

-- the events of a look at these paths
abbrev pub seen_now : Tree → List Path → List Event
seen_now t paths = seen t.zxid paths (looks t paths)

among_append : {A : Type 0} (x : A) (xs ys : List A) → Among x (xs ++ ys) → Among x xs ⊎ Among x ys
among_append x [] ys is = inr is
among_append x (y ∷ xs) ys (inl is) = inl (inl is)
among_append x (y ∷ xs) ys (inr is) = by (among_append x xs ys is)
  where
    by : Among x xs ⊎ Among x ys → Among x (y ∷ xs) ⊎ Among x ys
    by (inl here) = inl (inr here)
    by (inr there) = inr there

among_first : {A : Type 0} (x : A) (xs ys : List A) → Among x xs → Among x (xs ++ ys)
among_first x [] ys none = absurd none
among_first x (y ∷ xs) ys (inl is) = inl is
among_first x (y ∷ xs) ys (inr is) = inr (among_first x xs ys is)

among_second : {A : Type 0} (x : A) (xs ys : List A) → Among x ys → Among x (xs ++ ys)
among_second x [] ys is = is
among_second x (y ∷ xs) ys is = inr (among_second x xs ys is)

-- ---- the cause of what is reported

abbrev pub IsSeenIn : Tree → Event → Type 0
IsSeenIn t e = ((e.kind ≡ NodeDeleted) × (finite.get t.nodes e.path ≡ None))
    ⊎ ((e.kind ≡ NodeChildrenChanged) × (children_at t.nodes e.path ≡ Some t.zxid))

same_zxid : (a b : ℕ) → (a == b) ≡ true → a ≡ b
same_zxid a b is = grind (arith, nat_tests)

level : (a b : ℕ) → a ≡ b → (a == b) ≡ true
level a b is = grind (arith, nat_tests)

-- it is of the path where it looked
abbrev Causes : Tree → Path → Event → Type 0
Causes t path e = IsSeenIn t e × (path ≡ e.path)

children_caused : (t : Tree) (path : Path) (n : Node) (stat : Stat) (e : Event) → finite.get t.nodes path ≡ Some n → stat.pzxid ≡ n.pzxid
    → Among e (children_seen t.zxid path stat) → Causes t path e
children_caused t path n stat e there same among = by (stat.pzxid == t.zxid) refl among
  where
    by : (b : Bool) → (stat.pzxid == t.zxid) ≡ b → Among e (if b then event NodeChildrenChanged path ∷ [] else []) → Causes t path e
    by true is (inl here) =
        subst (Causes t path) here (
          inr (
            refl,
            ap (option_map (λ (m : Node). m.pzxid)) there ∙ ap (λ z. Some z) (sym same ∙ same_zxid stat.pzxid t.zxid is),
          ),
          refl,
        )
    by true is (inr none) = absurd none
    by false is none = absurd none

path_caused : (t : Tree) (path : Path) (e : Event) → Among e (seen_at t.zxid path (query_reply t (Exists path))) → Causes t path e
unfolding query_reply
path_caused t path e among = by (finite.get t.nodes path) refl among
  where
    by : (o : Option Node) → finite.get t.nodes path ≡ o
        → Among e (seen_at t.zxid path (on_node o (λ n. reply.Exists (stat_of t.nodes path n)))) → Causes t path e
    by None is (inl here) = subst (Causes t path) here (inl (refl, is), refl)
    by None is (inr none) = absurd none
    by (Some n) is among = children_caused t path n (stat_of t.nodes path n) e is refl among

pub seen_caused : (t : Tree) (paths : List Path) (e : Event) → Among e (seen_now t paths) → IsSeenIn t e × Among e.path paths
seen_caused t [] e none = absurd none
seen_caused t (path ∷ paths) e among =
    by (among_append e (seen_at t.zxid path (query_reply t (Exists path))) (seen_now t paths) among)
    (λ there. seen_caused t paths e there)
  where
    by : Among e (seen_at t.zxid path (query_reply t (Exists path))) ⊎ Among e (seen_now t paths)
        → (Among e (seen_now t paths) → IsSeenIn t e × Among e.path paths) → IsSeenIn t e × Among e.path (path ∷ paths)
    by (inl here) rest = let cause = path_caused t path e here in (cause.0, inl cause.1)
    by (inr there) rest = let cause = rest there in (cause.0, inr cause.1)

-- ---- all that is reported

-- that a node is gone
gone_here : (t : Tree) (path : Path) → finite.get t.nodes path ≡ None → Among (event NodeDeleted path) (seen_at t.zxid path (query_reply t (Exists path)))
unfolding query_reply
gone_here t path none = by (finite.get t.nodes path) none
  where
    by : (o : Option Node) → o ≡ None → Among (event NodeDeleted path) (seen_at t.zxid path (on_node o (λ n. reply.Exists (stat_of t.nodes path n))))
    by None is = inl refl
    by (Some n) is = absurd (cc is)

-- that a node lost a child
less_here : (t : Tree) (path : Path) → children_at t.nodes path ≡ Some t.zxid
    → Among (event NodeChildrenChanged path) (seen_at t.zxid path (query_reply t (Exists path)))
unfolding query_reply
less_here t path last = by (finite.get t.nodes path) last
  where
    same : (m z : ℕ) → Some m ≡ Some z → m ≡ z
    same m z is = cc is

    by : (o : Option Node) → option_map (λ (n : Node). n.pzxid) o ≡ Some t.zxid
        → Among (event NodeChildrenChanged path) (seen_at t.zxid path (on_node o (λ n. reply.Exists (stat_of t.nodes path n))))
    by None is = absurd (cc is)
    by (Some n) is =
        subst (λ b. Among (event NodeChildrenChanged path) (if b then event NodeChildrenChanged path ∷ [] else []))
        (sym (level n.pzxid t.zxid (same n.pzxid t.zxid is))) (inl refl)

module _ (t : Tree) (q : Path) (e : Event) (here : Among e (seen_at t.zxid q (query_reply t (Exists q)))) where
  pub seen_among : (paths : List Path) → Among q paths → Among e (seen_now t paths)
  seen_among [] none = absurd none
  seen_among (path ∷ paths) (inl same) =
      among_first e (seen_at t.zxid path (query_reply t (Exists path))) (seen_now t paths)
      (subst (λ p. Among e (seen_at t.zxid p (query_reply t (Exists p)))) (sym same) here)
  seen_among (path ∷ paths) (inr there) =
      among_second e (seen_at t.zxid path (query_reply t (Exists path))) (seen_now t paths) (seen_among paths there)

pub gone_seen : (t : Tree) (q : Path) (paths : List Path) → finite.get t.nodes q ≡ None → Among q paths → Among (event NodeDeleted q) (seen_now t paths)
gone_seen t q paths none = seen_among t q (event NodeDeleted q) (gone_here t q none) paths

pub less_seen : (t : Tree) (q : Path) (paths : List Path) → children_at t.nodes q ≡ Some t.zxid → Among q paths
    → Among (event NodeChildrenChanged q) (seen_now t paths)
less_seen t q paths last = seen_among t q (event NodeChildrenChanged q) (less_here t q last) paths

-- ---- each event is at another path

nowhere_append : (q : Path) (es more : List Event) → IsNowhere q es → IsNowhere q more → IsNowhere q (es ++ more)
nowhere_append q [] more first second = second
nowhere_append q (e ∷ es) more first second = (first.0, nowhere_append q es more first.1 second)

at_most_one : (path : Path) (zxid : ℕ) (stat : Stat) (more : List Event) → IsNowhere path more → AreApart more
    → AreApart (children_seen zxid path stat ++ more)
at_most_one path zxid stat more nowhere apart = by (stat.pzxid == zxid)
  where
    by : (b : Bool) → AreApart ((if b then event NodeChildrenChanged path ∷ [] else []) ++ more)
    by true = (nowhere, apart)
    by false = apart

one_apart : (t : Tree) (path : Path) (more : List Event) → IsNowhere path more → AreApart more
    → AreApart (seen_at t.zxid path (query_reply t (Exists path)) ++ more)
unfolding query_reply
one_apart t path more nowhere apart = by (finite.get t.nodes path)
  where
    by : (o : Option Node) → AreApart (seen_at t.zxid path (on_node o (λ n. reply.Exists (stat_of t.nodes path n))) ++ more)
    by None = (nowhere, apart)
    by (Some n) = at_most_one path t.zxid (stat_of t.nodes path n) more nowhere apart

children_elsewhere : (q path : Path) (zxid : ℕ) (stat : Stat) → path ≢ q → IsNowhere q (children_seen zxid path stat)
children_elsewhere q path zxid stat other = by (stat.pzxid == zxid)
  where
    by : (b : Bool) → IsNowhere q (if b then event NodeChildrenChanged path ∷ [] else [])
    by true = (other, tt)
    by false = tt

one_elsewhere : (t : Tree) (q path : Path) → path ≢ q → IsNowhere q (seen_at t.zxid path (query_reply t (Exists path)))
unfolding query_reply
one_elsewhere t q path other = by (finite.get t.nodes path)
  where
    by : (o : Option Node) → IsNowhere q (seen_at t.zxid path (on_node o (λ n. reply.Exists (stat_of t.nodes path n))))
    by None = (other, tt)
    by (Some n) = children_elsewhere q path t.zxid (stat_of t.nodes path n) other

all_elsewhere : (t : Tree) (q : Path) (paths : List Path) → AllByRecursion (λ p. p ≢ q) paths → IsNowhere q (seen_now t paths)
all_elsewhere t q [] others = tt
all_elsewhere t q (path ∷ paths) others =
    nowhere_append q (seen_at t.zxid path (query_reply t (Exists path))) (seen_now t paths) (one_elsewhere t q path others.0)
    (all_elsewhere t q paths others.1)

pub seen_apart : (t : Tree) (paths : List Path) → AreDistinct paths → AreApart (seen_now t paths)
seen_apart t [] distinct = tt
seen_apart t (path ∷ paths) distinct =
    one_apart t path (seen_now t paths) (all_elsewhere t path paths distinct.0) (seen_apart t paths distinct.1)
