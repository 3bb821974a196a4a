-- One proof of list surgery: what an end, a middle and a beginning of a chain become when two items are written.
use Rattle.std.proofs.Common.{◌≡◌, ◌≢◌, List, [], ◌∷◌, ◌++◌, Option, Some, None, refl, sym, ap, ◌∙◌}
use mathlib.Core.Path.{subst}
use Rattle.std.specs.Option.{option_map_or}
use Rattle.std.specs.FinMap.{get, insert}
use Rattle.zslots.specs.declared.id.Id.{Id}
use Rattle.zslots.specs.declared.linked.Links.{Links}
use Rattle.zslots.specs.SlotsView.{Items}
use Rattle.zslots.specs.Links.{with_next_at, with_prev_at, with_ends}
use Rattle.zslots.specs.Ids.{NotIn, NoTwo, last_or, first_of}
use Rattle.zslots.specs.Chains.{Chain}
use Rattle.zslots.proofs.Maps.{get-insert-here, get-insert-elsewhere}

-- no Id of the list is this one, if it is one
abbrev pub NoneIn : Option Id → List Id → Type 0
NoneIn None ids = Unit {0}
NoneIn (Some id) ids = NotIn id ids

-- no Id of the first list is in the second
abbrev pub NoneShared : List Id → List Id → Type 0
NoneShared [] ys = Unit {0}
NoneShared (x ∷ xs) ys = NotIn x ys × NoneShared xs ys

some_id : (p q : Id) → Some p ≡ Some q → p ≡ q
some_id p q e = cc

not_some : {A : Type 0} (p : Id) → None ≡ Some p → A
not_some p e = cc

pub NotIn-parts : (q : Id) (xs ys : List Id) → NotIn q (xs ++ ys) → NotIn q xs × NotIn q ys
NotIn-parts q [] ys h = (tt, h)
NotIn-parts q (x ∷ xs) ys h = let more = NotIn-parts q xs ys h.1 in ((h.0, more.0), more.1)

pub NotIn-both : (q : Id) (xs ys : List Id) → NotIn q xs → NotIn q ys → NotIn q (xs ++ ys)
NotIn-both q [] ys g h = h
NotIn-both q (x ∷ xs) ys g h = (g.0, NotIn-both q xs ys g.1 h)

pub NoTwo-parts : (xs ys : List Id) → NoTwo (xs ++ ys) → NoTwo xs × NoTwo ys × NoneShared xs ys
NoTwo-parts [] ys h = (tt, h, tt)
NoTwo-parts (x ∷ xs) ys h =
    let here = NotIn-parts x xs ys h.0 in
    let more = NoTwo-parts xs ys h.1 in
    ((here.0, more.0), more.1, (here.1, more.2))

pub NoTwo-both : (xs ys : List Id) → NoTwo xs → NoTwo ys → NoneShared xs ys → NoTwo (xs ++ ys)
NoTwo-both [] ys a b c = b
NoTwo-both (x ∷ xs) ys a b c = (NotIn-both x xs ys a.0 c.0, NoTwo-both xs ys a.1 b c.1)

-- the last of a list is in no list that it doesn't meet
pub last-none_shared : (before : Option Id) (xs ys : List Id) → NoneIn before ys → NoneShared xs ys → NoneIn (last_or before xs) ys
last-none_shared before [] ys b c = b
last-none_shared before (x ∷ xs) ys b c = last-none_shared (Some x) xs ys c.0 c.1

-- what the second list begins with isn't in the first
pub first-none_shared : (xs ys : List Id) → NoneShared xs ys → NoneIn (first_of ys) xs
first-none_shared xs [] c = tt
first-none_shared [] (y ∷ ys) c = tt
first-none_shared (x ∷ xs) (y ∷ ys) c = (λ e. c.0.0 (sym e), first-none_shared xs (y ∷ ys) c.1)

pub NoneShared-rest : (xs : List Id) (y : Id) (ys : List Id) → NoneShared xs (y ∷ ys) → NoneShared xs ys
NoneShared-rest [] y ys c = tt
NoneShared-rest (x ∷ xs) y ys c = (c.0.1, NoneShared-rest xs y ys c.1)

pub NoneShared-head : (xs : List Id) (y : Id) (ys : List Id) → NoneShared xs (y ∷ ys) → NotIn y xs
NoneShared-head [] y ys c = tt
NoneShared-head (x ∷ xs) y ys c = (λ e. c.0.0 (sym e), NoneShared-head xs y ys c.1)

pub NoneShared-cons : (xs : List Id) (y : Id) (ys : List Id) → NotIn y xs → NoneShared xs ys → NoneShared xs (y ∷ ys)
NoneShared-cons [] y ys n c = tt
NoneShared-cons (x ∷ xs) y ys n c = ((λ e. n.0 (sym e), c.0), NoneShared-cons xs y ys n.1 c.1)

-- an Id that isn't in the list is no end of it
other_than : (at : Option Id) (q : Id) (ids : List Id) → NoneIn at (q ∷ ids) → Some q ≢ at
other_than None q ids n e = not_some q (sym e)
other_than (Some p) q ids n e = n.0 (some_id p q (sym e))

later : (at : Option Id) (q : Id) (ids : List Id) → NoneIn at (q ∷ ids) → NoneIn at ids
later None q ids n = tt
later (Some p) q ids n = n.1

-- the last of a list that doesn't hold q isn't q
not_last : (q j : Id) (js : List Id) → NotIn q (j ∷ js) → Some q ≢ last_or (Some j) js
not_last q j [] n e = n.0 (some_id q j e)
not_last q j (k ∷ js) n e = not_last q k js n.1 e

module _ {T : Type 0} (links : T → Links) where
  -- an item that has these links
  abbrev pub HasLinks : Items T → Id → Links → Type 0
  HasLinks m id to = (x : T) × (get m id ≡ Some x) × (links x ≡ to)

  -- two maps agree but at two items
  abbrev pub SameBut : Items T → Items T → Option Id → Option Id → Type 0
  SameBut m n left right = (q : Id) → Some q ≢ left → Some q ≢ right → get n q ≡ get m q

  pub chain-kept : (m n : Items T) (left right before first : Option Id) (ids : List Id) → SameBut m n left right → NoneIn left ids → NoneIn right ids → Chain links m before first ids → Chain links n before first ids
  chain-kept m n left right before first [] same l r ch = ch
  chain-kept m n left right before first (q ∷ ids) same l r ch = (
    ch.0,
    ch.1,
    same q (other_than left q ids l) (other_than right q ids r) ∙ ch.2,
    ch.3,
    chain-kept m n left right (Some q) (links ch.1).next ids same (later left q ids l) (later right q ids r) ch.4,
  )

  -- a chain reads the links of its items alone
  pub chain-alike : (m n : Items T) (before first : Option Id) (ids : List Id) → ((q : Id) (x : T) → get m q ≡ Some x → HasLinks n q (links x)) → Chain links m before first ids → Chain links n before first ids
  chain-alike m n before first [] alike ch = ch
  chain-alike m n before first (q ∷ ids) alike ch =
      let y = alike q ch.1 ch.2 in
      (ch.0, y.0, y.1, ap (λ k. k.prev) y.2 ∙ ch.3, subst (λ o. Chain links n (Some q) o ids) (sym (ap (λ k. k.next) y.2)) (chain-alike m n (Some q) (links ch.1).next ids alike ch.4))

  -- a chain whose first item was written, to be after another one
  pub chain-from : (m n : Items T) (left before after first : Option Id) (ids : List Id) → SameBut m n left first → NoneIn left ids → NoTwo ids → Chain links m before first ids → ((q : Id) (x : T) → Some q ≡ first → get m q ≡ Some x → HasLinks n q (record { next = (links x).next; prev = after })) → Chain links n after first ids
  chain-from m n left before after first [] same l a ch written = ch
  chain-from m n left before after first (q ∷ ids) same l a ch written =
      let y = written q ch.1 (sym ch.0) ch.2 in
      let rest = chain-kept m n left first (Some q) (links ch.1).next ids same (later left q ids l) (subst (λ o. NoneIn o ids) (sym ch.0) a.0) ch.4 in
      (ch.0, y.0, y.1, ap (λ k. k.prev) y.2, subst (λ o. Chain links n (Some q) o ids) (sym (ap (λ k. k.next) y.2)) rest)

  -- a chain whose last item of the front was written, to be followed by others
  pub chain-to : (m n : Items T) (right before first next : Option Id) (i : Id) (is olds news : List Id) → SameBut m n (last_or (Some i) is) right → NoneIn right (i ∷ is) → NoTwo (i ∷ is) → Chain links m before first ((i ∷ is) ++ olds) → ((q : Id) (x : T) → Some q ≡ last_or (Some i) is → get m q ≡ Some x → HasLinks n q (record { next = next; prev = (links x).prev })) → Chain links n (last_or (Some i) is) next news → Chain links n before first ((i ∷ is) ++ news)
  chain-to m n right before first next i [] olds news same r a ch written rest =
      let y = written i ch.1 refl ch.2 in
      (ch.0, y.0, y.1, ap (λ k. k.prev) y.2 ∙ ch.3, subst (λ o. Chain links n (Some i) o news) (sym (ap (λ k. k.next) y.2)) rest)
  chain-to m n right before first next i (j ∷ js) olds news same r a ch written rest = (
    ch.0,
    ch.1,
    same i (not_last i j js a.0) (other_than right i (j ∷ js) r) ∙ ch.2,
    ch.3,
    chain-to m n right (Some i) (links ch.1).next next j js olds news same (later right i (j ∷ js) r) a.1 ch.4 written rest,
  )

  -- what follows the front of a chain
  pub chain-rest : (m : Items T) (before first : Option Id) (front rest : List Id) → Chain links m before first (front ++ rest) → (next : Option Id) × Chain links m (last_or before front) next rest
  chain-rest m before first [] rest ch = (first, ch)
  chain-rest m before first (i ∷ front) rest ch = chain-rest m (Some i) (links ch.1).next front rest ch.4

  -- a chain begins with the first of its list
  pub chain-first : (m : Items T) (before first : Option Id) (ids : List Id) → Chain links m before first ids → first ≡ first_of ids
  chain-first m before first [] ch = ch
  chain-first m before first (i ∷ ids) ch = ch.0

  -- two fronts that aren't there: a chain begins where it began
  pub chain-swap : (m n : Items T) (right before first next : Option Id) (front olds news : List Id) → SameBut m n (last_or before front) right → NoneIn right front → NoTwo front → Chain links m before first (front ++ olds) → ((q : Id) (x : T) → Some q ≡ last_or before front → get m q ≡ Some x → HasLinks n q (record { next = next; prev = (links x).prev })) → Chain links n (last_or before front) next news → Chain links n before (first_of (front ++ news)) (front ++ news)
  chain-swap m n right before first next [] olds news same r a ch written rest = subst (λ o. Chain links n before o news) (chain-first n before next news rest) rest
  chain-swap m n right before first next (i ∷ is) olds news same r a ch written rest =
      subst (λ o. Chain links n before o ((i ∷ is) ++ news)) ch.0 (chain-to m n right before first next i is olds news same r a ch written rest)

module _ {T : Type 0} (links : T → Links) (with_links : T → Links → T) (reads : (x : T) (to : Links) → links (with_links x to) ≡ to) where
  pub get-with_next_at-elsewhere : (m : Items T) (at next : Option Id) (q : Id) → Some q ≢ at → get (with_next_at links with_links m at next) q ≡ get m q
  get-with_next_at-elsewhere m None next q other = refl
  get-with_next_at-elsewhere m (Some id) next q other = by (get m id)
    where
      by : (o : Option T) → get (option_map_or (λ x. insert m id (with_links x (record { next = next; prev = (links x).prev }))) o m) q ≡ get m q
      by None = refl
      by (Some x) = get-insert-elsewhere m id _ q (λ e. other (ap Some e))

  pub get-with_prev_at-elsewhere : (m : Items T) (at prev : Option Id) (q : Id) → Some q ≢ at → get (with_prev_at links with_links m at prev) q ≡ get m q
  get-with_prev_at-elsewhere m None prev q other = refl
  get-with_prev_at-elsewhere m (Some id) prev q other = by (get m id)
    where
      by : (o : Option T) → get (option_map_or (λ x. insert m id (with_links x (record { next = (links x).next; prev = prev }))) o m) q ≡ get m q
      by None = refl
      by (Some x) = get-insert-elsewhere m id _ q (λ e. other (ap Some e))

  pub get-with_next_at-here : (m : Items T) (id : Id) (next : Option Id) (x : T) → get m id ≡ Some x → get (with_next_at links with_links m (Some id) next) id ≡ Some (with_links x (record { next = next; prev = (links x).prev }))
  get-with_next_at-here m id next x e =
      ap (λ o. get (option_map_or (λ x. insert m id (with_links x (record { next = next; prev = (links x).prev }))) o m) id) e ∙ get-insert-here m id _

  pub get-with_prev_at-here : (m : Items T) (id : Id) (prev : Option Id) (x : T) → get m id ≡ Some x → get (with_prev_at links with_links m (Some id) prev) id ≡ Some (with_links x (record { next = (links x).next; prev = prev }))
  get-with_prev_at-here m id prev x e =
      ap (λ o. get (option_map_or (λ x. insert m id (with_links x (record { next = (links x).next; prev = prev }))) o m) id) e ∙ get-insert-here m id _

  -- a join writes two items alone
  pub with_ends-same : (m : Items T) (left next right prev : Option Id) → SameBut links m (with_ends links with_links m left next right prev) left right
  with_ends-same m left next right prev = λ q l r. get-with_prev_at-elsewhere _ right prev q r ∙ get-with_next_at-elsewhere m left next q l

  -- the left one is followed by the next
  pub with_ends-left : (m : Items T) (left next right prev : Option Id) (q : Id) (x : T) → Some q ≢ right → Some q ≡ left → get m q ≡ Some x → get (with_ends links with_links m left next right prev) q ≡ Some (with_links x (record { next = next; prev = (links x).prev }))
  with_ends-left m left next right prev q x other is e =
      get-with_prev_at-elsewhere _ right prev q other ∙ ap (λ at. get (with_next_at links with_links m at next) q) (sym is) ∙ get-with_next_at-here m q next x e

  -- the right one is after the previous
  pub with_ends-right : (m : Items T) (left next right prev : Option Id) (q : Id) (x : T) → Some q ≢ left → Some q ≡ right → get m q ≡ Some x → get (with_ends links with_links m left next right prev) q ≡ Some (with_links x (record { next = (links x).next; prev = prev }))
  with_ends-right m left next right prev q x other is e =
      ap (λ at. get (with_prev_at links with_links (with_next_at links with_links m left next) at prev) q) (sym is)
      ∙ get-with_prev_at-here _ q prev x (get-with_next_at-elsewhere m left next q other ∙ e)
