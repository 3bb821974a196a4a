-- What is read of rows, ids and buckets.
use Rattle.std.proofs.Common.{◌≡◌, ◌≢◌, ◌⊎◌, inl, inr, ℕ, ◌<◌, false, cond, [], ◌∷◌, length, Option, Some, None, IsSome, refl, sym, ap, ◌∙◌, arith, set, get_or-set_same, get_or-set_other}
use mathlib.Core.Path.{subst}
use Rattle.std.specs.Option.{option_map, option_and_then}
use Rattle.std.specs.Ordering.{nat_cmp}
use Rattle.std.specs.FinMap.{get, find, from_entries, get-from_entries, nat_cmp-IsAntisymmetric, same_map}
use Rattle.std.specs.Cmp.{nat_cmp_total, unsigned_tied}
use Rattle.std.specs.Prelude.{nat_eq}
use Rattle.std.proofs.lemmas.Bool.{ne_eqb}
use Rattle.ztree.proofs.Maps.{same_or_other}
use Rattle.ztree.specs.declared.session.Session.{Session}
use Rattle.ztree.specs.Tree.{Sessions}
use Rattle.zslots.specs.declared.id.Id.{Id}
use Rattle.zslots.specs.declared.linked.Links.{Links}
use Rattle.zslots.specs.declared.list.List.{List as IdList}
use Rattle.zslots.specs.Families.{key_at, ChangesHead}
use Rattle.zslots.specs.Lists.{empty_list}
use Rattle.zslots.proofs.Items.{some_same}
use Rattle.zslots.proofs.MapValues.{get-map_values}
use Rattle.zsessions.specs.declared.row.SessionRow.{SessionRow}
use Rattle.zsessions.specs.support.Rows.{Rows, Buckets, IdEntries, IsTable, bucket, bucket_number, number_of, session_at, id_at, found_at, sessions_of}

pub same_number : (p q : ℕ) → (p ≡ q) ⊎ (p ≢ q)
same_number p q = same_or_other nat_cmp_total nat_cmp-IsAntisymmetric p q

-- a query for n finds no other key
pub other_key : (n q : ℕ) → q ≢ n → nat_eq n q ≡ false
other_key n q other = ne_eqb n q (λ e. other (sym e))

pub same_sessions : (m n : Sessions) → ((q : ℕ) → get m q ≡ get n q) → m ≡ n
same_sessions m n alike = same_map nat_cmp_total nat_cmp-IsAntisymmetric m n alike

find-ids : (ids : IdEntries) (n : ℕ) → find nat_cmp n ids ≡ id_at ids n
find-ids [] n = refl
find-ids (e ∷ ids) n = λ i. cond (unsigned_tied n e.0 i) (Some e.1) (find-ids ids n i)

pub get-ids : (ids : IdEntries) (n : ℕ) → get (from_entries {R = nat_cmp} ids) n ≡ id_at ids n
get-ids ids n = get-from_entries nat_cmp_total ids n ∙ find-ids ids n

pub get-sessions : (ids : IdEntries) (rows : Rows) (n : ℕ) → get (sessions_of ids rows) n ≡ option_and_then (session_at rows) (id_at ids n)
get-sessions ids rows n =
    get-map_values nat_cmp_total (session_at rows) (from_entries ids) n
    ∙ ap (option_and_then (session_at rows)) (get-ids ids n)

-- the key of a row is fixed by what a part of it is
pub and_then-map : {X Y : Type 0} (f : X → Option Y) (o : Option X) → option_and_then f o ≡ option_and_then (λ y. y) (option_map f o)
and_then-map f None = refl
and_then-map f (Some x) = refl

pub key-kept : (m n : Rows) (q : Id) → option_map number_of (get n q) ≡ option_map number_of (get m q) → key_at number_of n q ≡ key_at number_of m q
key-kept m n q kept = and_then-map number_of (get n q) ∙ ap (option_and_then (λ y. y)) kept ∙ sym (and_then-map number_of (get m q))

pub key_there : (rows : Rows) (id : Id) (row : SessionRow) → get rows id ≡ Some row → key_at number_of rows id ≡ Some (bucket_number row.session.deadline)
key_there rows id row e = ap (option_and_then number_of) e

pub key_none : (rows : Rows) (id : Id) → get rows id ≡ None → key_at number_of rows id ≡ None
key_none rows id e = ap (option_and_then number_of) e

-- a row with a key is there
pub key_has : (rows : Rows) (q : Id) (k : ℕ) → key_at number_of rows q ≡ Some k → (row : SessionRow) × (get rows q ≡ Some row)
key_has rows q k e = by (get rows q) refl e
  where
    by : (o : Option SessionRow) → get rows q ≡ o → option_and_then number_of o ≡ Some k → (row : SessionRow) × (get rows q ≡ Some row)
    by None is e = cc
    by (Some row) is e = (row, is)

pub small : (deadline : ℕ) → bucket_number deadline < 32
small deadline = omega arith

-- one list written
pub bucket-set : (buckets : Buckets) (k : ℕ) (list : IdList 0) → length buckets ≡ 32 → k < 32 → ChangesHead (bucket buckets) (bucket (set buckets k list)) k list
bucket-set buckets k list wide low q = by (same_number q k)
  where
    by : (q ≡ k) ⊎ (q ≢ k) → ((q ≡ k) × (bucket (set buckets k list) q ≡ list)) ⊎ ((q ≢ k) × (bucket (set buckets k list) q ≡ bucket buckets q))
    by (inl e) = inl (e, ap (bucket (set buckets k list)) e ∙ get_or-set_same buckets k list empty_list (omega (arith, wide, low)))
    by (inr other) = inr (other, get_or-set_other buckets k q list empty_list other)

-- the row under a session's id, all of it but its links
pub row_here : (ids : IdEntries) (rows : Rows) (buckets : Buckets) (n : ℕ) (id : Id) (s : Session) → IsTable ids rows buckets → id_at ids n ≡ Some id → session_at rows id ≡ Some s → (l : Links) × (get rows id ≡ Some (record { id = n; session = s; links = l }))
row_here ids rows buckets n id s is under session = by (get rows id) refl (is.named n id under) session
  where
    by : (o : Option SessionRow) → get rows id ≡ o → option_map (λ (row : SessionRow). row.id) o ≡ Some n → option_map (λ (row : SessionRow). row.session) o ≡ Some s → (l : Links) × (o ≡ Some (record { id = n; session = s; links = l }))
    by None has named is = cc
    by (Some row) has named is =
        let number : row.id ≡ n = some_same row.id n named in
        let same : row.session ≡ s = some_same row.session s is in
        (row.links, λ i. Some (record { id = number i; session = same i; links = row.links }))

-- what is found is the Id under a session's id, and the session of its row
pub found-both : (ids : IdEntries) (rows : Rows) (n : ℕ) (id : Id) (s : Session) → found_at ids rows n ≡ Some (id, s) → (id_at ids n ≡ Some id) × (session_at rows id ≡ Some s)
found-both ids rows n id s = by (id_at ids n) refl
  where
    at : (j : Id) (o : Option Session) → option_map {U = Id × Session} (λ t. (j, t)) o ≡ Some (id, s) → (j ≡ id) × (o ≡ Some s)
    at j None e = cc
    at j (Some t) e =
        let pair = some_same (j, t) (id, s) e in
        (ap (λ (p : Id × Session). p.0) pair, ap (λ (p : Id × Session). Some p.1) pair)

    by : (o : Option Id) → id_at ids n ≡ o → option_and_then {U = Id × Session} (λ j. option_map (λ t. (j, t)) (session_at rows j)) o ≡ Some (id, s) → (id_at ids n ≡ Some id) × (session_at rows id ≡ Some s)
    by None is e = cc
    by (Some j) is e =
        let both = at j (session_at rows j) e in
        (is ∙ ap Some both.0, ap (session_at rows) (sym both.0) ∙ both.1)

-- a session is there exactly where one is found
pub found-session : (ids : IdEntries) (rows : Rows) (n : ℕ) → get (sessions_of ids rows) n ≡ option_map (λ (p : Id × Session). p.1) (found_at ids rows n)
found-session ids rows n = get-sessions ids rows n ∙ by (id_at ids n)
  where
    at : (j : Id) (o : Option Session) → o ≡ option_map (λ (p : Id × Session). p.1) (option_map {U = Id × Session} (λ t. (j, t)) o)
    at j None = refl
    at j (Some t) = refl

    by : (o : Option Id) → option_and_then (session_at rows) o ≡ option_map (λ (p : Id × Session). p.1) (option_and_then {U = Id × Session} (λ j. option_map (λ t. (j, t)) (session_at rows j)) o)
    by None = refl
    by (Some j) = at j (session_at rows j)

nothing : IsSome {T = Session} None → ⊥
nothing some = cc

-- a session that is there has an Id, and this a row
pub has_id : (ids : IdEntries) (rows : Rows) (n : ℕ) → IsSome (get (sessions_of ids rows) n) → id_at ids n ≡ None → ⊥
has_id ids rows n there none =
    nothing (subst IsSome (get-sessions ids rows n ∙ ap (option_and_then (session_at rows)) none) there)

pub has_row : (ids : IdEntries) (rows : Rows) (n : ℕ) (id : Id) → IsSome (get (sessions_of ids rows) n) → id_at ids n ≡ Some id → session_at rows id ≡ None → ⊥
has_row ids rows n id there under none =
    nothing (subst IsSome (get-sessions ids rows n ∙ ap (option_and_then (session_at rows)) under ∙ none) there)

-- no Id where there is no session
pub no_id : (ids : IdEntries) (rows : Rows) (buckets : Buckets) (n : ℕ) → IsTable ids rows buckets → get (sessions_of ids rows) n ≡ None → id_at ids n ≡ None
no_id ids rows buckets n is none = by (id_at ids n) refl (sym (get-sessions ids rows n) ∙ none)
  where
    no_row : (id : Id) (o : Option SessionRow) → option_map (λ (row : SessionRow). row.id) o ≡ Some n → option_map (λ (row : SessionRow). row.session) o ≡ None → ⊥
    no_row id None named gone = cc
    no_row id (Some row) named gone = cc

    by : (o : Option Id) → id_at ids n ≡ o → option_and_then (session_at rows) o ≡ None → o ≡ None
    by None e gone = refl
    by (Some id) e gone = absurd (no_row id (get rows id) (is.named n id e) gone)
