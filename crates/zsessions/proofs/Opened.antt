-- One session more.
use Rattle.std.proofs.Common.{◌≡◌, ◌≢◌, ◌⊎◌, inl, inr, ℕ, ◌<◌, length, Option, Some, None, IsSome, refl, sym, ap, ◌∙◌}
use mathlib.Core.Path.{subst}
use Rattle.std.specs.Option.{option_map, option_and_then}
use Rattle.std.specs.FinMap as finite
use Rattle.std.specs.FinMap.{get, insert, remove, nat_cmp-IsAntisymmetric}
use Rattle.std.specs.Cmp.{nat_cmp_total}
use Rattle.ztree.proofs.Maps.{get-insert-here as session_here, get-insert-elsewhere as session_elsewhere}
use Rattle.zslots.specs.declared.id.Id.{Id}
use Rattle.zslots.specs.declared.linked.Links.{Links}
use Rattle.zslots.specs.Families.{key_at, IsListedBy}
use Rattle.zslots.specs.Lists.{list_with_front}
use Rattle.zslots.proofs.Items.{some_same}
use Rattle.zslots.proofs.Maps.{same_or_other, get-insert-here, get-insert-elsewhere, get-remove-here, get-remove-elsewhere, same_items}
use Rattle.zslots.proofs.Moves.{kept-with_front}
use Rattle.zslots.proofs.Families.{families-kept, families-pushed, family-room}
use Rattle.zsessions.specs.declared.row.SessionRow.{SessionRow}
use Rattle.zsessions.specs.support.Rows.{Rows, Buckets, IdEntries, IsTable, row_links, with_row_links, bucket, bucket_number, number_of, number_at, session_at, id_at, sessions_of, filed_items, filed_buckets}
use Rattle.zsessions.proofs.Read.{same_number, same_sessions, get-sessions, key-kept, key_there, key_none, key_has, small, bucket-set}

none_some : {A B : Type 0} (x : A) → None ≡ Some x → B
none_some x e = cc

-- a row that came and went
pub removed-inserted : (rows : Rows) (id : Id) (row : SessionRow) → get rows id ≡ None → remove (insert rows id row) id ≡ rows
removed-inserted rows id row new = same_items _ _ (λ q. by q (same_or_other q id))
  where
    by : (q : Id) → (q ≡ id) ⊎ (q ≢ id) → get (remove (insert rows id row) id) q ≡ get rows q
    by q (inl same) = ap (get (remove (insert rows id row) id)) same ∙ get-remove-here _ id ∙ sym new ∙ ap (get rows) (sym same)
    by q (inr other) = get-remove-elsewhere _ id q other ∙ get-insert-elsewhere rows id row q other

-- a row under a new Id, put into the bucket of its deadline
module _ (ids : IdEntries) (rows : Rows) (buckets : Buckets) (id : Id) (row : SessionRow) (is : IsTable ids rows buckets) (new : get rows id ≡ None) where
  abbrev pub k : ℕ
  k = bucket_number row.session.deadline

  abbrev pub added : Rows
  added = insert rows id row

  abbrev pub opened : Rows
  opened = filed_items added buckets row.session.deadline id

  other_than : (q : Id) (x : SessionRow) → get rows q ≡ Some x → q ≢ id
  other_than q x e same = none_some x (sym new ∙ ap (get rows) (sym same) ∙ e)

  -- the row is in no bucket yet
  added-listed : IsListedBy row_links added (key_at number_of rows) (bucket buckets)
  added-listed = families-kept row_links rows added (key_at number_of rows) (key_at number_of rows) (bucket buckets) (bucket buckets)
      (λ q t e. let x = key_has rows q t e in ap (option_map row_links) (get-insert-elsewhere rows id row q (other_than q x.0 x.1)))
      (λ q. refl) (λ t. refl) is.listed

  pub open-room : (bucket buckets k).len < finite.len added
  open-room =
      family-room row_links added (key_at number_of rows) (bucket buckets k) k (added-listed k) id
      (subst IsSome (sym (get-insert-here rows id row)) refl)
      (λ e. none_some k (sym (key_none rows id new) ∙ e))

  module _ {X : Type 0} (f : SessionRow → X) (leaves : (x : SessionRow) (to : Links) → f (with_row_links x to) ≡ f x) where
    opened-here : option_map f (get opened id) ≡ Some (f row)
    opened-here =
        kept-with_front row_links with_row_links (λ _ _. refl) f leaves added (bucket buckets k).first id id
        ∙ ap (option_map f) (get-insert-here rows id row)

    opened-other : (q : Id) → q ≢ id → option_map f (get opened q) ≡ option_map f (get rows q)
    opened-other q other =
        kept-with_front row_links with_row_links (λ _ _. refl) f leaves added (bucket buckets k).first id q
        ∙ ap (option_map f) (get-insert-elsewhere rows id row q other)

  opened-listed : length buckets ≡ 32 → IsListedBy row_links opened (key_at number_of opened) (bucket (filed_buckets buckets row.session.deadline id))
  opened-listed wide = families-pushed row_links with_row_links (λ _ _. refl) added opened (key_at number_of rows) (key_at number_of opened) (bucket buckets) (bucket (filed_buckets buckets row.session.deadline id)) k id
      (subst IsSome (sym (get-insert-here rows id row)) refl)
      (key_none rows id new)
      (key-kept added opened id (opened-here number_of (λ _ _. refl) ∙ sym (ap (option_map number_of) (get-insert-here rows id row))) ∙ key_there added id row (get-insert-here rows id row))
      (λ q other. key-kept rows opened q (opened-other number_of (λ _ _. refl) q other))
      (λ q. refl)
      (bucket-set buckets k (list_with_front (bucket buckets k) id) wide (small row.session.deadline))
      added-listed

  module _ (later : IdEntries) (free : id_at ids row.id ≡ None) (here : id_at later row.id ≡ Some id) (others : (q : ℕ) → q ≢ row.id → id_at later q ≡ id_at ids q) where
    opened-found : (j : Id) (q : ℕ) → number_at opened j ≡ Some q → id_at later q ≡ Some j
    opened-found j q e = by (same_or_other j id)
      where
        by : (j ≡ id) ⊎ (j ≢ id) → id_at later q ≡ Some j
        by (inl same) =
            let number : row.id ≡ q = some_same row.id q (sym (opened-here (λ x. x.id) (λ _ _. refl)) ∙ ap (number_at opened) (sym same) ∙ e) in
            ap (id_at later) (sym number) ∙ here ∙ ap Some (sym same)
        by (inr other) =
            let old = is.found j q (sym (opened-other (λ x. x.id) (λ _ _. refl) j other) ∙ e) in
            others q (λ same. none_some j (sym free ∙ ap (id_at ids) (sym same) ∙ old)) ∙ old

    opened-named : (q : ℕ) (j : Id) → id_at later q ≡ Some j → number_at opened j ≡ Some q
    opened-named q j e = by (same_number q row.id)
      where
        by : (q ≡ row.id) ⊎ (q ≢ row.id) → number_at opened j ≡ Some q
        by (inl same) =
            let own : j ≡ id = some_same j id (sym e ∙ ap (id_at later) same ∙ here) in
            ap (number_at opened) own ∙ opened-here (λ x. x.id) (λ _ _. refl) ∙ ap Some (sym same)
        by (inr other) =
            let old = is.named q j (sym (others q other) ∙ e) in
            let away : j ≢ id = λ same. none_some q (sym (ap (option_map (λ (x : SessionRow). x.id)) new) ∙ ap (number_at rows) (sym same) ∙ old) in
            opened-other (λ x. x.id) (λ _ _. refl) j away ∙ old

    pub opened-table : length buckets ≡ 32 → IsTable later opened (filed_buckets buckets row.session.deadline id)
    opened-table wide = record { found = opened-found; named = opened-named; listed = opened-listed wide }

    pub opened-sessions : sessions_of later opened ≡ insert (sessions_of ids rows) row.id row.session
    opened-sessions = same_sessions _ _ (λ q. get-sessions later opened q ∙ by q (same_number q row.id))
      where
        old_session : (q : ℕ) (o : Option Id) → id_at ids q ≡ o → option_and_then (session_at opened) o ≡ option_and_then (session_at rows) o
        old_session q None e = refl
        old_session q (Some j) e =
            let away : j ≢ id = λ same. none_some q (sym (ap (option_map (λ (x : SessionRow). x.id)) new) ∙ ap (number_at rows) (sym same) ∙ is.named q j e) in
            opened-other (λ x. x.session) (λ _ _. refl) j away

        by : (q : ℕ) → (q ≡ row.id) ⊎ (q ≢ row.id) → option_and_then (session_at opened) (id_at later q) ≡ get (insert (sessions_of ids rows) row.id row.session) q
        by q (inl same) =
            ap (option_and_then (session_at opened)) (ap (id_at later) same ∙ here)
            ∙ opened-here (λ x. x.session) (λ _ _. refl)
            ∙ sym (ap (get (insert (sessions_of ids rows) row.id row.session)) same ∙ session_here nat_cmp_total nat_cmp-IsAntisymmetric (sessions_of ids rows) row.id row.session)
        by q (inr other) =
            ap (option_and_then (session_at opened)) (others q other)
            ∙ old_session q (id_at ids q) refl
            ∙ sym (get-sessions ids rows q)
            ∙ sym (session_elsewhere nat_cmp_total nat_cmp-IsAntisymmetric (sessions_of ids rows) row.id row.session q other)
