-- One session fewer.
use Rattle.std.proofs.Common.{◌≡◌, ◌≢◌, ◌⊎◌, inl, inr, ℕ, ◌<◌, length, Option, Some, None, refl, sym, ap, ◌∙◌}
use Rattle.std.specs.Option.{option_map, option_and_then}
use Rattle.std.specs.FinMap.{get, remove, nat_cmp-IsAntisymmetric}
use Rattle.std.specs.Cmp.{nat_cmp_total}
use Rattle.ztree.proofs.Maps.{get-remove-here as session_here, get-remove-elsewhere as session_elsewhere}
use Rattle.zslots.specs.declared.id.Id.{Id}
use Rattle.zslots.specs.declared.linked.Links.{Links}
use Rattle.zslots.specs.Families.{key_at, IsListedBy}
use Rattle.zslots.specs.Lists.{list_without}
use Rattle.zslots.proofs.Items.{some_same}
use Rattle.zslots.proofs.Maps.{same_or_other, get-remove-here, get-remove-elsewhere}
use Rattle.zslots.proofs.Moves.{kept-with_ends}
use Rattle.zslots.proofs.Families.{families-kept, families-unlinked, family-some}
use Rattle.zsessions.specs.declared.row.SessionRow.{SessionRow}
use Rattle.zsessions.specs.support.Rows.{Rows, Buckets, IdEntries, IsTable, row_links, with_row_links, bucket, bucket_number, number_of, number_at, session_at, id_at, sessions_of, unfiled_items, unfiled_buckets}
use Rattle.zsessions.proofs.Read.{same_number, same_sessions, get-sessions, key-kept, key_there, key_none, small, bucket-set}

none_some : {A B : Type 0} (x : A) → None ≡ Some x → B
none_some x e = cc

-- a row taken out of its bucket
module _ (ids : IdEntries) (rows : Rows) (buckets : Buckets) (id : Id) (row : SessionRow) (is : IsTable ids rows buckets) (has : get rows id ≡ Some row) where
  abbrev pub old_number : ℕ
  old_number = bucket_number row.session.deadline

  abbrev pub unfiled : Rows
  unfiled = unfiled_items rows id

  abbrev pub left_buckets : Buckets
  left_buckets = unfiled_buckets rows buckets row.session.deadline id

  pub end-some : 0 < (bucket buckets old_number).len
  end-some = family-some row_links rows (key_at number_of rows) (bucket buckets old_number) old_number (is.listed old_number) id (key_there rows id row has)

  -- no other part of a row changes
  pub unfiled-part : {X : Type 0} (f : SessionRow → X) → ((x : SessionRow) (to : Links) → f (with_row_links x to) ≡ f x) → (q : Id) → option_map f (get unfiled q) ≡ option_map f (get rows q)
  unfiled-part f leaves q = kept-with_ends row_links with_row_links (λ _ _. refl) f leaves rows _ _ _ _ q

  -- the keys, without that of the row
  abbrev pub left_key : Id → Option ℕ
  left_key = key_at number_of (remove unfiled id)

  pub left-none : left_key id ≡ None
  left-none = key_none (remove unfiled id) id (get-remove-here unfiled id)

  pub left-other : (q : Id) → q ≢ id → left_key q ≡ key_at number_of rows q
  left-other q other =
      ap (option_and_then number_of) (get-remove-elsewhere unfiled id q other)
      ∙ key-kept rows unfiled q (unfiled-part number_of (λ _ _. refl) q)

  pub left-listed : length buckets ≡ 32 → IsListedBy row_links unfiled left_key (bucket left_buckets)
  left-listed wide = families-unlinked row_links with_row_links (λ _ _. refl) rows unfiled (key_at number_of rows) left_key (bucket buckets) (bucket left_buckets) old_number id
      (key_there rows id row has) left-none left-other (λ q. refl)
      (bucket-set buckets old_number (list_without row_links rows (bucket buckets old_number) id) wide (small row.session.deadline))
      is.listed

  -- the row gone
  abbrev pub ended : Rows
  ended = remove unfiled id

  ended-listed : length buckets ≡ 32 → IsListedBy row_links ended (key_at number_of ended) (bucket left_buckets)
  ended-listed wide = families-kept row_links unfiled ended left_key left_key (bucket left_buckets) (bucket left_buckets)
      (λ q t e. ap (option_map row_links) (get-remove-elsewhere unfiled id q (λ same. none_some t (sym left-none ∙ ap left_key (sym same) ∙ e))))
      (λ q. refl) (λ t. refl) (left-listed wide)

  ended-other : {X : Type 0} (f : SessionRow → X) → ((x : SessionRow) (to : Links) → f (with_row_links x to) ≡ f x) → (q : Id) → q ≢ id → option_map f (get ended q) ≡ option_map f (get rows q)
  ended-other f leaves q other = ap (option_map f) (get-remove-elsewhere unfiled id q other) ∙ unfiled-part f leaves q

  number_here : number_at rows id ≡ Some row.id
  number_here = ap (option_map (λ (x : SessionRow). x.id)) has

  module _ (later : IdEntries) (gone : id_at later row.id ≡ None) (others : (q : ℕ) → q ≢ row.id → id_at later q ≡ id_at ids q) where
    away : (q : ℕ) (j : Id) → q ≢ row.id → id_at ids q ≡ Some j → j ≢ id
    away q j other e same = other (some_same q row.id (sym (is.named q j e) ∙ ap (number_at rows) same ∙ number_here))

    ended-found : (j : Id) (q : ℕ) → number_at ended j ≡ Some q → id_at later q ≡ Some j
    ended-found j q e = by (same_or_other j id)
      where
        by : (j ≡ id) ⊎ (j ≢ id) → id_at later q ≡ Some j
        by (inl same) =
            none_some q (sym (ap (option_map (λ (x : SessionRow). x.id)) (get-remove-here unfiled id)) ∙ ap (number_at ended) (sym same) ∙ e)
        by (inr other) =
            let old = is.found j q (sym (ended-other (λ x. x.id) (λ _ _. refl) j other) ∙ e) in
            let mine = is.found id row.id number_here in
            others q (λ same. other (some_same j id (sym old ∙ ap (id_at ids) same ∙ mine))) ∙ old

    ended-named : (q : ℕ) (j : Id) → id_at later q ≡ Some j → number_at ended j ≡ Some q
    ended-named q j e = by (same_number q row.id)
      where
        by : (q ≡ row.id) ⊎ (q ≢ row.id) → number_at ended j ≡ Some q
        by (inl same) = none_some j (sym gone ∙ ap (id_at later) (sym same) ∙ e)
        by (inr other) =
            let old = sym (others q other) ∙ e in
            ended-other (λ x. x.id) (λ _ _. refl) j (away q j other old) ∙ is.named q j old

    pub ended-table : length buckets ≡ 32 → IsTable later ended left_buckets
    ended-table wide = record { found = ended-found; named = ended-named; listed = ended-listed wide }

    pub ended-sessions : sessions_of later ended ≡ remove (sessions_of ids rows) row.id
    ended-sessions = same_sessions _ _ (λ q. get-sessions later ended q ∙ by q (same_number q row.id))
      where
        old_session : (q : ℕ) → q ≢ row.id → (o : Option Id) → id_at ids q ≡ o → option_and_then (session_at ended) o ≡ option_and_then (session_at rows) o
        old_session q other None e = refl
        old_session q other (Some j) e = ended-other (λ x. x.session) (λ _ _. refl) j (away q j other e)

        by : (q : ℕ) → (q ≡ row.id) ⊎ (q ≢ row.id) → option_and_then (session_at ended) (id_at later q) ≡ get (remove (sessions_of ids rows) row.id) q
        by q (inl same) =
            ap (option_and_then (session_at ended)) (ap (id_at later) same ∙ gone)
            ∙ sym (ap (get (remove (sessions_of ids rows) row.id)) same ∙ session_here nat_cmp_total nat_cmp-IsAntisymmetric (sessions_of ids rows) row.id)
        by q (inr other) =
            ap (option_and_then (session_at ended)) (others q other)
            ∙ old_session q other (id_at ids q) refl
            ∙ sym (get-sessions ids rows q)
            ∙ sym (session_elsewhere nat_cmp_total nat_cmp-IsAntisymmetric (sessions_of ids rows) row.id q other)
