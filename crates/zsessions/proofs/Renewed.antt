-- A session's deadline written, and its row in another bucket.
use Rattle.std.proofs.Common.{◌≡◌, ◌≢◌, ◌⊎◌, inl, inr, ℕ, ◌<◌, length, Option, Some, None, IsSome, refl, sym, ap, ◌∙◌, length-set}
use mathlib.Core.Path.{subst}
use Rattle.std.specs.Option.{option_map, option_map_or, option_and_then}
use Rattle.std.specs.FinMap as finite
use Rattle.std.specs.FinMap.{get, insert, nat_cmp-IsAntisymmetric}
use Rattle.std.specs.Cmp.{nat_cmp_total}
use Rattle.ztree.proofs.Maps.{get-insert-here as session_here, get-insert-elsewhere as session_elsewhere}
use Rattle.ztree.specs.declared.session.Session.{Session}
use Rattle.zslots.specs.declared.id.Id.{Id}
use Rattle.zslots.specs.declared.linked.Links.{Links}
use Rattle.zslots.specs.Families.{key_at, IsListedBy}
use Rattle.zslots.specs.Lists.{list_with_front}
use Rattle.zslots.proofs.Items.{some_same}
use Rattle.zslots.proofs.Maps.{same_or_other, get-insert-here, get-insert-elsewhere}
use Rattle.zslots.proofs.Moves.{kept-with_front}
use Rattle.zslots.proofs.Families.{families-kept, families-pushed, family-room}
use Rattle.zsessions.specs.Deadlines.{with_deadline}
use Rattle.zsessions.specs.declared.row.SessionRow.{SessionRow}
use Rattle.zsessions.specs.support.Rows.{Rows, Buckets, IdEntries, IsTable, row_links, with_row_links, bucket, bucket_number, number_of, number_at, session_at, id_at, found_at, sessions_of, filed_items, filed_buckets, with_row_deadline, with_deadline_at, moved_items, moved_buckets, CanMove}
use Rattle.zsessions.proofs.Read.{same_number, same_sessions, get-sessions, key-kept, key_there, small, bucket-set, row_here, found-both}
use Rattle.zsessions.proofs.Ended.{unfiled, unfiled-part, left_buckets, left_key, left-none, left-other, left-listed, end-some}

none_some : {A B : Type 0} (x : A) → None ≡ Some x → B
none_some x e = cc

module _ (ids : IdEntries) (rows : Rows) (buckets : Buckets) (id : Id) (row : SessionRow) (is : IsTable ids rows buckets) (has : get rows id ≡ Some row) (deadline : ℕ) where
  abbrev pub out : Rows
  out = unfiled ids rows buckets id row is has

  abbrev pub middle : Buckets
  middle = left_buckets ids rows buckets id row is has

  abbrev pub k : ℕ
  k = bucket_number deadline

  -- the row, out of its bucket, has all it had but its links
  pub out_row : (x : SessionRow) × (get out id ≡ Some x) × (x.id ≡ row.id) × (x.session ≡ row.session)
  out_row = by (get out id) refl (unfiled-part ids rows buckets id row is has {X = ℕ × Session} (λ x. (x.id, x.session)) (λ _ _. refl) id ∙ ap (option_map {U = ℕ × Session} (λ (x : SessionRow). (x.id, x.session))) has)
    where
      by : (o : Option SessionRow) → get out id ≡ o → option_map {U = ℕ × Session} (λ (x : SessionRow). (x.id, x.session)) o ≡ Some (row.id, row.session) → (x : SessionRow) × (o ≡ Some x) × (x.id ≡ row.id) × (x.session ≡ row.session)
      by None e same = cc
      by (Some x) e same =
          let pair = some_same (x.id, x.session) (row.id, row.session) same in
          (x, refl, ap (λ (p : ℕ × Session). p.0) pair, ap (λ (p : ℕ × Session). p.1) pair)

  abbrev pub written : SessionRow
  written = with_row_deadline out_row.0 deadline

  abbrev pub added : Rows
  added = insert out id written

  pub written-is : with_deadline_at out id deadline ≡ added
  written-is = ap (λ o. option_map_or (λ row. insert out id (with_row_deadline row deadline)) o out) out_row.1

  abbrev pub renewed : Rows
  renewed = filed_items added middle deadline id

  abbrev pub renewed_buckets : Buckets
  renewed_buckets = filed_buckets middle deadline id

  added-listed : length buckets ≡ 32 → IsListedBy row_links added (left_key ids rows buckets id row is has) (bucket middle)
  added-listed wide =
      let key = left_key ids rows buckets id row is has in
      families-kept row_links out added key key (bucket middle) (bucket middle)
      (λ q t e. ap (option_map row_links) (get-insert-elsewhere out id written q (λ same. none_some t (sym (left-none ids rows buckets id row is has) ∙ ap key (sym same) ∙ e))))
      (λ q. refl) (λ t. refl) (left-listed ids rows buckets id row is has wide)

  pub renew-room : length buckets ≡ 32 → (bucket middle k).len < finite.len added
  renew-room wide =
      family-room row_links added (left_key ids rows buckets id row is has) (bucket middle k) k (added-listed wide k) id
      (subst IsSome (sym (get-insert-here out id written)) refl)
      (λ e. none_some k (sym (left-none ids rows buckets id row is has) ∙ e))

  module _ {X : Type 0} (f : SessionRow → X) (leaves : (x : SessionRow) (to : Links) → f (with_row_links x to) ≡ f x) where
    renewed-here : option_map f (get renewed id) ≡ Some (f written)
    renewed-here =
        kept-with_front row_links with_row_links (λ _ _. refl) f leaves added (bucket middle k).first id id
        ∙ ap (option_map f) (get-insert-here out id written)

    renewed-other : (q : Id) → q ≢ id → option_map f (get renewed q) ≡ option_map f (get rows q)
    renewed-other q other =
        kept-with_front row_links with_row_links (λ _ _. refl) f leaves added (bucket middle k).first id q
        ∙ ap (option_map f) (get-insert-elsewhere out id written q other)
        ∙ unfiled-part ids rows buckets id row is has f leaves q

  renewed-number : (q : Id) → number_at renewed q ≡ number_at rows q
  renewed-number q = by (same_or_other q id)
    where
      by : (q ≡ id) ⊎ (q ≢ id) → number_at renewed q ≡ number_at rows q
      by (inl same) =
          ap (number_at renewed) same ∙ renewed-here (λ x. x.id) (λ _ _. refl) ∙ ap Some out_row.2
          ∙ sym (ap (number_at rows) same ∙ ap (option_map (λ (x : SessionRow). x.id)) has)
      by (inr other) = renewed-other (λ x. x.id) (λ _ _. refl) q other

  renewed-listed : length buckets ≡ 32 → IsListedBy row_links renewed (key_at number_of renewed) (bucket renewed_buckets)
  renewed-listed wide =
      let key = left_key ids rows buckets id row is has in
      let there = subst IsSome (sym (get-insert-here out id written)) refl in
      families-pushed row_links with_row_links (λ _ _. refl) added renewed key (key_at number_of renewed) (bucket middle) (bucket renewed_buckets) k id
      there
      (left-none ids rows buckets id row is has)
      (key-kept added renewed id (renewed-here number_of (λ _ _. refl) ∙ sym (ap (option_map number_of) (get-insert-here out id written))) ∙ key_there added id written (get-insert-here out id written))
      (λ q other. key-kept rows renewed q (renewed-other number_of (λ _ _. refl) q other) ∙ sym (left-other ids rows buckets id row is has q other))
      (λ q. refl)
      (bucket-set middle k (list_with_front (bucket middle k) id) (length-set buckets _ _ ∙ wide) (small deadline))
      (added-listed wide)

  pub renewed-table : length buckets ≡ 32 → IsTable ids renewed renewed_buckets
  renewed-table wide = record {
    found = λ j q e. is.found j q (sym (renewed-number j) ∙ e);
    named = λ q j e. renewed-number j ∙ is.named q j e;
    listed = renewed-listed wide;
  }

  number_here : number_at rows id ≡ Some row.id
  number_here = ap (option_map (λ (x : SessionRow). x.id)) has

  under : id_at ids row.id ≡ Some id
  under = is.found id row.id number_here

  found : get (sessions_of ids rows) row.id ≡ Some row.session
  found = get-sessions ids rows row.id ∙ ap (option_and_then (session_at rows)) under ∙ ap (option_map (λ (x : SessionRow). x.session)) has

  pub renewed-sessions : sessions_of ids renewed ≡ with_deadline (sessions_of ids rows) row.id deadline
  renewed-sessions = same_sessions _ _ (λ q. get-sessions ids renewed q ∙ by q (same_number q row.id)) ∙ sym is_insert
    where
      is_insert : with_deadline (sessions_of ids rows) row.id deadline ≡ insert (sessions_of ids rows) row.id (record row.session { deadline = deadline })
      is_insert = ap (λ o. option_map_or (λ (s : Session). insert (sessions_of ids rows) row.id (record s { deadline = deadline })) o (sessions_of ids rows)) found

      old_session : (q : ℕ) → q ≢ row.id → (o : Option Id) → id_at ids q ≡ o → option_and_then (session_at renewed) o ≡ option_and_then (session_at rows) o
      old_session q other None e = refl
      old_session q other (Some j) e =
          renewed-other (λ x. x.session) (λ _ _. refl) j (λ same. other (some_same q row.id (sym (is.named q j e) ∙ ap (number_at rows) same ∙ number_here)))

      by : (q : ℕ) → (q ≡ row.id) ⊎ (q ≢ row.id) → option_and_then (session_at renewed) (id_at ids q) ≡ get (insert (sessions_of ids rows) row.id (record row.session { deadline = deadline })) q
      by q (inl same) =
          ap (option_and_then (session_at renewed)) (ap (id_at ids) same ∙ under)
          ∙ renewed-here (λ x. x.session) (λ _ _. refl)
          ∙ ap (λ (s : Session). Some (record s { deadline = deadline })) out_row.3
          ∙ sym (ap (get (insert (sessions_of ids rows) row.id (record row.session { deadline = deadline }))) same ∙ session_here nat_cmp_total nat_cmp-IsAntisymmetric (sessions_of ids rows) row.id (record row.session { deadline = deadline }))
      by q (inr other) =
          old_session q other (id_at ids q) refl
          ∙ sym (get-sessions ids rows q)
          ∙ sym (session_elsewhere nat_cmp_total nat_cmp-IsAntisymmetric (sessions_of ids rows) row.id (record row.session { deadline = deadline }) q other)

-- a session that is found, given another deadline
module _ (ids : IdEntries) (rows : Rows) (buckets : Buckets) (n : ℕ) (id : Id) (s : Session) (is : IsTable ids rows buckets) (here : found_at ids rows n ≡ Some (id, s)) (deadline : ℕ) (wide : length buckets ≡ 32) where
  there : (l : Links) × (get rows id ≡ Some (record { id = n; session = s; links = l }))
  there =
      let both = found-both ids rows n id s here in
      row_here ids rows buckets n id s is both.0 both.1

  abbrev row : SessionRow
  row = record { id = n; session = s; links = there.0 }

  pub can_move : CanMove rows buckets s.deadline deadline id
  can_move = record {
    some = end-some ids rows buckets id row is there.1;
    room = subst (λ (r : Rows). (bucket (middle ids rows buckets id row is there.1 deadline) (bucket_number deadline)).len < finite.len r)
        (sym (written-is ids rows buckets id row is there.1 deadline)) (renew-room ids rows buckets id row is there.1 deadline wide);
  }

  items : moved_items rows buckets s.deadline deadline id ≡ renewed ids rows buckets id row is there.1 deadline
  items = ap (λ (r : Rows). filed_items r (middle ids rows buckets id row is there.1 deadline) deadline id) (written-is ids rows buckets id row is there.1 deadline)

  pub moved-table : IsTable ids (moved_items rows buckets s.deadline deadline id) (moved_buckets rows buckets s.deadline deadline id)
  moved-table =
      subst (λ (r : Rows). IsTable ids r (moved_buckets rows buckets s.deadline deadline id)) (sym items)
      (renewed-table ids rows buckets id row is there.1 deadline wide)

  pub moved-sessions : sessions_of ids (moved_items rows buckets s.deadline deadline id) ≡ with_deadline (sessions_of ids rows) n deadline
  moved-sessions = ap (sessions_of ids) items ∙ renewed-sessions ids rows buckets id row is there.1 deadline
