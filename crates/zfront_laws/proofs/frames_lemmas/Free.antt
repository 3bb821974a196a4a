-- A session has a connection, and a watch is of a connection, only where this one speaks. So it
-- stays at each change of the tables.
use Rattle.std.proofs.Common.{◌≡◌, ◌≢◌, ◌⊎◌, inl, inr, ◌∙◌, ℕ, Bool, true, false, not, ◌&&◌, ◌||◌, List, Option, None}
use Rattle.std.proofs.Common.{Some, refl, sym, ap, subst, eqb}
use Rattle.std.specs.Prelude.{if◌then◌else◌, unwrap_or}
use Rattle.std.proofs.lemmas.Bool.{eq-eqb}
use Rattle.std.specs.Cmp.{nat_cmp_total}
use Rattle.std.specs.Ordering.{eq_by_cmp}
use Rattle.std.specs.FinMap.{get, insert, remove, nat_cmp-IsAntisymmetric}
use Rattle.std.specs.FinSet.{contains, contains-retain, contains-insert, retain}
use Rattle.std.specs.FinSet as sets
use Rattle.std.specs.Option.{option_map_or}
use Rattle.ztree.proofs.Maps.{same_some, none_some, tied_same, get-insert-here, get-insert-elsewhere, get-remove-here, get-remove-elsewhere}
use Rattle.zconnections.specs.declared.buffers.phase.Phase.{Phase}
use Rattle.zconnections.specs.declared.buffers.phase.Phase.TheVariants.{Silent, Speaking, Closing}
use Rattle.zconnections.specs.buffers.Outbox.{ChunkView}
use Rattle.zconnections.specs.buffers.Streams.{StreamRows, empty_in, phase_of}
use Rattle.zconnections.specs.declared.attachments.attachment.Attachment.{Attachment}
use Rattle.zconnections.specs.attachments.Attachments.{AttachmentsView, left, new_attachment, restored_attachment, with_changed}
use Rattle.zconnections.specs.attachments.Attachments as seats
use Rattle.zwatches.specs.declared.changes.event.Event.{Event}
use Rattle.zjute.specs.declared.watch_type.WatchType.{WatchType}
use Rattle.zwatches.specs.Removal.{is_meant}
use Rattle.zresponses.specs.effects.Watching.{unwatched as dropped}
use Rattle.zwatches.specs.declared.kind.Kind.{Kind}
use Rattle.zwatches.specs.declared.watch.Watch.{Watch}
use Rattle.zwatches.specs.Watches.{Path, Watches, watch, watch_cmp}
use Rattle.zwatches.specs.Events as watches
use Rattle.zwatches.proofs.Order.{watches_total, same_watch}
use Rattle.zconnections.specs.Tables.{TablesView, is_open, session_in, without_seat, parted, closing, closed, connection_of}
use Rattle.zconnections.specs.Tables.{sent, attachment, seated, with_chunk, chunk}
use Rattle.zconnections.specs.Reporting.{unwatched}
use Rattle.zconnections.specs.Sweeping.{forgotten}
use Rattle.zfront_laws.proofs.Seated.{same_number, seat_elsewhere, seat_here, connection_in}
use Rattle.zfront_laws.proofs.frames_lemmas.Views.{phase_in, changed-elsewhere}

abbrev pub speaks : Option Phase → Bool
speaks (Some Silent) = false
speaks (Some (Speaking session)) = true
speaks (Some Closing) = false
speaks None = false

pub record Free (c : ℕ) (t : TablesView) : Type 0 where
  pub seat : (session : ℕ) → connection_of t.attachments session ≡ Some c → phase_of t.streams c ≡ Some (Speaking session)
  pub watch : (w : Watch) → contains t.watches w ≡ true → w.connection ≡ c → speaks (phase_of t.streams c) ≡ true

-- the same stream, and no seat or watch more
pub free_by : (c : ℕ) (t u : TablesView) → get u.streams c ≡ get t.streams c
    → ((session : ℕ) → connection_of u.attachments session ≡ Some c → connection_of t.attachments session ≡ Some c)
    → ((w : Watch) → contains u.watches w ≡ true → w.connection ≡ c → contains t.watches w ≡ true) → Free c t → Free c u
free_by c t u same was had free = record {
  seat = λ session is. ap phase_in same ∙ free.seat session (was session is);
  watch = λ w is own. ap (λ o. speaks (phase_in o)) same ∙ free.watch w (had w is own) own;
}

-- ---- watches that stay

both_true : (a b : Bool) → (a && b) ≡ true → (a ≡ true) × (b ≡ true)
both_true true b is = (refl, is)
both_true false b is = absurd (cc is)

retained : (ws : Watches) (p : Watch → Bool) (w : Watch) → contains (retain ws p) w ≡ true → (contains ws w ≡ true) × (p w ≡ true)
retained ws p w is = both_true (contains ws w) (p w) (sym (contains-retain ws p w (λ x tie. ap p (sym (same_watch w x tie)))) ∙ is)

pub free-unwatched : (c : ℕ) (e : Event) (t : TablesView) → Free c t → Free c (unwatched e t)
free-unwatched c e t free =
    free_by c t (unwatched e t) refl (λ session is. is) (λ w is own. (retained t.watches (λ w. not (watches.ends e.kind e.path w)) w is).0) free

pub free-dropped : (c d : ℕ) (type : WatchType) (path : Path) (t : TablesView) → Free c t → Free c (dropped d type path t)
free-dropped c d type path t free =
    free_by c t (dropped d type path t) refl (λ session is. is) (λ w is own. (retained t.watches (λ w. not (is_meant d type path w)) w is).0) free

not_own : (c : ℕ) (w : Watch) → w.connection ≡ c → not (eqb w.connection c) ≡ true → ⊥
not_own c w own is =
    let clash : false ≡ true = sym (ap not (eq-eqb w.connection c own)) ∙ is in
    cc clash

-- a watch that is set
set_there : (a b : Bool) → (a || b) ≡ true → (a ≡ true) ⊎ (b ≡ true)
set_there true b is = inl refl
set_there false b is = inr is

pub free-waiting : (c d : ℕ) (kind : Kind) (path : Path) (t : TablesView) → (d ≡ c → speaks (phase_of t.streams c) ≡ true) → Free c t
    → Free c (record t { watches = sets.insert t.watches (watch path kind d) })
free-waiting c d kind path t own free = record {
  seat = free.seat;
  watch = λ w is mine. by w mine (set_there _ _ (sym (contains-insert watches_total t.watches (watch path kind d) w) ∙ is));
}
  where
    by : (w : Watch) → w.connection ≡ c → (eq_by_cmp watch_cmp w (watch path kind d) ≡ true) ⊎ (contains t.watches w ≡ true)
        → speaks (phase_of t.streams c) ≡ true
    by w mine (inl tie) = own (sym (ap (λ (x : Watch). x.connection) (tied_same watches_total same_watch w (watch path kind d) tie)) ∙ mine)
    by w mine (inr there) = free.watch w there mine

-- ---- a connection that leaves its session

left_was : (o : Option ℕ) (t : TablesView) (session x : ℕ) → connection_of (without_seat o t) session ≡ Some x
    → (connection_of t.attachments session ≡ Some x) × (o ≡ Some session → ⊥)
left_was None t session x is = (is, λ clash. none_some session clash)
left_was (Some mine) t session x is = near (same_number session mine)
  where
    gone : (o : Option Attachment) → get t.attachments mine ≡ o → connection_of (with_changed left t.attachments mine) mine ≡ None
    gone None none = ap (λ o. connection_of (option_map_or (λ s. insert t.attachments mine (left s)) o t.attachments) mine) none ∙ ap connection_in none
    gone (Some s) there = ap connection_in (seat_here left t.attachments mine s there)

    near : (session ≡ mine) ⊎ (session ≢ mine) → (connection_of t.attachments session ≡ Some x) × (Some mine ≡ Some session → ⊥)
    near (inl same) =
        absurd (none_some x (sym (gone (get t.attachments mine) refl) ∙ ap (connection_of (with_changed left t.attachments mine)) (sym same) ∙ is))
    near (inr apart) = (
      sym (ap connection_in (seat_elsewhere left t.attachments mine session apart)) ∙ is,
      λ own. apart (sym (same_some mine session own)),
    )

-- it has nothing left
pub free-parted : (c : ℕ) (t : TablesView) (rows : StreamRows) (chunks : List ChunkView) → Free c t
    → Free c (record (parted c t) { streams = rows; unsent = chunks })
free-parted c t rows chunks free = record {
  seat = λ session is.
      let was = left_was (session_in (phase_of t.streams c)) t session c is in
      absurd (was.1 (ap session_in (free.seat session was.0)));
  watch = λ w is own. absurd (not_own c w own (retained t.watches (λ w. not (eqb w.connection c)) w is).1);
}

-- and the others have no more
pub free-parted-elsewhere : (c d : ℕ) (t : TablesView) (rows : StreamRows) (chunks : List ChunkView) → get rows c ≡ get t.streams c → Free c t
    → Free c (record (parted d t) { streams = rows; unsent = chunks })
free-parted-elsewhere c d t rows chunks same free =
    free_by c t (record (parted d t) { streams = rows; unsent = chunks }) same
    (λ session is. (left_was (session_in (phase_of t.streams d)) t session c is).0)
    (λ w is own. (retained t.watches (λ w. not (eqb w.connection d)) w is).0) free

pub free-closed : (c d : ℕ) (t : TablesView) → Free c t → Free c (closed d t)
free-closed c d t free = elim (is_open t d) as (λ b. Free c (if b then closing d t else t)) [
  | true ↦ near (same_number d c)
  | false ↦ free
]
  where
    near : (d ≡ c) ⊎ (d ≢ c) → Free c (closing d t)
    near (inl same) = subst (λ x. Free c (closing x t)) (sym same) (free-parted c t (closing c t).streams (closing c t).unsent free)
    near (inr other) =
        free-parted-elsewhere c d t (closing d t).streams (closing d t).unsent
        (changed-elsewhere (λ s. empty_in Closing) t.streams d c (λ is. other (sym is))) free

pub free-sent : (c d : ℕ) (bytes : List ℕ) (t : TablesView) → Free c t → Free c (sent d bytes t)
free-sent c d bytes t free = elim (is_open t d) as (λ b. Free c (if b then with_chunk (chunk d bytes) t else t)) [
  | true ↦ record { seat = free.seat; watch = free.watch }
  | false ↦ free
]

-- ---- sessions

-- the same seats
pub free-attachments : (c : ℕ) (t : TablesView) (m : AttachmentsView) → ((id : ℕ) → connection_of m id ≡ connection_of t.attachments id) → Free c t
    → Free c (record t { attachments = m })
free-attachments c t m alike free = free_by c t (record t { attachments = m }) refl (λ session is. sym (alike session) ∙ is) (λ w is own. is) free

pub free-forgotten : (c session : ℕ) (t : TablesView) → Free c t → Free c (forgotten session t)
free-forgotten c session t free =
    free_by c t (forgotten session t) refl (λ other is. near other is (same_number other session)) (λ w is own. is) free
  where
    near : (other : ℕ) → connection_of (remove t.attachments session) other ≡ Some c → (other ≡ session) ⊎ (other ≢ session)
        → connection_of t.attachments other ≡ Some c
    near other is (inl same) =
        absurd (none_some c (sym (ap connection_in (get-remove-here nat_cmp_total nat_cmp-IsAntisymmetric t.attachments session))
        ∙ ap (connection_of (remove t.attachments session)) (sym same) ∙ is))
    near other is (inr apart) = sym
        (ap connection_in (get-remove-elsewhere nat_cmp_total nat_cmp-IsAntisymmetric t.attachments session other apart)) ∙ is

-- who has the seats, where a session gets an attachment with a connection
new_seat : (m : AttachmentsView) (session d x other : ℕ) (s : Attachment) → s.connection ≡ Some d → connection_of (insert m session s) other ≡ Some x
    → ((other ≡ session) × (d ≡ x)) ⊎ ((other ≢ session) × (connection_of m other ≡ Some x))
new_seat m session d x other s sits is = near (same_number other session)
  where
    near : (other ≡ session) ⊎ (other ≢ session) → ((other ≡ session) × (d ≡ x)) ⊎ ((other ≢ session) × (connection_of m other ≡ Some x))
    near (inl same) =
        inl (
          same,
          same_some d x (sym (ap connection_in (get-insert-here nat_cmp_total nat_cmp-IsAntisymmetric m session s) ∙ sits)
              ∙ ap (connection_of (insert m session s)) (sym same) ∙ is),
        )
    near (inr apart) =
        inr (apart, sym (ap connection_in (get-insert-elsewhere nat_cmp_total nat_cmp-IsAntisymmetric m session s other apart)) ∙ is)

-- that of one that is taken up
abbrev taken_in : AttachmentsView → ℕ → ℕ → Attachment
taken_in m session d = seats.taken_up d (unwrap_or (get m session) restored_attachment)

-- another connection gets it
seat_of_another : (c d : ℕ) (t : TablesView) (session other : ℕ) → d ≢ c → ((other ≡ session) × (d ≡ c))
    ⊎ ((other ≢ session) × (connection_of t.attachments other ≡ Some c))
    → connection_of t.attachments other ≡ Some c
seat_of_another c d t session other apart (inl own) = absurd (apart own.1)
seat_of_another c d t session other apart (inr was) = was.1

pub free-attachment-elsewhere : (c d session : ℕ) (t : TablesView) → d ≢ c → Free c t → Free c (attachment session d t)
free-attachment-elsewhere c d session t other free =
    free_by c t (attachment session d t) (changed-elsewhere (λ s. record s { phase = Speaking session }) t.streams d c (λ is. other (sym is)))
    (λ s is. seat_of_another c d t session s other (new_seat t.attachments session d c s (new_attachment d) refl is)) (λ w is own. is) free

pub free-seated-elsewhere : (c d session : ℕ) (t : TablesView) → d ≢ c → Free c t → Free c (seated session d t)
free-seated-elsewhere c d session t other free =
    free_by c t (seated session d t) (changed-elsewhere (λ s. record s { phase = Speaking session }) t.streams d c (λ is. other (sym is)))
    (λ s is. seat_of_another c d t session s other (new_seat t.attachments session d c s (taken_in t.attachments session d) refl is)) (λ w is own. is) free

-- the connection itself gets it, and speaks then
own_seat : (c : ℕ) (t : TablesView) (session other : ℕ) (p : Option Phase) → Free c t → phase_of t.streams c ≡ Some Silent
    → p ≡ Some (Speaking session)
    → ((other ≡ session) × (c ≡ c)) ⊎ ((other ≢ session) × (connection_of t.attachments other ≡ Some c)) → p ≡ Some (Speaking other)
own_seat c t session other p free silent speaking (inl own) = speaking ∙ ap (λ s. Some (Speaking s)) (sym own.0)
own_seat c t session other p free silent speaking (inr was) =
    let clash : false ≡ true = sym (ap speaks silent) ∙ ap speaks (free.seat other was.1) in
    absurd (cc clash)

module _ (c session : ℕ) (t : TablesView) (free : Free c t) (silent : phase_of t.streams c ≡ Some Silent) where
  pub free-attachment : phase_of (attachment session c t).streams c ≡ Some (Speaking session) → Free c (attachment session c t)
  free-attachment speaking = record {
    seat = λ s is. own_seat c t session s (phase_of (attachment session c t).streams c) free silent speaking
        (new_seat t.attachments session c c s (new_attachment c) refl is);
    watch = λ w is own. ap speaks speaking;
  }

  pub free-seated : phase_of (seated session c t).streams c ≡ Some (Speaking session) → Free c (seated session c t)
  free-seated speaking = record {
    seat = λ s is. own_seat c t session s (phase_of (seated session c t).streams c) free silent speaking
        (new_seat t.attachments session c c s (taken_in t.attachments session c) refl is);
    watch = λ w is own. ap speaks speaking;
  }
