-- Each connection that speaks for a session has its seat, whatever single change the tables take.
use Rattle.std.proofs.Common.{◌≡◌, ◌≢◌, ◌⊎◌, inl, inr, ◌∙◌, ℕ, Bool, true, false, List, [], ◌∷◌, Option, None, Some, refl, sym, ap, subst}
use Rattle.std.specs.Prelude.{if◌then◌else◌, unwrap_or}
use Rattle.std.specs.Cmp.{nat_cmp_total}
use Rattle.std.specs.FinMap.{get, insert, remove, nat_cmp-IsAntisymmetric}
use Rattle.std.specs.Option.{option_map, option_map_or, option_and_then}
use Rattle.ztree.proofs.Maps.{same_some, none_some, same_or_other, get-insert-here, get-insert-elsewhere, get-remove-here, get-remove-elsewhere}
use Rattle.zwatches.specs.declared.changes.event.Event.{Event}
use Rattle.zconnections.specs.declared.buffers.phase.Phase.{Phase}
use Rattle.zconnections.specs.declared.buffers.phase.Phase.TheVariants.{Silent, Speaking, Closing}
use Rattle.zconnections.specs.buffers.Streams.{StreamView, StreamRows, changed, empty_in, phase_of, with_phase}
use Rattle.zconnections.specs.buffers.Streams as stream
use Rattle.zconnections.specs.declared.attachments.attachment.Attachment.{Attachment}
use Rattle.zconnections.specs.attachments.Attachments.{AttachmentsView, left, new_attachment, restored_attachment, with_changed, with_seat}
use Rattle.zconnections.specs.attachments.Attachments as seats
use Rattle.zwatches.specs.Events as watches
use Rattle.zconnections.specs.Tables.{TablesView, may_send, is_open, session_in, without_seat, closing, closed, ended, sent}
use Rattle.zconnections.specs.Tables.{chunk, with_chunk, connection_of, moved, taken_up, attachment}
use Rattle.zconnections.specs.Reporting.{event_frame, sent_on, unwatched, in_order, reported, reported_all}
use Rattle.zconnections.specs.Sweeping.{swept, swept_all}
use Rattle.zfront_laws.specs.Seats.{IsSeated, OneSpeaks, SeatsAreKept}

pub same_number : (c d : ℕ) → (c ≡ d) ⊎ (c ≢ d)
same_number c d = same_or_other nat_cmp_total nat_cmp-IsAntisymmetric c d

-- a stream that is changed, and the others
module _ (to : StreamView → StreamView) (rows : StreamRows) (c : ℕ) where
  pub phase_elsewhere : (d : ℕ) → d ≢ c → phase_of (changed to rows c) d ≡ phase_of rows d
  phase_elsewhere d other = each (get rows c)
    where
      each : (o : Option StreamView) → phase_of (option_map_or (λ s. insert rows c (to s)) o rows) d ≡ phase_of rows d
      each None = refl
      each (Some s) = ap (option_map (λ (s : StreamView). s.phase)) (get-insert-elsewhere nat_cmp_total nat_cmp-IsAntisymmetric rows c (to s) d other)

  pub phase_here : (q : Phase) → phase_of (changed to rows c) c ≡ Some q → (s : StreamView) × (get rows c ≡ Some s) × ((to s).phase ≡ q)
  phase_here q is = each (get rows c) refl is
    where
      each : (o : Option StreamView) → get rows c ≡ o → phase_of (option_map_or (λ s. insert rows c (to s)) o rows) c ≡ Some q
          → (s : StreamView) × (get rows c ≡ Some s) × ((to s).phase ≡ q)
      each None found has = absurd (none_some q (sym (ap (option_map (λ (s : StreamView). s.phase)) found) ∙ has))
      each (Some s) found has = (
        s,
        found,
        same_some (to s).phase q
            (sym (ap (option_map (λ (s : StreamView). s.phase)) (get-insert-here nat_cmp_total nat_cmp-IsAntisymmetric rows c (to s))) ∙ has),
      )

never_speaks : (session : ℕ) → Closing ≡ Speaking session → ⊥
never_speaks session is = cc

same_session : (session other : ℕ) → Speaking session ≡ Speaking other → session ≡ other
same_session session other is = cc

closed_silent : (rows : StreamRows) (c session : ℕ) → phase_of (stream.closed rows c) c ≡ Some (Speaking session) → ⊥
closed_silent rows c session is = never_speaks session (phase_here (λ s. empty_in Closing) rows c (Speaking session) is).2

-- an attachment that is changed, and the others
pub seat_elsewhere : (to : Attachment → Attachment) (m : AttachmentsView) (id other : ℕ) → other ≢ id → get (with_changed to m id) other ≡ get m other
seat_elsewhere to m id other apart = each (get m id)
  where
    each : (o : Option Attachment) → get (option_map_or (λ s. insert m id (to s)) o m) other ≡ get m other
    each None = refl
    each (Some s) = get-insert-elsewhere nat_cmp_total nat_cmp-IsAntisymmetric m id (to s) other apart

pub seat_here : (to : Attachment → Attachment) (m : AttachmentsView) (id : ℕ) (s : Attachment) → get m id ≡ Some s → get (with_changed to m id) id ≡ Some (to s)
seat_here to m id s is =
    ap (λ o. get (option_map_or (λ s. insert m id (to s)) o m) id) is ∙ get-insert-here nat_cmp_total nat_cmp-IsAntisymmetric m id (to s)

abbrev pub connection_in : Option Attachment → Option ℕ
connection_in o = option_and_then (λ s. s.connection) o

-- a session has an attachment
abbrev pub Has : AttachmentsView → ℕ → Type 0
Has m id = (s : Attachment) × (get m id ≡ Some s)

-- who speaks has an attachment
pub has_seat : (t : TablesView) (c session : ℕ) → IsSeated t → phase_of t.streams c ≡ Some (Speaking session) → Has t.attachments session
has_seat t c session seated speaks = each (get t.attachments session) refl (seated c session speaks)
  where
    each : (o : Option Attachment) → get t.attachments session ≡ o → connection_in o ≡ Some c → Has t.attachments session
    each None found has = absurd (none_some c has)
    each (Some s) found has = (s, found)

-- no two speak for one session
pub one_speaks : OneSpeaks
one_speaks t c d session seated one two = same_some c d (sym (seated c session one) ∙ seated d session two)

-- where one connection leaves its session, the others keep theirs
left_seat : (c d mine session : ℕ) (t : TablesView) → IsSeated t → d ≢ c → phase_of t.streams c ≡ Some (Speaking mine)
    → phase_of t.streams d ≡ Some (Speaking session)
    → connection_of (with_changed left t.attachments mine) session ≡ Some d
left_seat c d mine session t seated other is speaks = each (same_number session mine)
  where
    each : (session ≡ mine) ⊎ (session ≢ mine) → connection_of (with_changed left t.attachments mine) session ≡ Some d
    each (inl same) =
        absurd (other (same_some d c (sym (seated d session speaks) ∙ ap (connection_of t.attachments) same ∙ seated c mine is)))
    each (inr apart) = ap connection_in (seat_elsewhere left t.attachments mine session apart) ∙ seated d session speaks

parts : (c : ℕ) (t : TablesView) → IsSeated t → (d session : ℕ) → d ≢ c → phase_of t.streams d ≡ Some (Speaking session)
    → connection_of (without_seat (session_in (phase_of t.streams c)) t) session ≡ Some d
parts c t seated d session other speaks = each (phase_of t.streams c) refl
  where
    each : (p : Option Phase) → phase_of t.streams c ≡ p → connection_of (without_seat (session_in p) t) session ≡ Some d
    each None is = seated d session speaks
    each (Some Silent) is = seated d session speaks
    each (Some (Speaking mine)) is = left_seat c d mine session t seated other is speaks
    each (Some Closing) is = seated d session speaks

closes_now : (c : ℕ) (t : TablesView) → IsSeated t → IsSeated (closing c t)
closes_now c t seated d session speaks = each (same_number d c)
  where
    each : (d ≡ c) ⊎ (d ≢ c) → connection_of (closing c t).attachments session ≡ Some d
    each (inl same) = absurd (closed_silent t.streams c session (ap (phase_of (stream.closed t.streams c)) (sym same) ∙ speaks))
    each (inr other) = parts c t seated d session other (sym (phase_elsewhere (λ s. empty_in Closing) t.streams c d other) ∙ speaks)

pub closes : (c : ℕ) (t : TablesView) → IsSeated t → IsSeated (closed c t)
closes c t seated = elim (is_open t c) as (λ b. IsSeated (if b then closing c t else t)) [
  | true ↦ closes_now c t seated
  | false ↦ seated
]

pub ends : (c : ℕ) (t : TablesView) → IsSeated t → IsSeated (ended c t)
ends c t seated d session speaks = each (same_number d c)
  where
    phase : Option StreamView → Option Phase
    phase o = option_map (λ s. s.phase) o

    each : (d ≡ c) ⊎ (d ≢ c) → connection_of (ended c t).attachments session ≡ Some d
    each (inl same) =
        absurd (none_some (Speaking session) (
        sym (ap phase (get-remove-here nat_cmp_total nat_cmp-IsAntisymmetric t.streams c)) ∙ ap (phase_of (remove t.streams c)) (sym same) ∙ speaks
        ))
    each (inr other) =
        parts c t seated d session other
        (sym (ap phase (get-remove-elsewhere nat_cmp_total nat_cmp-IsAntisymmetric t.streams c d other)) ∙ speaks)

pub sends : (c : ℕ) (bytes : List ℕ) (t : TablesView) → IsSeated t → IsSeated (sent c bytes t)
sends c bytes t seated = elim (is_open t c) as (λ b. IsSeated (if b then with_chunk (chunk c bytes) t else t)) [
  | true ↦ seated
  | false ↦ seated
]

-- what is reported
sends_on : (cs bytes : List ℕ) (t : TablesView) → IsSeated t → IsSeated (sent_on cs bytes t)
sends_on [] bytes t seated = seated
sends_on (c ∷ cs) bytes t seated = sends_on cs bytes (sent c bytes t) (sends c bytes t seated)

pub reports_all : (es : List Event) (t : TablesView) → IsSeated t → IsSeated (reported_all es t)
reports_all [] t seated = seated
reports_all (e ∷ es) t seated =
    reports_all es (reported e t) (sends_on (in_order (watches.reported t.watches e.kind e.path)) (event_frame e) (unwatched e t) seated)

-- who speaks after a close spoke before, and is another one
spoke : (c : ℕ) (t : TablesView) (d session : ℕ) → phase_of (closed c t).streams d ≡ Some (Speaking session)
    → (d ≢ c) × (phase_of t.streams d ≡ Some (Speaking session))
spoke c t d session speaks = each (is_open t c) refl speaks
  where
    near : (d ≡ c) ⊎ (d ≢ c) → phase_of (stream.closed t.streams c) d ≡ Some (Speaking session)
        → (d ≢ c) × (phase_of t.streams d ≡ Some (Speaking session))
    near (inl same) has = absurd (closed_silent t.streams c session (ap (phase_of (stream.closed t.streams c)) (sym same) ∙ has))
    near (inr other) has = (other, sym (phase_elsewhere (λ s. empty_in Closing) t.streams c d other) ∙ has)

    each : (b : Bool) → is_open t c ≡ b → phase_of (if b then closing c t else t).streams d ≡ Some (Speaking session)
        → (d ≢ c) × (phase_of t.streams d ≡ Some (Speaking session))
    each true is has = near (same_number d c) has
    each false is has = (
      λ same.
          let clash : true ≡ false = sym (ap may_send (ap (phase_of t.streams) (sym same) ∙ has)) ∙ is in
          cc,
      has,
    )

pub moves : (session : ℕ) (t : TablesView) → IsSeated t → IsSeated (moved session t)
moves session t seated = elim (connection_of t.attachments session) as (λ o. IsSeated (option_map_or (λ c. closed c t) o t)) [
  | None ↦ seated
  | Some c ↦ closes c t seated
]

-- no one speaks for a session whose connection was closed
nobody : (session : ℕ) (t : TablesView) → IsSeated t → (d : ℕ) → phase_of (moved session t).streams d ≡ Some (Speaking session) → ⊥
nobody session t seated d speaks = each (connection_of t.attachments session) refl speaks
  where
    each : (o : Option ℕ) → connection_of t.attachments session ≡ o → phase_of (option_map_or (λ c. closed c t) o t).streams d
        ≡ Some (Speaking session) → ⊥
    each None is has = none_some d (sym is ∙ seated d session has)
    each (Some c) is has =
        let before = spoke c t d session has in
        before.0 (same_some d c (sym (seated d session before.1) ∙ is))

-- sessions that are gone
pub sweeps : (session : ℕ) (t : TablesView) → IsSeated t → IsSeated (swept session t)
sweeps session t seated d other speaks = each (same_number other session)
  where
    each : (other ≡ session) ⊎ (other ≢ session) → connection_of (swept session t).attachments other ≡ Some d
    each (inl same) =
        absurd (nobody session t seated d (subst (λ s. phase_of (moved session t).streams d ≡ Some (Speaking s)) same speaks))
    each (inr apart) =
        ap connection_in (get-remove-elsewhere nat_cmp_total nat_cmp-IsAntisymmetric (moved session t).attachments session other apart)
        ∙ moves session t seated d other speaks

pub sweeps_all : (sessions : List ℕ) (t : TablesView) → IsSeated t → IsSeated (swept_all sessions t)
sweeps_all [] t seated = seated
sweeps_all (session ∷ sessions) t seated = sweeps_all sessions (swept session t) (sweeps session t seated)

-- a session gets a connection, and no other one speaks for it
takes_seat : (session c : ℕ) (t : TablesView) (m : AttachmentsView) → connection_of m session ≡ Some c
    → ((other : ℕ) → other ≢ session → connection_of m other ≡ connection_of t.attachments other)
    → ((d : ℕ) → phase_of t.streams d ≡ Some (Speaking session) → ⊥) → IsSeated t
    → IsSeated (record t { streams = with_phase t.streams c (Speaking session); attachments = m })
takes_seat session c t m here elsewhere free seated d other speaks = near (same_number d c)
  where
    same_rows : StreamView → StreamView
    same_rows s = record s { phase = Speaking session }

    far : phase_of t.streams d ≡ Some (Speaking other) → (other ≡ session) ⊎ (other ≢ session) → connection_of m other ≡ Some d
    far has (inl same) = absurd (free d (subst (λ s. phase_of t.streams d ≡ Some (Speaking s)) same has))
    far has (inr apart) = elsewhere other apart ∙ seated d other has

    near : (d ≡ c) ⊎ (d ≢ c) → connection_of m other ≡ Some d
    near (inl same) =
        let row = phase_here same_rows t.streams c (Speaking other) (ap (phase_of (with_phase t.streams c (Speaking session))) (sym same) ∙ speaks) in
        ap (connection_of m) (sym (same_session session other row.2)) ∙ here ∙ ap (λ n. Some n) (sym same)
    near (inr away) = far (sym (phase_elsewhere same_rows t.streams c d away) ∙ speaks) (same_number other session)

-- where an attachment is put, its session has the connection that is in it
module _ (m : AttachmentsView) (session : ℕ) (s : Attachment) where
  put_here : connection_of (insert m session s) session ≡ s.connection
  put_here = ap connection_in (get-insert-here nat_cmp_total nat_cmp-IsAntisymmetric m session s)

  put_elsewhere : (other : ℕ) → other ≢ session → connection_of (insert m session s) other ≡ connection_of m other
  put_elsewhere other apart = ap connection_in (get-insert-elsewhere nat_cmp_total nat_cmp-IsAntisymmetric m session s other apart)

pub takes_up : (session c : ℕ) (t : TablesView) → IsSeated t → IsSeated (taken_up session c t)
takes_up session c t seated =
    let u = moved session t in
    let s = seats.taken_up c (unwrap_or (get u.attachments session) restored_attachment) in
    takes_seat session c u (with_seat u.attachments session c) (put_here u.attachments session s) (put_elsewhere u.attachments session s)
    (nobody session t seated) (moves session t seated)

pub opens : (session c : ℕ) (t : TablesView) → connection_of t.attachments session ≡ None → IsSeated t → IsSeated (attachment session c t)
opens session c t none seated =
    takes_seat session c t (insert t.attachments session (new_attachment c)) (put_here t.attachments session (new_attachment c))
    (put_elsewhere t.attachments session (new_attachment c)) (λ d speaks. none_some d (sym none ∙ seated d session speaks)) seated

pub seats_are_kept : SeatsAreKept
seats_are_kept = record {
  closed = closes;
  ended = ends;
  sent = sends;
  reported = reports_all;
  swept = sweeps_all;
  taken_up = takes_up;
  opened = opens;
}
