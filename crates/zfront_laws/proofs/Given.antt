-- What each step gives the connections: what is stored of one, and what an opening and an end do.
use Rattle.std.proofs.Common.{◌≡◌, ◌≢◌, ◌⊎◌, inl, inr, ◌∙◌, ℕ, ◌+◌, Bool, true, false, List, [], ◌++◌, length, Option, Some, refl, sym, ap, subst}
use Rattle.std.proofs.lemmas.Bool.{eq-eqb, ne_eqb}
use Rattle.std.specs.Prelude.{nat_eq, nat_lt, ◌||◌, if◌then◌else◌}
use Rattle.std.specs.Cmp.{nat_cmp_total}
use Rattle.std.specs.FinMap.{get, insert, nat_cmp-IsAntisymmetric}
use Rattle.std.specs.Option.{option_map_or}
use Rattle.ztree.proofs.Maps.{same_some, get-insert-here, get-insert-elsewhere, get-removed}
use Rattle.zjute.specs.Frames.{Whole, next_of}
use Rattle.zconnections.specs.buffers.Inputs.InputView.{Opened, Came, Ended}
use Rattle.zconnections.specs.declared.buffers.phase.Phase.{Phase}
use Rattle.zconnections.specs.declared.buffers.phase.Phase.TheVariants.{Silent, Speaking, Closing}
use Rattle.zconnections.specs.buffers.Streams.{StreamView, StreamRows, bytes_of, held_of, opened, phase_of, with_bytes}
use Rattle.zconnections.specs.Tables.{TablesView, may_send, is_open, closed, ended}
use Rattle.zfront.specs.declared.limits.TheConstants.{MAX_KEPT}
use Rattle.zfront.specs.Front.{FrontView, with_tables}
use Rattle.zfront.specs.Inputs as inputs
use Rattle.zfront.specs.Reading.{is_too_long, kept, keeps}
use Rattle.zfront_laws.specs.Given.{since_step, IsNoOpening}
use Rattle.zfront_laws.specs.Runs.{Step, Takes}
use Rattle.zfront_laws.proofs.Greeted.{GainsBy, IsShut, shuts, silent_on, speaks_on}
use Rattle.zfront_laws.proofs.Quiet.{Quiet, StaysOpen, carries_quiet, phase_by, row_elsewhere, row_here, row_of, was_in}
use Rattle.zfront_laws.proofs.Seated.{same_number}

-- ---- what is stored of a connection

-- the bytes of a connection that isn't closing are as they were
bytes_stay : (old new : StreamRows) (d : ℕ) (p : Phase) → StaysOpen old new d → (p ≡ Closing → ⊥) → phase_of new d ≡ Some p
    → bytes_of new d ≡ bytes_of old d
bytes_stay old new d p stays going is =
    let row = row_of new d p is in
    let there = stays row.0 row.1 (λ closes. going (sym row.2 ∙ closes)) in
    ap (λ o. option_map_or (λ (s : StreamView). s.bytes) o []) (row.1 ∙ sym there)

-- a connection with other bytes is in the same phase
pub phase_kept : (rows : StreamRows) (c : ℕ) (bytes : List ℕ) (p : Phase) → phase_of (with_bytes rows c bytes) c ≡ Some p → phase_of rows c ≡ Some p
phase_kept rows c bytes p is =
    let row = row_of (with_bytes rows c bytes) c p is in
    let was = row_here (λ s. record s { bytes = bytes }) rows c row.0 row.1 in
    phase_by rows c was.0 was.1 ∙ ap (λ q. Some q) (ap (λ (s : StreamView). s.phase) was.2 ∙ row.2)

bytes_kept_are : (rows : StreamRows) (c : ℕ) (bytes : List ℕ) (p : Phase) → phase_of (with_bytes rows c bytes) c ≡ Some p
    → bytes_of (with_bytes rows c bytes) c ≡ bytes
bytes_kept_are rows c bytes p is =
    let row = row_of (with_bytes rows c bytes) c p is in
    let was = row_here (λ s. record s { bytes = bytes }) rows c row.0 row.1 in
    ap (λ o. option_map_or (λ (s : StreamView). s.bytes) o []) row.1 ∙ ap (λ (s : StreamView). s.bytes) (sym was.2)

goes_out : (p : Phase) → (p ≡ Closing → ⊥) → may_send (Some p) ≡ true
goes_out Silent going = refl
goes_out (Speaking session) going = refl
goes_out Closing going = absurd (going refl)

in_no_phase : (t : TablesView) (c : ℕ) (p : Phase) → IsShut t c → (p ≡ Closing → ⊥) → phase_of t.streams c ≡ Some p → ⊥
in_no_phase t c p shut going is =
    let clash : true ≡ false = sym (goes_out p going) ∙ sym (ap may_send is) ∙ shut in
    cc

-- the rest of what came on a connection is stored
pub record KeepsRest (rest : List ℕ) (c : ℕ) (old new : StreamRows) : Type 0 where
  pub others : (d : ℕ) → d ≢ c → StaysOpen old new d
  pub here : (p : Phase) → (p ≡ Closing → ⊥) → phase_of new c ≡ Some p → (phase_of old c ≡ Some p) × (bytes_of new c ≡ rest)

shut_keeps : (rest : List ℕ) (c : ℕ) (old new : TablesView) → Quiet old new → IsShut new c → KeepsRest rest c old.streams new.streams
shut_keeps rest c old new calm shut = record {
  others = λ d away. calm d;
  here = λ p going is. absurd (in_no_phase new c p shut going is);
}

keeps_by : (closes : Bool) (rest : List ℕ) (c : ℕ) (t : TablesView)
    → KeepsRest rest c t.streams (if closes then closed c t else record t { streams = with_bytes t.streams c rest }).streams
keeps_by true rest c t = shut_keeps rest c t (closed c t) (carries_quiet.closes c t) (shuts c t)
keeps_by false rest c t = record {
  others = λ d away row is going. sym (row_elsewhere (λ s. record s { bytes = rest }) t.streams c d away) ∙ is;
  here = λ p going is. (phase_kept t.streams c rest p is, bytes_kept_are t.streams c rest p is);
}

pub keeps_rest : (rest : List ℕ) (c : ℕ) (v : FrontView) → KeepsRest rest c v.tables.streams (keeps rest c v).tables.streams
keeps_rest rest c v = by (is_open v.tables c) refl
  where
    by : (b : Bool) → is_open v.tables c ≡ b
        → KeepsRest rest c v.tables.streams (if b then with_tables (kept rest c v.tables) v else v).tables.streams
    by true is = keeps_by (is_too_long (next_of rest) || nat_lt MAX_KEPT (held_of v.tables.streams + length rest)) rest c v.tables
    by false is = shut_keeps rest c v.tables v.tables (carries_quiet.none v.tables) is

-- ---- what a step gives

-- a connection spoke before, for the same session
abbrev pub Spoke : Step → ℕ → ℕ → FrontView → Type 0
Spoke step d session old = IsNoOpening d step × (phase_of old.tables.streams d ≡ Some (Speaking session))

-- or it got the session by its first frame
pub record GotBy (step : Step) (d session : ℕ) (old : FrontView) : Type 0 where
  pub bytes : List ℕ
  pub came : step ≡ Takes (Came d bytes)
  pub silent : phase_of old.tables.streams d ≡ Some Silent
  pub frame : List ℕ
  pub more : List ℕ
  pub first : next_of (bytes_of old.tables.streams d ++ bytes) ≡ Whole frame more
  pub gains : GainsBy frame session old

-- all that came on a connection that is silent is stored
abbrev pub IsWaiting : ℕ → StreamRows → Option (List ℕ) → Type 0
IsWaiting d rows since = phase_of rows d ≡ Some Silent → since ≡ Some (bytes_of rows d)

pub record Gives (step : Step) (old new : FrontView) : Type 0 where
  pub speaks : (d session : ℕ) → phase_of new.tables.streams d ≡ Some (Speaking session) → Spoke step d session old ⊎ GotBy step d session old
  pub silent : (d : ℕ) (since : Option (List ℕ)) → IsWaiting d old.tables.streams since → IsWaiting d new.tables.streams (since_step d step since)

-- a connection that is as it was is silent as before
pub still_silent : (d : ℕ) (since : Option (List ℕ)) (old new : StreamRows) → StaysOpen old new d → IsWaiting d old since → IsWaiting d new since
still_silent d since old new stays before is =
    before (was_in old new d Silent stays silent_on is)
    ∙ ap (λ b. Some b) (sym (bytes_stay old new d Silent stays silent_on is))

-- nothing, at most steps
pub gives_nothing : (step : Step) (old new : FrontView) → ((d : ℕ) → IsNoOpening d step)
    → ((d : ℕ) (since : Option (List ℕ)) → since_step d step since ≡ since) → Quiet old.tables new.tables → Gives step old new
gives_nothing step old new no_opening same calm = record {
  speaks = λ d session speaks. inl (
    no_opening d,
    was_in old.tables.streams new.tables.streams d (Speaking session) (calm d) (speaks_on session) speaks,
  );
  silent = λ d since before is. same d since ∙ still_silent d since old.tables.streams new.tables.streams (calm d) before is;
}

-- an end
not_ended : (c d : ℕ) (t : TablesView) (p : Phase) → phase_of (ended c t).streams d ≡ Some p → nat_eq c d ≡ false
not_ended c d t p is =
    let row = row_of (ended c t).streams d p is in
    ne_eqb c d (λ same. (get-removed nat_cmp_total nat_cmp-IsAntisymmetric t.streams c d row.0 row.1).0 (sym same))

pub ends_gives : (c : ℕ) (old new : FrontView) → new ≡ inputs.ended c old → Gives (Takes (Ended c)) old new
ends_gives c old new is = subst (Gives (Takes (Ended c)) old) (sym is) (record {
  speaks = λ d session speaks. inl (tt, was_in rows u.streams d (Speaking session) (calm d) (speaks_on session) speaks);
  silent = λ d since before silent. rw (not_ended c d old.tables Silent silent) (still_silent d since rows u.streams (calm d) before silent);
})
  where
    rows : StreamRows
    rows = old.tables.streams

    u : TablesView
    u = ended c old.tables

    calm : Quiet old.tables u
    calm d row there going = (get-removed nat_cmp_total nat_cmp-IsAntisymmetric rows c d row there).1

-- an opening
pub opens_gives : (c : ℕ) (old new : FrontView) → new ≡ inputs.opened c old → Gives (Takes (Opened c)) old new
opens_gives c old new is = subst (Gives (Takes (Opened c)) old) (sym is) (record {
  speaks = λ d session. speaks d session (same_number d c);
  silent = λ d since before has. silent d since (same_number d c) before has;
})
  where
    rows : StreamRows
    rows = old.tables.streams

    more : StreamRows
    more = insert rows c opened

    here : (d : ℕ) → d ≡ c → get more d ≡ Some opened
    here d same = ap (get more) same ∙ get-insert-here nat_cmp_total nat_cmp-IsAntisymmetric rows c opened

    elsewhere : (d : ℕ) → d ≢ c → StaysOpen rows more d
    elsewhere d away row there going = sym (get-insert-elsewhere nat_cmp_total nat_cmp-IsAntisymmetric rows c opened d away) ∙ there

    no_one : (session : ℕ) → Silent ≡ Speaking session → ⊥
    no_one session clash = cc

    speaks : (d session : ℕ) → (d ≡ c) ⊎ (d ≢ c) → phase_of more d ≡ Some (Speaking session)
        → Spoke (Takes (Opened c)) d session old ⊎ GotBy (Takes (Opened c)) d session old
    speaks d session (inl same) has =
        absurd (no_one session (same_some Silent (Speaking session) (sym (phase_by more d opened (here d same)) ∙ has)))
    speaks d session (inr away) has = inl (
      ne_eqb c d (λ same. away (sym same)),
      was_in rows more d (Speaking session) (elsewhere d away) (speaks_on session) has,
    )

    silent : (d : ℕ) (since : Option (List ℕ)) → (d ≡ c) ⊎ (d ≢ c) → IsWaiting d rows since → IsWaiting d more (since_step d (Takes (Opened c)) since)
    silent d since (inl same) before has =
        let none : bytes_of more d ≡ [] = ap (λ o. option_map_or (λ (s : StreamView). s.bytes) o []) (here d same) in
        rw (eq-eqb c d (sym same)) (ap (λ b. Some b) (sym none))
    silent d since (inr away) before has =
        rw (ne_eqb c d (λ same. away (sym same))) (still_silent d since rows more (elsewhere d away) before has)
