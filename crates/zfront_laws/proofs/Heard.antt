-- What the bytes that come on a connection give it.
use Rattle.std.proofs.Common.{◌≡◌, ◌≢◌, ◌⊎◌, inl, inr, ◌∙◌, ℕ, Bool, true, false, List, [], ◌∷◌, ◌++◌, Option, None, Some, refl, sym, ap, subst}
use Rattle.std.proofs.lemmas.Bool.{eq-eqb, ne_eqb}
use Rattle.std.specs.Option.{option_map}
use Rattle.zconnections.specs.buffers.Inputs.InputView.{Came}
use Rattle.zconnections.specs.declared.buffers.phase.Phase.TheVariants.{Silent, Speaking}
use Rattle.zconnections.specs.buffers.Streams.{StreamRows, bytes_of, phase_of}
use Rattle.zconnections.specs.Tables.{is_open}
use Rattle.zfront.specs.Front.{FrontView}
use Rattle.zfront.specs.Reading.{Cuts, Reads, keeps, word_asked, ComesBy, ComesIf, emptied}
use Rattle.zfront.specs.Words.{said, text_of_word}
use Rattle.zfront_laws.specs.Given.{since_step}
use Rattle.zfront_laws.specs.Runs.{KeepsFew, Takes}
use Rattle.zfront_laws.proofs.Changes as changes
use Rattle.zfront_laws.proofs.Coming.{empties, handles_all, keeps_now}
use Rattle.zfront_laws.proofs.Given.{Gives, GotBy, IsWaiting, KeepsRest, Spoke, keeps_rest, phase_kept, still_silent}
use Rattle.zfront_laws.proofs.Greeted.{IsShut, shut_silent, shut_speaks, shuts, silent_on, speaks_on}
use Rattle.zfront_laws.proofs.Handled.{FramesGive, frames_give}
use Rattle.zfront_laws.proofs.Quiet.{Quiet, StaysOpen, carries_quiet, row_elsewhere, stays_both, was_in}
use Rattle.zfront_laws.proofs.Seated.{same_number}

-- ---- bytes

-- of another connection
module _ (c d : ℕ) (bytes : List ℕ) (old new : FrontView) (stays : StaysOpen old.tables.streams new.tables.streams d) where
  away_speaks : (session : ℕ) → phase_of new.tables.streams d ≡ Some (Speaking session)
      → Spoke (Takes (Came c bytes)) d session old ⊎ GotBy (Takes (Came c bytes)) d session old
  away_speaks session speaks = inl (tt, was_in old.tables.streams new.tables.streams d (Speaking session) stays (speaks_on session) speaks)

  away_silent : d ≢ c → (since : Option (List ℕ)) → IsWaiting d old.tables.streams since
      → IsWaiting d new.tables.streams (since_step d (Takes (Came c bytes)) since)
  away_silent away since before is =
      rw (ne_eqb c d (λ same. away (sym same))) (still_silent d since old.tables.streams new.tables.streams stays before is)

-- of one that is shut then
shut_gives : (c : ℕ) (bytes : List ℕ) (old new : FrontView) → ((d : ℕ) → d ≢ c → StaysOpen old.tables.streams new.tables.streams d)
    → IsShut new.tables c → Gives (Takes (Came c bytes)) old new
shut_gives c bytes old new stays shut = record {
  speaks = λ d session. speaks d session (same_number d c);
  silent = λ d since. silent d since (same_number d c);
}
  where
    rows : StreamRows
    rows = new.tables.streams

    speaks : (d session : ℕ) → (d ≡ c) ⊎ (d ≢ c) → phase_of rows d ≡ Some (Speaking session)
        → Spoke (Takes (Came c bytes)) d session old ⊎ GotBy (Takes (Came c bytes)) d session old
    speaks d session (inl same) is = absurd (shut_speaks new.tables c session shut (ap (phase_of rows) (sym same) ∙ is))
    speaks d session (inr away) is = away_speaks c d bytes old new (stays d away) session is

    silent : (d : ℕ) (since : Option (List ℕ)) → (d ≡ c) ⊎ (d ≢ c) → IsWaiting d old.tables.streams since
        → IsWaiting d rows (since_step d (Takes (Came c bytes)) since)
    silent d since (inl same) before is = absurd (shut_silent new.tables c shut (ap (phase_of rows) (sym same) ∙ is))
    silent d since (inr away) before is = away_silent c d bytes old new (stays d away) away since before is

empties_stay : (c d : ℕ) (v : FrontView) → d ≢ c → StaysOpen v.tables.streams (emptied c v).tables.streams d
empties_stay c d v away row is going = sym (row_elsewhere (λ s. record s { bytes = [] }) v.tables.streams c d away) ∙ is

word_gives : (word : _) (bytes : List ℕ) (c : ℕ) (old new : FrontView) → new ≡ said word c (emptied c old) → Gives (Takes (Came c bytes)) old new
word_gives word bytes c old new is =
    let v = emptied c old in
    let calm = changes.says Quiet carries_quiet c (text_of_word word v) v.tables in
    subst (Gives (Takes (Came c bytes)) old) (sym is)
    (shut_gives c bytes old (said word c v)
    (λ d away. stays_both old.tables.streams v.tables.streams (said word c v).tables.streams d (empties_stay c d old away) (calm d))
    (shuts c _))

-- ---- frames of one that is open

module _ (c : ℕ) (bytes rest : List ℕ) (old middle new : FrontView)
    (reads : Reads (bytes_of old.tables.streams c ++ bytes) c (emptied c old) rest middle) (is : new ≡ keeps rest c middle) where
  abbrev first : StreamRows
  first = old.tables.streams

  abbrev last : StreamRows
  last = new.tables.streams

  abbrev came : List ℕ
  came = bytes_of first c ++ bytes

  abbrev v : FrontView
  v = emptied c old

  gives : FramesGive reads.frames c v middle
  gives = frames_give reads.frames c v middle reads.handles

  rests : KeepsRest rest c middle.tables.streams last
  rests = subst (λ (u : FrontView). KeepsRest rest c middle.tables.streams u.tables.streams) (sym is) (keeps_rest rest c middle)

  -- the others
  stays_by : FramesGive reads.frames c v middle → (d : ℕ) → d ≢ c → StaysOpen v.tables.streams middle.tables.streams d
  stays_by (inl calm) d away = calm.0 d
  stays_by (inr greeted) d away = greeted.becomes.others d away

  stays : (d : ℕ) → d ≢ c → StaysOpen first last d
  stays d away =
      stays_both first v.tables.streams last d (empties_stay c d old away)
      (stays_both v.tables.streams middle.tables.streams last d (stays_by gives d away) (rests.others d away))

  -- the connection
  got_by : FramesGive reads.frames c v middle → (session : ℕ) → phase_of middle.tables.streams c ≡ Some (Speaking session)
      → Spoke (Takes (Came c bytes)) c session old ⊎ GotBy (Takes (Came c bytes)) c session old
  got_by (inl calm) session spoke = inl (
    tt,
    phase_kept first c [] (Speaking session)
        (was_in v.tables.streams middle.tables.streams c (Speaking session) (calm.0 c) (speaks_on session) spoke),
  )
  got_by (inr greeted) session spoke =
      let cut = subst (λ frames. Cuts came frames rest) greeted.first reads.cuts in
      inr (record {
        bytes = bytes;
        came = refl;
        silent = phase_kept first c [] Silent greeted.silent;
        frame = greeted.frame;
        more = cut.0;
        first = cut.1;
        gains = greeted.becomes.gains session spoke;
      })

  -- where no frame was whole, all that came is stored
  all_kept : (frames : List (List ℕ)) → frames ≡ [] → Cuts came frames rest → came ≡ rest
  all_kept [] none cut = cut
  all_kept (frame ∷ frames) none cut = absurd (cc none)

  waits : FramesGive reads.frames c v middle → (since : Option (List ℕ)) → IsWaiting c first since
      → phase_of middle.tables.streams c ≡ Some Silent → option_map (λ before. before ++ bytes) since ≡ Some rest
  waits (inl (calm, inl nothing)) since before silent =
      let was = phase_kept first c [] Silent (was_in v.tables.streams middle.tables.streams c Silent (calm c) silent_on silent) in
      ap (option_map (λ before. before ++ bytes)) (before was) ∙ ap (λ b. Some b) (all_kept reads.frames nothing.0 reads.cuts)
  waits (inl (calm, inr loud)) since before silent = absurd (loud silent)
  waits (inr greeted) since before silent = absurd (greeted.becomes.heard silent)

  speaks_so : (d session : ℕ) → (d ≡ c) ⊎ (d ≢ c) → phase_of last d ≡ Some (Speaking session)
      → Spoke (Takes (Came c bytes)) d session old ⊎ GotBy (Takes (Came c bytes)) d session old
  speaks_so d session (inl same) speaks =
      let spoke = (rests.here (Speaking session) (speaks_on session) (ap (phase_of last) (sym same) ∙ speaks)).0 in
      subst (λ e. Spoke (Takes (Came c bytes)) e session old ⊎ GotBy (Takes (Came c bytes)) e session old) (sym same) (got_by gives session spoke)
  speaks_so d session (inr away) speaks = away_speaks c d bytes old new (stays d away) session speaks

  silent_so : (d : ℕ) (since : Option (List ℕ)) → (d ≡ c) ⊎ (d ≢ c) → IsWaiting d first since
      → IsWaiting d last (since_step d (Takes (Came c bytes)) since)
  silent_so d since (inl same) before silent =
      let kept = rests.here Silent silent_on (ap (phase_of last) (sym same) ∙ silent) in
      let was = subst (λ e. IsWaiting e first since) same before in
      rw (eq-eqb c d (sym same)) (waits gives since was kept.0 ∙ ap (λ b. Some b) (sym kept.1 ∙ ap (bytes_of last) (sym same)))
  silent_so d since (inr away) before silent = away_silent c d bytes old new (stays d away) away since before silent

  frames_gives : Gives (Takes (Came c bytes)) old new
  frames_gives = record {
    speaks = λ d session. speaks_so d session (same_number d c);
    silent = λ d since. silent_so d since (same_number d c);
  }

-- ---- any bytes

comes_by : (word : _) (bytes : List ℕ) (c : ℕ) (old new : FrontView) → KeepsFew old
    → ComesBy word (bytes_of old.tables.streams c ++ bytes) c (emptied c old) new → Gives (Takes (Came c bytes)) old new
comes_by (Some word) bytes c old new few is = word_gives word bytes c old new is
comes_by None bytes c old new few has =
    let went = handles_all has.2.frames c (emptied c old) has.1 has.2.handles in
    frames_gives c bytes has.0 old has.1 new has.2 (keeps_now has.0 c has.1 new (went.few ((empties c old).few few)) has.3)

pub comes_if : (on : Bool) (bytes : List ℕ) (c : ℕ) (old new : FrontView) → is_open old.tables c ≡ on → KeepsFew old
    → ComesIf on bytes c old new → Gives (Takes (Came c bytes)) old new
comes_if false bytes c old new shut few is =
    subst (Gives (Takes (Came c bytes)) old) (sym is) (shut_gives c bytes old old (λ d away row there going. there) shut)
comes_if true bytes c old new on few has =
    comes_by (word_asked (phase_of (emptied c old).tables.streams c) (bytes_of old.tables.streams c ++ bytes)) bytes c old new few has
