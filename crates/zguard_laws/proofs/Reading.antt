-- What a front has read of each connection, step by step: the frames of the bytes that it got, and
-- none before the first one that gives the connection a session.
use Rattle.std.proofs.Common.{◌≡◌, ◌≢◌, ◌⊎◌, inl, inr, ◌∙◌, ℕ, Bool, true, false, List, [], ◌∷◌, ◌++◌, Option, None, Some, refl, sym, ap, subst}
use Rattle.std.proofs.lemmas.Bool.{eq-eqb, ne_eqb}
use Rattle.std.specs.Cmp.{nat_cmp_total}
use Rattle.std.specs.FinMap.{get, nat_cmp-IsAntisymmetric}
use Rattle.std.specs.Option.{option_map, option_map_or}
use Rattle.ztree.proofs.Maps.{get-insert-elsewhere, get-insert-here, get-removed, same_some}
use Rattle.zconnections.specs.buffers.Inputs.InputView.{Opened, Came, Ended, Tick}
use Rattle.zconnections.specs.declared.buffers.phase.Phase.{Phase}
use Rattle.zconnections.specs.declared.buffers.phase.Phase.TheVariants.{Silent, Speaking, Closing}
use Rattle.zconnections.specs.buffers.Streams.{StreamView, StreamRows, bytes_of, phase_of}
use Rattle.zconnections.specs.buffers.Streams as streams
use Rattle.zconnections.specs.Tables.{TablesView, is_open, may_send}
use Rattle.zfront.specs.Front.{FrontView}
use Rattle.zfront.specs.Inputs as inputs
use Rattle.zfront.specs.Inputs.{without_first}
use Rattle.zfront.specs.Reading.{Comes, ComesBy, ComesIf, Cuts, HandlesAll, Reads, emptied, keeps, word_asked}
use Rattle.zfront.specs.Restoring.{all_taken}
use Rattle.zfront.specs.Words.{said, text_of_word}
use Rattle.zfront_laws.specs.Given.{since_step}
use Rattle.zfront_laws.specs.Runs.{Step, Takes, Sent, Took, Does, KeepsFew}
use Rattle.zfront_laws.proofs.Changes as changes
use Rattle.zfront_laws.proofs.Coming.{empties, handles_all, keeps_now}
use Rattle.zfront_laws.proofs.Given.{keeps_rest, phase_kept}
use Rattle.zfront_laws.proofs.Greeted.{shuts}
use Rattle.zfront_laws.proofs.Handled.{FramesGive, frames_give}
use Rattle.zfront_laws.proofs.Quiet.{Quiet, StaysOpen, carries_quiet, phase_by, row_elsewhere, stays_both}
use Rattle.zfront_laws.proofs.Seated.{same_number}
use Rattle.zfront_laws.proofs.Working as working
use Rattle.zfront_laws.proofs.frames_lemmas.Cutting.{cuts_both, cuts_more}

-- of the bytes that came on a connection since it was opened these frames were read
pub record HasRead (since : Option (List ℕ)) (row : StreamView) : Type 0 where
  pub came : List ℕ
  pub all : since ≡ Some came
  pub frames : List (List ℕ)
  pub cuts : Cuts came frames row.bytes
  pub silent : frames ≡ [] → row.phase ≡ Silent

-- so it is with a connection that isn't closing
abbrev pub Heard : ℕ → Option (List ℕ) → StreamRows → Type 0
Heard c since rows = (row : StreamView) → get rows c ≡ Some row → (row.phase ≡ Closing → ⊥) → HasRead since row

pub heard_on : (c : ℕ) (since : Option (List ℕ)) (old new : StreamRows) → StaysOpen old new c → Heard c since old → Heard c since new
heard_on c since old new stays heard row is going = heard row (stays row is going) going

-- ---- who is open

open_phase : (p : Phase) → (p ≡ Closing → ⊥) → may_send (Some p) ≡ true
open_phase Silent going = refl
open_phase (Speaking session) going = refl
open_phase Closing going = absurd (going refl)

-- none of a connection that is shut
shut_heard : (c : ℕ) (since : Option (List ℕ)) (t : TablesView) → is_open t c ≡ false → Heard c since t.streams
shut_heard c since t shut row is going =
    let clash : true ≡ false = sym (open_phase row.phase going) ∙ sym (ap may_send (phase_by t.streams c row is)) ∙ shut in
    absurd (cc clash)

pub record IsOn (c : ℕ) (rows : StreamRows) : Type 0 where
  pub row : StreamView
  pub there : get rows c ≡ Some row
  pub going : row.phase ≡ Closing → ⊥

closing_shut : may_send (Some Closing) ≡ true → ⊥
closing_shut is = cc is

none_shut : may_send None ≡ true → ⊥
none_shut is = cc is

pub is_on : (c : ℕ) (t : TablesView) → is_open t c ≡ true → IsOn c t.streams
is_on c t opened = by (get t.streams c) refl opened
  where
    by : (o : Option StreamView) → get t.streams c ≡ o → may_send (option_map (λ (s : StreamView). s.phase) o) ≡ true → IsOn c t.streams
    by None is opened = absurd (none_shut opened)
    by (Some row) is opened = record { row = row; there = is; going = λ closes. closing_shut (ap (λ p. may_send (Some p)) (sym closes) ∙ opened) }

pub bytes_by : (rows : StreamRows) (c : ℕ) (row : StreamView) → get rows c ≡ Some row → bytes_of rows c ≡ row.bytes
bytes_by rows c row is = ap (λ o. option_map_or (λ (s : StreamView). s.bytes) o []) is

-- ---- bytes

-- the frames that were read before, and now
pub all_cut : (came bytes : List ℕ) (frames next : List (List ℕ)) (left rest : List ℕ) → Cuts came frames left → Cuts (left ++ bytes) next rest
    → Cuts (came ++ bytes) (frames ++ next) rest
all_cut came bytes frames next left rest before now = cuts_both (came ++ bytes) frames next (left ++ bytes) rest (cuts_more came bytes frames left before) now

-- the second of two lists of frames is empty if both are together, and so is the first
both_none : (frames next : List (List ℕ)) → frames ++ next ≡ [] → (frames ≡ []) × (next ≡ [])
both_none [] next is = (refl, is)
both_none (frame ∷ frames) next is = absurd (cc is)

-- at frames that are none nothing is handled
handles_none : (frames : List (List ℕ)) (c : ℕ) (old new : FrontView) → frames ≡ [] → HandlesAll frames c old new → new ≡ old
handles_none [] c old new none is = is
handles_none (frame ∷ frames) c old new none has = absurd (cc none)

module _ (c : ℕ) (bytes : List ℕ) (since : Option (List ℕ)) (old new : FrontView) (few : KeepsFew old) (heard : Heard c since old.tables.streams) where
  abbrev more : Option (List ℕ)
  more = option_map (λ came. came ++ bytes) since

  abbrev v : FrontView
  v = emptied c old

  reads_here : (rest : List ℕ) (middle : FrontView) → IsOn c old.tables.streams
      → Reads (bytes_of old.tables.streams c ++ bytes) c v rest middle → new ≡ keeps rest c middle → Heard c more new.tables.streams
  reads_here rest middle on reads is row there going =
      let was = heard on.row on.there on.going in
      let kept = keeps_rest rest c middle in
      let here = subst (λ (u : FrontView). get u.tables.streams c ≡ Some row) is there in
      let in_phase = phase_by (keeps rest c middle).tables.streams c row here in
      let stood = kept.here row.phase going in_phase in
      let stored : rest ≡ row.bytes = sym stood.1 ∙ bytes_by (keeps rest c middle).tables.streams c row here in
      let own = bytes_by old.tables.streams c on.row on.there in
      let now : Cuts (on.row.bytes ++ bytes) reads.frames row.bytes =
      subst (λ xs. Cuts (xs ++ bytes) reads.frames row.bytes) own (subst (Cuts (bytes_of old.tables.streams c ++ bytes) reads.frames) stored reads.cuts) in
      record {
        came = was.came ++ bytes;
        all = ap (option_map (λ came. came ++ bytes)) was.all;
        frames = was.frames ++ reads.frames;
        cuts = all_cut was.came bytes was.frames reads.frames on.row.bytes row.bytes was.cuts now;
        silent = λ none.
            let none_read = both_none was.frames reads.frames none in
            let same = handles_none reads.frames c v middle none_read.1 reads.handles in
            let before = phase_kept old.tables.streams c [] row.phase (ap (λ (u : FrontView). phase_of u.tables.streams c) (sym same) ∙ stood.0) in
            same_some row.phase Silent (sym before ∙ phase_by old.tables.streams c on.row on.there ∙ ap (λ p. Some p) (was.silent none_read.0));
      }

  comes_by : (word : _) → IsOn c old.tables.streams → ComesBy word (bytes_of old.tables.streams c ++ bytes) c v new → Heard c more new.tables.streams
  comes_by (Some word) on is =
      subst (λ (u : FrontView). Heard c more u.tables.streams) (sym is) (shut_heard c more (said word c v).tables (shuts c _))
  comes_by None on has =
      let went = handles_all has.2.frames c v has.1 has.2.handles in
      reads_here has.0 has.1 on has.2 (keeps_now has.0 c has.1 new (went.few ((empties c old).few few)) has.3)

  comes_if : (on : Bool) → is_open old.tables c ≡ on → ComesIf on bytes c old new → Heard c more new.tables.streams
  comes_if false shut is = subst (λ (u : FrontView). Heard c more u.tables.streams) (sym is) (shut_heard c more old.tables shut)
  comes_if true is has =
      comes_by (word_asked (phase_of v.tables.streams c) (bytes_of old.tables.streams c ++ bytes)) (is_on c old.tables is) has

  pub comes_here : Comes bytes c old new → Heard c more new.tables.streams
  comes_here has = comes_if (is_open old.tables c) refl has

-- the other connections are as they were
module _ (c d : ℕ) (bytes : List ℕ) (old new : FrontView) (few : KeepsFew old) (away : d ≢ c) where
  empties_stay : StaysOpen old.tables.streams (emptied c old).tables.streams d
  empties_stay row is going = sym (row_elsewhere (λ s. record s { bytes = [] }) old.tables.streams c d away) ∙ is

  frames_stay : (frames : List (List ℕ)) (v middle : FrontView) → FramesGive frames c v middle → StaysOpen v.tables.streams middle.tables.streams d
  frames_stay frames v middle (inl calm) = calm.0 d
  frames_stay frames v middle (inr greeted) = greeted.becomes.others d away

  others_by : (word : _) → ComesBy word (bytes_of old.tables.streams c ++ bytes) c (emptied c old) new
      → StaysOpen old.tables.streams new.tables.streams d
  others_by (Some word) is =
      let v = emptied c old in
      let calm = changes.says Quiet carries_quiet c (text_of_word word v) v.tables in
      subst (λ (u : FrontView). StaysOpen old.tables.streams u.tables.streams d) (sym is)
      (stays_both old.tables.streams v.tables.streams (said word c v).tables.streams d empties_stay (calm d))
  others_by None has =
      let v = emptied c old in
      let middle = has.1 in
      let went = handles_all has.2.frames c v middle has.2.handles in
      let is = keeps_now has.0 c middle new (went.few ((empties c old).few few)) has.3 in
      let last = keeps has.0 c middle in
      subst (λ (u : FrontView). StaysOpen old.tables.streams u.tables.streams d) (sym is)
      (stays_both old.tables.streams v.tables.streams last.tables.streams d empties_stay
      (stays_both v.tables.streams middle.tables.streams last.tables.streams d
      (frames_stay has.2.frames v middle (frames_give has.2.frames c v middle has.2.handles)) ((keeps_rest has.0 c middle).others d away)))

  others_if : (on : Bool) → ComesIf on bytes c old new → StaysOpen old.tables.streams new.tables.streams d
  others_if false is = subst (λ (u : FrontView). StaysOpen old.tables.streams u.tables.streams d) (sym is) (λ row there going. there)
  others_if true has = others_by (word_asked (phase_of (emptied c old).tables.streams c) (bytes_of old.tables.streams c ++ bytes)) has

-- ---- any step

module _ (c : ℕ) (since : Option (List ℕ)) (old new : FrontView) (few : KeepsFew old) (heard : Heard c since old.tables.streams) where
  opens : (d : ℕ) → (c ≡ d) ⊎ (c ≢ d) → new ≡ inputs.opened d old → Heard c (since_step c (Takes (Opened d)) since) new.tables.streams
  opens d (inl same) is =
      let after = inputs.opened d old in
      let there = ap (get after.tables.streams) same ∙ get-insert-here nat_cmp_total nat_cmp-IsAntisymmetric old.tables.streams d streams.opened in
      subst (λ (u : FrontView). Heard c (since_step c (Takes (Opened d)) since) u.tables.streams) (sym is)
      (rw (eq-eqb d c (sym same)) (λ row found going.
      let row_is = same_some streams.opened row (sym there ∙ found) in
      record {
        came = [];
        all = refl;
        frames = [];
        cuts = ap (λ (s : StreamView). s.bytes) row_is;
        silent = λ none. ap (λ (s : StreamView). s.phase) (sym row_is);
      }))
  opens d (inr other) is =
      let after = inputs.opened d old in
      subst (λ (u : FrontView). Heard c (since_step c (Takes (Opened d)) since) u.tables.streams) (sym is)
      (rw (ne_eqb d c (λ same. other (sym same))) (heard_on c since old.tables.streams after.tables.streams
      (λ row found going. sym (get-insert-elsewhere nat_cmp_total nat_cmp-IsAntisymmetric old.tables.streams d streams.opened c other) ∙ found) heard))

  ends : (d : ℕ) → (c ≡ d) ⊎ (c ≢ d) → new ≡ inputs.ended d old → Heard c (since_step c (Takes (Ended d)) since) new.tables.streams
  ends d (inl same) is =
      subst (λ (u : FrontView). Heard c (since_step c (Takes (Ended d)) since) u.tables.streams) (sym is)
      (λ row found going. absurd ((get-removed nat_cmp_total nat_cmp-IsAntisymmetric old.tables.streams d c row found).0 same))
  ends d (inr other) is =
      subst (λ (u : FrontView). Heard c (since_step c (Takes (Ended d)) since) u.tables.streams) (sym is)
      (rw (ne_eqb d c (λ same. other (sym same))) (heard_on c since old.tables.streams (inputs.ended d old).tables.streams
      (λ row found going. (get-removed nat_cmp_total nat_cmp-IsAntisymmetric old.tables.streams d c row found).1) heard))

  comes : (d : ℕ) (bytes : List ℕ) → (c ≡ d) ⊎ (c ≢ d) → Comes bytes d old new
      → Heard c (since_step c (Takes (Came d bytes)) since) new.tables.streams
  comes d bytes (inl same) has =
      rw (eq-eqb d c (sym same)) (comes_here c bytes since old new few heard (subst (λ e. Comes bytes e old new) (sym same) has))
  comes d bytes (inr other) has =
      rw (ne_eqb d c (λ same. other (sym same))) (heard_on c since old.tables.streams new.tables.streams
      (others_if d c bytes old new few other (is_open old.tables d) has) heard)

  calm : Quiet old.tables new.tables → Heard c since new.tables.streams
  calm quiet = heard_on c since old.tables.streams new.tables.streams (quiet c) heard

  pub reads_on : (step : Step) → Does step old new → Heard c (since_step c step since) new.tables.streams
  reads_on (Takes (Opened d)) is = opens d (same_number c d) is
  reads_on (Takes (Came d bytes)) has = comes d bytes (same_number c d) has
  reads_on (Takes (Ended d)) is = ends d (same_number c d) is
  reads_on (Takes Tick) has = calm (working.ticks Quiet carries_quiet old new has)
  reads_on Sent is = calm (working.becomes Quiet carries_quiet old (without_first old) new is (carries_quiet.none old.tables))
  reads_on Took is = calm (working.becomes Quiet carries_quiet old (all_taken old) new is (carries_quiet.none old.tables))
