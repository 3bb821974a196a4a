-- The calls at bytes that come on a connection, where no second frame of it is whole: they open
-- sessions.
use Rattle.std.proofs.Common.{◌≡◌, ◌∙◌, ℕ, Bool, true, false, List, [], ◌∷◌, ◌++◌, Option, None, Some, Result, Ok, Err, refl, sym, ap, subst}
use Rattle.std.specs.Prelude.{pos, zip, if◌then◌else◌}
use Rattle.std.specs.Cmp.{nat_cmp_total}
use Rattle.std.specs.FinMap.{insert, nat_cmp-IsAntisymmetric}
use Rattle.std.specs.List.{AllByRecursion}
use Rattle.std.specs.Option.{option_map, option_map_or}
use Rattle.std.specs.Ordering.{int_eq}
use Rattle.std.proofs.lemmas.List.{append-nil}
use Rattle.ztree.proofs.Maps.{get-insert-here}
use Rattle.zcodec.specs.Readers.{whole}
use Rattle.zcodec.specs.declared.fault.Fault.{Fault}
use Rattle.zcalls.specs.declared.call.Call.{Call}
use Rattle.zcalls.specs.declared.reply.Reply.{Reply}
use Rattle.zjute.specs.Connecting.{connect_request}
use Rattle.zjute.specs.declared.connecting.ConnectRequest.{ConnectRequest}
use Rattle.zconnections.specs.buffers.Inputs.InputView.{Came}
use Rattle.zconnections.specs.declared.buffers.phase.Phase.{Phase}
use Rattle.zconnections.specs.declared.buffers.phase.Phase.TheVariants.{Silent}
use Rattle.zconnections.specs.buffers.Streams.{StreamView, bytes_of, phase_of}
use Rattle.zconnections.specs.Tables.{is_open}
use Rattle.zresponses.specs.Stats.{told}
use Rattle.zresponses.specs.effects.Greeting.{is_ahead}
use Rattle.ztree_service.specs.log.Logs.{Log, calls_of}
use Rattle.zfront.specs.Front.{FrontView, replies_to}
use Rattle.zfront.specs.Greeting.{opening}
use Rattle.zfront.specs.Reading.{Comes, ComesBy, ComesIf, Cuts, HandlesAll, emptied, word_asked}
use Rattle.zfront_laws.specs.Logs.{bytes_log, came_log, done_by, frame_calls, frame_log, frames_log, greeting_calls, step_log}
use Rattle.zfront_laws.specs.Runs.{Takes}
use Rattle.zguard_laws.specs.Laws.{IsOpening}
use Rattle.zguard_laws.proofs.Frames.{HasNoSecond}
use Rattle.zguard_laws.proofs.Reading.{Heard, IsOn, all_cut, bytes_by, is_on}

abbrev pub AllOpen : Log → Type 0
AllOpen log = AllByRecursion IsOpening (calls_of log)

-- ---- a connect request

greeting_opens : (read : Result ConnectRequest Fault) (v : FrontView) → AllByRecursion IsOpening (greeting_calls read v)
greeting_opens (Err fault) v = tt
greeting_opens (Ok greeting) v = by (is_ahead (told v.clock.base v.tree.zxid) greeting) (int_eq greeting.session_id (pos 0))
  where
    by : (ahead new : Bool) → AllByRecursion IsOpening (if ahead then [] else if new then opening v.clock.terms.tick greeting ∷ [] else [])
    by true new = tt
    by false true = (tt, tt)
    by false false = tt

zipped : (calls : List Call) (replies : List Reply) → AllByRecursion IsOpening calls → AllOpen (zip calls replies)
zipped [] replies all = tt
zipped (call ∷ calls) [] all = tt
zipped (call ∷ calls) (reply ∷ replies) all = (all.0, zipped calls replies all.1)

done_opens : (calls : List Call) (v : FrontView) → AllByRecursion IsOpening calls → AllOpen (done_by calls v)
done_opens calls v all = zipped calls (replies_to calls v) all

-- ---- frames

only : (came first second : List ℕ) (frames : List (List ℕ)) (rest : List ℕ) → HasNoSecond came → Cuts came (first ∷ second ∷ frames) rest → ⊥
only came first second frames rest one has = one first has.0 second has.2.0 has.1 has.2.1

module _ (c : ℕ) (came rest : List ℕ) (one : HasNoSecond came) where
  first_opens : (frame : List ℕ) (v : FrontView) (phase : Option Phase) → phase ≡ Some Silent → AllOpen (done_by (frame_calls phase frame v) v)
  first_opens frame v phase is =
      subst (λ p. AllOpen (done_by (frame_calls p frame v) v)) (sym is)
      (done_opens (greeting_calls (whole connect_request frame) v) v (greeting_opens (whole connect_request frame) v))

  -- frames of which some were read before
  frames_open : (was frames : List (List ℕ)) (v middle : FrontView) (has : HandlesAll frames c v middle)
      → (was ≡ [] → phase_of v.tables.streams c ≡ Some Silent) → Cuts came (was ++ frames) rest → AllOpen (frames_log frames c v middle has)
  frames_open was [] v middle has silent cuts = tt
  frames_open [] (frame ∷ []) v middle has silent cuts =
      subst (λ log. AllOpen log) (sym (append-nil (frame_log frame c v))) (first_opens frame v (phase_of v.tables.streams c) (silent refl))
  frames_open [] (frame ∷ next ∷ frames) v middle has silent cuts = absurd (only came frame next frames rest one cuts)
  frames_open (first ∷ []) (frame ∷ frames) v middle has silent cuts = absurd (only came first frame frames rest one cuts)
  frames_open (first ∷ second ∷ was) (frame ∷ frames) v middle has silent cuts = absurd (only came first second (was ++ frame ∷ frames) rest one cuts)

-- ---- bytes

module _ (c : ℕ) (bytes : List ℕ) (since : Option (List ℕ)) (old new : FrontView) (heard : Heard c since old.tables.streams)
    (one : (came : List ℕ) → since ≡ Some came → HasNoSecond (came ++ bytes)) where
  abbrev v : FrontView
  v = emptied c old

  -- without its bytes it is in the same phase
  phase_stays : (on : IsOn c old.tables.streams) → phase_of v.tables.streams c ≡ Some on.row.phase
  phase_stays on =
      let rows = old.tables.streams in
      ap (λ o. phase_of (option_map_or (λ (s : StreamView). insert rows c (record s { bytes = [] })) o rows) c) on.there
      ∙ ap (option_map (λ (s : StreamView). s.phase)) (get-insert-here nat_cmp_total nat_cmp-IsAntisymmetric rows c (record on.row { bytes = [] }))

  by_word : (word : _) → IsOn c old.tables.streams → (has : ComesBy word (bytes_of old.tables.streams c ++ bytes) c v new)
      → AllOpen (bytes_log word (bytes_of old.tables.streams c ++ bytes) c v new has)
  by_word (Some word) on has = tt
  by_word None on has =
      let was = heard on.row on.there on.going in
      let reads = has.2 in
      let own = bytes_by old.tables.streams c on.row on.there in
      let now = subst (λ xs. Cuts (xs ++ bytes) reads.frames has.0) own reads.cuts in
      let cuts = all_cut was.came bytes was.frames reads.frames on.row.bytes has.0 was.cuts now in
      frames_open c (was.came ++ bytes) has.0 (one was.came was.all) was.frames reads.frames v has.1 reads.handles
      (λ none. phase_stays on ∙ ap (λ p. Some p) (was.silent none)) cuts

  by_open : (on : Bool) → is_open old.tables c ≡ on → (has : ComesIf on bytes c old new) → AllOpen (came_log on bytes c old new has)
  by_open false shut has = tt
  by_open true is has =
      by_word (word_asked (phase_of v.tables.streams c) (bytes_of old.tables.streams c ++ bytes)) (is_on c old.tables is) has

  pub calls_open : (has : Comes bytes c old new) → AllOpen (step_log (Takes (Came c bytes)) old new has)
  calls_open has = by_open (is_open old.tables c) refl has
