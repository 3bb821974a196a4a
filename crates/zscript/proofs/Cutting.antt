-- A player's fault, as the fault of the whole run.
use Rattle.std.proofs.Common.{◌≡◌, ◌<◌, ◌+◌, inl, inr, ℕ, List, [], ◌++◌, length, refl, sym, ap, ◌∙◌, subst, arith}
use Rattle.std.specs.Prelude.{Result, Ok, Err, OnOk, OnErr, IfErr}
use Rattle.std.proofs.lemmas.List.{append-nil}
use Rattle.zscript.specs.Line.{ServiceWorld, opening_script, answers}
use Rattle.zdevices.specs.Device.{SourceRun, SinkRun, Failed}
use Rattle.zscript.specs.Script.{opening_of, whole_lines_of}
use Rattle.zscript.specs.support.Lines.{whole_lines_after, line_left, last_line, lines_after, AreLinesDone}
use Rattle.zscript.specs.support.PlayerView.{PlayerView, world_now}
use Rattle.zscript.specs.Outcome.{IsPlayed, IsCut, IsCutBeforeLine, IsCutBy}
use Rattle.zscript.specs.support.Stops.{IsBlockStoppedBy, IsEndStoppedBy}
use Rattle.zscript.specs.support.Ends.{EndsSo}
use Rattle.zscript.specs.declared.fault.PlayFault.{PlayFault}
use Rattle.zscript.specs.declared.fault.PlayFault.TheVariants.{Read, Write, Memory}
use Rattle.zscript.proofs.ScriptLines.{lines_of-carried, whole_lines_of-carried, last_line-one, whole_played}
use Rattle.zscript.proofs.Runs.{Heard, StoppedLater, stopped-append, stopped-append_whole, stopped-last}
use Rattle.zdevices.proofs.Beginnings.{failed_after}
use Rattle.zscript.proofs.Done.{done-text}

-- the whole lines among which a fault came, where a line was not played
IsCut-before_line : (servers : ℕ) (source : SourceRun) (sink : SinkRun) → IsCutBeforeLine servers source sink → IsCut servers source sink
IsCut-before_line servers source sink h =
    let last = line_left [] h.bytes in
    let split : whole_lines_of h.bytes ++ last_line last ≡ h.stopped.played ++ h.stopped.rest =
    ap (λ t. t ++ last_line last) (whole_lines_of-carried h.bytes) ∙ sym (lines_of-carried h.bytes) ∙ h.stopped.split in
    let whole = whole_played (whole_lines_of h.bytes) (last_line last) h.stopped.played h.stopped.rest split (last_line-one last) h.some in
    record {
      bytes = h.bytes;
      given = h.given;
      lines = whole_lines_of h.bytes;
      read = inl refl;
      stopped = record { played = h.stopped.played; rest = whole.rest; split = whole.split; outcomes = h.stopped.outcomes; taken = h.stopped.taken };
    }

-- each fault leaves a beginning of what the lines that were played are answered with
pub IsCut-from_fault : (servers : ℕ) (source : SourceRun) (sink : SinkRun) (fault : PlayFault) → IsCutBy servers source sink fault
    → IsCut servers source sink
IsCut-from_fault servers source sink Read h = record {
  bytes = h.0.bytes;
  given = h.0.given;
  lines = whole_lines_of h.0.bytes;
  read = inl refl;
  stopped = record {
    played = whole_lines_of h.0.bytes;
    rest = [];
    split = sym (append-nil _);
    outcomes = h.0.outcomes;
    taken = (answers (opening_script servers h.0.outcomes) (whole_lines_of h.0.bytes), ([], sym (append-nil _)), h.0.taken);
  };
}
IsCut-from_fault servers source sink Write h = h.0
IsCut-from_fault servers source sink Memory h =
    elim h.0 [
      | inl cut ↦ IsCut-before_line servers source sink cut
      | inr none ↦ record {
        bytes = [];
        given = none.0;
        lines = [];
        read = inl refl;
        stopped = record { played = []; rest = []; split = refl; outcomes = []; taken = ([], ([], refl), none.1) };
      }
    ]

-- what the end of a run says where it was played, and where a fault cut it
module _ {X : Type 0} (servers : ℕ) (source : SourceRun) (sink : SinkRun) where
  pub ends-played : (result : Result X PlayFault) → EndsSo result servers source sink → OnOk result (IsPlayed servers source sink)
  ends-played (Ok x) h = h
  ends-played (Err fault) h = tt

  pub ends-cut : (result : Result X PlayFault) → EndsSo result servers source sink → OnErr result (IsCut servers source sink)
  ends-cut (Ok x) h = tt
  ends-cut (Err fault) h = IsCut-from_fault servers source sink fault h

  pub ends-fault : (result : Result X PlayFault) → EndsSo result servers source sink → IfErr result (IsCutBy servers source sink)
  ends-fault (Ok x) h = tt
  ends-fault (Err fault) h = h

-- memory ran out before anything was read
pub cut_unread : (servers : ℕ) (source : SourceRun) (sink : SinkRun) → source.gave [] → sink.took [] → source.failed 0
    → sink.failed 0 → IsCutBy servers source sink Memory
cut_unread servers source sink unread unwritten sound sink_sound = (inr (unread, unwritten), sound, sink_sound)

-- the source failed
pub cut_at_read : (servers : ℕ) (source : SourceRun) (sink : SinkRun) (player : PlayerView) (bytes : List ℕ)
    → source.gave bytes → Heard (opening_of servers) sink.took bytes player → source.failed 1 → sink.failed 0 → IsCutBy servers source sink Read
cut_at_read servers source sink player bytes given heard failed sound =
    let outcomes = heard.done.reported ++ [] in
    let text = ap (answers (opening_script servers outcomes)) (sym (whole_lines_of-carried bytes)) in
    let taken = done-text sink.took (opening_of servers) (world_now player) (whole_lines_after [] bytes) heard.done in
    (record { bytes = bytes; given = given; outcomes = outcomes; taken = subst sink.took text taken }, (1, omega arith, failed), sound)

-- every line was played
pub played_whole : (servers : ℕ) (source : SourceRun) (sink : SinkRun) (new : ServiceWorld) (bytes : List ℕ)
    → source.gave bytes → AreLinesDone (opening_of servers) (lines_after [] bytes) new sink.took → source.ended
    → source.failed 0 → sink.failed 0 → IsPlayed servers source sink
played_whole servers source sink new bytes given done end sound sink_sound =
    let outcomes = done.reported ++ [] in
    let text = ap (answers (opening_script servers outcomes)) (sym (lines_of-carried bytes)) in
    record {
      bytes = bytes;
      given = given;
      outcomes = outcomes;
      taken = subst sink.took text (done-text sink.took (opening_of servers) new (lines_after [] bytes) done);
      ended = end;
      source_sound = sound;
      sink_sound = sink_sound;
    }

-- what was read and written before a step of the player, and how the step adds to it
pub record Before (servers : ℕ) (took : List ℕ → Type 0) (step all : SinkRun) (player : PlayerView) (bytes : List ℕ) : Type 0 where
  pub both : (a b : List ℕ) → took a → step.took b → all.took (a ++ b)
  pub counts : (count : ℕ) → step.failed count → all.failed (0 + count)
  pub heard : Heard (opening_of servers) took bytes player

module _ (servers : ℕ) (source : SourceRun) (took : List ℕ → Type 0) (step all : SinkRun) (player : PlayerView)
    (bytes : List ℕ) (before : Before servers took step all player bytes) where
  -- memory ran out before a line
  by_line : (whole : List ℕ) (left : ℕ) → source.gave whole → source.failed 0
      → StoppedLater all.took (opening_of servers) (lines_after [] whole) left → (0 < left) × step.failed 0 → IsCutBy servers source all Memory
  by_line whole left given sound later h = (
    inl (record {
      bytes = whole;
      given = given;
      stopped = record {
        played = later.stopped.played;
        rest = later.stopped.rest;
        split = lines_of-carried whole ∙ later.stopped.split;
        outcomes = later.stopped.outcomes;
        taken = later.stopped.taken;
      };
      some = later.some h.0;
    }),
    sound,
    before.counts 0 h.1,
  )

  -- a write failed among the whole lines
  by_write : (whole : List ℕ) (left : ℕ) → source.gave whole → source.failed 0
      → StoppedLater all.took (opening_of servers) (whole_lines_after [] whole) left → Failed step.failed → IsCutBy servers source all Write
  by_write whole left given sound later h = (
    record {
      bytes = whole;
      given = given;
      lines = whole_lines_after [] whole;
      read = inl (sym (whole_lines_of-carried whole));
      stopped = later.stopped;
    },
    sound,
    failed_after step.failed all.failed before.counts h,
  )

  -- a write failed at the line that the end ends
  by_last_write : (left : ℕ) → source.gave bytes → source.ended → source.failed 0
      → StoppedLater all.took (opening_of servers) (lines_after [] bytes) left → Failed step.failed → IsCutBy servers source all Write
  by_last_write left given end sound later h = (
    record { bytes = bytes; given = given; lines = lines_after [] bytes; read = inr (end, sym (lines_of-carried bytes)); stopped = later.stopped },
    sound,
    failed_after step.failed all.failed before.counts h,
  )

  -- a fault at the line that the end of the script ends
  pub cut_at_last : source.gave bytes → source.ended → source.failed 0 → (fault : PlayFault) → IsEndStoppedBy player step fault
      → IsCutBy servers source all fault
  cut_at_last given end sound Read h = absurd h
  cut_at_last given end sound Write h =
      by_last_write (length h.0.rest) given end sound (stopped-last (opening_of servers) took step.took all.took
      before.both player bytes before.heard h.0) h.1
  cut_at_last given end sound Memory h =
      by_line bytes (length h.0.rest) given sound (stopped-last (opening_of servers) took step.took all.took before.both
      player bytes before.heard h.0) (h.1, h.2)

  -- a fault among the lines that end in one more block
  pub cut_in_block : (more : List ℕ) → source.gave (bytes ++ more) → source.failed 0 → (fault : PlayFault)
      → IsBlockStoppedBy player more step fault → IsCutBy servers source all fault
  cut_in_block more given sound Read h = absurd h
  cut_in_block more given sound Write h =
      by_write (bytes ++ more) (length h.0.rest) given sound (stopped-append_whole (opening_of servers) took step.took
      all.took before.both player bytes more before.heard h.0) h.1
  cut_in_block more given sound Memory h =
      by_line (bytes ++ more) (length h.0.rest) given sound (stopped-append (opening_of servers) took step.took all.took
      before.both player bytes more before.heard h.0) (h.1, h.2)
