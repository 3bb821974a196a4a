-- How far a player has come among the lines of one block.
use Rattle.std.proofs.Common.{◌≡◌, ◌<◌, ℕ, List, [], ◌∷◌, ◌++◌, length, refl, sym, ap, ◌∙◌, append_assoc, arith}
use Rattle.std.proofs.lemmas.List.{append-nil}
use Rattle.zscript.specs.Line.{ServiceWorld}
use Rattle.zscript.specs.Done.{IsLineDone}
use Rattle.zdevices.specs.Device.{TookBeginning}
use Rattle.zscript.specs.support.Lines.{whole_lines_after, line_left, AreLinesDone, IsPart}
use Rattle.zscript.specs.support.PlayerView.{PlayerView, world_now, Reports}
use Rattle.zscript.specs.Outcome.{IsStopped}
use Rattle.zscript.proofs.Cuts.{whole_lines_after-line, whole_lines_after-part, line_left-line, line_left-part}
use Rattle.zscript.proofs.Done.{done-none, done-line, done-append, done-written, done-stopped}
use Rattle.zscript.proofs.Reports.{reports_grown, reports_begun, reports_cut, reports_again}

-- From p to q some lines of the bytes were played, and rest is what follows them.
pub record Progress (took : List ℕ → Type 0) (p q : PlayerView) (bytes rest : List ℕ) : Type 0 where
  pub lines : List (List ℕ)
  pub whole : whole_lines_after p.line bytes ≡ lines ++ whole_lines_after q.line rest
  pub left : line_left p.line bytes ≡ line_left q.line rest
  pub done : AreLinesDone (world_now p) lines (world_now q) (λ text. Reports took text q.held)

pub progress-none : (took : List ℕ → Type 0) (p : PlayerView) (bytes : List ℕ) → took [] → p.held ≡ [] → Progress took p p bytes bytes
progress-none took p bytes none held = record {
  lines = [];
  whole = refl;
  left = refl;
  done = done-none (world_now p) (λ text. Reports took text p.held) (record { front = []; taken = none; split = sym held });
}

-- what the next line is, among the lines
next_line : (q : PlayerView) (end more rest : List ℕ) → IsPart end → rest ≡ end ++ 10 ∷ more → whole_lines_after q.line rest
    ≡ (q.line ++ end) ∷ whole_lines_after [] more
next_line q end more rest part is = ap (whole_lines_after q.line) is ∙ whole_lines_after-line end q.line more part

-- one more line, in front of the others
with_next : (p q : PlayerView) (bytes rest end more : List ℕ) (lines : List (List ℕ)) → whole_lines_after p.line bytes
    ≡ lines ++ whole_lines_after q.line rest → IsPart end → rest ≡ end ++ 10 ∷ more → whole_lines_after p.line bytes
    ≡ (lines ++ (q.line ++ end) ∷ []) ++ whole_lines_after [] more
with_next p q bytes rest end more lines whole part is =
    whole
    ∙ ap (λ t. lines ++ t) (next_line q end more rest part is)
    ∙ sym (append_assoc lines ((q.line ++ end) ∷ []) (whole_lines_after [] more))

pub progress-line : (took more_took all_took : List ℕ → Type 0) (p q r : PlayerView) (bytes rest end more : List ℕ)
    → ((a b : List ℕ) → took a → more_took b → all_took (a ++ b)) → Progress took p q bytes rest → IsPart end
    → rest ≡ end ++ 10 ∷ more → r.line ≡ [] → IsLineDone (world_now q) (q.line ++ end) (world_now r)
    (λ text. Reports more_took (q.held ++ text) r.held) → Progress all_took p r bytes more
progress-line took more_took all_took p q r bytes rest end more both h part is line next =
    let now = q.line ++ end in
    record {
      lines = h.lines ++ now ∷ [];
      whole = with_next p q bytes rest end more h.lines h.whole part is ∙ ap (λ l. (h.lines ++ now ∷ []) ++ whole_lines_after l more) (sym line);
      left = h.left ∙ ap (line_left q.line) is ∙ line_left-line end q.line more part ∙ ap (λ l. line_left l more) (sym line);
      done = done-append
          (λ text. Reports took text q.held) (λ text. Reports more_took (q.held ++ text) r.held) (λ text. Reports all_took text r.held)
          (world_now p) (world_now q) (world_now r) h.lines (now ∷ [])
          (λ a b reported more_reported. reports_again took more_took all_took both (a ++ b) (q.held ++ b) r.held (reports_grown took a q.held b reported) more_reported)
          h.done (done-line (world_now q) (world_now r) now (λ text. Reports more_took (q.held ++ text) r.held) next);
    }

-- the sink failed at the next line's reply
pub progress-cut : (took more_took all_took : List ℕ → Type 0) (p q : PlayerView) (new : ServiceWorld) (bytes rest end more : List ℕ)
    → ((a b : List ℕ) → took a → more_took b → all_took (a ++ b)) → Progress took p q bytes rest → IsPart end
    → rest ≡ end ++ 10 ∷ more → IsLineDone (world_now q) (q.line ++ end) new (λ text. TookBeginning more_took (q.held ++ text))
    → IsStopped (world_now p) (whole_lines_after p.line bytes) all_took
progress-cut took more_took all_took p q new bytes rest end more both h part is next =
    let now = q.line ++ end in
    done-stopped all_took (world_now p) new (h.lines ++ now ∷ []) (whole_lines_after [] more) (whole_lines_after p.line bytes)
    (with_next p q bytes rest end more h.lines h.whole part is)
    (done-append
    (λ text. Reports took text q.held) (λ text. TookBeginning more_took (q.held ++ text)) (TookBeginning all_took)
    (world_now p) (world_now q) new h.lines (now ∷ [])
    (λ a b reported cut. reports_cut took more_took all_took both (a ++ b) (q.held ++ b) (reports_grown took a q.held b reported) cut)
    h.done (done-line (world_now q) new now (λ text. TookBeginning more_took (q.held ++ text)) next))

-- memory ran out at the next line
pub record StoppedBefore (took : List ℕ → Type 0) (world : ServiceWorld) (lines : List (List ℕ)) : Type 0 where
  pub stopped : IsStopped world lines took
  pub some : 0 < length stopped.rest

pub progress-want : (took all_took : List ℕ → Type 0) (p q : PlayerView) (bytes rest end more : List ℕ)
    → ((a : List ℕ) → took a → all_took a) → Progress took p q bytes rest → IsPart end → rest ≡ end ++ 10 ∷ more
    → StoppedBefore all_took (world_now p) (whole_lines_after p.line bytes)
progress-want took all_took p q bytes rest end more all h part is = record {
  stopped = done-stopped all_took (world_now p) (world_now q) h.lines ((q.line ++ end) ∷ whole_lines_after [] more) (whole_lines_after p.line bytes)
      (h.whole ∙ ap (λ t. h.lines ++ t) (next_line q end more rest part is))
      (done-written (λ text. Reports took text q.held) (TookBeginning all_took) (world_now p) (world_now q) h.lines
      (λ text reported. let begun = reports_begun took text q.held reported in (begun.0, begun.1, all begun.0 begun.2))
      h.done);
  some = omega arith;
}

-- every line that ends in the bytes is played
pub progress-whole : (took : List ℕ → Type 0) (p q : PlayerView) (bytes rest : List ℕ) (h : Progress took p q bytes rest)
    → IsPart rest → AreLinesDone (world_now p) (whole_lines_after p.line bytes) (world_now q) (λ text. Reports took text q.held)
progress-whole took p q bytes rest h part =
    let whole : whole_lines_after p.line bytes ≡ h.lines = h.whole ∙ ap (λ t. h.lines ++ t) (whole_lines_after-part rest q.line part)
    ∙ append-nil h.lines in
    rw whole h.done

pub progress-left : (took : List ℕ → Type 0) (p q : PlayerView) (bytes rest : List ℕ) (h : Progress took p q bytes rest)
    → IsPart rest → line_left p.line bytes ≡ q.line ++ rest
progress-left took p q bytes rest h part = h.left ∙ line_left-part rest q.line part
