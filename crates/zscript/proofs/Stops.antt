-- What a fault leaves, carried from a line to its block, and from a block to the run.
use Rattle.std.proofs.Common.{◌≡◌, ◌<◌, ◌+◌, ℕ, List, [], ◌∷◌, ◌++◌, length, refl, sym, ap, ◌∙◌, subst, append_assoc, arith, length-append}
use Rattle.std.proofs.lemmas.List.{append-nil}
use Rattle.zscript.specs.Line.{ServiceWorld}
use Rattle.zscript.specs.Done.{IsLineDone}
use Rattle.zdevices.specs.Device.{TookBeginning}
use Rattle.zdevices.proofs.Beginnings.{failed_after}
use Rattle.zscript.specs.support.Lines.{whole_lines_after, line_left, last_line, lines_after, AreLinesDone, IsPart}
use Rattle.zscript.specs.support.PlayerView.{PlayerView, world_now, Reports}
use Rattle.zscript.specs.Outcome.{IsStopped}
use Rattle.zscript.specs.support.Stops.{IsStoppedBy, IsLineStoppedBy}
use Rattle.zscript.specs.declared.fault.PlayFault.{PlayFault}
use Rattle.zscript.specs.declared.fault.PlayFault.TheVariants.{Read, Write, Memory}
use Rattle.zscript.proofs.Progress.{Progress, progress-cut, progress-want}
use Rattle.zscript.proofs.Done.{done-none, done-line, done-written, done-stopped}
use Rattle.zscript.proofs.Reports.{reports_begun, reports_both, reports_cut}

-- a fault at the next line of a block
pub progress-stopped : (took more_took all_took : List ℕ → Type 0) (failed all_failed : ℕ → Type 0)
    (p q : PlayerView) (bytes rest end more : List ℕ) → ((a b : List ℕ) → took a → more_took b → all_took (a ++ b))
    → ((n : ℕ) → failed n → all_failed (0 + n)) → Progress took p q bytes rest → IsPart end → rest ≡ end ++ 10 ∷ more
    → (fault : PlayFault) → IsLineStoppedBy q (q.line ++ end) (record { took = more_took; failed = failed }) fault
    → IsStoppedBy (world_now p) (whole_lines_after p.line bytes) (whole_lines_after p.line bytes) all_took all_failed fault
progress-stopped took more_took all_took failed all_failed p q bytes rest end more both grow h part is Read stop = stop
progress-stopped took more_took all_took failed all_failed p q bytes rest end more both grow h part is Write stop =
    (progress-cut took more_took all_took p q stop.0 bytes rest end more both h part is stop.1, failed_after failed all_failed grow stop.2)
progress-stopped took more_took all_took failed all_failed p q bytes rest end more both grow h part is Memory stop =
    let s = progress-want took all_took p q bytes rest end more (λ a t. subst all_took (append-nil a) (both a [] t stop.0)) h part is in
    (s.stopped, s.some, grow 0 stop.1)

-- lines after those that were stopped are not played either
abbrev longer : (took : List ℕ → Type 0) (world : ServiceWorld) (xs ys : List (List ℕ)) → IsStopped world xs took → IsStopped world (xs ++ ys) took
longer took world xs ys h = record {
  played = h.played;
  rest = h.rest ++ ys;
  split = ap (λ t. t ++ ys) h.split ∙ append_assoc h.played h.rest ys;
  outcomes = h.outcomes;
  taken = h.taken;
}

pub stopped-longer : (took : List ℕ → Type 0) (failed : ℕ → Type 0) (world : ServiceWorld) (xs ys : List (List ℕ)) (fault : PlayFault)
    → IsStoppedBy world xs xs took failed fault → IsStoppedBy world xs (xs ++ ys) took failed fault
stopped-longer took failed world xs ys Read h = h
stopped-longer took failed world xs ys Write h = h
stopped-longer took failed world xs ys Memory h =
    let some : 0 < length (h.0.rest ++ ys) = omega (arith, h.1, length-append h.0.rest ys) in
    (longer took world xs ys h.0, some, h.2)

-- a fault at the one line that is played
pub line-stopped : (took : List ℕ → Type 0) (failed : ℕ → Type 0) (p : PlayerView) (line : List ℕ) → p.held ≡ []
    → (fault : PlayFault) → IsLineStoppedBy p line (record { took = took; failed = failed }) fault
    → IsStoppedBy (world_now p) (line ∷ []) (line ∷ []) took failed fault
line-stopped took failed p line none Read h = h
line-stopped took failed p line none Write h =
    let done = done-line (world_now p) h.0 line (λ text. TookBeginning took (p.held ++ text)) h.1 in (
      done-stopped took (world_now p) h.0 (line ∷ []) [] (line ∷ []) refl
          (done-written (λ text. TookBeginning took (p.held ++ text)) (TookBeginning took) (world_now p) h.0 (line ∷ [])
          (λ text. subst (λ held. TookBeginning took (held ++ text)) none) done),
      h.2,
    )
line-stopped took failed p line none Memory h = (
  record { played = []; rest = line ∷ []; split = refl; outcomes = []; taken = ([], ([], refl), h.0) },
  omega arith,
  h.1,
)

pub last_line-some : (line : List ℕ) → 0 < length line → last_line line ≡ line ∷ []
last_line-some [] h = absurd (omega arith)
last_line-some (x ∷ line) h = refl

-- there is no last line
pub none-reported : (took : List ℕ → Type 0) (world : ServiceWorld) (line : List ℕ) → length line ≡ 0 → took []
    → AreLinesDone world (last_line line) world took
none-reported took world [] e none = done-none world took none
none-reported took world (x ∷ line) e none = absurd (omega (arith, e))

-- memory ran out at the line that the block leaves
pub left-stopped : (took : List ℕ → Type 0) (old new : ServiceWorld) (line bytes held : List ℕ) → 0 < length (line_left line bytes)
    → AreLinesDone old (whole_lines_after line bytes) new (λ text. Reports took text held)
    → (stopped : IsStopped old (lines_after line bytes) took) × (0 < length stopped.rest)
left-stopped took old new line bytes held some done = (
  done-stopped took old new (whole_lines_after line bytes) (last_line (line_left line bytes)) (lines_after line bytes) refl
      (done-written (λ text. Reports took text held) (TookBeginning took) old new (whole_lines_after line bytes)
      (λ text. reports_begun took text held) done),
  subst (λ lines. 0 < length lines) (sym (last_line-some (line_left line bytes) some)) (omega arith),
)

module _ (took more_took all_took : List ℕ → Type 0) (both : (a b : List ℕ) → took a → more_took b → all_took (a ++ b)) where
  -- the sink failed at the replies of a block
  pub replies-stopped : (old new : ServiceWorld) (line bytes held : List ℕ)
      → AreLinesDone old (whole_lines_after line bytes) new (λ text. Reports took text held) → TookBeginning more_took held
      → IsStopped old (whole_lines_after line bytes) all_took
  replies-stopped old new line bytes held done cut =
      done-stopped all_took old new (whole_lines_after line bytes) [] (whole_lines_after line bytes) (sym (append-nil _))
      (done-written (λ text. Reports took text held) (TookBeginning all_took) old new (whole_lines_after line bytes)
      (λ text reported. reports_cut took more_took all_took both text held reported cut) done)

  -- or took them all
  pub replies-written : (old new : ServiceWorld) (lines : List (List ℕ)) (held : List ℕ)
      → AreLinesDone old lines new (λ text. Reports took text held) → more_took held → AreLinesDone old lines new all_took
  replies-written old new lines held done rest =
      done-written (λ text. Reports took text held) all_took old new lines (λ text reported. reports_both took more_took all_took
      both text held reported rest) done

  -- the one line that is played, as one of some lines
  one-reported : (old new : ServiceWorld) (held line left : List ℕ) → held ≡ [] → IsLineDone old line new (λ text. Reports took (held ++ text) left)
      → AreLinesDone old (line ∷ []) new (λ text. Reports took text left)
  one-reported old new held line left none h =
      done-written (λ text. Reports took (held ++ text) left) (λ text. Reports took text left) old new (line ∷ [])
      (λ text. subst (λ t. Reports took (t ++ text) left) none)
      (done-line old new line (λ text. Reports took (held ++ text) left) h)

  -- the one line that is played is written in two steps, or the second fails
  pub line-reported : (old new : ServiceWorld) (held line left : List ℕ) → held ≡ []
      → IsLineDone old line new (λ text. Reports took (held ++ text) left) → more_took left → AreLinesDone old (line ∷ []) new all_took
  line-reported old new held line left none h rest = replies-written old new (line ∷ []) left (one-reported old new held line left none h) rest

  pub line-cut : (old new : ServiceWorld) (held line left : List ℕ) → held ≡ []
      → IsLineDone old line new (λ text. Reports took (held ++ text) left) → TookBeginning more_took left → IsStopped old (line ∷ []) all_took
  line-cut old new held line left none h cut =
      done-stopped all_took old new (line ∷ []) [] (line ∷ []) refl
      (done-written (λ text. Reports took text left) (TookBeginning all_took) old new (line ∷ [])
      (λ text reported. reports_cut took more_took all_took both text left reported cut) (one-reported old new held line left none h))
