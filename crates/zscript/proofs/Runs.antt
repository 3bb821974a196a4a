-- A run of a player, chunk by chunk.
use Rattle.std.proofs.Common.{◌≡◌, ◌<◌, ℕ, List, [], ◌++◌, length, map, refl, sym, ap, ◌∙◌, append_assoc}
use Rattle.std.proofs.lemmas.List.{append-nil}
use Rattle.zscript.specs.Line.{ServiceWorld, script_state, answers}
use Rattle.zscript.specs.support.Lines.{whole_lines_after, line_left, last_line, lines_after, AreLinesDone}
use Rattle.zscript.specs.support.PlayerView.{PlayerView, world_now, IsFresh, kept_front}
use Rattle.zscript.specs.Outcome.{IsStopped}
use Rattle.zscript.proofs.Cached.{kept-append, kept-nil, answers-alike}
use Rattle.zscript.proofs.Cuts.{whole_lines_after-append, line_left-append}
use Rattle.zscript.proofs.Alike.{whole_lines_after-alike, line_left-alike, last_line-alike, lines_after-alike, splits, some_alike}
use Rattle.zscript.proofs.Done.{done-none, done-append, done-alike, done-answers}

kept-kept : (line : List ℕ) → kept_front (kept_front line) ≡ kept_front line
kept-kept line = ap kept_front (sym (append-nil (kept_front line))) ∙ kept-append line [] ∙ ap kept_front (append-nil line)

-- A player that began in the opening world has read these bytes. Their whole lines are done, and a
-- prefix of the line that they leave is stored.
pub record Heard (opening : ServiceWorld) (took : List ℕ → Type 0) (bytes : List ℕ) (p : PlayerView) : Type 0 where
  pub done : AreLinesDone opening (whole_lines_after [] bytes) (world_now p) took
  pub line : p.line ≡ kept_front (line_left [] bytes)
  pub held : p.held ≡ []

pub heard-nil : (took : List ℕ → Type 0) (p : PlayerView) → took [] → IsFresh p → Heard (world_now p) took [] p
heard-nil took p none fresh = record { done = done-none (world_now p) took none; line = fresh.0 ∙ sym kept-nil; held = fresh.1 }

-- the line that was left, as it is stored
left-alike : (opening : ServiceWorld) (took : List ℕ → Type 0) (bytes : List ℕ) (p : PlayerView) → Heard opening took bytes p
    → kept_front p.line ≡ kept_front (line_left [] bytes)
left-alike opening took bytes p h = ap kept_front h.line ∙ kept-kept (line_left [] bytes)

-- more bytes
pub heard-append : (opening : ServiceWorld) (took more_took all_took : List ℕ → Type 0) (p q : PlayerView) (a b : List ℕ)
    → ((x y : List ℕ) → took x → more_took y → all_took (x ++ y)) → Heard opening took a p
    → AreLinesDone (world_now p) (whole_lines_after p.line b) (world_now q) more_took → q.line ≡ kept_front (line_left p.line b)
    → q.held ≡ [] → Heard opening all_took (a ++ b) q
heard-append opening took more_took all_took p q a b both h done line held =
    let left = line_left [] a in
    let same = left-alike opening took a p h in
    record {
      done = rw (whole_lines_after-append a [] b)
          (done-append took more_took all_took opening (world_now p) (world_now q) (whole_lines_after [] a) (whole_lines_after left b) both h.done
          (done-alike more_took (world_now p) (world_now q) (whole_lines_after p.line b) (whole_lines_after left b)
          (whole_lines_after-alike b p.line left same) done));
      line = line ∙ line_left-alike b p.line left same ∙ ap kept_front (sym (line_left-append a [] b));
      held = held;
    }

-- and the line that the end ends
pub heard-last : (opening : ServiceWorld) (took more_took all_took : List ℕ → Type 0) (p : PlayerView) (new : ServiceWorld) (a : List ℕ)
    → ((x y : List ℕ) → took x → more_took y → all_took (x ++ y)) → Heard opening took a p
    → AreLinesDone (world_now p) (last_line p.line) new more_took → AreLinesDone opening (lines_after [] a) new all_took
heard-last opening took more_took all_took p new a both h done =
    let left = line_left [] a in
    done-append took more_took all_took opening (world_now p) new (whole_lines_after [] a) (last_line left) both h.done
    (done-alike more_took (world_now p) new (last_line p.line) (last_line left) (last_line-alike p.line left (left-alike opening took a p h)) done)

-- what stopped after some lines that were played, stopped among all of them
pub record StoppedLater (took : List ℕ → Type 0) (world : ServiceWorld) (lines : List (List ℕ)) (left : ℕ) : Type 0 where
  pub stopped : IsStopped world lines took
  pub some : 0 < left → 0 < length stopped.rest

stopped_behind : (took more_took all_took : List ℕ → Type 0) (old mid : ServiceWorld) (before xs ys lines : List (List ℕ))
    → ((a b : List ℕ) → took a → more_took b → all_took (a ++ b)) → map kept_front xs ≡ map kept_front ys → lines ≡ before ++ ys
    → AreLinesDone old before mid took → (h : IsStopped mid xs more_took) → StoppedLater all_took old lines (length h.rest)
stopped_behind took more_took all_took old mid before xs ys lines both alike is done h =
    let s = splits h.played h.rest ys (ap (map kept_front) (sym h.split) ∙ alike) in
    let reported = done.reported ++ h.outcomes in
    let front = h.taken.0 in
    let whole : answers (script_state old reported) (before ++ s.front) ≡ (done.text ++ front) ++ h.taken.1.0 =
    done-answers took old mid before s.front h.outcomes done
    ∙ ap (λ t. done.text ++ t) (sym (answers-alike (script_state mid h.outcomes) h.played s.front s.same) ∙ h.taken.1.1)
    ∙ sym (append_assoc done.text front h.taken.1.0) in
    record {
      stopped = record {
        played = before ++ s.front;
        rest = s.back;
        split = is ∙ ap (λ t. before ++ t) s.split ∙ sym (append_assoc before s.front s.back);
        outcomes = reported;
        taken = (done.text ++ front, (h.taken.1.0, whole), both done.text front done.written h.taken.2);
      };
      some = λ left. some_alike h.rest s.back s.same_rest left;
    }

module _ (opening : ServiceWorld) (took more_took all_took : List ℕ → Type 0) (both : (a b : List ℕ) → took a → more_took b → all_took (a ++ b)) where
  pub stopped-append : (p : PlayerView) (a b : List ℕ) → Heard opening took a p → (h : IsStopped (world_now p) (lines_after p.line b) more_took)
      → StoppedLater all_took opening (lines_after [] (a ++ b)) (length h.rest)
  stopped-append p a b heard h =
      let left = line_left [] a in
      let before = whole_lines_after [] a in
      let lines : lines_after [] (a ++ b) ≡ before ++ lines_after left b =
      (λ i. whole_lines_after-append a [] b i ++ last_line (line_left-append a [] b i))
      ∙ append_assoc before (whole_lines_after left b) (last_line (line_left left b)) in
      stopped_behind took more_took all_took opening (world_now p) before (lines_after p.line b) (lines_after left b) (lines_after [] (a ++ b))
      both (lines_after-alike b p.line left (left-alike opening took a p heard)) lines heard.done h

  pub stopped-append_whole : (p : PlayerView) (a b : List ℕ) → Heard opening took a p
      → (h : IsStopped (world_now p) (whole_lines_after p.line b) more_took)
      → StoppedLater all_took opening (whole_lines_after [] (a ++ b)) (length h.rest)
  stopped-append_whole p a b heard h =
      let left = line_left [] a in
      stopped_behind took more_took all_took opening (world_now p) (whole_lines_after [] a) (whole_lines_after p.line b)
      (whole_lines_after left b) (whole_lines_after [] (a ++ b))
      both (whole_lines_after-alike b p.line left (left-alike opening took a p heard)) (whole_lines_after-append a [] b) heard.done h

  pub stopped-last : (p : PlayerView) (a : List ℕ) → Heard opening took a p → (h : IsStopped (world_now p) (last_line p.line) more_took)
      → StoppedLater all_took opening (lines_after [] a) (length h.rest)
  stopped-last p a heard h =
      let left = line_left [] a in
      stopped_behind took more_took all_took opening (world_now p) (whole_lines_after [] a) (last_line p.line) (last_line left) (lines_after [] a)
      both (last_line-alike p.line left (left-alike opening took a p heard)) refl heard.done h
