-- One more frame after frames that were handled, and what is left after a frame.
use Rattle.std.proofs.Common.{◌≡◌, ◌≤◌, ◌<◌, Bool, true, false, sym, ap, subst, refl, List, [], ◌∷◌, ◌++◌, ℕ, length, take, drop, arith}
use Rattle.std.specs.Prelude.{nat_lt, if◌then◌else◌}
use Rattle.std.specs.Int.{w32, from_be_bytes}
use Rattle.std.proofs.lemmas.Bool.{ltb-false}
use Rattle.std.proofs.lemmas.List.{length-drop}
use Rattle.zjute.specs.declared.limits.TheConstants.{MAX_FRAME}
use Rattle.zjute.specs.Frames.{Whole, Partial, TooLong, next_of, cut_at, behind_length}
use Rattle.zconnections.specs.Tables.{is_open}
use Rattle.zfront.specs.Front.{FrontView}
use Rattle.zfront.specs.Reading.{Cuts, Handles, HandlesAll}

pub cuts_more : (came : List ℕ) (frames : List (List ℕ)) (rest bytes more : List ℕ) →
    Cuts came frames rest → next_of rest ≡ Whole bytes more → Cuts came (frames ++ bytes ∷ []) more
cuts_more came [] rest bytes more same whole = (more, subst (λ b. next_of b ≡ Whole bytes more) (sym same) whole, refl)
cuts_more came (first ∷ frames) rest bytes more cut whole = (cut.0, cut.1, cuts_more cut.0 frames rest bytes more cut.2 whole)

pub handles_more : (frames : List (List ℕ)) (c : ℕ) (old middle : FrontView) (bytes : List ℕ) (new : FrontView) →
    HandlesAll frames c old middle → is_open middle.tables c ≡ true → Handles bytes c middle new → HandlesAll (frames ++ bytes ∷ []) c old new
handles_more [] c old middle bytes new same is_on done =
    (subst (λ (v : FrontView). is_open v.tables c ≡ true) same is_on, new, subst (λ v. Handles bytes c v new) same done, refl)
handles_more (first ∷ frames) c old middle bytes new all is_on done =
    (all.0, all.1, all.2, handles_more frames c all.1 middle bytes new all.3 is_on done)

-- what is left after a frame is shorter than what came
behind_frame : (b : Bool) (n : ℕ) (rest bytes more : List ℕ) → (if b then Partial else Whole (take n rest) (drop n rest))
    ≡ Whole bytes more → length more ≤ length rest
behind_frame true n rest bytes more is =
    let no : ⊥ = cc in
    absurd no
behind_frame false n rest bytes more is =
    let left : drop n rest ≡ more = cc in
    omega (arith, ap length left, length-drop n rest)

behind_four : (b : Bool) (n : ℕ) (rest bytes more : List ℕ) → (if b then TooLong else cut_at n rest) ≡ Whole bytes more → length more ≤ length rest
behind_four true n rest bytes more is =
    let no : ⊥ = cc in
    absurd no
behind_four false n rest bytes more is = behind_frame (nat_lt (length rest) n) n rest bytes more is

from_four : (b : Bool) (came bytes more : List ℕ) → nat_lt (length came) 4 ≡ b
    → (if b then Partial else behind_length (from_be_bytes w32 (take 4 came)) (drop 4 came)) ≡ Whole bytes more → length more < length came
from_four true came bytes more four is =
    let no : ⊥ = cc in
    absurd no
from_four false came bytes more four is =
    let n = from_be_bytes w32 (take 4 came) in
    let left = behind_four (nat_lt MAX_FRAME n) n (drop 4 came) bytes more is in
    omega (arith, left, length-drop 4 came, ltb-false (length came) 4 four)

pub shorter : (came bytes more : List ℕ) → next_of came ≡ Whole bytes more → length more < length came
unfolding next_of
shorter came bytes more is = from_four (nat_lt (length came) 4) came bytes more refl is

-- the rest of frames is no longer than what came, so one that is as long is all of it
rest_short : (came : List ℕ) (frames : List (List ℕ)) (rest : List ℕ) → Cuts came frames rest → length rest ≤ length came
rest_short came [] rest is = omega (arith, ap length is)
rest_short came (bytes ∷ frames) rest cut =
    omega (arith, rest_short cut.0 frames rest cut.2, shorter came bytes cut.0 cut.1)

pub nothing_read : (came : List ℕ) (frames : List (List ℕ)) (rest : List ℕ) → Cuts came frames rest → length rest ≡ length came → rest ≡ came
nothing_read came [] rest is long = sym is
nothing_read came (bytes ∷ frames) rest cut long =
    absurd (omega (arith, long, rest_short cut.0 frames rest cut.2, shorter came bytes cut.0 cut.1))
