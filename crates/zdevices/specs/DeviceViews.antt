-- What contracts see of the devices of this crate.
use Rattle.std.specs.Prelude.{◌≡◌, ℕ, ◌==◌, ◌-◌, min, Bool, true, false, if◌then◌else◌, List, length, Option, None, Some, IfSome}

-- A source over memory: the bytes that are left, and the most that a read gives. Then after how
-- many reads one fails, if any does, whether one has failed, and whether the last one reported the
-- end.
pub record SliceSourceView : Type 0 where
  pub left : List ℕ
  pub at_most : ℕ
  pub fails_after : Option ℕ
  pub has_failed : Bool
  pub reported_end : Bool

-- A sink over memory: the bytes that it holds, and the most that a write takes. Then after how many
-- writes one fails, if any does, and whether one has failed.
pub record VecSinkView : Type 0 where
  pub held : List ℕ
  pub at_most : ℕ
  pub fails_after : Option ℕ
  pub has_failed : Bool

-- A source over a reader: the most reads that it still makes, whether one has failed, and whether
-- the last one reported the end.
pub record ReaderSourceView (R : Type 0) : Type 0 where
  pub reader : R
  pub budget : ℕ
  pub has_failed : Bool
  pub reported_end : Bool

-- A sink over a writer, and whether a write has failed.
pub record WriterSinkView (W : Type 0) : Type 0 where
  pub writer : W
  pub has_failed : Bool

-- A failure that is to come after this many calls comes at this one.
abbrev pub is_due : Option ℕ → Bool
is_due None = false
is_due (Some calls) = calls == 0

-- After how many calls it comes once this call is over: it comes once.
abbrev pub after_call : Option ℕ → Option ℕ
after_call None = None
after_call (Some calls) = if calls == 0 then None else Some (calls - 1)

-- A read of a source over memory into this much room. It fails where that is due, and only there.
-- Else it gives as many bytes as are left, as there is room for, and as `at_most` allows.
pub record IsSliceRead (before : SliceSourceView) (room : ℕ) (answer : Option ℕ) (after : SliceSourceView) : Type 0 where
  pub answered : answer ≡ (if is_due before.fails_after then None else Some (min (min (length before.left) room) before.at_most))
  pub failure : after.fails_after ≡ after_call before.fails_after
  pub at_most : after.at_most ≡ before.at_most

-- A write of this many bytes to a sink over memory. It fails where that is due, or where memory
-- runs out. Else it takes as many of them as there are, and as `at_most` allows.
pub record IsVecWrite (before : VecSinkView) (len : ℕ) (answer : Option ℕ) (after : VecSinkView) : Type 0 where
  pub due : is_due before.fails_after ≡ true → answer ≡ None
  pub taken : IfSome answer (λ count. count ≡ min len before.at_most)
  pub failure : after.fails_after ≡ after_call before.fails_after
  pub at_most : after.at_most ≡ before.at_most
