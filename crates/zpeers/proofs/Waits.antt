-- The records of a message that waits.
use Rattle.std.proofs.Common.{◌≡◌, ℕ, ◌+◌, ◌<◌, ◌≤◌, List, [], ◌∷◌, ◌++◌, length, map, take, drop, drop_at, Option, None, Some, refl, sym, ap, subst, ◌∙◌, append_assoc, inl, inr, arith}
use Rattle.std.proofs.lemmas.List.{length-map}
use Rattle.std.specs.List.{flat_map}
use Rattle.std.specs.Prelude.{option_to_list}
use Rattle.std.proofs.Math.Seq.{take-append_seam}
use Rattle.std.proofs.Common.{length-append, length-drop, add-one}
use Rattle.zops.specs.Machine.{MachineState}
use Rattle.zprotocol.specs.declared.message.Message.TheVariants as message
use Rattle.zprotocol.specs.declared.process.Process.{Process}
use Rattle.zserver.specs.Server.{TreeMessage}
use Rattle.zwire.specs.declared.limits.TheConstants.{MAX_FRAME}
use Rattle.zwire.specs.declared.fault.WriteError.{WriteError}
use Rattle.zwire.specs.declared.fault.WriteError.TheVariants.{TooLong, Memory}
use Rattle.zwire.specs.Frames.{contents, frame, frame_of}
use Rattle.zsnapshots.specs.States.{StateRow, KeysView, IsRow, rows_of}
use Rattle.zsnapshots.proofs.Places.{At, at_left, at_map}
use Rattle.zpeers.specs.declared.tags.TheConstants.{FRAME, ROW, END}
use Rattle.zpeers.specs.Records.{LinkRecord, link_record, frame_record, row_record, end_record, state_of, state_records, after_frame, records_of}
use Rattle.zpeers.specs.Incoming.{HasNoState, row_bytes}
use Rattle.zpeers.specs.Outgoing.{WaitingView, left_of, IsLongFrame}
use Rattle.zpeers.specs.support.Waiting.{HasKeys, IsRecordWritten, IsFirstWritten, IsLastWritten, IsQueueWritten, queue_of}
use Rattle.zpeers.proofs.Messages.{kinds}
use Rattle.zpeers.proofs.Coming.{row_is_spelled}
use Rattle.zpeers.proofs.Refusing.{row_short}

-- the same record was written, of lists that are the same
pub as_written : (old old2 new new2 : List LinkRecord) (before after : List ℕ) → old ≡ old2 → new ≡ new2
    → IsRecordWritten old new before after → IsRecordWritten old2 new2 before after
as_written old old2 new new2 before after same same_new w =
    record { it = w.it; next = sym same ∙ w.next ∙ ap (λ (l : List LinkRecord). w.it ∷ l) same_new; bytes = w.bytes; fits = w.fits }

-- ---- the frame

pub frame_bytes : (own to : Process) (m : TreeMessage) (before : List ℕ) → (before ++ FRAME ∷ []) ++ frame.spell (frame_of own to m)
    ≡ before ++ link_record.spell (frame_record own to m)
unfolding frame
frame_bytes own to m before = append_assoc before (FRAME ∷ []) (frame.spell (frame_of own to m))

pub frame_fits : (own to : Process) (m : TreeMessage) → frame.Fits (frame_of own to m) → link_record.Fits (frame_record own to m)
unfolding frame
frame_fits own to m fits = (omega arith, (fits.1, refl))

pub none_after : (m : TreeMessage) → HasKeys m None → after_frame m ≡ []
none_after m none = elim (kinds m) [
  | inl is ↦ absurd (subst (λ (m : TreeMessage). HasKeys m None) is.2 none)
  | inr alone ↦ alone.alone
]

no_keys : (m : TreeMessage) (keys : KeysView) → HasKeys m (Some keys) → HasNoState m → ⊥
no_keys (message.Snapshot epoch t) keys has none = none
no_keys (message.Submit number update) keys has none = has
no_keys (message.Query number query) keys has none = has
no_keys (message.Answer number reply) keys has none = has
no_keys (message.Update epoch number entry) keys has none = has
no_keys (message.Ack epoch number) keys has none = has
no_keys (message.NewPred epoch server) keys has none = has
no_keys (message.Have epoch last) keys has none = has
no_keys (message.NewSucc epoch server last) keys has none = has
no_keys (message.BecomeHead epoch) keys has none = has
no_keys (message.BecomeTail epoch) keys has none = has
no_keys message.Retire keys has none = has
no_keys (message.Joined epoch) keys has none = has
no_keys message.Gone keys has none = has
no_keys (message.Config epoch head tail) keys has none = has

pub some_after : (m : TreeMessage) (keys : KeysView) → HasKeys m (Some keys) → 0 < length (after_frame m)
some_after m keys has = elim (kinds m) [
  | inl is ↦ subst (λ (m : TreeMessage). 0 < length (after_frame m)) (sym is.2) (ends (rows_of (state_of is.1)))
  | inr alone ↦ absurd (no_keys m keys has alone.none)
]
  where
    ends : (rows : List StateRow) → 0 < length (map row_record rows ++ end_record ∷ [])
    ends [] = omega arith
    ends (x ∷ rows) = omega arith

pub first_written : (own to : Process) (w : WaitingView) (new : List LinkRecord) (before after : List ℕ) → w.written ≡ 0
    → after ≡ before ++ link_record.spell (frame_record own to w.message) → link_record.Fits (frame_record own to w.message)
    → after_frame w.message ≡ new → IsRecordWritten (left_of own to w) new before after
first_written own to w new before after none bytes fits same = record {
  it = frame_record own to w.message;
  next = ap (λ (n : ℕ). drop n (records_of own to w.message)) none ∙ ap (λ (l : List LinkRecord). frame_record own to w.message ∷ l) same;
  bytes = bytes;
  fits = fits;
}

pub long_frame : (own to : Process) (w : WaitingView) (e : WriteError) → w.written ≡ 0
    → (e ≡ TooLong → MAX_FRAME < length (contents.spell (frame_of own to w.message))) → IsLongFrame own to w e
long_frame own to w TooLong none long = (none, long refl)
long_frame own to w Memory none long = tt

-- ---- what follows it

drop_behind : (x : LinkRecord) (xs : List LinkRecord) (n : ℕ) → drop (n + 1) (x ∷ xs) ≡ drop n xs
drop_behind x xs n = rw add-one refl

pub further_written : (own to : Process) (m : TreeMessage) (n : ℕ) (before after : List ℕ)
    → IsRecordWritten (drop n (after_frame m)) (drop (n + 1) (after_frame m)) before after
    → IsFirstWritten own to (record { message = m; written = n + 1 }) (record { message = m; written = n + 1 + 1 }) before after
further_written own to m n before after w = record {
  same = refl;
  written = as_written _ _ _ _ before after (sym (drop_behind (frame_record own to m) (after_frame m) n))
      (sym (drop_behind (frame_record own to m) (after_frame m) (n + 1))) w;
}

pub last_written : (own to : Process) (m : TreeMessage) (n : ℕ) (before after : List ℕ)
    → IsRecordWritten (drop n (after_frame m)) [] before after
    → IsLastWritten own to (record { message = m; written = n + 1 }) before after
last_written own to m n before after w =
    as_written _ _ [] [] before after (sym (drop_behind (frame_record own to m) (after_frame m) n)) refl w

-- ---- rows, and the end

module _ (s : MachineState) (n : ℕ) (before after : List ℕ) where
  abbrev rows : List StateRow
  rows = rows_of s

  many : length (state_records s) ≡ length rows + 1
  many = length-append (map row_record rows) (end_record ∷ []) ∙ ap (λ (k : ℕ). k + 1) (length-map rows row_record)

  within : (x : StateRow) → At rows n x → n < length rows
  within x at =
      let long = length-drop n rows in
      let some : 0 < length (drop n rows) = subst (λ (l : List StateRow). 0 < length l) (sym at) (omega arith) in
      omega (arith, long, some)

  pub row_written : IsRow s n (before ++ ROW ∷ []) after
      → IsRecordWritten (drop n (state_records s)) (drop (n + 1) (state_records s)) before after
  row_written is =
      let inside = within is.item is.next in
      let long = length-map rows row_record in
      record {
        it = row_record is.item;
        next = at_left (map row_record rows) (end_record ∷ []) n (row_record is.item) (omega (arith, inside, long))
            (at_map row_record rows n is.item is.next);
        bytes = is.bytes ∙ ap (λ (t : List ℕ). (before ++ ROW ∷ []) ++ t) (sym (row_is_spelled is.item))
            ∙ append_assoc before (ROW ∷ []) (row_bytes (row_record is.item));
        fits = (omega arith, (row_short is.item is.fits, refl));
      }

  pub row_before_end : (mid : List ℕ) → IsRow s n mid after → n + 1 < length (state_records s)
  row_before_end mid is = let inside = within is.item is.next in omega (arith, inside, many)

  pub end_written : length rows ≤ n → n < length (state_records s) → after ≡ before ++ END ∷ 0 ∷ 0 ∷ 0 ∷ 0 ∷ []
      → IsRecordWritten (drop n (state_records s)) [] before after
  end_written all inside bytes =
      let here : n ≡ length (map row_record rows) = (let long = length-map rows row_record in omega (arith, all, inside, many, long)) in
      record {
        it = end_record;
        next = ap (λ (k : ℕ). drop k (state_records s)) here ∙ drop_at (map row_record rows) (end_record ∷ []) (length (map row_record rows)) refl;
        bytes = bytes;
        fits = (omega arith, (omega arith, refl));
      }

-- ---- queues

pub queue_is : (first : Option WaitingView) (others : List WaitingView) → option_to_list first ++ others ≡ queue_of first others
queue_is None others = refl
queue_is (Some w) others = refl

pub queue_last : (own to : Process) (w : WaitingView) (others new : List WaitingView) (before after : List ℕ)
    → IsLastWritten own to w before after → new ≡ others → IsQueueWritten own to (w ∷ others) new before after
queue_last own to w others new before after last same = record {
  it = last.it;
  next = ap (λ (l : List LinkRecord). l ++ flat_map (left_of own to) others) last.next
      ∙ ap (λ (q : List WaitingView). last.it ∷ flat_map (left_of own to) q) (sym same);
  bytes = last.bytes;
  fits = last.fits;
}

-- what was appended is cut off
pub cut_back : (before more : List ℕ) (n : ℕ) → n ≡ length before → take n (before ++ more) ≡ before
cut_back before more n is = ap (λ (k : ℕ). take k (before ++ more)) is ∙ take-append_seam before more
