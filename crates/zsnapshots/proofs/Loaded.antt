-- Rows that are each on their own.
use Rattle.std.proofs.Common.{◌≡◌, ◌≢◌, ℕ, List, [], ◌∷◌, ◌++◌, length, Option, Some, None, Result, Ok, Err, map}
use Rattle.std.proofs.Common.{append-nil, append_assoc, refl, sym, ap, subst, ◌∙◌, arith}
use Rattle.std.proofs.lemmas.List.{map-append}
use Rattle.std.specs.Prelude.{OnOk, OnErr, IfNone}
use Rattle.std.specs.List.{AllByRecursion}
use Rattle.zcodec.specs.Forms.{Form}
use Rattle.zcodec.specs.Choices.{sized}
use Rattle.zcodec.proofs.Bytes.{ok_is}
use Rattle.zcodec.proofs.Choices.{is_sized}
use Rattle.zops.specs.Machine.{MachineState}
use Rattle.zwire.specs.declared.limits.TheConstants.{MAX_FRAME}
use Rattle.zwire.specs.declared.fault.FrameFault.{FrameFault}
use Rattle.zwire.specs.Frames.{IsFaultOf}
use Rattle.zsnapshots.specs.declared.header.Header.{Header}
use Rattle.zsnapshots.specs.declared.fault.RowFault.{RowFault}
use Rattle.zsnapshots.specs.Rows.{header_text, session_text, node_text, reply_text, row}
use Rattle.zsnapshots.specs.States.{StateRow, ReadingView, Fits, spelled, head_of, nodes_of, rows_of, rows_so_far}
use Rattle.zsnapshots.specs.States.{IsReadable, IsTaken, IsRootTaken, NeverRefuses}
use Rattle.zsnapshots.specs.States.StateRow.{OfHeader, OfSession, OfNode, OfReply}
use Rattle.zsnapshots.specs.Loading.{LoadingView, rows_from, rows_loaded, IsLoaded, IsFollowed, NeverRefusesAlone, AreOfNone}
use Rattle.zsnapshots.specs.support.Loading.{AreLoaded, ReportTheState, NeverRefusesNext}
use Rattle.zsnapshots.specs.support.Faults.{of_frame}
use Rattle.zsnapshots.proofs.RowForms.{is_header}
use Rattle.zsnapshots.proofs.Written.{nodes_some}
use Rattle.zsnapshots.proofs.Next.{of_kind, node_in, body-nodes, same_body}
use Rattle.zsnapshots.proofs.Reported.{one_row, frame_memory, all_at}
use Rattle.zsnapshots.proofs.WholeStates.{all-push}

-- ---- whether a row is followed

module _ (bytes : List ℕ) where
  pub followed_by : (text rest : List ℕ) → (sized MAX_FRAME).read bytes ≡ Ok (text, rest) → rest ≢ [] → IsFollowed bytes
  followed_by text rest read some = (text, rest, read, some)

  pub not_followed_by : (text rest : List ℕ) → (sized MAX_FRAME).read bytes ≡ Ok (text, rest) → rest ≡ [] → IsFollowed bytes → ⊥
  not_followed_by text rest read none followed =
      let both = ok_is (text, rest) (followed.0, followed.1) (sym read ∙ followed.2) in
      followed.3 (sym (ap (λ (p : List ℕ × List ℕ). p.1) both) ∙ none)

-- what follows the length of a row
contents_of : StateRow → List ℕ
contents_of (OfHeader h) = header_text.spell h
contents_of (OfSession e) = session_text.spell e
contents_of (OfNode e) = node_text.spell e
contents_of (OfReply e) = reply_text.spell e

sized_form : {A : Type 0} (c : Form A) (x : A) (rest : List ℕ) → (row c).Fits x → (sized MAX_FRAME).read ((row c).spell x ++ rest)
    ≡ Ok (c.spell x, rest)
sized_form c x rest fits = (is_sized MAX_FRAME (omega arith)).again (c.spell x) rest (fits.1, refl)

sized_row : (x : StateRow) (rest : List ℕ) → Fits x → (sized MAX_FRAME).read (spelled x ++ rest) ≡ Ok (contents_of x, rest)
unfolding contents_of
sized_row (OfHeader h) rest fits = sized_form header_text h rest fits
sized_row (OfSession e) rest fits = sized_form session_text e rest fits
sized_row (OfNode e) rest fits = sized_form node_text e rest fits
sized_row (OfReply e) rest fits = sized_form reply_text e rest fits.0

-- a row that isn't followed is all of the bytes
alone_is : (x : StateRow) (bytes rest : List ℕ) → Fits x → bytes ≡ spelled x ++ rest → (IsFollowed bytes → ⊥) → bytes ≡ spelled x
alone_is x bytes [] fits front alone = front ∙ append-nil (spelled x)
alone_is x bytes (byte ∷ rest) fits front alone =
    absurd (alone (followed_by bytes (contents_of x) (byte ∷ rest) (ap (sized MAX_FRAME).read front ∙ sized_row x (byte ∷ rest) fits) (λ none. cc)))

-- a row that is all of the bytes isn't followed
pub row_not_followed : (x : StateRow) (bytes : List ℕ) → Fits x → bytes ≡ spelled x → IsFollowed bytes → ⊥
row_not_followed x bytes fits is =
    not_followed_by bytes (contents_of x) [] (ap (sized MAX_FRAME).read (is ∙ sym (append-nil (spelled x))) ∙ sized_row x [] fits) refl

-- ---- a row that was taken

module _ (bytes rest : List ℕ) (alone : IsFollowed bytes → ⊥) where
  pub header_loaded : (h : Header) → (row header_text).Fits h → bytes ≡ (row header_text).spell h ++ rest → IsLoaded [] (OfHeader h ∷ []) bytes
  header_loaded h fits front = record { x = OfHeader h; fits = fits; text = alone_is (OfHeader h) bytes rest fits front alone; rows = refl }

  pub root_loaded : (h : Header) (new : ReadingView) → IsRootTaken h new bytes rest → IsLoaded (OfHeader h ∷ []) (rows_so_far new) bytes
  root_loaded h new taken =
      record {
        x = OfNode ([], taken.root);
        fits = taken.fits;
        text = alone_is (OfNode ([], taken.root)) bytes rest
            taken.fits taken.front alone;
        rows = taken.rows;
      }

  pub row_loaded : (old new : ReadingView) → IsTaken old new bytes rest → IsLoaded (rows_so_far old) (rows_so_far new) bytes
  row_loaded old new taken =
      record { x = taken.x; fits = taken.fits; text = alone_is taken.x bytes rest taken.fits taken.front alone; rows = taken.rows }

-- each row fits
all_loaded : (before after : List StateRow) (bytes : List ℕ) → AllByRecursion Fits before → IsLoaded before after bytes → AllByRecursion Fits after
all_loaded before after bytes fit loaded = subst (AllByRecursion Fits) (sym loaded.rows) (all-push Fits before loaded.x fit loaded.fits)

-- ---- the next row of a readable state

module _ {V : Type 0} (r : Result V RowFault) (before : List StateRow) (of : V → List StateRow × List ℕ) (bytes : List ℕ)
    (only : NeverRefuses before of r bytes) where
  pub never_taken_wrong : (v : V) → r ≡ Ok v → NeverRefusesNext before (of v).0 (Ok tt) bytes
  never_taken_wrong v is s x rest readable rows text =
      let both = subst (λ (r : Result V RowFault). NeverRefuses before of r bytes) is only s x rest [] readable rows
      (text ∙ sym (append-nil (spelled x))) in
      (ap (λ (p : List StateRow × List ℕ). p.0) both.0, tt)

  pub never_refused : (after : List StateRow) (fault : RowFault) → r ≡ Err fault → NeverRefusesNext before after (Err fault) bytes
  never_refused after fault is s x rest readable rows text = (
    tt,
    (subst (λ (r : Result V RowFault). NeverRefuses before of r bytes) is only s x rest [] readable rows (text
        ∙ sym (append-nil (spelled x)))).1,
  )

-- the header alone was taken
pub header_rows : (l : LoadingView) (h : Header) → l.header ≡ Some h → l.reading ≡ None → rows_loaded l ≡ OfHeader h ∷ []
header_rows l h header none = λ i. rows_from (header i) (none i)

first_is : (s : MachineState) (x : StateRow) (rest : List StateRow) → rows_of s ≡ x ∷ rest → x ≡ OfHeader (head_of s)
first_is s x rest rows = cc

pub header_never_taken_wrong : (h : Header) (bytes more : List ℕ) → (row header_text).Fits h → bytes ≡ (row header_text).spell h ++ more
    → NeverRefusesNext [] (OfHeader h ∷ []) (Ok tt) bytes
header_never_taken_wrong h bytes more fits front s x rest readable rows text =
    let first = first_is s x rest rows in
    let here = text ∙ ap spelled first ∙ sym (append-nil (spelled (OfHeader (head_of s)))) in
    let one = one_row header_text is_header h (head_of s) more [] bytes fits readable.fit.0 front here in
    (ap (λ (h : Header). OfHeader h ∷ []) one.0 ∙ ap (λ (y : StateRow). y ∷ []) (sym first), tt)

pub header_never_refused : (bytes : List ℕ) (after : List StateRow) (fault : FrameFault) → IsFaultOf header_text bytes fault
    → NeverRefusesNext [] after (Err (of_frame fault)) bytes
header_never_refused bytes after fault reported s x rest readable rows text =
    let here = text ∙ ap spelled (first_is s x rest rows) ∙ sym (append-nil (spelled (OfHeader (head_of s)))) in
    (tt, ap of_frame (frame_memory header_text is_header (head_of s) [] bytes readable.fit.0 here fault reported))

-- it isn't followed
pub never_followed : (before after : List StateRow) (fault : RowFault) (bytes : List ℕ) → IsFollowed bytes
    → NeverRefusesNext before after (Err fault) bytes
never_followed before after fault bytes followed s x rest readable rows text =
    absurd (row_not_followed x bytes (all_at before x rest (rows_of s) readable.fit rows) text followed)

-- ---- rows by their bytes

pub bytes_behind : (before after : List StateRow) (bytes : List ℕ) → IsLoaded before after bytes → map spelled after
    ≡ map spelled before ++ bytes ∷ []
bytes_behind before after bytes loaded =
    ap (map spelled) loaded.rows ∙ map-append spelled before (loaded.x ∷ [])
    ∙ ap (λ (text : List ℕ). map spelled before ++ text ∷ []) (sym loaded.text)

-- the first of these rows
first_spelled : (rows : List StateRow) (bytes : List ℕ) (rest : List (List ℕ)) → map spelled rows ≡ bytes ∷ rest
    → (x : StateRow) × (more : List StateRow) × (rows ≡ x ∷ more) × (bytes ≡ spelled x) × (map spelled more ≡ rest)
first_spelled [] bytes rest is = absurd (let bad : [] ≡ bytes ∷ rest = is in cc)
first_spelled (x ∷ more) bytes rest is = (
  x,
  more,
  refl,
  let same : spelled x ≡ bytes = cc in sym same,
  let same : map spelled more
      ≡ rest = cc in same,
)

pub report_at_first : ReportTheState []
report_at_first s rest readable is = (rows_of s, refl, is)

report_next : (before after : List StateRow) (bytes : List ℕ) → ReportTheState before → IsLoaded before after bytes
    → NeverRefusesNext before after (Ok tt) bytes → ReportTheState after
report_next before after bytes tell loaded only s rest readable is =
    let split = is ∙ ap (λ (rows : List (List ℕ)). rows ++ rest) (bytes_behind before after bytes loaded)
    ∙ append_assoc (map spelled before) (bytes ∷ []) rest in
    let reported = tell s (bytes ∷ rest) readable split in
    let first = first_spelled reported.0 bytes rest reported.2 in
    let rows : rows_of s ≡ before ++ first.0 ∷ first.1 = reported.1 ∙ ap (λ (more : List StateRow). before ++ more) first.2 in
    let here = (only s first.0 first.1 readable rows first.3).0 in
    (first.1, rows ∙ sym (append_assoc before (first.0 ∷ []) first.1) ∙ ap (λ (rows : List StateRow). rows ++ first.1) (sym here), first.4)

pub loaded_next : (before after : List StateRow) (bytes : List ℕ) → AreLoaded before → IsLoaded before after bytes
    → NeverRefusesNext before after (Ok tt) bytes → AreLoaded after
loaded_next before after bytes are loaded only = (all_loaded before after bytes are.0 loaded, report_next before after bytes are.1 loaded only)

-- the same, or where it was refused
pub loaded_or_same : (old new : ReadingView) (bytes : List ℕ) (r : Result (Unit {0}) RowFault) → AreLoaded (rows_so_far old)
    → OnOk r (IsLoaded (rows_so_far old) (rows_so_far new) bytes) →
    NeverRefusesNext (rows_so_far old) (rows_so_far new) r bytes → OnErr r (new ≡ old) → AreLoaded (rows_so_far new)
loaded_or_same old new bytes (Ok u) are loaded only err = loaded_next (rows_so_far old) (rows_so_far new) bytes are loaded only
loaded_or_same old new bytes (Err fault) are loaded only err = subst (λ (r : ReadingView). AreLoaded (rows_so_far r)) (sym err) are

pub never_refused_by_bytes : (before after : List StateRow) (bytes : List ℕ) (r : Result (Unit {0}) RowFault)
    → AreLoaded before → NeverRefusesNext before after r bytes → NeverRefusesAlone (map spelled before) r bytes
never_refused_by_bytes before after bytes r are only s rest readable is =
    let reported = are.1 s (bytes ∷ rest) readable is in
    let first = first_spelled reported.0 bytes rest reported.2 in
    (only s first.0 first.1 readable (reported.1 ∙ ap (λ (more : List StateRow). before ++ more) first.2) first.3).1

-- ---- the end

pub on_none : {A : Type 0} (o : Option A) (P Q : Type 0) → (P → Q) → IfNone o P → IfNone o Q
on_none None P Q so here = so here
on_none (Some x) P Q so here = tt

nothing_spelled : (rows : List StateRow) → map spelled rows ≡ [] → rows ≡ []
nothing_spelled [] none = refl
nothing_spelled (x ∷ rows) none = absurd (let bad : spelled x ∷ map spelled rows ≡ [] = none in cc)

-- the state with these bytes has these rows
rows_are : (rows : List StateRow) → AreLoaded rows → (s : MachineState) → IsReadable s → map spelled (rows_of s) ≡ map spelled rows → rows_of s ≡ rows
rows_are rows are s readable is =
    let reported = are.1 s [] readable (is ∙ sym (append-nil (map spelled rows))) in
    reported.1 ∙ ap (λ (more : List StateRow). rows ++ more) (nothing_spelled reported.0 reported.2) ∙ append-nil rows

pub of_none : (rows : List StateRow) → AreLoaded rows → ((s : MachineState) → rows_of s ≡ rows → ⊥) → AreOfNone (map spelled rows)
of_none rows are none s readable is = none s (rows_are rows are s readable is)

-- a header alone is no state
pub header_of_none : (header : Option Header) → AreLoaded (rows_from header None) → AreOfNone (map spelled (rows_from header None))
header_of_none header are s readable is = missing header (rows_are (rows_from header None) are s readable is)
  where
    missing : (header : Option Header) → rows_of s ≡ rows_from header None → ⊥
    missing None rows = cc
    missing (Some h) rows =
        let none : nodes_of s ≡ [] = sym (body-nodes s) ∙ ap (of_kind node_in) (same_body s h [] rows) in
        let some = nodes_some s.service.plain readable.settled.lawful in
        let long = ap length none in
        omega (arith, some, long)
