-- The records of messages are refused only where memory runs out.
use Rattle.std.proofs.Common.{◌≡◌, ℕ, ◌≤◌, List, [], ◌∷◌, ◌++◌, length, map, Option, None, Some, Result, Ok, Err, refl, sym, ap, subst, ◌∙◌, append-nil, arith}
use Rattle.std.specs.List.{AllByRecursion, flat_map}
use Rattle.std.proofs.lemmas.List.{map-append}
use Rattle.zcodec.specs.declared.fault.Fault.{Fault}
use Rattle.zcodec.specs.Readers.{whole}
use Rattle.zcodec.proofs.Whole.{whole_again}
use Rattle.zprotocol.specs.declared.process.Process.{Process}
use Rattle.zserver.specs.Server.{TreeMessage}
use Rattle.zwire.specs.declared.limits.TheConstants.{MAX_FRAME}
use Rattle.zwire.specs.declared.frame.Frame.{Frame}
use Rattle.zwire.specs.Frames.{contents, frame, frame_of}
use Rattle.zwire.proofs.Frames.{is_contents}
use Rattle.zsnapshots.specs.States.{StateRow, Fits, spelled, rows_of}
use Rattle.zsnapshots.specs.States.StateRow.{OfHeader, OfSession, OfNode, OfReply}
use Rattle.zsnapshots.specs.Loading.{bytes_loaded}
use Rattle.zpeers.specs.declared.fault.PeerFault.{PeerFault}
use Rattle.zpeers.specs.declared.fault.PeerFault.TheVariants as fault
use Rattle.zpeers.specs.Records.{LinkRecord, frame_record, row_record, row_text, end_record, state_of, after_frame, records_of}
use Rattle.zpeers.specs.Incoming.{ArrivingView, IsPeerFault}
use Rattle.zpeers.specs.Laws.{CanBeSent, given_by, NoneIsRefused}
use Rattle.zpeers.proofs.Coming.{IsPartExpected, Expected, row_is_spelled, still_expected}

ok_err : {A E : Type 0} (x : A) (e : E) (r : Result A E) → r ≡ Ok x → r ≡ Err e → ⊥
ok_err x e r ok err = let bad : ◌≡◌ {A = Result _ _} (Ok x) (Err e) = sym ok ∙ err in cc

ok_same : {A E : Type 0} (x y : A) (r : Result A E) → r ≡ Ok x → r ≡ Ok y → x ≡ y
ok_same {E = E} x y r ok also = let same : ◌≡◌ {A = Result _ E} (Ok x) (Ok y) = sym ok ∙ also in cc

some_none : {A : Type 0} (x : A) → ◌≡◌ {A = Option A} (Some x) None → ⊥
some_none x same = cc

-- a frame that fits is short, and is spelled so that it is read again
parts_fit : (f : Frame) → frame.Fits f → contents.Fits f × (length (contents.spell f) ≤ MAX_FRAME)
unfolding frame
parts_fit f fits = fits

-- a frame that can be sent
module _ (own from : Process) (m : TreeMessage) (can : CanBeSent from own m) where
  both_fit : contents.Fits (frame_of from own m) × (length (contents.spell (frame_of from own m)) ≤ MAX_FRAME)
  both_fit = parts_fit (frame_of from own m) can.fits

  read_again : whole contents (contents.spell (frame_of from own m)) ≡ Ok (frame_of from own m)
  read_again = whole_again contents is_contents (frame_of from own m) both_fit.0

  frame_not_refused : (it : PeerFault) → IsPeerFault own from (frame_record from own m) None it → it ≡ fault.Memory
  frame_not_refused fault.TooLong refused = absurd (let short = both_fit.1 in omega (arith, short, refused))
  frame_not_refused fault.NoTag refused = absurd (let large = refused.1 in omega (arith, large))
  frame_not_refused fault.RowsAwaited refused = absurd (refused.1.1 refl)
  frame_not_refused fault.NothingLoaded refused = absurd (let large = refused.1.0 in omega (arith, large))
  frame_not_refused (fault.Contents it) refused = absurd (ok_err (frame_of from own m) it _ read_again refused.1.2)
  frame_not_refused fault.OtherSender refused =
      absurd (refused.1.2.2 (ap (λ (f : Frame). f.sender) (sym (ok_same {E = Fault} (frame_of from own m) refused.1.2.0 _ read_again refused.1.2.1))))
  frame_not_refused fault.OtherReceiver refused =
      absurd (refused.1.2.3 (ap (λ (f : Frame). f.receiver) (sym (ok_same {E = Fault} (frame_of from own m) refused.1.2.0 _ read_again refused.1.2.1))))
  frame_not_refused (fault.Row it) refused = absurd refused.1
  frame_not_refused fault.NotEmpty refused = absurd refused.1
  frame_not_refused fault.Unfinished refused = absurd refused.1
  frame_not_refused fault.Memory refused = refl

-- a row that fits is short
pub row_short : (x : StateRow) → Fits x → length (row_text x) ≤ MAX_FRAME
row_short (OfHeader h) fits = fits.1
row_short (OfSession e) fits = fits.1
row_short (OfNode e) fits = fits.1
row_short (OfReply e) fits = fits.0.1

fits_at : (front : List StateRow) (x : StateRow) (xs : List StateRow) → AllByRecursion Fits (front ++ x ∷ xs) → Fits x
fits_at [] x xs all = all.0
fits_at (y ∷ front) x xs all = fits_at front x xs all.1

module _ (own from : Process) (a : ArrivingView) (rest : List LinkRecord) (gives : List (Option TreeMessage)) where
  -- the next row of a state
  row_not_refused : (r : LinkRecord) (part : IsPartExpected own from a (r ∷ rest) gives) (x : StateRow) (xs : List StateRow)
      → rows_of (state_of part.state) ≡ part.front ++ x ∷ xs → (it : PeerFault)
      → IsPeerFault own from (row_record x) (Some a) it → it ≡ fault.Memory
  row_not_refused r part x xs rows fault.TooLong refused =
      let short = row_short x (fits_at part.front x xs (subst (AllByRecursion Fits) rows part.readable.fit)) in
      absurd (omega (arith, short, refused))
  row_not_refused r part x xs rows fault.NoTag refused = absurd (let large = refused.1 in omega (arith, large))
  row_not_refused r part x xs rows fault.RowsAwaited refused = absurd (let tags = refused.1.0 in omega (arith, tags))
  row_not_refused r part x xs rows fault.NothingLoaded refused = absurd (some_none a refused.1.2)
  row_not_refused r part x xs rows (fault.Contents it) refused = absurd (some_none a refused.1.0)
  row_not_refused r part x xs rows fault.OtherSender refused = absurd (some_none a refused.1.0)
  row_not_refused r part x xs rows fault.OtherReceiver refused = absurd (some_none a refused.1.0)
  row_not_refused r part x xs rows (fault.Row it) refused =
      let text = ap (map spelled) rows ∙ map-append spelled part.front (x ∷ xs)
      ∙ ap (λ (l : List (List ℕ)). l ++ spelled x ∷ map spelled xs) (sym part.loaded)
      ∙ ap (λ (t : List ℕ). bytes_loaded a.rows ++ t ∷ map spelled xs) (sym (row_is_spelled x)) in
      absurd (refused.1.1.1 (state_of part.state) (map spelled xs) part.readable text)
  row_not_refused r part x xs rows fault.NotEmpty refused = absurd (let tags = refused.1.0 in omega (arith, tags))
  row_not_refused r part x xs rows fault.Unfinished refused = absurd (let tags = refused.1.0 in omega (arith, tags))
  row_not_refused r part x xs rows fault.Memory refused = refl

  -- the end of a state
  end_not_refused : (r : LinkRecord) (part : IsPartExpected own from a (r ∷ rest) gives) → rows_of (state_of part.state) ≡ part.front ++ []
      → (it : PeerFault) → IsPeerFault own from end_record (Some a) it → it ≡ fault.Memory
  end_not_refused r part rows fault.TooLong refused = absurd (omega (arith, refused))
  end_not_refused r part rows fault.NoTag refused = absurd (let large = refused.1 in omega (arith, large))
  end_not_refused r part rows fault.RowsAwaited refused = absurd (let tags = refused.1.0 in omega (arith, tags))
  end_not_refused r part rows fault.NothingLoaded refused = absurd (some_none a refused.1.2)
  end_not_refused r part rows (fault.Contents it) refused = absurd (some_none a refused.1.0)
  end_not_refused r part rows fault.OtherSender refused = absurd (some_none a refused.1.0)
  end_not_refused r part rows fault.OtherReceiver refused = absurd (some_none a refused.1.0)
  end_not_refused r part rows (fault.Row it) refused = absurd (let tags = refused.1.0 in omega (arith, tags))
  end_not_refused r part rows fault.NotEmpty refused = absurd (refused.1.1 refl)
  end_not_refused r part rows fault.Unfinished refused =
      absurd (refused.1.1.2 (state_of part.state) part.readable (ap (map spelled) (rows ∙ append-nil part.front) ∙ sym part.loaded))
  end_not_refused r part rows fault.Memory refused = refl

not_refused : (own from : Process) (loaded : Option ArrivingView) (r : LinkRecord) (rest : List LinkRecord) (gives : List (Option TreeMessage))
    (it : PeerFault) → Expected own from loaded (r ∷ rest) gives → IsPeerFault own from r loaded it → it ≡ fault.Memory
not_refused own from None r rest gives it expected refused = by expected.messages expected.can expected.records
  where
    by : (ms : List TreeMessage) → AllByRecursion (CanBeSent from own) ms → r ∷ rest ≡ flat_map (records_of from own) ms → it ≡ fault.Memory
    by [] can bad = absurd (let no : r ∷ rest ≡ [] = bad in cc)
    by (m ∷ ms) can same =
        let is : r ≡ frame_record from own m =
        (let l : r ∷ rest ≡ frame_record from own m ∷ (after_frame m ++ flat_map (records_of from own) ms) = same in cc) in
        frame_not_refused own from m can.0 it (subst (λ (r : LinkRecord). IsPeerFault own from r None it) is refused)
not_refused own from (Some a) r rest gives it part refused = by part.xs part.rows part.records
  where
    by : (xs : List StateRow) → rows_of (state_of part.state) ≡ part.front ++ xs → r ∷ rest ≡ map row_record xs ++ end_record ∷ part.after
        → it ≡ fault.Memory
    by [] rows same =
        let is : r ≡ end_record = (let l : r ∷ rest ≡ end_record ∷ part.after = same in cc) in
        end_not_refused own from a rest gives r part rows it (subst (λ (r : LinkRecord). IsPeerFault own from r (Some a) it) is refused)
    by (x ∷ xs) rows same =
        let is : r ≡ row_record x = (let l : r ∷ rest ≡ row_record x ∷ (map row_record xs ++ end_record ∷ part.after) = same in cc) in
        row_not_refused own from a rest gives r part x xs rows it (subst (λ (r : LinkRecord). IsPeerFault own from r (Some a) it) is refused)

pub none_refused : NoneIsRefused
none_refused own from ms front back r loaded given it can records all refused =
    let expected = still_expected own from front (r ∷ back) None loaded given (flat_map given_by ms)
    (record { messages = ms; can = can; records = sym records; given = refl }) all in
    not_refused own from loaded r back expected.0 it expected.1 refused
