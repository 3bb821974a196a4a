-- What comes, while the records of messages are taken one by one.
use Rattle.std.proofs.Common.{◌≡◌, ℕ, true, false, List, [], ◌∷◌, ◌++◌, map, Option, None, Some, Result, Ok, refl, sym, ap, subst, ◌∙◌, append_assoc, append-nil, inl, inr, arith}
use Rattle.std.specs.List.{AllByRecursion, flat_map}
use Rattle.std.proofs.lemmas.List.{map-append}
use Rattle.zcodec.proofs.Whole.{whole_again}
use Rattle.zcodec.specs.declared.fault.Fault.{Fault}
use Rattle.zops.specs.Machine.{MachineState}
use Rattle.zprotocol.specs.declared.message.Message.TheVariants as message
use Rattle.zprotocol.specs.declared.process.Process.{Process}
use Rattle.zserver.specs.Server.{TreeMessage}
use Rattle.zwire.specs.declared.frame.Frame.{Frame}
use Rattle.zwire.specs.Frames.{contents, frame, frame_of}
use Rattle.zwire.specs.Messages.{Bare, bare}
use Rattle.zwire.proofs.Frames.{is_contents}
use Rattle.zsnapshots.specs.States.{StateRow, IsReadable, spelled, rows_of}
use Rattle.zsnapshots.specs.States.StateRow.{OfHeader, OfSession, OfNode, OfReply}
use Rattle.zsnapshots.specs.Loading.{nothing_loaded, rows_loaded, bytes_loaded}
use Rattle.zsnapshots.proofs.Apart.{rows_apart}
use Rattle.zpeers.specs.declared.tags.TheConstants.{ROW, END}
use Rattle.zpeers.specs.Records.{LinkRecord, TreeTransfer, frame_record, row_record, end_record, state_of, after_frame, records_of}
use Rattle.zpeers.specs.Incoming.{ArrivingView, IsFrame, row_bytes, Accepts}
use Rattle.zpeers.specs.Laws.{CanBeSent, AcceptsAll, given_by, MessagesComeWhole}
use Rattle.zpeers.proofs.Messages.{IsAlone, begins, epoch_of, kinds, is_alone, one_message}

ok_is : {A E : Type 0} (x y : A) → ◌≡◌ {A = Result A E} (Ok x) (Ok y) → x ≡ y
ok_is x y same = cc

head_is : {A : Type 0} (x y : A) (xs ys : List A) → x ∷ xs ≡ y ∷ ys → x ≡ y
head_is x y xs ys same = cc

tail_is : {A : Type 0} (x y : A) (xs ys : List A) → x ∷ xs ≡ y ∷ ys → xs ≡ ys
tail_is x y xs ys same = cc

-- the bytes of a row's record, as they are loaded, are those of the row
pub row_is_spelled : (x : StateRow) → row_bytes (row_record x) ≡ spelled x
row_is_spelled (OfHeader h) = refl
row_is_spelled (OfSession e) = refl
row_is_spelled (OfNode e) = refl
row_is_spelled (OfReply e) = refl

-- what is expected of a sender: these messages; or the rest of a state, and then these
pub record IsExpected (own from : Process) (rest : List LinkRecord) (gives : List (Option TreeMessage)) : Type 0 where
  pub messages : List TreeMessage
  pub can : AllByRecursion (CanBeSent from own) messages
  pub records : rest ≡ flat_map (records_of from own) messages
  pub given : gives ≡ flat_map given_by messages

pub record IsPartExpected (own from : Process) (a : ArrivingView) (rest : List LinkRecord) (gives : List (Option TreeMessage)) : Type 0 where
  pub state : TreeTransfer
  pub readable : IsReadable (state_of state)
  pub front : List StateRow
  pub xs : List StateRow
  pub rows : rows_of (state_of state) ≡ front ++ xs
  pub loaded : bytes_loaded a.rows ≡ map spelled front
  pub after : List LinkRecord
  pub more : List (Option TreeMessage)
  pub messages : IsExpected own from after more
  pub records : rest ≡ map row_record xs ++ end_record ∷ after
  pub given : gives ≡ map (λ (_ : StateRow). None) xs ++ Some (message.Snapshot a.epoch state) ∷ more

abbrev pub Expected : Process → Process → Option ArrivingView → List LinkRecord → List (Option TreeMessage) → Type 0
Expected own from None rest gives = IsExpected own from rest gives
Expected own from (Some a) rest gives = IsPartExpected own from a rest gives

-- what the record gives is what was expected next, and the rest is expected after it
pub record GoesOn (own from : Process) (next : Option ArrivingView) (rest : List LinkRecord) (gives : List (Option TreeMessage))
    (it : Option TreeMessage) : Type 0 where
  pub others : List (Option TreeMessage)
  pub first : gives ≡ it ∷ others
  pub expected : Expected own from next rest others

-- the message of a frame that fits is spelled so that it is read again
fits_contents : (f : Frame) → frame.Fits f → contents.Fits f
unfolding frame
fits_contents f fits = fits.0

module _ (own from : Process) where
  -- the message of a frame that can be sent is the one that is read
  frame_is : (m : TreeMessage) (b : Bare) → CanBeSent from own m → IsFrame own from (frame_record from own m) b → bare m ≡ b
  frame_is m b can is =
      let f : Frame = record { sender = from; receiver = own; message = b } in
      let again = whole_again contents is_contents (frame_of from own m) (fits_contents (frame_of from own m) can.fits) in
      ap (λ (f : Frame). f.message) (ok_is {E = Fault} (frame_of from own m) f (sym again ∙ is.1))

  -- the frame of a message that is one record gives it
  alone_goes_on : (m : TreeMessage) (ms : List TreeMessage) (next : Option ArrivingView) (it : Option TreeMessage) → CanBeSent from own m
      → AllByRecursion (CanBeSent from own) ms → IsAlone m → Accepts own from (frame_record from own m) None next it
      → GoesOn own from next (flat_map (records_of from own) ms) (given_by m ++ flat_map given_by ms) it
  alone_goes_on m ms next (Some n) can rest alone takes =
      let same : m ≡ n = one_message m n alone.none takes.1 (frame_is m (bare n) can takes.0) in
      record {
        others = flat_map given_by ms;
        first = ap (λ (records : List LinkRecord). (map (λ (_ : LinkRecord). None) records ++ Some m ∷ []) ++ flat_map given_by ms) alone.alone
            ∙ ap (λ (n : TreeMessage). Some n ∷ flat_map given_by ms) same;
        expected = subst (λ (next : Option ArrivingView). Expected own from next (flat_map (records_of from own) ms) (flat_map given_by ms))
            (sym takes.2) (record { messages = ms; can = rest; records = refl; given = refl });
      }
  alone_goes_on m ms next None can rest alone takes =
      let bad : true ≡ false = sym (ap begins (frame_is m (message.Snapshot takes.0 tt) can takes.1)) ∙ alone.whole in
      absurd (let no : true ≡ false = bad in cc)

  -- the frame of a snapshot begins it
  snapshot_goes_on : (epoch : ℕ) (t : TreeTransfer) (ms : List TreeMessage) (next : Option ArrivingView) (it : Option TreeMessage)
      → CanBeSent from own (message.Snapshot epoch t) → AllByRecursion (CanBeSent from own) ms
      → Accepts own from (frame_record from own (message.Snapshot epoch t)) None next it
      → GoesOn own from next (after_frame (message.Snapshot epoch t) ++ flat_map (records_of from own) ms)
      (given_by (message.Snapshot epoch t) ++ flat_map given_by ms) it
  snapshot_goes_on epoch t ms next (Some n) can rest takes =
      let same = frame_is (message.Snapshot epoch t) (bare n) can takes.0 in
      let bad : true ≡ false = ap begins same ∙ (is_alone n takes.1).whole in
      absurd (let no : true ≡ false = bad in cc)
  snapshot_goes_on epoch t ms next None can rest takes =
      let same : epoch ≡ takes.0 = ap epoch_of (frame_is (message.Snapshot epoch t) (message.Snapshot takes.0 tt) can takes.1) in
      let rows = rows_of (state_of t) in
      let more = map (λ (_ : StateRow). None) rows ++ Some (message.Snapshot epoch t) ∷ flat_map given_by ms in
      record {
        others = more;
        first = nones_are rows (message.Snapshot epoch t) (flat_map given_by ms);
        expected = subst (λ (next : Option ArrivingView). Expected own from next (after_frame (message.Snapshot epoch t) ++ flat_map (records_of from own) ms) more)
            (ap (λ (e : ℕ). Some (record { epoch = e; rows = nothing_loaded })) same ∙ sym takes.2)
            (record {
              state = t;
              readable = can.state;
              front = [];
              xs = rows;
              rows = refl;
              loaded = refl;
              after = flat_map (records_of from own) ms;
              more = flat_map given_by ms;
              messages = record { messages = ms; can = rest; records = refl; given = refl };
              records = append_assoc (map row_record rows) (end_record ∷ []) (flat_map (records_of from own) ms);
              given = refl;
            });
      }
    where
      nones_are : (rows : List StateRow) (m : TreeMessage) (more : List (Option TreeMessage))
          → (map (λ (_ : LinkRecord). None) (map row_record rows ++ end_record ∷ []) ++ Some m ∷ []) ++ more
          ≡ None ∷ (map (λ (_ : StateRow). None) rows ++ Some m ∷ more)
      nones_are [] m more = refl
      nones_are (x ∷ rows) m more = ap (λ (l : List (Option TreeMessage)). None ∷ l) (nones_are rows m more)

  none_some : {A : Type 0} (x : A) → ◌≡◌ {A = Option A} None (Some x) → ⊥
  none_some x same = cc

  -- a record of a state leads to the next one, or to the end of the state
  part_goes_on : (a : ArrivingView) (r : LinkRecord) (rest : List LinkRecord) (gives : List (Option TreeMessage)) (next : Option ArrivingView)
      (it : Option TreeMessage) → IsPartExpected own from a (r ∷ rest) gives → Accepts own from r (Some a) next it
      → GoesOn own from next rest gives it
  part_goes_on a r rest gives next it part takes = by part.xs it part.rows part.records part.given takes
    where
      -- the end, too early
      early : (x : StateRow) (xs : List StateRow) (m : TreeMessage) → r ∷ rest ≡ map row_record (x ∷ xs) ++ end_record ∷ part.after
          → Accepts own from r (Some a) next (Some m) → ⊥
      early x xs m records takes =
          let is : r ≡ row_record x = head_is r (row_record x) rest (map row_record xs ++ end_record ∷ part.after) records in
          let tags : ROW ≡ END = ap (λ (r : LinkRecord). r.tag) (sym is ∙ takes.1) in
          omega (arith, tags)

      -- a row, too late
      late : r ∷ rest ≡ end_record ∷ part.after → Accepts own from r (Some a) next None → ⊥
      late records takes =
          let tags : END ≡ ROW = sym (ap (λ (r : LinkRecord). r.tag) (head_is r end_record rest part.after records)) ∙ takes.1 in
          omega (arith, tags)

      more_loaded : (x : StateRow) (y : StateRow) (before after : List StateRow) (front : List StateRow) → map spelled before ≡ map spelled front
          → after ≡ before ++ y ∷ [] → spelled x ≡ spelled y → map spelled after ≡ map spelled (front ++ x ∷ [])
      more_loaded x y before after front loaded rows same =
          ap (map spelled) rows ∙ map-append spelled before (y ∷ []) ∙ ap (λ (l : List (List ℕ)). l ++ spelled y ∷ []) loaded
          ∙ ap (λ (t : List ℕ). map spelled front ++ t ∷ []) (sym same) ∙ sym (map-append spelled front (x ∷ []))

      by : (xs : List StateRow) (it : Option TreeMessage) → rows_of (state_of part.state) ≡ part.front ++ xs
          → r ∷ rest ≡ map row_record xs ++ end_record ∷ part.after
          → gives ≡ map (λ (_ : StateRow). None) xs ++ Some (message.Snapshot a.epoch part.state) ∷ part.more
          → Accepts own from r (Some a) next it → GoesOn own from next rest gives it
      by [] None rows records given takes = absurd (late records takes)
      by [] (Some m) rows records given takes =
          let t = takes.0 in
          let all : map spelled (rows_of (state_of t)) ≡ map spelled (rows_of (state_of part.state)) =
          ap (map spelled) takes.3 ∙ part.loaded ∙ ap (map spelled) (sym (rows ∙ append-nil part.front)) in
          let one : state_of t ≡ state_of part.state = rows_apart (state_of t) (state_of part.state) takes.4 part.readable all in
          let same : t ≡ part.state = ap (λ (s : MachineState). record { last = s.applied; machine = s.service }) one in
          record {
            others = part.more;
            first = given ∙ ap (λ (t : TreeTransfer). Some (message.Snapshot a.epoch t) ∷ part.more) (sym same)
                ∙ ap (λ (m : TreeMessage). Some m ∷ part.more) (sym takes.2);
            expected = subst (λ (next : Option ArrivingView). Expected own from next rest part.more) (sym takes.5)
                (subst (λ (l : List LinkRecord). IsExpected own from l part.more) (sym (tail_is r end_record rest part.after records)) part.messages);
          }
      by (x ∷ xs) (Some m) rows records given takes = absurd (early x xs m records takes)
      by (x ∷ xs) None rows records given takes =
          let is : r ≡ row_record x = head_is r (row_record x) rest (map row_record xs ++ end_record ∷ part.after) records in
          let same : spelled x ≡ spelled takes.2.x = sym (row_is_spelled x) ∙ ap row_bytes (sym is) ∙ takes.2.text in
          record {
            others = map (λ (_ : StateRow). None) xs ++ Some (message.Snapshot a.epoch part.state) ∷ part.more;
            first = given;
            expected = subst (λ (next : Option ArrivingView). Expected own from next rest (map (λ (_ : StateRow). None) xs ++ Some (message.Snapshot a.epoch part.state) ∷ part.more))
                (sym takes.3) (record {
                  state = part.state;
                  readable = part.readable;
                  front = part.front ++ x ∷ [];
                  xs = xs;
                  rows = rows ∙ sym (append_assoc part.front (x ∷ []) xs);
                  loaded = more_loaded x takes.2.x (rows_loaded a.rows) (rows_loaded takes.0) part.front part.loaded takes.2.rows same;
                  after = part.after;
                  more = part.more;
                  messages = part.messages;
                  records = tail_is r (row_record x) rest (map row_record xs ++ end_record ∷ part.after) records;
                  given = refl;
                });
          }

  -- a frame leads to the next message, or begins a state
  frame_goes_on : (r : LinkRecord) (rest : List LinkRecord) (gives : List (Option TreeMessage)) (next : Option ArrivingView)
      (it : Option TreeMessage) (ms : List TreeMessage) → AllByRecursion (CanBeSent from own) ms → r ∷ rest ≡ flat_map (records_of from own) ms
      → gives ≡ flat_map given_by ms → Accepts own from r None next it → GoesOn own from next rest gives it
  frame_goes_on r rest gives next it [] can records given takes = absurd (let bad : r ∷ rest ≡ [] = records in cc)
  frame_goes_on r rest gives next it (m ∷ ms) can records given takes =
      let tail = after_frame m ++ flat_map (records_of from own) ms in
      let is : r ≡ frame_record from own m = head_is r (frame_record from own m) rest tail records in
      let here : Accepts own from (frame_record from own m) None next it = subst (λ (r : LinkRecord). Accepts own from r None next it) is takes in
      let goes : GoesOn own from next tail (given_by m ++ flat_map given_by ms) it = by m can.0 here in
      subst (λ (gives : List (Option TreeMessage)). GoesOn own from next rest gives it) (sym given)
      (subst (λ (rest : List LinkRecord). GoesOn own from next rest (given_by m ++ flat_map given_by ms) it)
      (sym (tail_is r (frame_record from own m) rest tail records)) goes)
    where
      by : (m : TreeMessage) → CanBeSent from own m → Accepts own from (frame_record from own m) None next it
          → GoesOn own from next (after_frame m ++ flat_map (records_of from own) ms) (given_by m ++ flat_map given_by ms) it
      by m first here = elim (kinds m) [
        | inl is ↦
            subst (λ (m : TreeMessage). GoesOn own from next (after_frame m ++ flat_map (records_of from own) ms) (given_by m ++ flat_map given_by ms) it)
            (sym is.2) (snapshot_goes_on is.0 is.1 ms next it (subst (CanBeSent from own) is.2 first) can.1
            (subst (λ (m : TreeMessage). Accepts own from (frame_record from own m) None next it) is.2 here))
        | inr alone ↦
            subst (λ (records : List LinkRecord). GoesOn own from next (records ++ flat_map (records_of from own) ms) (given_by m ++ flat_map given_by ms) it)
            (sym alone.alone) (alone_goes_on m ms next it first can.1 alone here)
      ]

  pub goes_on : (loaded : Option ArrivingView) (r : LinkRecord) (rest : List LinkRecord) (gives : List (Option TreeMessage))
      (next : Option ArrivingView) (it : Option TreeMessage) → Expected own from loaded (r ∷ rest) gives
      → Accepts own from r loaded next it → GoesOn own from next rest gives it
  goes_on None r rest gives next it expected takes =
      frame_goes_on r rest gives next it expected.messages expected.can expected.records expected.given takes
  goes_on (Some a) r rest gives next it part takes = part_goes_on a r rest gives next it part takes

  -- where nothing is expected any more, nothing is loaded
  none_left : (new : Option ArrivingView) (gives : List (Option TreeMessage)) → Expected own from new [] gives → (new ≡ None) × (gives ≡ [])
  none_left None gives expected = (refl, expected.given ∙ no_messages expected.messages expected.records)
    where
      no_messages : (ms : List TreeMessage) → [] ≡ flat_map (records_of from own) ms → flat_map given_by ms ≡ []
      no_messages [] none = refl
      no_messages (m ∷ ms) none = absurd (let bad : [] ≡ frame_record from own m ∷ (after_frame m ++ flat_map (records_of from own) ms) = none in cc)
  none_left (Some a) gives part = absurd (no_end part.xs part.records)
    where
      no_end : (xs : List StateRow) → [] ≡ map row_record xs ++ end_record ∷ part.after → ⊥
      no_end [] bad = cc
      no_end (x ∷ xs) bad = cc

  all_come : (rs : List LinkRecord) (old new : Option ArrivingView) (given gives : List (Option TreeMessage)) → Expected own from old rs gives
      → AcceptsAll own from rs old new given → (given ≡ gives) × (new ≡ None)
  all_come [] old new given gives expected all =
      let none = none_left old gives expected in
      (all.1 ∙ sym none.1, all.0 ∙ none.0)
  all_come (r ∷ rs) old new given gives expected all =
      let next = goes_on old r rs gives all.0 all.1 expected all.3 in
      let rest = all_come rs all.0 new all.2 next.others next.expected all.4 in
      (all.5 ∙ ap (λ (l : List (Option TreeMessage)). all.1 ∷ l) rest.0 ∙ sym next.first, rest.1)

  -- after some records, the others are expected
  pub still_expected : (front rest : List LinkRecord) (old new : Option ArrivingView) (given gives : List (Option TreeMessage))
      → Expected own from old (front ++ rest) gives → AcceptsAll own from front old new given
      → (more : List (Option TreeMessage)) × Expected own from new rest more
  still_expected [] rest old new given gives expected all =
      (gives, subst (λ (l : Option ArrivingView). Expected own from l rest gives) (sym all.0) expected)
  still_expected (r ∷ front) rest old new given gives expected all =
      let next = goes_on old r (front ++ rest) gives all.0 all.1 expected all.3 in
      still_expected front rest all.0 new all.2 next.others next.expected all.4

pub come_whole : MessagesComeWhole
come_whole own from ms new given can all =
    all_come own from (flat_map (records_of from own) ms) None new given (flat_map given_by ms)
    (record { messages = ms; can = can; records = refl; given = refl }) all
