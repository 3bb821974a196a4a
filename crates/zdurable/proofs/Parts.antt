-- The parts of a file: what the last one holds continues from those before it.
use Rattle.std.proofs.Common.{◌≡◌, inl, inr, ⊎_elim, ℕ, ◌-◌, List, [], ◌∷◌, ◌++◌, length, take, refl, sym, ap, subst, ◌∙◌, append_assoc, arith, length-append}
use Rattle.ztree.specs.Tree.{Tree}
use Rattle.zjournal.specs.Blocks.{AreTexts, at_rest, blocks}
use Rattle.zjournal.specs.Checksum.{IsSum, adler_after, stamped, stamped_all, sum_after_all}
use Rattle.zjournal.specs.Journal.{IsAtRest, device_of, head, holdings, start_of, sum_of}
use Rattle.zjournal.specs.Device.{LeavesOnly}
use Rattle.zjournal.specs.Renewal.{IsRenewing}
use Rattle.zjournal.specs.Scan.{joined}
use Rattle.zjournal.specs.Untouched.{IsTaking}
use Rattle.zjournal.specs.declared.journal.Journal.{Journal}
use Rattle.zjournal.proofs.Moments.{weaker}
use Rattle.zsnapshots.specs.folder.Entries.{Entry}
use Rattle.zsnapshots.specs.folder.States.{after}
use Rattle.zsnapshots.specs.folder.Texts.{IsTextOf}
use Rattle.zsnapshots.proofs.folder_lemmas.Apart.{texts_go_on}
use Rattle.zdurable.specs.Compaction.{IsLastPart, IsOldOrReplaces, MayReplace, continued_by}
use Rattle.zdurable.specs.Incarnations.{FileKeeps}
use Rattle.zdurable.specs.Laws.{CompactedPartsContinue}
use Rattle.zdurable.proofs.Renewing.{IsOldOrEnded, IsWriting, ended, from_sum, next_texts}
use Rattle.zdurable.proofs.Serving.{joined-append}

-- ---- one list after another

stamped-append : (sum : ℕ) (xs ys : List (List ℕ)) → stamped_all sum (xs ++ ys) ≡ stamped_all sum xs ++ stamped_all (sum_after_all sum xs) ys
stamped-append sum [] ys = refl
stamped-append sum (x ∷ xs) ys = ap (λ (l : List (List ℕ)). stamped sum x ∷ l) (stamped-append (adler_after sum x) xs ys)

holdings-append : (start servers : ℕ) (xs ys : List (List ℕ))
    → holdings start servers (xs ++ ys) ≡ holdings start servers xs ++ stamped_all (sum_after_all start xs) ys
holdings-append start servers xs ys = ap (λ (l : List (List ℕ)). head start servers ∷ l) (stamped-append start xs ys)

blocks-append : (xs ys : List (List ℕ)) (end : List ℕ) → blocks (xs ++ ys) ++ end ≡ blocks xs ++ (blocks ys ++ end)
blocks-append [] ys end = refl
blocks-append (x ∷ xs) ys end = ap (λ (l : List ℕ). 1 ∷ l)
    (append_assoc x (0 ∷ blocks (xs ++ ys)) end
    ∙ ap (λ (l : List ℕ). x ++ 0 ∷ l) (blocks-append xs ys end)
    ∙ sym (append_assoc x (0 ∷ blocks xs) (blocks ys ++ end)))

texts-append : (xs ys : List (List ℕ)) → AreTexts xs → AreTexts ys → AreTexts (xs ++ ys)
texts-append [] ys first second = second
texts-append (x ∷ xs) ys first second = (first.0, texts-append xs ys first.1 second)

-- ---- a file at rest without its last byte

front_of : (xs : List ℕ) (last : ℕ) → take (length (xs ++ last ∷ []) - 1) (xs ++ last ∷ []) ≡ xs
front_of xs last =
    let long : length (xs ++ last ∷ []) - 1 ≡ length xs = omega (arith, length-append xs (last ∷ [])) in
    ap (λ (n : ℕ). take n (xs ++ last ∷ [])) long ∙ take_front xs
  where
    take_front : (ys : List ℕ) → take (length ys) (ys ++ last ∷ []) ≡ ys
    take_front [] = refl
    take_front (y ∷ ys) = ap (λ (l : List ℕ). y ∷ l) (take_front ys)

-- ---- what the last part holds

module _ (servers : ℕ) (t : Tree) (start : ℕ) (is_sum : IsSum start) (before : List (List ℕ)) (texts : AreTexts (holdings start servers before))
    (text : IsTextOf t (joined before)) (file : List ℕ) (rests : file ≡ at_rest (holdings start servers before)) where
  continues : (entries : List Entry) (part : List ℕ) → IsLastPart (sum_after_all start before) entries part
      → FileKeeps servers (after t entries) (continued_by file part)
  continues entries part last =
      let held = holdings start servers before in
      let more = stamped_all (sum_after_all start before) last.batches in
      let all : holdings start servers (before ++ last.batches) ≡ held ++ more = holdings-append start servers before last.batches in
      record {
        batches = before ++ last.batches;
        stands = inl record {
          start = start;
          is_sum = is_sum;
          texts = subst AreTexts (sym all) (texts-append held more texts last.texts);
          end = last.end;
          split =
              ap (λ (f : List ℕ). continued_by f part) rests
              ∙ ap (λ (front : List ℕ). front ++ part) (front_of (blocks held) 0)
              ∙ ap (λ (p : List ℕ). blocks held ++ p) last.split
              ∙ sym (blocks-append held more last.end)
              ∙ ap (λ (holds : List (List ℕ)). blocks holds ++ last.end) (sym all);
          counts_for_nothing = last.counts_for_nothing;
        };
        text =
            subst (IsTextOf (after t entries)) (sym (joined-append before last.batches ∙ ap (λ (l : List ℕ). joined before ++ l) last.text))
            (texts_go_on t (joined before) entries text last.are);
      }

pub compacted_parts_continue : CompactedPartsContinue
compacted_parts_continue servers t old new may entries part last = (
  continues servers t may.old_start may.old_is_sum may.before may.old_texts may.old_text old may.old_rests entries part last,
  continues servers t may.new_start may.new_is_sum may.next may.new_texts may.new_text new may.new_rests entries part
      (subst (λ (sum : ℕ). IsLastPart sum entries part) may.same_sum last),
)

-- a file at rest that holds the tree of the old one, after whose batches the checksum continues from
-- the same sum
pub may_replace : {D : Type 0} (seen : D → List ℕ) (may_leave : D → List ℕ → Type 0) (servers : ℕ) (t : Tree) (batches : List (List ℕ))
    (old : Journal D) → IsAtRest seen may_leave servers batches old → IsTextOf t (joined batches) → (start : ℕ) → IsSum start
    → (next : List (List ℕ)) → AreTexts (holdings start servers next) → IsTextOf t (joined next) → sum_after_all start next ≡ sum_of old
    → (file : List ℕ) → file ≡ at_rest (holdings start servers next) → MayReplace servers t (seen (device_of old)) file
may_replace seen may_leave servers t batches old was text start is_sum next texts keeps same file rests = record {
  before = batches;
  next = next;
  old_start = start_of old;
  new_start = start;
  old_is_sum = was.place.is_sum;
  new_is_sum = is_sum;
  old_rests = was.file;
  new_rests = rests;
  new_texts = texts;
  old_texts = was.texts;
  old_text = text;
  new_text = keeps;
  same_sum = sym was.place.sum ∙ sym same;
}

-- ---- what a crash leaves of the parts before the last one

-- the old file only
pub stays_or_replaces : {D : Type 0} (seen : D → List ℕ) (moment : D → ℕ) (left_since : D → ℕ → List ℕ → Type 0) (old new : Journal D)
    (servers : ℕ) (t : Tree) → LeavesOnly moment left_since (device_of old) (device_of new) (λ file. file ≡ seen (device_of old))
    → LeavesOnly moment left_since (device_of old) (device_of new) (IsOldOrReplaces servers t (seen (device_of old)))
stays_or_replaces seen moment left_since old new servers t run =
    weaker moment left_since (device_of old) (device_of new) (λ file. file ≡ seen (device_of old))
    (IsOldOrReplaces servers t (seen (device_of old))) run (λ file is. inl is)

-- the old file, or the new one
module _ {D : Type 0} (seen : D → List ℕ) (may_leave : D → List ℕ → Type 0) (beside : D → List ℕ) (moment : D → ℕ) (left_since : D → ℕ
    → List ℕ → Type 0) (start : ℕ) (old now : Journal D) (done : List (List ℕ))
    (writing : IsWriting seen may_leave beside moment left_since start old now done) (servers : ℕ) (batches : List (List ℕ))
    (rest : IsAtRest seen may_leave servers batches old) where
  pub ends_or_replaces : (t : Tree) → IsTextOf t (joined batches) → IsTextOf t (joined done) → sum_after_all start done ≡ sum_of old
      → (new : Journal D)
      → ((servers : ℕ) (batches next : List (List ℕ)) → IsRenewing seen may_leave beside servers batches next now
      → LeavesOnly moment left_since (device_of now) (device_of new) (IsTaking (seen (device_of now)) (beside (device_of now))))
      → LeavesOnly moment left_since (device_of old) (device_of new) (IsOldOrReplaces servers t (seen (device_of old)))
  ends_or_replaces t text keeps same new run =
      let sum = from_sum seen may_leave beside moment left_since start old now done writing servers batches rest in
      let texts = next_texts seen may_leave beside moment left_since start old now done writing servers batches rest in
      weaker moment left_since (device_of old) (device_of new) (IsOldOrEnded (seen (device_of old)) start servers done)
      (IsOldOrReplaces servers t (seen (device_of old)))
      (ended seen may_leave beside moment left_since start old now done writing servers batches rest new run)
      (λ file left. ⊎_elim (λ is. inl is)
      (λ is. inr (may_replace seen may_leave servers t batches old rest text start sum done texts keeps same file is)) left)
