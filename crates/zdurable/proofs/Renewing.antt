-- A journal that is compacted: a new file is written beside the old one, chunk by chunk.
use Rattle.std.proofs.Common.{◌≡◌, ◌⊎◌, inl, inr, ⊎_elim, ◌∙◌, ℕ, ◌+◌, ◌<◌, ◌≤◌, ◌^◌, ◌-◌, List, [], ◌∷◌, ◌++◌, length, map}
use Rattle.std.proofs.Common.{refl, sym, ap, subst, arith, append_assoc, append-nil}
use Rattle.std.proofs.lemmas.List.{map_push}
use Rattle.std.specs.declared.vec.Vec.{Vec}
use Rattle.std.specs.declared.alloc.Global.{Global}
use Rattle.ztree.specs.Tree.{Tree}
use Rattle.zjournal.specs.Device.{LeavesOnly}
use Rattle.zjournal.specs.Blocks.{IsText, AreTexts, at_rest, blocks}
use Rattle.zjournal.specs.Checksum.{IsSum}
use Rattle.zjournal.specs.Journal.{holdings, IsAtRest, Keeps, IsOpen, device_of, start_of}
use Rattle.zjournal.specs.Renewal.{IsRenewing, IsInRenewal, renewed_size_of, renewed_start_of}
use Rattle.zjournal.specs.Scan.{joined}
use Rattle.zjournal.specs.Untouched.{IsTaking, IsUntouched}
use Rattle.zjournal.specs.declared.journal.Journal.{Journal}
use Rattle.zjournal.proofs.Files.{rest_keeps}
use Rattle.zjournal.proofs.Moments.{joined_runs, started, weaker}
use Rattle.zjournal.proofs.Renewals.{untouched_both}
use Rattle.zsnapshots.specs.folder.Compaction.{CompactionView, IsChunk, IsAllWritten, text_left}
use Rattle.zsnapshots.specs.folder.Texts.{row_records, snapshot_text, IsKeepable, IsTextOf}
use Rattle.zsnapshots.proofs.folder_lemmas.Apart.{snapshots_keep}
use Rattle.zsnapshots.proofs.folder_lemmas.Chunks.{nothing_left, chunks_join}
use Rattle.zdurable.specs.DurableFront.{KeepsTree}
use Rattle.zdurable.specs.Compaction.{IsOldOrTree, IsTooLong, KeepsEither}
use Rattle.zdurable.proofs.Serving.{joined-more}

-- ---- chunks

-- these are the chunks of a tree's text so far
pub record AreChunks (tree : Tree) (text : CompactionView) (done : List (List ℕ)) : Type 0 where
  pub same : text.tree ≡ tree
  pub all : joined done ++ text_left text ≡ snapshot_text tree

pub no_chunk : (tree : Tree) (text : CompactionView) → text ≡ record { tree = tree; written = 0 } → AreChunks tree text []
no_chunk tree text is = record {
  same = ap (λ (v : CompactionView). v.tree) is;
  all = ap (λ (v : CompactionView). text_left v) is;
}

-- one more
pub one_chunk : (tree : Tree) (old new : CompactionView) (done : List (List ℕ)) (chunk given : List ℕ)
    → AreChunks tree old done → IsChunk old new chunk → given ≡ chunk → AreChunks tree new (done ++ given ∷ [])
one_chunk tree old new done chunk given are is same = record {
  same = ap (λ (v : CompactionView). v.tree) is.view ∙ are.same;
  all =
      ap (λ (t : List ℕ). t ++ text_left new) (joined-more done given)
      ∙ append_assoc (joined done) given (text_left new)
      ∙ ap (λ (t : List ℕ). joined done ++ t) (ap (λ (t : List ℕ). t ++ text_left new) same ∙ sym (chunks_join old new chunk is))
      ∙ are.all;
}

-- and all of them
module _ (tree : Tree) (text : CompactionView) (done : List (List ℕ)) (are : AreChunks tree text done) (all : IsAllWritten text) where
  pub text_is : joined done ≡ snapshot_text tree
  text_is = sym (append-nil (joined done)) ∙ ap (λ (t : List ℕ). joined done ++ t) (sym (nothing_left text all)) ∙ are.all

  pub text_keeps : IsTextOf tree (joined done)
  text_keeps = subst (IsTextOf tree) (sym text_is) (snapshots_keep tree (subst IsKeepable are.same all.keepable))

-- a chunk makes what is left shorter
pub chunk_shorter : (tree : Tree) (old new : CompactionView) (chunk : List ℕ) → old.tree ≡ tree → IsChunk old new chunk
    → length (row_records tree) - new.written < length (row_records tree) - old.written
chunk_shorter tree old new chunk same is =
    let count : new.written ≡ old.written + is.count = ap (λ (v : CompactionView). v.written) is.view in
    let all : length (row_records old.tree) ≡ length (row_records tree) = ap (λ (u : Tree). length (row_records u)) same in
    omega (arith, count, all, is.some, is.within)

-- ---- what a crash leaves

-- a file with the old batches stores the state, too
pub keeps_tree : (servers : ℕ) (batches : List (List ℕ)) (tree : Tree) → IsTextOf tree (joined batches) → (file : List ℕ)
    → IsOldOrTree servers batches tree file → KeepsTree servers tree file
keeps_tree servers batches tree text file (inl keeps) = (batches, keeps, text)
keeps_tree servers batches tree text file (inr is) = is

pub keeps_either : (servers : ℕ) (batches : List (List ℕ)) (before now : Tree) → IsTextOf before (joined batches) → (file : List ℕ)
    → IsOldOrTree servers batches now file → KeepsEither servers before now file
keeps_either servers batches before now text file (inl keeps) = inl (batches, keeps, text)
keeps_either servers batches before now text file (inr is) = inr is

-- a file at rest has its batches
pub rests_keep : (start : ℕ) → IsSum start → (servers : ℕ) (batches : List (List ℕ)) → AreTexts (holdings start servers batches)
    → (file : List ℕ) → file ≡ at_rest (holdings start servers batches) → Keeps servers batches file
rests_keep start is_sum servers batches texts file is =
    rest_keeps start is_sum servers batches file (length (blocks (holdings start servers batches))) texts is refl

-- ---- the old file

module _ {D : Type 0} (seen : D → List ℕ) (may_leave : D → List ℕ → Type 0) (moment : D → ℕ) (left_since : D → ℕ → List ℕ
    → Type 0) (old : Journal D) (servers : ℕ) (batches : List (List ℕ)) (rest : IsAtRest seen may_leave servers batches old) where
  is_old : (tree : Tree) (file : List ℕ) → file ≡ seen (device_of old) → IsOldOrTree servers batches tree file
  is_old tree file is = inl (rests_keep (start_of old) rest.place.is_sum servers batches rest.texts file (is ∙ rest.file))

  -- nothing of it has changed
  pub leaves_old : (now : Journal D) → IsUntouched seen may_leave moment left_since (device_of old) (device_of now)
      → (tree : Tree) → LeavesOnly moment left_since (device_of old) (device_of now) (IsOldOrTree servers batches tree)
  leaves_old now untouched tree =
      weaker moment left_since (device_of old) (device_of now) (λ file. file ≡ seen (device_of old)) (IsOldOrTree servers batches tree)
      untouched.any_moment (is_old tree)

  module _ (now : (file : List ℕ) → left_since (device_of old) (moment (device_of old)) file → may_leave (device_of old) file) where
    -- nothing was asked of the device
    pub stays : LeavesOnly moment left_since (device_of old) (device_of old) (λ file. file ≡ seen (device_of old))
    stays = started moment left_since (device_of old) (λ file. file ≡ seen (device_of old)) (λ file left. rest.durable file (now file left))

    pub stays_keeping : LeavesOnly moment left_since (device_of old) (device_of old) (Keeps servers batches)
    stays_keeping =
        weaker moment left_since (device_of old) (device_of old) (λ file. file ≡ seen (device_of old)) (Keeps servers batches) stays
        (λ file is. rests_keep (start_of old) rest.place.is_sum servers batches rest.texts file (is ∙ rest.file))

    pub stays_old : (tree : Tree) → LeavesOnly moment left_since (device_of old) (device_of old) (IsOldOrTree servers batches tree)
    stays_old tree =
        weaker moment left_since (device_of old) (device_of old) (λ file. file ≡ seen (device_of old)) (IsOldOrTree servers batches tree) stays
        (is_old tree)

-- ---- the new file

-- the old file, or the new one, at rest
abbrev pub IsOldOrEnded : List ℕ → ℕ → ℕ → List (List ℕ) → List ℕ → Type 0
IsOldOrEnded old start servers done file = (file ≡ old) ⊎ (file ≡ at_rest (holdings start servers done))

module _ {D : Type 0} (seen : D → List ℕ) (may_leave : D → List ℕ → Type 0) (beside : D → List ℕ) (moment : D
    → ℕ) (left_since : D → ℕ → List ℕ → Type 0) where
  -- so far the new file has these batches after this sum, and the old one is what it was
  pub record IsWriting (start : ℕ) (old now : Journal D) (done : List (List ℕ)) : Type 0 where
    pub was_open : IsOpen old
    pub is_open : IsOpen now
    pub renewing : IsInRenewal seen may_leave beside now
    pub from : renewed_start_of now ≡ start
    pub so_far : (servers : ℕ) (batches : List (List ℕ)) → IsAtRest seen may_leave servers batches old
        → IsRenewing seen may_leave beside servers batches done now
    pub untouched : (servers : ℕ) (batches : List (List ℕ)) → IsAtRest seen may_leave servers batches old
        → IsUntouched seen may_leave moment left_since (device_of old) (device_of now)

  module _ (start : ℕ) (old now : Journal D) (done : List (List ℕ)) (writing : IsWriting start old now done) where
    module _ (servers : ℕ) (batches : List (List ℕ)) (rest : IsAtRest seen may_leave servers batches old) where
      next : IsRenewing seen may_leave beside servers batches done now
      next = writing.so_far servers batches rest

      pub from_sum : IsSum start
      from_sum = subst IsSum writing.from next.place.is_sum

      pub next_texts : AreTexts (holdings start servers done)
      next_texts = subst (λ (n : ℕ). AreTexts (holdings n servers done)) writing.from next.texts

      -- a run that goes on beside the old file
      pub untouched_more : (new : Journal D)
          → ((servers : ℕ) (batches : List (List ℕ)) → IsAtRest seen may_leave servers batches now
          → IsUntouched seen may_leave moment left_since (device_of now) (device_of new))
          → IsUntouched seen may_leave moment left_since (device_of old) (device_of new)
      untouched_more new run =
          untouched_both seen may_leave moment left_since (device_of old) (device_of now) (device_of new)
          (writing.untouched servers batches rest) (run servers batches next.rest)

      -- and one at whose end the new file replaces the old one
      pub ended : (new : Journal D)
          → ((servers : ℕ) (batches next : List (List ℕ)) → IsRenewing seen may_leave beside servers batches next now
          → LeavesOnly moment left_since (device_of now) (device_of new) (IsTaking (seen (device_of now)) (beside (device_of now))))
          → LeavesOnly moment left_since (device_of old) (device_of new) (IsOldOrEnded (seen (device_of old)) start servers done)
      ended new run =
          let untouched = writing.untouched servers batches rest in
          joined_runs moment left_since (device_of old) (device_of now) (device_of new) (IsOldOrEnded (seen (device_of old)) start servers done)
          (weaker moment left_since (device_of old) (device_of now) (λ file. file ≡ seen (device_of old)) (IsOldOrEnded (seen (device_of old)) start servers done)
          untouched.any_moment (λ file is. inl is))
          (weaker moment left_since (device_of now) (device_of new) (IsTaking (seen (device_of now)) (beside (device_of now)))
          (IsOldOrEnded (seen (device_of old)) start servers done) (run servers batches done next)
          (λ file left. ⊎_elim (λ is. inl (is ∙ untouched.same))
          (λ is. inr (is
          ∙ ap (λ (l : List ℕ). l ++ 0 ∷ []) next.so_far
          ∙ ap (λ (n : ℕ). at_rest (holdings n servers done)) writing.from)) left))

      -- which holds the tree
      pub replaces : (tree : Tree) → IsTextOf tree (joined done) → (new : Journal D)
          → ((servers : ℕ) (batches next : List (List ℕ)) → IsRenewing seen may_leave beside servers batches next now
          → LeavesOnly moment left_since (device_of now) (device_of new) (IsTaking (seen (device_of now)) (beside (device_of now))))
          → LeavesOnly moment left_since (device_of old) (device_of new) (IsOldOrTree servers batches tree)
      replaces tree text new run =
          weaker moment left_since (device_of old) (device_of new) (IsOldOrEnded (seen (device_of old)) start servers done) (IsOldOrTree servers batches tree)
          (ended new run)
          (λ file left. ⊎_elim (is_old seen may_leave moment left_since old servers batches rest tree file)
          (λ is. inr (done, rests_keep start from_sum servers done next_texts file is, text)) left)

    -- one batch more
    pub goes_on : (new : Journal D) (given : List ℕ) → IsOpen new → IsInRenewal seen may_leave beside new
        → renewed_start_of new ≡ renewed_start_of now
        → ((servers : ℕ) (batches next : List (List ℕ)) → IsOpen now → IsRenewing seen may_leave beside servers batches next now
        → IsRenewing seen may_leave beside servers batches (next ++ given ∷ []) new)
        → ((servers : ℕ) (batches : List (List ℕ)) → IsAtRest seen may_leave servers batches now
        → IsUntouched seen may_leave moment left_since (device_of now) (device_of new))
        → IsWriting start old new (done ++ given ∷ [])
    goes_on new given is_open renewing same adds untouched = record {
      was_open = writing.was_open;
      is_open = is_open;
      renewing = renewing;
      from = same ∙ writing.from;
      so_far = λ servers batches rest. adds servers batches done writing.is_open (writing.so_far servers batches rest);
      untouched = λ servers batches rest. untouched_more servers batches rest new untouched;
    }

  -- the beginning
  pub begun : (start : ℕ) (old new : Journal D) → IsOpen old → IsOpen new → IsInRenewal seen may_leave beside new
      → renewed_start_of new ≡ start
      → ((servers : ℕ) (batches : List (List ℕ)) → IsOpen old → IsAtRest seen may_leave servers batches old
      → IsRenewing seen may_leave beside servers batches [] new)
      → ((servers : ℕ) (batches : List (List ℕ)) → IsAtRest seen may_leave servers batches old
      → IsUntouched seen may_leave moment left_since (device_of old) (device_of new))
      → IsWriting start old new []
  begun start old new was_open is_open renewing from begins untouched = record {
    was_open = was_open;
    is_open = is_open;
    renewing = renewing;
    from = from;
    so_far = λ servers batches rest. begins servers batches was_open rest;
    untouched = untouched;
  }

  -- the new file is full before its end
  pub too_long : (tree : Tree) (old now : Journal D) (text : CompactionView) (done : List (List ℕ)) → IsWriting 1 old now done
      → AreChunks tree text done → (servers : ℕ) (batches : List (List ℕ)) → IsAtRest seen may_leave servers batches old
      → 2 ^ 60 ≤ renewed_size_of now → IsTooLong servers tree
  too_long tree old now text done writing are servers batches rest full = (
    done,
    text_left text,
    sym are.all,
    subst (λ (n : ℕ). 2 ^ 60 ≤ n)
        ((writing.so_far servers batches rest).place.end ∙ ap (λ (start : ℕ). length (blocks (holdings start servers done))) writing.from) full,
  )

-- ---- chunks in memory

abbrev pub texts_in : List (Vec ℕ Global) → List (List ℕ)
texts_in chunks = map (λ (chunk : Vec ℕ Global). chunk.items) chunks

-- one more is added
module _ (chunks next : List (Vec ℕ Global)) (chunk : Vec ℕ Global) (is : next ≡ chunks ++ chunk ∷ []) where
  added : texts_in next ≡ texts_in chunks ++ chunk.items ∷ []
  added = ap texts_in is ∙ map_push (λ (v : Vec ℕ Global). v.items) chunks chunk

  pub chunk_added : (tree : Tree) (old new : CompactionView) → AreChunks tree old (texts_in chunks) → IsChunk old new chunk.items
      → AreChunks tree new (texts_in next)
  chunk_added tree old new are is_chunk =
      subst (AreChunks tree new) (sym added) (one_chunk tree old new (texts_in chunks) chunk.items chunk.items are is_chunk refl)

  pub text_added : AreTexts (texts_in chunks) → IsText chunk.items → AreTexts (texts_in next)
  text_added are text = subst AreTexts (sym added) (push (texts_in chunks) are)
    where
      push : (texts : List (List ℕ)) → AreTexts texts → AreTexts (texts ++ chunk.items ∷ [])
      push [] are = (text, tt)
      push (t ∷ texts) are = (are.0, push texts are.1)
