-- A file that is opened without a front.
use Rattle.std.proofs.Common.{◌≡◌, ℕ, false, List, subst, ap}
use Rattle.zjournal.specs.Journal.{IsAtRest, Represents}
use Rattle.zjournal.specs.Journal as journal
use Rattle.zjournal.specs.Scan.{joined}
use Rattle.zjournal.proofs.Readings.{files_have_one_reading}
use Rattle.zsnapshots.specs.folder.Texts.{IsTextOf}
use Rattle.zdurable.specs.declared.stored.Stored.{Stored}
use Rattle.zdurable.specs.Stored.{IsStored, tree_of}

-- what was read is what is opened
pub stores : {D : Type 0} (seen : D → List ℕ) (may_leave : D → List ℕ → Type 0) (servers m : ℕ) (file now : List ℕ) (stored : Stored D)
    → m ≡ servers → now ≡ file → (read : List (List ℕ)) → Represents servers read file → IsTextOf (tree_of stored) (joined read)
    → stored.tree.is_broken ≡ false
    → (batches : List (List ℕ)) → Represents m batches now → IsAtRest seen may_leave m batches stored.journal → journal.IsOpen stored.journal
    → Represents servers batches file × IsStored seen may_leave servers batches stored
stores seen may_leave servers m file now stored m_is same read reads keeps whole batches stands rest takes =
    let stand : Represents servers batches file = subst (λ k. Represents k batches file) m_is (subst (Represents m batches) same stands) in
    let one = files_have_one_reading servers file read batches reads stand in (
      stand,
      record {
        rest = subst (λ k. IsAtRest seen may_leave k batches stored.journal) m_is rest;
        takes = takes;
        whole = whole;
        text = subst (IsTextOf (tree_of stored)) (ap joined one) keeps;
      },
    )
