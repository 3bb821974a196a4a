-- A service that is opened, and what a fault of a put is.
use Rattle.std.proofs.Common.{◌≡◌, inl, inr, ℕ, Bool, true, false, List, [], Result, Ok, Err, IfOk, IfErr, refl, sym, ap, subst, ◌∙◌}
use Rattle.ztree.specs.declared.limits.TreeLimits.{TreeLimits}
use Rattle.ztree.specs.Tree.{Tree}
use Rattle.zstore.specs.Restored.{with_limits}
use Rattle.zjournal.specs.Device.{LeavesOnly}
use Rattle.zjournal.specs.Journal.{IsAtRest, Represents}
use Rattle.zjournal.specs.Journal as journal
use Rattle.zjournal.specs.Scan.{joined}
use Rattle.zjournal.specs.declared.journal.Journal.{Journal}
use Rattle.zjournal.specs.declared.fault.PutError.{PutError}
use Rattle.zjournal.specs.declared.fault.PutError.TheVariants as put
use Rattle.zjournal.proofs.Moments.{joined_runs, weaker}
use Rattle.zjournal.proofs.Readings.{files_have_one_reading}
use Rattle.zrequests.specs.Terms.{Terms}
use Rattle.zwatches.specs.declared.limits.WatchLimits.{WatchLimits}
use Rattle.zfront.specs.Front.{FrontView}
use Rattle.zfront.specs.Inputs.{ServerView}
use Rattle.zfront.specs.Restoring.{all_taken}
use Rattle.zdurable.specs.declared.kept.DurableFront.{DurableFront}
use Rattle.zdurable.specs.declared.fault.DurableFault.TheVariants as ending
use Rattle.zdurable.specs.declared.fault.OpenFault.{OpenFault}
use Rattle.zdurable.specs.declared.fault.OpenFault.TheVariants as opening
use Rattle.zdurable.specs.Compaction.{IsOldOrTree}
use Rattle.zdurable.specs.Incarnations.{FileKeeps}
use Rattle.zdurable.specs.Opening.{IsFoundOrWithin, IsOpenedWithin}
use Rattle.zdurable.specs.Restored.{clock_at, restored}
use Rattle.zdurable.specs.DurableFront.{IsOpen, IsServing, KeepsTree, measured_from}
use Rattle.zdurable.specs.Faults.{disk_failed, put_fault, read_fault, IsLeftBy, IsOfReading, IsSuchFile, IsSuchFileWithin}
use Rattle.zdurable.specs.support.Opening.{AreNext, IsFoundOr, IsOfLimits, IsOfRenewal, IsSuchOpening, SaysOther, measure_if}
use Rattle.zsnapshots.specs.declared.folder.fault.ReadFault.{ReadFault}
use Rattle.zsnapshots.specs.declared.folder.fault.ReadFault.TheVariants as reading
use Rattle.zsnapshots.specs.folder.Faults.{IsReadFault}
use Rattle.zsnapshots.specs.folder.Texts.{snapshot_text, IsNoText, IsTextOf}
use Rattle.zsnapshots.proofs.folder_lemmas.Apart.{are_distinct}

-- ---- the tree that was read, within the chosen limits

-- a tree within its own limits is the same
pub own_limits : (t : Tree) (limits : TreeLimits) → t.limits ≡ limits → t ≡ with_limits t limits
own_limits t limits same i = with_limits t (same i)

-- what is known of a service that was opened
module _ {D : Type 0} (seen : D → List ℕ) (may_leave : D → List ℕ → Type 0) (watches : WatchLimits) (secret : List ℕ) (terms : Terms) (now_ms servers : ℕ)
    (file : List ℕ) (found : Tree) (limits : TreeLimits) (kept : DurableFront D) (read : List (List ℕ)) (reads : Represents servers read file)
    (text : IsTextOf found (joined read)) (front : kept.front ≡ restored watches secret terms now_ms (with_limits found limits)) (next : List (List ℕ))
    (rest : IsAtRest seen may_leave servers next kept.journal) (takes : journal.IsOpen kept.journal) where
  serves : IsTextOf (with_limits found limits) (joined next) → IsServing seen may_leave servers next (with_limits found limits) kept
  serves keeps = record {
    rest = rest;
    takes = takes;
    sound = ap (λ (v : ServerView). v.is_broken) front;
    text = keeps;
    has = record {
      limits = watches;
      start = with_limits found limits;
      secret = secret;
      times = clock_at terms now_ms found.time;
      steps = [];
      runs = ap (λ (v : ServerView). v.front) front;
      all = refl;
    };
  }

  -- it was opened with the file's tree, whether or not that had other limits
  pub opens : (now : List ℕ) → now ≡ file → (served : Tree) → served ≡ with_limits found limits
      → (is_other : Bool) → SaysOther is_other found limits → (batches : List (List ℕ)) → Represents servers batches now
      → AreNext is_other served batches next → measured_from kept ≡ measure_if is_other kept.journal
      → (is : IsOpenedWithin seen may_leave servers file limits kept) × (kept.front ≡ restored watches secret terms now_ms (with_limits is.found limits))
  opens now same served served_is false says batches stands are measured =
      let one = files_have_one_reading servers file read batches reads (subst (Represents servers batches) same stands) in
      let keeps : IsTextOf (with_limits found limits) (joined next) =
      subst (λ (u : Tree). IsTextOf u (joined next)) (own_limits found limits says) (subst (IsTextOf found) (ap joined (one ∙ sym are)) text) in (
        record {
          found = found;
          batches = read;
          stands = reads;
          text = text;
          next = next;
          written = inl (says, are ∙ sym one, measured);
          serving = serves keeps;
        },
        front,
      )
  opens now same served served_is true says batches stands are measured = (
    record {
      found = found;
      batches = read;
      stands = reads;
      text = text;
      next = next;
      written = inr (says.0, says.1, are.0 ∙ ap snapshot_text served_is, measured);
      serving = serves (subst (λ (u : Tree). IsTextOf u (joined next)) served_is are.1);
    },
    front,
  )

-- what a crash leaves while a file is opened, by the flag and by the limits
pub found_or : (is_other : Bool) (servers : ℕ) (batches : List (List ℕ)) (found served : Tree) (limits : TreeLimits) → SaysOther is_other found limits
    → served ≡ with_limits found limits → (file : List ℕ) → IsFoundOr is_other servers batches served file → IsFoundOrWithin servers batches found limits file
found_or false servers batches found served limits says is file left = inl left
found_or true servers batches found served limits says is file (inl left) = inl left
found_or true servers batches found served limits says is file (inr keeps) = inr (says.0, subst (λ (u : Tree). KeepsTree servers u file) is keeps)

-- the batches of a file are those of one tree
pub one_tree : (servers : ℕ) (file : List ℕ) (found other : Tree) → FileKeeps servers found file → (batches : List (List ℕ)) → Represents servers batches file
    → IsTextOf other (joined batches) → found ≡ other
one_tree servers file found other keeps batches stands text =
    let same = files_have_one_reading servers file keeps.batches batches keeps.stands stands in
    are_distinct (joined batches) found other (subst (λ bs. IsTextOf found (joined bs)) same keeps.text) text

-- ---- why it isn't opened

pub such_within : (limits : TreeLimits) (servers : ℕ) (file : List ℕ) (fault : OpenFault) → IsSuchFile servers file fault
    → IsSuchFileWithin limits servers file fault
such_within limits servers file (opening.Journal e) such = such
such_within limits servers file opening.Memory such = such
such_within limits servers file opening.NotRecords such = such
such_within limits servers file (opening.Limits e) such = absurd such
such_within limits servers file (opening.Renewal e) such = absurd such

pub such_limits : (limits : TreeLimits) (servers : ℕ) (file : List ℕ) (found : Tree) → FileKeeps servers found file → (fault : OpenFault)
    → IsOfLimits found limits fault → IsSuchFileWithin limits servers file fault
such_limits limits servers file found keeps (opening.Journal e) such = absurd such
such_limits limits servers file found keeps opening.Memory such = such
such_limits limits servers file found keeps opening.NotRecords such = absurd such
such_limits limits servers file found keeps (opening.Limits e) such = (found, keeps, such.0, such.1)
such_limits limits servers file found keeps (opening.Renewal e) such = absurd such

-- and none of these is the disk's
pub not_the_disk : (limits : TreeLimits) (found : Tree) (fault : OpenFault) → IsOfLimits found limits fault → fault ≡ disk_failed → ⊥
not_the_disk limits found (opening.Journal e) such is = such
not_the_disk limits found opening.Memory such is = cc is
not_the_disk limits found opening.NotRecords such is = such
not_the_disk limits found (opening.Limits e) such is = cc is
not_the_disk limits found (opening.Renewal e) such is = such

pub such_opening : (limits : TreeLimits) (servers : ℕ) (now file : List ℕ) (found : Tree) → now ≡ file → FileKeeps servers found file
    → (is_other : Bool) → SaysOther is_other found limits → (fault : OpenFault) → IsSuchOpening is_other servers now fault
    → IsSuchFileWithin limits servers file fault
such_opening limits servers now file found same keeps is_other says (opening.Journal e) such =
    subst (λ (f : List ℕ). IsSuchFile servers f (opening.Journal e)) same such
such_opening limits servers now file found same keeps is_other says opening.Memory such = absurd such
such_opening limits servers now file found same keeps is_other says opening.NotRecords such = absurd such
such_opening limits servers now file found same keeps is_other says (opening.Limits e) such = absurd such
such_opening limits servers now file found same keeps is_other says (opening.Renewal e) such =
    let other : SaysOther true found limits = subst (λ b. SaysOther b found limits) such says in
    (found, keeps, other.0)

-- a fault of a renewal is one of an opening with other limits
pub such_renewal : (is_other : Bool) (servers : ℕ) (file : List ℕ) → is_other ≡ true → (fault : OpenFault) → IsOfRenewal fault → IsSuchOpening is_other servers file fault
such_renewal is_other servers file is (opening.Journal e) such = absurd such
such_renewal is_other servers file is opening.Memory such = absurd such
such_renewal is_other servers file is opening.NotRecords such = absurd such
such_renewal is_other servers file is (opening.Limits e) such = absurd such
such_renewal is_other servers file is (opening.Renewal e) such = is

pub not_a_disks : (fault : OpenFault) → IsOfRenewal fault → fault ≡ disk_failed → ⊥
not_a_disks (opening.Journal e) such is = such
not_a_disks opening.Memory such is = such
not_a_disks opening.NotRecords such is = such
not_a_disks (opening.Limits e) such is = such
not_a_disks (opening.Renewal e) such is = cc is

pub not_of_reading : (fault : OpenFault) → IsOfRenewal fault → IsOfReading fault → ⊥
not_of_reading (opening.Journal e) such is = such
not_of_reading opening.Memory such is = such
not_of_reading opening.NotRecords such is = such
not_of_reading (opening.Limits e) such is = such
not_of_reading (opening.Renewal e) such is = is

-- ---- the journal

-- what holds of a value holds of each result that has it
pub if_ok : {T E : Type 0} (r : Result T E) (P Q : T → Type 0) → ((x : T) → P x → Q x) → IfOk r P → IfOk r Q
if_ok (Ok x) P Q f p = f x p
if_ok (Err e) P Q f p = p

pub if_err : {T E : Type 0} (r : Result T E) (P Q : E → Type 0) → ((e : E) → P e → Q e) → IfErr r P → IfErr r Q
if_err (Ok x) P Q f p = p
if_err (Err e) P Q f p = f e p

-- the old batches, or the tree's text: by the flag of an opening
represents_or : (is_other : Bool) (servers m : ℕ) → m ≡ servers → (batches : List (List ℕ)) (t : Tree) (file : List ℕ) → Represents m batches file
    → IsFoundOr is_other servers batches t file
represents_or false servers m is batches t file stands = subst (λ k. Represents k batches file) is stands
represents_or true servers m is batches t file stands = inl (subst (λ k. Represents k batches file) is stands)

old_or : (is_other : Bool) → is_other ≡ true → (servers m : ℕ) → m ≡ servers → (batches : List (List ℕ)) (t : Tree) (file : List ℕ)
    → IsOldOrTree m batches t file → IsFoundOr is_other servers batches t file
old_or is_other other servers m is batches t file (inl keeps) =
    represents_or is_other servers m is batches t file (inl keeps)
old_or is_other other servers m is batches t file (inr keeps) =
    subst (λ (b : Bool). IsFoundOr b servers batches t file) (sym other) (inr (subst (λ k. KeepsTree k t file) is keeps))

-- a journal that is opened, and whose file may then be replaced
module _ {D : Type 0} (moment : D → ℕ) (left_since : D → ℕ → List ℕ → Type 0) (old mid : D) (servers m : ℕ) (is : m ≡ servers) (batches : List (List ℕ))
    (t : Tree) (is_other : Bool) (run : LeavesOnly moment left_since old mid (Represents m batches)) where
  pub opened_leaves : LeavesOnly moment left_since old mid (IsFoundOr is_other servers batches t)
  opened_leaves =
      weaker moment left_since old mid (Represents m batches) (IsFoundOr is_other servers batches t) run
      (represents_or is_other servers m is batches t)

  pub renewed_leaves : (new : D) → is_other ≡ true → LeavesOnly moment left_since mid new (IsOldOrTree m batches t)
      → LeavesOnly moment left_since old new (IsFoundOr is_other servers batches t)
  renewed_leaves new other more =
      joined_runs moment left_since old mid new (IsFoundOr is_other servers batches t) opened_leaves
      (weaker moment left_since mid new (IsOldOrTree m batches t) (IsFoundOr is_other servers batches t) more
      (old_or is_other other servers m is batches t))

-- a journal that is at rest with some batches is so with those of its file
pub rest_of : {D : Type 0} (seen : D → List ℕ) (may_leave : D → List ℕ → Type 0) (m : ℕ) (file : List ℕ) (it : Journal D) (some batches : List (List ℕ))
    → Represents m some file → Represents m batches file → IsAtRest seen may_leave m some it → IsAtRest seen may_leave m batches it
rest_of seen may_leave m file it some batches first second rest =
    subst (λ bs. IsAtRest seen may_leave m bs it) (files_have_one_reading m file some batches first second) rest

-- a text of this fault is that of the file
pub such_read : (fault : ReadFault) (servers n : ℕ) (file text : List ℕ) → n ≡ servers → (read : List (List ℕ))
    → Represents n read file → text ≡ joined read → IsReadFault text fault
    → IsSuchFile servers file (read_fault fault)
such_read reading.Memory servers n file text n_is read reads text_is such = tt
such_read reading.NotRecords servers n file text n_is read reads text_is such =
    (read, subst (λ k. Represents k read file) n_is reads, subst IsNoText text_is such)

-- ---- a file that was read is opened
module _ {D : Type 0} (moment : D → ℕ) (left_since : D → ℕ → List ℕ → Type 0) (old mid new : D) (file : List ℕ)
    (read : LeavesOnly moment left_since old mid (λ c. c ≡ file)) where
  pub read_then : (P : List ℕ → Type 0) → P file → LeavesOnly moment left_since mid new P → LeavesOnly moment left_since old new P
  read_then P holds run =
      joined_runs moment left_since old mid new P (weaker moment left_since old mid (λ c. c ≡ file) P read (λ c is. subst P (sym is) holds)) run

  -- it is opened with chosen limits
  pub opening_leaves : (servers : ℕ) (found other : Tree) (limits : TreeLimits) → FileKeeps servers found file → (served : Tree)
      → served ≡ with_limits found limits → (is_other : Bool) → SaysOther is_other found limits → (now : List ℕ) → now ≡ file
      → (batches : List (List ℕ)) → Represents servers batches file → IsTextOf other (joined batches)
      → (Represents servers batches now → LeavesOnly moment left_since mid new (IsFoundOr is_other servers batches served))
      → LeavesOnly moment left_since old new (IsFoundOrWithin servers batches other limits)
  opening_leaves servers found other limits keeps served served_is is_other says now same batches stands text more =
      let one = one_tree servers file found other keeps batches stands text in
      read_then (IsFoundOrWithin servers batches other limits) (inl stands)
      (weaker moment left_since mid new (IsFoundOr is_other servers batches served) (IsFoundOrWithin servers batches other limits)
      (more (subst (Represents servers batches) (sym same) stands))
      (found_or is_other servers batches other served limits (subst (λ (u : Tree). SaysOther is_other u limits) one says)
      (served_is ∙ ap (λ (u : Tree). with_limits u limits) one)))

  -- it is only read
  pub reading_leaves : (servers : ℕ) (other : Tree) (limits : TreeLimits) (batches : List (List ℕ)) → Represents servers batches file
      → LeavesOnly moment left_since old mid (IsFoundOrWithin servers batches other limits)
  reading_leaves servers other limits batches stands =
      weaker moment left_since old mid (λ c. c ≡ file) (IsFoundOrWithin servers batches other limits) read
      (λ c is. inl (subst (Represents servers batches) (sym is) stands))

-- where nothing was made, nothing is taken
pub none_taken : (v : FrontView) → v.made ≡ [] → v ≡ all_taken v
none_taken v none i = record v { made = none i }

-- what a fault of a put leaves
pub left_put : {D : Type 0} (old new : DurableFront D) (e : PutError) → (e ≡ put.NotText → ⊥) → (e ≡ put.Closed → ⊥) → (IsOpen new → ⊥)
    → IsLeftBy (put_fault e) old new
left_put old new put.Memory text closed ended = ended
left_put old new put.Failed text closed ended = ended
left_put old new put.NotText text closed ended = absurd (text refl)
left_put old new put.Full text closed ended = ended
left_put old new put.Closed text closed ended = absurd (closed refl)

pub failed_is : (e : PutError) → put_fault e ≡ ending.Failed → e ≡ put.Failed
failed_is put.Memory is = cc
failed_is put.Failed is = refl
failed_is put.NotText is = cc
failed_is put.Full is = cc
failed_is put.Closed is = cc

pub full_is : (e : PutError) → put_fault e ≡ ending.Full → e ≡ put.Full
full_is put.Memory is = cc
full_is put.Failed is = cc
full_is put.NotText is = cc
full_is put.Full is = refl
full_is put.Closed is = cc
