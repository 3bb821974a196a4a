-- The incarnations of a service, from a file on.
use Rattle.std.proofs.Common.{◌≡◌, ◌⊎◌, inl, inr, ℕ, List, [], ◌∷◌, ◌++◌, refl, sym, ap, subst, ◌∙◌, append_assoc, append-nil}
use Rattle.ztree.specs.declared.limits.TreeLimits.{TreeLimits}
use Rattle.ztree.specs.Tree.{Tree}
use Rattle.zstore.specs.Restored.{with_limits}
use Rattle.zcalls.proofs.LimitsStay.{limits_stay}
use Rattle.ztree_service.specs.log.Logs.{Log, Leads, IsOneTreesFrom}
use Rattle.ztree_service.proofs.log_lemmas.Incarnations.{calls_zipped, leads_by, leads_more}
use Rattle.zjournal.specs.Scan.{joined}
use Rattle.zjournal.proofs.Readings.{files_have_one_reading}
use Rattle.zsnapshots.specs.folder.Entries.{Entry, calls_again}
use Rattle.zsnapshots.specs.folder.States.{after, after_entry}
use Rattle.zsnapshots.specs.folder.Texts.{IsTextOf}
use Rattle.zsnapshots.proofs.folder_lemmas.Apart.{nothing_is, are_distinct}
use Rattle.zsnapshots.proofs.folder_lemmas.States.{go_on, trees}
use Rattle.zfront_laws.specs.Making.{updates_in}
use Rattle.zdurable.specs.Incarnations.{Incarnation, FileKeeps, IsIncarnation, AreIncarnations, IsWoven, Part, PartsLead, ArePartsOf, AreWithin}
use Rattle.zdurable.specs.Laws.{IncarnationsAreOneTree, EachIncarnationIsAPart, NewFilesKeepTheOpening}
use Rattle.zdurable.proofs.Logs.{log_from, tree-log, updates-append, updates-log_from}

-- a file stores one tree
file_keeps_one : (servers : ℕ) (file : List ℕ) (t u : Tree) → FileKeeps servers t file → FileKeeps servers u file → t ≡ u
file_keeps_one servers file t u first second =
    let same = files_have_one_reading servers file first.batches second.batches first.stands second.stands in
    are_distinct (joined second.batches) t u (subst (λ bs. IsTextOf t (joined bs)) same first.text) second.text

-- ---- one incarnation

-- what an incarnation that found this tree left in the log: it leads from that tree, within its limits
record IsPart (found : Tree) (incarnation : Incarnation) (left : Tree) : Type 0 where
  pub log : Log
  pub entries : List Entry
  pub woven : IsWoven (incarnation ∷ []) log entries
  pub leads : Leads (with_limits found incarnation.limits) log left
  pub tree : left ≡ after (with_limits found incarnation.limits) entries
  pub updates : updates_in log ≡ entries

-- after what it reported these acted
module _ (found : Tree) (incarnation : Incarnation) (one : IsOneTreesFrom (with_limits found incarnation.limits) incarnation.reported)
    (were : updates_in incarnation.reported ≡ incarnation.kept) (acted : List Entry) (choice : (acted ≡ []) ⊎ (acted ≡ incarnation.under_way)) where
  abbrev start : Tree
  start = with_limits found incarnation.limits

  abbrev middle : Tree
  middle = after start incarnation.kept

  abbrev unreported : Log
  unreported = log_from middle acted

  reported_leads : Leads start incarnation.reported middle
  reported_leads = (one, tree-log incarnation.reported start ∙ ap (after start) were)

  unreported_leads : Leads middle unreported (after start (incarnation.kept ++ acted))
  unreported_leads =
      let by = leads_by middle (calls_again acted) in
      (by.0, by.1 ∙ sym (trees middle acted) ∙ sym (go_on start incarnation.kept acted))

  is_part : IsPart found incarnation (after start (incarnation.kept ++ acted))
  is_part = record {
    log = incarnation.reported ++ unreported;
    entries = incarnation.kept ++ acted;
    woven = (
      acted,
      choice,
      unreported,
      calls_zipped middle (calls_again acted),
      [],
      [],
      ap (λ (log : Log). incarnation.reported ++ log) (sym (append-nil unreported)),
      ap (λ (es : List Entry). incarnation.kept ++ es) (sym (append-nil acted)),
      (refl, refl),
    );
    leads = leads_more start middle (after start (incarnation.kept ++ acted)) incarnation.reported unreported reported_leads unreported_leads;
    tree = refl;
    updates =
        updates-append incarnation.reported unreported
        ∙ (λ i. were i ++ updates-log_from acted middle i);
  }

-- whatever was in flight at its end: its part, and the tree that the file keeps
part_of : (servers : ℕ) (found : Tree) (incarnation : Incarnation) (left : List ℕ) → IsIncarnation servers found incarnation left
    → (t : Tree) × IsPart found incarnation t × FileKeeps servers t left
part_of servers found incarnation left lived = by lived.leaves
  where
    start : Tree
    start = with_limits found incarnation.limits

    by : FileKeeps servers (after start incarnation.kept) left ⊎ FileKeeps servers (after start (incarnation.kept ++ incarnation.under_way)) left
        → (t : Tree) × IsPart found incarnation t × FileKeeps servers t left
    by (inl leaves) = (
      after start (incarnation.kept ++ []),
      is_part found incarnation lived.one_tree lived.kept [] (inl refl),
      subst (λ es. FileKeeps servers (after start es) left) (sym (append-nil incarnation.kept)) leaves,
    )
    by (inr leaves) = (
      after start (incarnation.kept ++ incarnation.under_way),
      is_part found incarnation lived.one_tree lived.kept incarnation.under_way (inr refl),
      leaves,
    )

-- ---- all of them, each with its limits

record HasParts (t last : Tree) (incarnations : List Incarnation) : Type 0 where
  pub parts : List Part
  pub are : ArePartsOf incarnations parts
  pub lead : PartsLead t parts last

parts_stand : (servers : ℕ) (incarnations : List Incarnation) (file last : List ℕ) (t end : Tree) → AreIncarnations servers file incarnations last
    → FileKeeps servers t file → FileKeeps servers end last → HasParts t end incarnations
parts_stand servers [] file last t end is begins ends =
    record { parts = []; are = refl; lead = file_keeps_one servers file end t (subst (FileKeeps servers end) is ends) begins }
parts_stand servers (incarnation ∷ incarnations) file last t end (found, finds, left, lived, rest) begins ends =
    let same = file_keeps_one servers file found t finds begins in
    let lived_so : IsIncarnation servers t incarnation left = subst (λ u. IsIncarnation servers u incarnation left) same lived in
    let own = part_of servers t incarnation left lived_so in
    let later = parts_stand servers incarnations left last own.0 end rest own.2 ends in
    let part : Part = record { limits = incarnation.limits; log = own.1.log } in
    let woven : IsWoven (incarnation ∷ []) own.1.log (updates_in own.1.log) =
    subst (λ (es : List Entry). IsWoven (incarnation ∷ []) own.1.log es) (sym own.1.updates) own.1.woven in
    record {
      parts = part ∷ later.parts;
      are = (part, later.parts, refl, refl, woven, later.are);
      lead = (own.0, own.1.leads, later.lead);
    }

pub each_incarnation_is_a_part : EachIncarnationIsAPart
each_incarnation_is_a_part servers start first incarnations last t begins are ends =
    let all = parts_stand servers incarnations first last start t are begins ends in
    (all.parts, all.are, all.lead)

-- ---- all of them, with the limits of the first tree

-- what incarnations reported that found this tree first: it leads to the last one
record Stands (t last : Tree) (incarnations : List Incarnation) : Type 0 where
  pub log : Log
  pub entries : List Entry
  pub woven : IsWoven incarnations log entries
  pub leads : Leads t log last
  pub tree : last ≡ after t entries
  pub updates : updates_in log ≡ entries

-- a tree within its own limits is the same
own_limits : (t : Tree) (limits : TreeLimits) → limits ≡ t.limits → with_limits t limits ≡ t
own_limits t limits same i = with_limits t (same i)

-- entries leave the limits alone
entry_limits : (t : Tree) (entry : Entry) → (after_entry t entry).limits ≡ t.limits
unfolding after_entry
entry_limits t entry = limits_stay t 0 entry

after_limits : (entries : List Entry) (t : Tree) → (after t entries).limits ≡ t.limits
after_limits [] t = refl
after_limits (entry ∷ entries) t = after_limits entries (after_entry t entry) ∙ entry_limits t entry

-- one incarnation more in front of others
one_more : (t middle last : Tree) (incarnation : Incarnation) (incarnations : List Incarnation) → incarnation.limits ≡ t.limits
    → IsPart t incarnation middle → Stands middle last incarnations → Stands t last (incarnation ∷ incarnations)
one_more t middle last incarnation incarnations same own rest =
    let is = own_limits t incarnation.limits same in
    let acted = own.woven.0 in
    let unreported = own.woven.2 in
    let none = own.woven.8 in
    let log_is : own.log ≡ incarnation.reported ++ unreported =
    own.woven.6
    ∙ ap (λ (later : Log). incarnation.reported ++ (unreported ++ later)) none.0
    ∙ ap (λ (log : Log). incarnation.reported ++ log) (append-nil unreported) in
    let entries_are : own.entries ≡ incarnation.kept ++ acted =
    own.woven.7
    ∙ ap (λ (more : List Entry). incarnation.kept ++ (acted ++ more)) none.1
    ∙ ap (λ (es : List Entry). incarnation.kept ++ es) (append-nil acted) in
    record {
      log = own.log ++ rest.log;
      entries = own.entries ++ rest.entries;
      woven = (
        acted,
        own.woven.1,
        unreported,
        own.woven.3,
        rest.log,
        rest.entries,
        ap (λ (log : Log). log ++ rest.log) log_is ∙ append_assoc incarnation.reported unreported rest.log,
        ap (λ (es : List Entry). es ++ rest.entries) entries_are ∙ append_assoc incarnation.kept acted rest.entries,
        rest.woven,
      );
      leads = leads_more t middle last own.log rest.log (subst (λ (u : Tree). Leads u own.log middle) is own.leads) rest.leads;
      tree =
          rest.tree
          ∙ ap (λ (u : Tree). after u rest.entries) (own.tree ∙ ap (λ (u : Tree). after u own.entries) is)
          ∙ sym (go_on t own.entries rest.entries);
      updates = updates-append own.log rest.log ∙ (λ i. own.updates i ++ rest.updates i);
    }

stands : (limits : TreeLimits) (servers : ℕ) (incarnations : List Incarnation) (file last : List ℕ) (t end : Tree) → t.limits ≡ limits
    → AreWithin limits incarnations → AreIncarnations servers file incarnations last → FileKeeps servers t file → FileKeeps servers end last
    → Stands t end incarnations
stands limits servers [] file last t end held within is begins ends =
    let same = file_keeps_one servers file end t (subst (FileKeeps servers end) is ends) begins in
    record { log = []; entries = []; woven = (refl, refl); leads = (refl, sym same); tree = same; updates = refl }
stands limits servers (incarnation ∷ incarnations) file last t end held within (found, finds, left, lived, rest) begins ends =
    let same = file_keeps_one servers file found t finds begins in
    let lived_so : IsIncarnation servers t incarnation left = subst (λ u. IsIncarnation servers u incarnation left) same lived in
    let own = part_of servers t incarnation left lived_so in
    let still : own.0.limits ≡ limits =
    ap (λ (u : Tree). u.limits) own.1.tree ∙ after_limits own.1.entries (with_limits t incarnation.limits) ∙ within.0 in
    one_more t own.0 end incarnation incarnations (within.0 ∙ sym held) own.1
    (stands limits servers incarnations left last own.0 end still within.1 rest own.2 ends)

pub incarnations_are_one_tree : IncarnationsAreOneTree
incarnations_are_one_tree servers start first incarnations last t begins within are ends =
    let all = stands start.limits servers incarnations first last start t refl within are begins ends in
    (all.log, all.entries, all.woven, all.leads, all.tree, all.updates)

-- a new file
pub new_files_keep_the_opening : NewFilesKeepTheOpening
new_files_keep_the_opening servers = record { batches = []; stands = inr (inl tt, refl); text = nothing_is }
