-- Each owner of a node is known to have made one, after an update too.
use Rattle.std.proofs.Common.{◌≡◌, ℕ, Bool, true, false, List, Option, Some, None, Result, Ok, Err}
use Rattle.std.specs.Prelude.{if◌then◌else◌}
use Rattle.std.specs.List.{AllByRecursion}
use Rattle.zpath.specs.First.{first_that_holds}
use Rattle.ztree.specs.Tree.{Tree, Path, Nodes, with_node}
use Rattle.zcalls.specs.declared.call.Create.{Create as ToCreate}
use Rattle.zcalls.specs.declared.call.Part.{Part}
use Rattle.zcalls.specs.declared.call.Update.{Update}
use Rattle.zcalls.specs.declared.call.Update.TheVariants.{Create, Delete, SetData, SetAcl, Multi, Open, Ping, Close, Tick}
use Rattle.zcalls.specs.declared.change.ChangeReply.{ChangeReply}
use Rattle.zcalls.specs.declared.change.ChangeReply.TheVariants.{Created}
use Rattle.zcalls.specs.declared.refusal.Refusal.{Refusal}
use Rattle.zcalls.specs.declared.refusal.Refusal.TheVariants.{Exhausted}
use Rattle.zcalls.specs.declared.reply.Reply.{Reply}
use Rattle.zcalls.specs.declared.reply.Reply.TheVariants as reply
use Rattle.zcalls.specs.Part.{create_step, delete_step, set_step, acl_step, create_refusals, unless_refused, made_path, owner_of, term_of}
use Rattle.zcalls.specs.Multi.{Run, run}
use Rattle.zcalls.specs.Step.{step, is_exhausted, update_result, change_result, multi_result}
use Rattle.zcalls.proofs.Leaving.{Leaves}
use Rattle.zwatches.specs.changes.Laws.{takes_away}
use Rattle.zconnections.specs.attachments.Attachments.{AttachmentsView}
use Rattle.zconnections.specs.Sweeping.{noted, made_by_parts, made_by}
use Rattle.zfront_laws.proofs.watches_lemmas.Owners.{OwnersAre, PartNames, made, deleted, set, acl, ran}
use Rattle.zfront_laws.proofs.watches_lemmas.Marks.{Known, Marked, Keeps, marked, made_keeps, made_marked, parts_keep, parts_marked}

-- the owners that an update names
abbrev pub UpdateNames : (ℕ → Type 0) → Update → Type 0
UpdateNames Q (Create create) = Q (owner_of create.kind.lifetime)
UpdateNames Q (Multi parts) = AllByRecursion (PartNames Q) parts
UpdateNames Q other = Unit {0}

pub owners_kept : (m n : AttachmentsView) (nodes : Nodes) → Keeps m n → OwnersAre (Marked m) nodes → OwnersAre (Marked n) nodes
owners_kept m n nodes kept all path node found = marked m n kept node.owner (all path node found)

abbrev Own : AttachmentsView → Update → Tree × Reply → Type 0
Own m u did = OwnersAre (Marked (noted u did.1 m)) did.0.nodes

create_owned : (m : AttachmentsView) (t : Tree) (create : ToCreate) → OwnersAre (Marked m) t.nodes → Known m (owner_of create.kind.lifetime)
    → Own m (Create create) (change_result t (create_step t 0 create))
unfolding create_step
create_owned m t create all names = by (first_that_holds (create_refusals t 0 create))
  where
    at : Path
    at = made_path t.nodes create.kind create.path

    by : (refused : Option Refusal) → Own m (Create create) (change_result t (unless_refused refused (
      with_node t at create.bytes (owner_of create.kind.lifetime) (term_of create.kind.lifetime) create.kind.is_sequential,
      Created at,
    )))
    by (Some refusal) = all
    by None =
        made (Marked (made_by create.kind.lifetime m)) t at create.bytes (owner_of create.kind.lifetime)
        (term_of create.kind.lifetime) create.kind.is_sequential
        (owners_kept m (made_by create.kind.lifetime m) t.nodes (made_keeps create.kind.lifetime m) all) (made_marked create.kind.lifetime m names)

-- where nothing is noted
abbrev Still : (ℕ → Type 0) → Tree × Reply → Type 0
Still Q did = OwnersAre Q did.0.nodes

change_owned : (Q : ℕ → Type 0) (t : Tree) (r : Result (Tree × ChangeReply) Refusal) → OwnersAre Q t.nodes
    → Leaves (λ u. OwnersAre Q u.nodes) r → Still Q (change_result t r)
change_owned Q t (Err refusal) all left = all
change_owned Q t (Ok (u, did)) all left = left

multi_owned : (m : AttachmentsView) (t : Tree) (parts : List Part) (r : Run) → OwnersAre (Marked m) t.nodes
    → Leaves (λ u. OwnersAre (Marked (made_by_parts parts m)) u.nodes) r → Own m (Multi parts) (multi_result t r)
multi_owned m t parts (Err (number, refusal)) all left = all
multi_owned m t parts (Ok (u, reported)) all left = left

either : (m : AttachmentsView) (u : Update) (t : Tree) (why : Reply) (did : Tree × Reply) (b : Bool) → Own m u (t, why)
    → Own m u did → Own m u (if b then (t, why) else did)
either m u t why did true first second = first
either m u t why did false first second = second

result_owned : (m : AttachmentsView) (t : Tree) (u : Update) → takes_away u ≡ false → OwnersAre (Marked m) t.nodes
    → UpdateNames (Known m) u → Own m u (update_result t 0 u)
result_owned m t (Create create) stays all names = create_owned m t create all names
result_owned m t (Delete delete) stays all names = change_owned (Marked m) t (delete_step t delete) all (deleted (Marked m) t delete all)
result_owned m t (SetData to) stays all names = change_owned (Marked m) t (set_step t to) all (set (Marked m) t to all)
result_owned m t (SetAcl to) stays all names = change_owned (Marked m) t (acl_step t to) all (acl (Marked m) t to all)
result_owned m t (Multi parts) stays all names =
    let n = made_by_parts parts m in
    multi_owned m t parts (run t 0 parts) all
    (ran (Marked n) parts t 0 (parts_marked parts m names) (owners_kept m n t.nodes (parts_keep parts m) all))
result_owned m t (Open ticks) stays all names = either m (Open ticks) t _ _ _ all all
result_owned m t (Ping session) stays all names = either m (Ping session) t _ _ _ all all
result_owned m t (Close session) stays all names = absurd (cc stays)
result_owned m t Tick stays all names = absurd (cc stays)

refused_owned : (m : AttachmentsView) (t : Tree) (u : Update) (refusal : Refusal) → OwnersAre (Marked m) t.nodes → Own m u (t, reply.Refused refusal)
refused_owned m t (Create create) refusal all = all
refused_owned m t (Multi parts) refusal all = all
refused_owned m t u refusal all = all

pub update_owned : (m : AttachmentsView) (t : Tree) (u : Update) → takes_away u ≡ false → OwnersAre (Marked m) t.nodes
    → UpdateNames (Known m) u → Own m u (step t 0 u)
unfolding step
update_owned m t u stays all names =
    either m u t (reply.Refused Exhausted) (update_result t 0 u) (is_exhausted t u) (refused_owned m t u Exhausted all)
    (result_owned m t u stays all names)
