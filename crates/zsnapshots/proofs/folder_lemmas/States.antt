-- What entries lead to: one tree, that of their calls.
use Rattle.std.proofs.Common.{◌≡◌, List, [], ◌∷◌, ◌++◌, refl, sym, ap}
use Rattle.ztree.specs.Tree.{Tree}
use Rattle.zcalls.specs.declared.call.Call.TheVariants as call
use Rattle.zcalls.specs.declared.reply.Reply.{Reply}
use Rattle.zprotocol.specs.world.PlainTree.{serve}
use Rattle.zsnapshots.specs.folder.Entries.{Entry}
use Rattle.zsnapshots.specs.folder.States.{after, after_entry}
use Rattle.zsnapshots.specs.folder.Laws.{EntriesGoOn, TreesAreTheirCalls}

pub go_on : EntriesGoOn
go_on t [] b = refl
go_on t (entry ∷ a) b = go_on (after_entry t entry) a b

pub trees : TreesAreTheirCalls
unfolding after_entry
trees t [] = refl
trees t (entry ∷ entries) = trees (after_entry t entry) entries

pub after_more : (t : Tree) (entries : List Entry) (entry : Entry) → after_entry (after t entries) entry ≡ after t (entries ++ entry ∷ [])
after_more t entries entry = sym (go_on t entries (entry ∷ []))

-- where an update acted, the tree is the one after the entry
pub entry_acts : (old new : Tree) (reported : Reply) (entry : Entry) → ◌≡◌ {A = Tree × Reply} (new, reported) (serve old 0 (call.Update entry))
    → new ≡ after_entry old entry
unfolding after_entry
entry_acts old new reported entry is = ap (λ (did : Tree × Reply). did.0) is
