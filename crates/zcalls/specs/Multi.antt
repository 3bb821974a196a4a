-- A multi: all of its parts in sequence, or none. The source is the ZooKeeper Programmer's Guide,
-- "Multi". Reporting which part was refused is this project's profile.
use Rattle.std.specs.Prelude.{ℕ, ◌+◌, List, [], ◌∷◌, Result, Ok, Err}
use Rattle.ztree.specs.Tree.{Tree}
use Rattle.zcalls.specs.declared.call.Part.{Part}
use Rattle.zcalls.specs.declared.refusal.Refusal.{Refusal}
use Rattle.zcalls.specs.declared.reply.PartReply.{PartReply}
use Rattle.zcalls.specs.Part.{part_step}

-- the result of a multi's parts, or the number of the refused part, counted from 1, with its
-- refusal
abbrev pub Run : Type 0
Run = Result (Tree × List PartReply) (ℕ × Refusal)

-- the result once one part more was done first: its reply comes first, and a refused part is
-- numbered one higher
abbrev pub behind : PartReply → Run → Run
behind reply (Err (number, refusal)) = Err (number + 1, refusal)
behind reply (Ok (t, replies)) = Ok (t, reply ∷ replies)

-- a part, and then the rest on the tree that it left; a refused part ends the run
abbrev pub and_then : Result (Tree × PartReply) Refusal → (Tree → Run) → Run
and_then (Err refusal) rest = Err (1, refusal)
and_then (Ok (t, reply)) rest = behind reply (rest t)

-- a client's parts, each on the tree that the one before it left
unfoldable pub run : Tree → ℕ → List Part → Run
run t client [] = Ok (t, [])
run t client (part ∷ parts) = and_then (part_step t client part) (λ u. run u client parts)
