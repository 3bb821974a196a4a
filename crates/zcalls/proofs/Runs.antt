-- A multi's parts as they are done: after the replies of those before them.
use Rattle.std.proofs.Common.{◌≡◌, ℕ, ◌+◌, List, [], ◌∷◌, ◌++◌, length, Ok, Err, refl, ap, sym, ◌∙◌, append_assoc, append-nil, arith}
use Rattle.std.proofs.lemmas.List.{length-append}
use Rattle.ztree.specs.Tree.{Tree}
use Rattle.zcalls.specs.declared.call.Part.{Part}
use Rattle.zcalls.specs.declared.refusal.Refusal.{Refusal}
use Rattle.zcalls.specs.declared.reply.PartReply.{PartReply}
use Rattle.zcalls.specs.Part.{part_step}
use Rattle.zcalls.specs.Multi.{Run, behind, and_then, run}

-- what parts did after some that were done
abbrev pub behind_all : List PartReply → Run → Run
behind_all replies (Err (number, refusal)) = Err (length replies + number, refusal)
behind_all replies (Ok (t, more)) = Ok (t, replies ++ more)

-- one more that was done
behind_all-behind : (replies : List PartReply) (reply : PartReply) (did : Run) → behind_all replies (behind reply did) ≡ behind_all (replies ++ reply ∷ []) did
behind_all-behind replies reply (Err (number, refusal)) =
    let one_more : length replies + (number + 1) ≡ length (replies ++ reply ∷ []) + number = omega (arith, length-append replies (reply ∷ [])) in
    ap (λ n. Err (n, refusal)) one_more
behind_all-behind replies reply (Ok (t, more)) = ap (λ all. Ok (t, all)) (sym (append_assoc replies (reply ∷ []) more))

pub run-part : (t u : Tree) (client : ℕ) (replies : List PartReply) (part : Part) (parts : List Part) (reply : PartReply)
    → part_step t client part ≡ Ok (u, reply) → behind_all replies (run t client (part ∷ parts)) ≡ behind_all (replies ++ reply ∷ []) (run u client parts)
unfolding run
run-part t u client replies part parts reply did =
    ap (λ did. behind_all replies (and_then did (λ u. run u client parts))) did ∙ behind_all-behind replies reply (run u client parts)

pub run-refused : (t : Tree) (client : ℕ) (replies : List PartReply) (part : Part) (parts : List Part) (refusal : Refusal)
    → part_step t client part ≡ Err refusal → behind_all replies (run t client (part ∷ parts)) ≡ Err (length replies + 1, refusal)
unfolding run
run-refused t client replies part parts refusal did = ap (λ did. behind_all replies (and_then did (λ u. run u client parts))) did

pub run-end : (t : Tree) (client : ℕ) (replies : List PartReply) → behind_all replies (run t client []) ≡ Ok (t, replies)
unfolding run
run-end t client replies = ap (λ all. Ok (t, all)) (append-nil replies)

-- before the first
pub run-start : (did : Run) → did ≡ behind_all [] did
run-start (Err (number, refusal)) = ap (λ n. Err (n, refusal)) (omega arith)
run-start (Ok (t, replies)) = refl
