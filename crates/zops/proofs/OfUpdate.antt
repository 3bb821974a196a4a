-- The reply of a step is one to an update.
use Rattle.std.proofs.Common.{◌≡◌, ℕ, suc, ◌+◌, ◌≤◌, Bool, true, false, if◌then◌else◌, List, [], ◌∷◌, length, Result, Ok, Err, sym, subst, arith}
use Rattle.std.specs.Prelude.{nat_le}
use Rattle.std.specs.FinMap as finite
use Rattle.ztree.specs.Tree.{Tree, with_next_zxid}
use Rattle.ztree.specs.Sessions.{with_session, with_renewed_session, without_session}
use Rattle.zcalls.specs.declared.limits.TheConstants.{MOST_PARTS}
use Rattle.zcalls.specs.declared.call.Part.{Part}
use Rattle.zcalls.specs.declared.call.Update.{Update}
use Rattle.zcalls.specs.declared.call.Update.TheVariants.{Create, Delete, SetData, SetAcl, Multi, Open, Ping, Close, Tick}
use Rattle.zcalls.specs.declared.change.ChangeReply.{ChangeReply}
use Rattle.zcalls.specs.declared.change.ChangeReply.TheVariants as change
use Rattle.zcalls.specs.declared.refusal.Refusal.{Refusal}
use Rattle.zcalls.specs.declared.refusal.Refusal.TheVariants.{SessionGone, TooManySessions, Exhausted}
use Rattle.zcalls.specs.declared.reply.PartReply.{PartReply}
use Rattle.zcalls.specs.declared.reply.Reply.{Reply}
use Rattle.zcalls.specs.declared.reply.Reply.TheVariants as reply
use Rattle.zcalls.specs.Part.{create_step, delete_step, set_step, acl_step, part_step, is_gone}
use Rattle.zcalls.specs.Multi.{Run, behind, and_then, run}
use Rattle.zcalls.specs.Step.{step, update_result, change_result, multi_result, granted_timeout, is_exhausted}
use Rattle.zops.specs.Restored.{IsOfUpdate}
use Rattle.zops.specs.support.Steps.{HasFewParts}

-- that many replies at most
abbrev HasFew : ℕ → Run → Type 0
HasFew most (Err stopped) = Unit {0}
HasFew most (Ok did) = length did.1 ≤ most

behind-few : (reply : PartReply) (did : Run) (most : ℕ) → HasFew most did → HasFew (suc most) (behind reply did)
behind-few reply (Err (number, refusal)) most few = tt
behind-few reply (Ok (t, replies)) most few = omega (arith, few)

and_then-few : (did : Result (Tree × PartReply) Refusal) (rest : Tree → Run) (most : ℕ) → ((u : Tree) → HasFew most (rest u)) → HasFew (suc most) (and_then did rest)
and_then-few (Err refusal) rest most few = tt
and_then-few (Ok (t, reply)) rest most few = behind-few reply (rest t) most (few t)

run-few : (parts : List Part) (t : Tree) (client : ℕ) → HasFew (length parts) (run t client parts)
unfolding run
run-few [] t client = omega arith
run-few (part ∷ parts) t client = and_then-few (part_step t client part) (λ u. run u client parts) (length parts) (λ u. run-few parts u client)

changed : (t : Tree) (did : Result (Tree × ChangeReply) Refusal) → IsOfUpdate (change_result t did).1
changed t (Err refusal) = tt
changed t (Ok (u, change.Created path)) = tt
changed t (Ok (u, change.Deleted)) = tt
changed t (Ok (u, change.Set stat)) = tt

together : (t : Tree) (did : Run) (most : ℕ) → HasFew most did → most ≤ MOST_PARTS → IsOfUpdate (multi_result t did).1
together t (Err (number, refusal)) most few within = tt
together t (Ok (u, replies)) most few within = omega (arith, few, within)

-- a choice of two outcomes
either : (b : Bool) (why did : Tree × Reply) → IsOfUpdate why.1 → IsOfUpdate did.1 → IsOfUpdate (if b then why else did).1
either true why did is done = is
either false why did is done = done

updated : (t : Tree) (client : ℕ) (update : Update) → HasFewParts update → IsOfUpdate (update_result t client update).1
updated t client (Create create) few = changed t (create_step t client create)
updated t client (Delete delete) few = changed t (delete_step t delete)
updated t client (SetData set) few = changed t (set_step t set)
updated t client (SetAcl set) few = changed t (acl_step t set)
updated t client (Multi parts) few = together t (run t client parts) (length parts) (run-few parts t client) few
updated t client (Open ticks) few =
    let timeout = granted_timeout t.limits.timeout ticks in
    either (nat_le t.limits.sessions (finite.len t.sessions)) (t, reply.Refused TooManySessions)
    (with_next_zxid (with_session t client timeout), reply.Opened (t.zxid + 1) timeout) tt tt
updated t client (Ping session) few =
    either (is_gone t.sessions client session) (t, reply.Refused SessionGone) (with_renewed_session t session, reply.Pinged) tt tt
updated t client (Close session) few =
    either (is_gone t.sessions client session) (t, reply.Refused SessionGone) (with_next_zxid (without_session t session), reply.Closed) tt tt
updated t client Tick few = tt

pub step-of_update : (t : Tree) (client : ℕ) (update : Update) → HasFewParts update → IsOfUpdate (step t client update).1
unfolding step
step-of_update t client update few =
    either (is_exhausted t update) (t, reply.Refused Exhausted) (update_result t client update) tt (updated t client update few)

-- a step that was done gave such a reply
pub made-of_update : (t : Tree) (client : ℕ) (update : Update) (u : Tree) (reported : Reply) → HasFewParts update → (u, reported) ≡ step t client update → IsOfUpdate reported
made-of_update t client update u reported few is =
    subst (λ (did : Tree × Reply). IsOfUpdate did.1) (sym is) (step-of_update t client update few)
