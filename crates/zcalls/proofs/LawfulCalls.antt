-- After any calls from an initial tree the tree is lawful, and its sessions' ids are those of changes that were made.
use Rattle.std.proofs.Common.{◌≡◌, ◌<◌, ◌≤◌, ℕ, ◌+◌, Bool, true, false, if◌then◌else◌, List, [], ◌∷◌, Some, Result, Ok, Err, refl, sym, subst, arith}
use Rattle.std.specs.Prelude.{nat_le}
use Rattle.std.specs.Option.{option_map_or}
use Rattle.std.specs.FinMap as finite
use Rattle.ztree.specs.declared.limits.TheConstants.{MIN_TIMEOUT}
use Rattle.ztree.specs.declared.limits.TreeLimits.{TreeLimits}
use Rattle.ztree.specs.declared.session.Session.{Session}
use Rattle.ztree.specs.Limits.{AreLimits}
use Rattle.ztree.specs.Tree.{Tree, opening_within, with_next_zxid}
use Rattle.ztree.specs.Sessions.{new_session, with_session, renewed_session, with_renewed_session, without_session}
use Rattle.ztree.specs.Lawful.{AllSessions}
use Rattle.ztree.proofs.Lawful.{lawful_opening, lawful_raised, lawful_opened, lawful_touched}
use Rattle.ztree.proofs.LawfulEnd.{lawful_ended}
use Rattle.ztree.proofs.StaleGone.{lawful_ticked}
use Rattle.zcalls.specs.declared.call.Part.{Part}
use Rattle.zcalls.specs.declared.call.Update.{Update}
use Rattle.zcalls.specs.declared.call.Update.TheVariants.{Create, Delete, SetData, SetAcl, Multi, Open, Ping, Close, Tick}
use Rattle.zcalls.specs.declared.refusal.Refusal.{Refusal}
use Rattle.zcalls.specs.declared.refusal.Refusal.TheVariants.{SessionGone, TooManySessions, Exhausted}
use Rattle.zcalls.specs.declared.reply.Reply.{Reply}
use Rattle.zcalls.specs.declared.reply.Reply.TheVariants as reply
use Rattle.zcalls.specs.Part.{create_step, delete_step, set_step, acl_step, is_gone}
use Rattle.zcalls.specs.declared.change.Change.TheVariants as change
use Rattle.zcalls.specs.declared.change.ChangeReply.{ChangeReply}
use Rattle.zcalls.specs.Multi.{Run, run}
use Rattle.zcalls.specs.Step.{step, update_result, change_result, multi_result, granted_timeout, tick_result, after_tick, is_busy, due_next, stale_next, is_exhausted}
use Rattle.zcalls.proofs.Ticks.{gone-ends, counted}
use Rattle.zcalls.specs.Bounds.{IsGranted}
use Rattle.zcalls.specs.CallRuns.{after_calls}
use Rattle.zcalls.specs.SessionLaws.{TreesAreLawful}
use Rattle.zcalls.proofs.Bounds.{granted_more, no_sessions}
use Rattle.zcalls.proofs.Owners.{is_own}
use Rattle.zcalls.proofs.Ends.{Ends, ended-ends}
use Rattle.zcalls.proofs.Timed.{put-granted, granted-least, granted-most}
use Rattle.zcalls.proofs.LawfulParts.{IsGood, few, change-good, acl-good, part-good}
use Rattle.zcalls.proofs.Leaving.{Leaves, run-leaves}

run-good : (parts : List Part) (t : Tree) (client : ℕ) → IsGood t → Leaves IsGood (run t client parts)
run-good parts t client good = run-leaves IsGood part-good parts t client good

-- a change counted
raised-good : (t : Tree) → IsGood t → IsGood (with_next_zxid t)
raised-good t good = (lawful_raised t good.0, λ id s e. granted_more t.limits.timeout t.zxid (t.zxid + 1) id s (omega arith) (good.1 id s e))

alone-good : (t : Tree) (did : Result (Tree × ChangeReply) Refusal) → IsGood t → Leaves IsGood did → IsGood (change_result t did).0
alone-good t (Err refusal) good left = good
alone-good t (Ok (u, done)) good left = raised-good u left

together-good : (t : Tree) (did : Run) → IsGood t → Leaves IsGood did → IsGood (multi_result t did).0
together-good t (Err (number, refusal)) good left = good
together-good t (Ok (u, replies)) good left = raised-good u left

-- a choice between the tree and what is good too
either : (t : Tree) (why : Reply) (did : Tree × Reply) (b : Bool) → IsGood t → (b ≡ false → IsGood did.0) → IsGood (if b then (t, why) else did).0
either t why did true good done = good
either t why did false good done = done refl

opened-good : (t : Tree) (client timeout : ℕ) → MIN_TIMEOUT ≤ timeout → timeout ≤ t.limits.timeout → finite.len t.sessions < t.limits.sessions → IsGood t → IsGood (with_next_zxid (with_session t client timeout))
opened-good t client timeout least most left good = (
  lawful_raised (with_session t client timeout) (lawful_opened t client timeout good.0 (omega (arith, least)) left),
  put-granted t.limits.timeout (t.zxid + 1) t.sessions (t.zxid + 1) (new_session client timeout t.time)
      (λ id s e. granted_more t.limits.timeout t.zxid (t.zxid + 1) id s (omega arith) (good.1 id s e))
      (record { before = omega arith; least = least; most = most }),
)

touched-good : (t : Tree) (id : ℕ) (s : Session) → finite.get t.sessions id ≡ Some s → IsGood t → IsGood (with_renewed_session t id)
touched-good t id s there good =
    let here = good.1 id s there in (
      lawful_touched t id good.0 (λ x e. let h = (good.1 id x e).least in omega (arith, h)),
      subst (λ o. AllSessions (IsGranted t.limits.timeout t.zxid) (option_map_or (λ s. finite.insert t.sessions id (renewed_session t.time s)) o t.sessions)) (sym there)
          (put-granted t.limits.timeout t.zxid t.sessions id (renewed_session t.time s) good.1 (record { before = here.before; least = here.least; most = here.most })),
    )

-- the sessions that are left were granted before
still-granted : (t u : Tree) → IsGood t → Ends t u → AllSessions (IsGranted u.limits.timeout u.zxid) u.sessions
still-granted t u good ends id s e = rw (ends.limits, ends.zxid) (good.1 id s (ends.sessions id s e))

closed-good : (t : Tree) (id : ℕ) (s : Session) → finite.get t.sessions id ≡ Some s → IsGood t → IsGood (with_next_zxid (without_session t id))
closed-good t id s there good =
    let ends = ended-ends t id in
    raised-good (without_session t id) (
      lawful_ended t id good.0 (good.0.ids id s there),
      still-granted t _ good ends,
    )

-- a tick: the sessions that are due, and the nodes that are stale
ticked-good : (t : Tree) → IsGood t → IsGood (tick_result t (due_next t) (stale_next t)).0
ticked-good t good =
    let ends = gone-ends (due_next t) (stale_next t) t in
    let left = after_tick t (due_next t) (stale_next t) in
    counted IsGood (is_busy (due_next t) (stale_next t)) left (
      lawful_ticked t good.0,
      still-granted t _ good ends,
    ) (raised-good left)

changed-good : (t : Tree) (client : ℕ) (update : Update) → IsGood t → IsGood (update_result t client update).0
changed-good t client (Create create) good = alone-good t (create_step t client create) good (change-good t client (change.Create create) good)
changed-good t client (Delete delete) good = alone-good t (delete_step t delete) good (change-good t client (change.Delete delete) good)
changed-good t client (SetData set) good = alone-good t (set_step t set) good (change-good t client (change.SetData set) good)
changed-good t client (SetAcl set) good = alone-good t (acl_step t set) good (acl-good t set good)
changed-good t client (Multi parts) good = together-good t (run t client parts) good (run-good parts t client good)
changed-good t client (Open ticks) good =
    either t (reply.Refused TooManySessions) (with_next_zxid (with_session t client (granted_timeout t.limits.timeout ticks)), reply.Opened (t.zxid + 1) (granted_timeout t.limits.timeout ticks)) (nat_le t.limits.sessions (finite.len t.sessions)) good
    (λ left. opened-good t client (granted_timeout t.limits.timeout ticks) (granted-least t.limits.timeout ticks good.0.allowed.least_timeout) (granted-most t.limits.timeout ticks good.0.allowed.least_timeout)
    (few t.limits.sessions (finite.len t.sessions) left) good)
changed-good t client (Ping session) good =
    either t (reply.Refused SessionGone) (with_renewed_session t session, reply.Pinged) (is_gone t.sessions client session) good
    (λ here. let own = is_own t.sessions client session here in touched-good t session own.session own.there good)
changed-good t client (Close session) good =
    either t (reply.Refused SessionGone) (with_next_zxid (without_session t session), reply.Closed) (is_gone t.sessions client session) good
    (λ here. let own = is_own t.sessions client session here in closed-good t session own.session own.there good)
changed-good t client Tick good = ticked-good t good

pub step-good : (t : Tree) (client : ℕ) (update : Update) → IsGood t → IsGood (step t client update).0
unfolding step
step-good t client update good =
    either t (reply.Refused Exhausted) (update_result t client update) (is_exhausted t update) good (λ left. changed-good t client update good)

calls-good : (calls : List (ℕ × Update)) (t : Tree) → IsGood t → IsGood (after_calls t calls)
calls-good [] t good = good
calls-good (call ∷ calls) t good = calls-good calls (step t call.0 call.1).0 (step-good t call.0 call.1 good)

pub after-good : (limits : TreeLimits) → AreLimits limits → (calls : List (ℕ × Update)) → IsGood (after_calls (opening_within limits) calls)
after-good limits allowed calls = calls-good calls (opening_within limits) (lawful_opening limits allowed, no_sessions limits.timeout)

pub trees_are_lawful : TreesAreLawful
trees_are_lawful limits allowed calls = (after-good limits allowed calls).0
