-- Calls that fit a log fit a longer one, and the shown machine of a log replies as the service does
-- after its updates.
use Rattle.std.proofs.Common.{◌≡◌, ℕ, ◌+◌, ◌≤◌, List, [], ◌∷◌, ◌++◌, map, length, Option, Some, refl, sym, ap, ◌∙◌, arith, append_assoc, length-append}
use Rattle.std.proofs.lemmas.List.{map-append}
use Rattle.std.specs.FinMap.{get-empty}
use Rattle.std.specs.Ordering.{nat_cmp}
use Rattle.zcalls.specs.declared.call.Call.{Call}
use Rattle.zcalls.specs.declared.call.Call.TheVariants as call
use Rattle.zcalls.specs.declared.call.Entry.{Entry}
use Rattle.zcalls.specs.declared.call.Update.{Update}
use Rattle.zcalls.specs.declared.reply.Reply.{Reply}
use Rattle.zcalls.specs.Cached.{Plain, CachedState, nothing_cached, last_of, act_result, entry_step}
use Rattle.zcalls.specs.CachedLaws.{last_number}
use Rattle.zcalls.specs.Operation.{Operation}
use Rattle.zcalls.proofs.ActedLogs.{after}
use Rattle.zcalls.proofs.Acting.{Outcome, outcome, kept_own}
use Rattle.zcalls.proofs.Acting.Outcome.{Acts, Stays}
use Rattle.zprotocol.specs.server.Machine.{Does, machine_of}
use Rattle.zlinearizability.specs.legal.Prefix.{IsPrefix}
use Rattle.zheads.specs.Heads.{Note}
use Rattle.zheads.specs.OneLog.{state_from, state_of, IsEntryAfter, FitsAt, Fits}
use Rattle.zheads.proofs.Shown.{front_entry, numbered, machine_after}

-- the updates of a log
abbrev pub updates : List Entry → List Update
updates log = map (λ e. e.update) log

pub prefix_updates : (xs ys : List Entry) → IsPrefix xs ys → IsPrefix (updates xs) (updates ys)
prefix_updates xs ys (rest, is) = (updates rest, ap updates is ∙ map-append (λ (e : Entry). e.update) xs rest)

pub updates_length : (log : List Entry) → length (updates log) ≡ length log
updates_length [] = refl
updates_length (e ∷ log) = let more = updates_length log in omega (arith, more)

-- a list cut at two positions
cut_entry : {A : Type 0} (front rest before after : List A) (x : A) → front ++ rest ≡ before ++ x ∷ after → length before + 1 ≤ length front
    → (more : List A) × (front ≡ before ++ x ∷ more)
cut_entry [] rest before after x is le = absurd (omega arith)
cut_entry (f ∷ front) rest [] after x is le = let same : f ≡ x = cc is in (front, λ i. same i ∷ front)
cut_entry (f ∷ front) rest (b ∷ before) after x is le =
    let same : f ≡ b = cc is in
    let tails : front ++ rest ≡ before ++ x ∷ after = cc is in
    let more = cut_entry front rest before after x tails (omega arith) in
    (more.0, λ i. same i ∷ more.1 i)

cut_place : {A : Type 0} (front rest before after : List A) → front ++ rest ≡ before ++ after → length before ≤ length front
    → (more : List A) × (front ≡ before ++ more)
cut_place front rest [] after is le = (front, refl)
cut_place [] rest (b ∷ before) after is le = absurd (omega arith)
cut_place (f ∷ front) rest (b ∷ before) after is le =
    let same : f ≡ b = cc is in
    let tails : front ++ rest ≡ before ++ after = cc is in
    let more = cut_place front rest before after tails (omega arith) in
    (more.0, λ i. same i ∷ more.1 i)

module _ {P : Type 0} (plain : Plain P) where
  -- in a longer log
  fits_more_at : (log more : List Update) (place : ℕ) (reply : Option Reply) (c : Call) → IsPrefix log more → FitsAt plain log place reply c
      → FitsAt plain more place reply c
  fits_more_at log more place reply (call.Update u) (rest, longer) (before, (after, is, at), same) =
      (before, (after ++ rest, longer ∙ ap (λ l. l ++ rest) is ∙ append_assoc before (u ∷ after) rest, at), same)
  fits_more_at log more place reply (call.Query q) (rest, longer) (before, after, is, at, same) =
      (before, after ++ rest, longer ∙ ap (λ l. l ++ rest) is ∙ append_assoc before after rest, at, same)

  pub fits_more : (log more : List Update) (note : Note) → IsPrefix log more → Fits plain log note → Fits plain more note
  fits_more log more note longer h = fits_more_at log more note.place note.reply note.call longer h

  -- in a shorter one that has the place
  fits_front_at : (front log : List Update) (place : ℕ) (reply : Option Reply) (c : Call) → IsPrefix front log → place ≤ length front
      → FitsAt plain log place reply c → FitsAt plain front place reply c
  fits_front_at front log place reply (call.Update u) (rest, longer) le (before, (after, is, at), same) =
      let here = cut_entry front rest before after u (sym longer ∙ is) (omega arith) in (before, (here.0, here.1, at), same)
  fits_front_at front log place reply (call.Query q) (rest, longer) le (before, after, is, at, same) =
      let here = cut_place front rest before after (sym longer ∙ is) (omega arith) in (before, here.0, here.1, at, same)

  pub fits_front : (front log : List Update) (note : Note) → IsPrefix front log → note.place ≤ length front → Fits plain log note → Fits plain front note
  fits_front front log note longer le h = fits_front_at front log note.place note.reply note.call longer le h

  -- the place is in the log
  place_in_at : (log : List Update) (place : ℕ) (reply : Option Reply) (c : Call) → FitsAt plain log place reply c → place ≤ length log
  place_in_at log place reply (call.Update u) (before, (after, is, at), same) =
      let size : length log ≡ length (before ++ u ∷ after) = ap length is in
      let sum : length (before ++ u ∷ after) ≡ length before + length (u ∷ after) = length-append before (u ∷ after) in omega arith
  place_in_at log place reply (call.Query q) (before, after, is, at, same) =
      let size : length log ≡ length (before ++ after) = ap length is in
      let sum : length (before ++ after) ≡ length before + length after = length-append before after in omega arith

  pub place_in : (log : List Update) (note : Note) → Fits plain log note → note.place ≤ length log
  place_in log note h = place_in_at log note.place note.reply note.call h

  -- the next number acts
  acts_now : (s : CachedState P) (e : Entry) (now : List (Operation × Reply)) (r : CachedState P × Option Reply) → last_number s e.client + 1 ≤ e.number
      → Outcome plain.update s e now r → r ≡ act_result plain.update s e
  acts_now s e now r low (Acts is) = refl
  acts_now s e now r low (Stays high) = absurd (omega arith)

  step_is : (s : CachedState P) (e : Entry) (n : ℕ) → last_number s 0 ≡ n
      → entry_step plain.update s (front_entry (n + 1) e) ≡ act_result plain.update s (front_entry (n + 1) e)
  step_is s e n is = acts_now s (front_entry (n + 1) e) _ _ (omega arith) (outcome plain.update s (front_entry (n + 1) e))

  leads : (n : ℕ) (es : List Entry) (s : CachedState P) → last_number s 0 ≡ n
      → ((after plain.update s (numbered n es)).plain ≡ state_from plain s.plain (updates es))
      × (last_number (after plain.update s (numbered n es)) 0 ≡ n + length es)
  leads n [] s is = let same : n ≡ n + length {A = Entry} [] = omega arith in (refl, is ∙ same)
  leads n (e ∷ es) s is =
      let d = front_entry (n + 1) e in
      let did = step_is s e n is in
      let own : last_number (entry_step plain.update s d).0 0 ≡ n + 1 =
      ap (λ (r : CachedState P × Option Reply). last_number r.0 0) did ∙ ap last_of (kept_own plain.update s d) in
      let more = leads (n + 1) es (entry_step plain.update s d).0 own in
      let count : last_number (after plain.update (entry_step plain.update s d).0 (numbered (n + 1) es)) 0 ≡ (n + 1) + length es = more.1 in
      let same : (n + 1) + length es ≡ n + length (e ∷ es) = omega arith in
      (more.0 ∙ ap (λ (r : CachedState P × Option Reply). state_from plain r.0.plain (updates es)) did, count ∙ same)

  abbrev machine : Does (CachedState P)
  machine = machine_of plain

  nothing_last : last_number (nothing_cached plain.opening) 0 ≡ 0
  nothing_last = ap last_of (get-empty nat_cmp 0)

  -- the state of a log, and the reply to one more update
  pub state_is : (log : List Entry) → (machine_after machine log).plain ≡ state_of plain (updates log)
  state_is log = (leads 0 log (nothing_cached plain.opening) nothing_last).0

  pub reply_is : (log : List Entry) (e : Entry) → (machine.apply (machine_after machine log) (front_entry (length log + 1) e)).1
      ≡ Some (plain.update (state_of plain (updates log)) 0 e.update).1
  reply_is log e =
      let s : CachedState P = machine_after machine log in
      let count : last_number s 0 ≡ 0 + length log = (leads 0 log (nothing_cached plain.opening) nothing_last).1 in
      let same : last_number s 0 ≡ length log = omega arith in
      ap (λ (r : CachedState P × Option Reply). r.1) (step_is s e (length log) same)
      ∙ ap (λ p. Some (plain.update p 0 e.update).1) (state_is log)

-- an entry of the updates is one of the log
pub entry_of : (log : List Entry) (n : ℕ) (before : List Update) (u : Update) → IsEntryAfter (updates log) n before u
    → (front after : List Entry) × (e : Entry) × (log ≡ front ++ e ∷ after) × (e.update ≡ u) × (length front ≡ length before)
entry_of [] n [] u (after, is, at) = absurd (cc is)
entry_of [] n (b ∷ before) u (after, is, at) = absurd (cc is)
entry_of (e ∷ log) n [] u (after, is, at) = ([], log, e, refl, cc is, refl)
entry_of (e ∷ log) n (b ∷ before) u (after, is, at) =
    let tails : updates log ≡ before ++ u ∷ after = cc is in
    let more = entry_of log (length before + 1) before u (after, tails, refl) in
    let same : log ≡ more.0 ++ more.2 ∷ more.1 = more.3 in
    (e ∷ more.0, more.1, more.2, (λ i. e ∷ same i), more.4, (let size : length more.0 ≡ length before = more.5 in omega (arith, size)))
