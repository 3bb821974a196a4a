-- The parts of a multi, of which one may be refused at once.
use Rattle.std.proofs.Common.{◌≡◌, ◌<◌, ◌≤◌, ◌+◌, ℕ, Bool, true, false, if◌then◌else◌, Result, List, [], ◌∷◌, ◌++◌, length, drop, Ok, Err, refl, sym, arith, append_assoc}
use Rattle.std.proofs.Math.ListN.{get_or}
use Rattle.std.specs.Prelude.{◌||◌, is_err}
use Rattle.std.specs.List.{list_any}
use Rattle.std.proofs.lemmas.List.{drop_more}
use Rattle.ztree.specs.Tree.{Tree}
use Rattle.zcalls.specs.declared.call.Part.{Part}
use Rattle.zcalls.specs.declared.call.Update.TheVariants as act
use Rattle.zcalls.specs.declared.refusal.Refusal.{Refusal}
use Rattle.zcalls.specs.declared.refusal.Refusal.TheVariants.{Exhausted}
use Rattle.zcalls.specs.declared.reply.PartReply.{PartReply}
use Rattle.zcalls.specs.declared.reply.Reply.TheVariants.{Refused}
use Rattle.zcalls.specs.Part.{part_step, delete_step}
use Rattle.zcalls.specs.Multi.{Run, behind, and_then, run}
use Rattle.zcalls.specs.Step.{step, is_exhausted, multi_result}
use Rattle.zjute.specs.declared.part.PartRequest.{PartRequest as AskedPart}
use Rattle.zrequests.specs.declared.fault.Unasked.{Unasked}
use Rattle.zrequests.specs.Asking.{Meaning}
use Rattle.zrequests.specs.Terms.{Terms}
use Rattle.zrequests.specs.Requests.{part_in, or_never, never_done, parts_in}
use Rattle.zrequests.specs.Laws.{RefusedPartsAreNeverDone}

module _ (terms : Terms) (session : ℕ) where
  -- one more is read
  pub one_more_part : (xs : List AskedPart) (i : ℕ) (x : AskedPart) (y : Part) (known : List Part)
      → i < length xs → x ≡ get_or xs i x → part_in terms session x ≡ Ok y
      → known ++ parts_in terms session (drop i xs) ≡ (known ++ y ∷ []) ++ parts_in terms session (drop (i + 1) xs)
  one_more_part xs i x y known more is read =
      rw (drop_more xs i x more, ← is, read) (sym (append_assoc known (y ∷ []) (parts_in terms session (drop (i + 1) xs))))

  -- one is refused at once
  pub no_more_parts : (xs : List AskedPart) (i : ℕ) (x : AskedPart) (fault : Unasked) (known : List Part)
      → i < length xs → x ≡ get_or xs i x → part_in terms session x ≡ Err fault
      → known ++ parts_in terms session (drop i xs) ≡ known ++ never_done ∷ []
  no_more_parts xs i x fault known more is refused = rw (drop_more xs i x more, ← is, refused) refl

  -- at most as many as there are, and some if there are some
  pub few_parts : (xs : List AskedPart) → length (parts_in terms session xs) ≤ length xs
  few_parts [] = omega arith
  few_parts (x ∷ xs) = at (part_in terms session x) (few_parts xs)
    where
      at : (m : Meaning Part) → length (parts_in terms session xs) ≤ length xs
          → length (or_never m (parts_in terms session xs)) ≤ length (x ∷ xs)
      at (Ok part) few = omega (arith, few)
      at (Err fault) few = omega arith

  pub some_parts : (xs : List AskedPart) → 0 < length xs → 0 < length (parts_in terms session xs)
  some_parts [] some = some
  some_parts (x ∷ xs) some = at (part_in terms session x)
    where
      at : (m : Meaning Part) → 0 < length (or_never m (parts_in terms session xs))
      at (Ok part) = omega arith
      at (Err fault) = omega arith

-- a run that is refused stays so behind another part, and leaves the tree
stays_refused : (reply : PartReply) (r : Run) → is_err r ≡ true → is_err (behind reply r) ≡ true
stays_refused reply (Err (number, refusal)) is = refl
stays_refused reply (Ok done) is = absurd cc

leaves : (t : Tree) (r : Run) → is_err r ≡ true → (multi_result t r).0 ≡ t
leaves t (Err (number, refusal)) is = refl
leaves t (Ok done) is = absurd cc

is_refused : (terms : Terms) (session : ℕ) (xs : List AskedPart) (t : Tree) (client : ℕ) → list_any (λ part. is_err (part_in terms session part)) xs ≡ true
    → is_err (run t client (parts_in terms session xs)) ≡ true
unfolding run delete_step
is_refused terms session [] t client some = absurd cc
is_refused terms session (x ∷ xs) t client some =
    at (part_in terms session x) some (λ others u. is_refused terms session xs u client others)
  where
    on : (did : Result (Tree × PartReply) Refusal) → ((u : Tree) → is_err (run u client (parts_in terms session xs)) ≡ true)
        → is_err (and_then did (λ u. run u client (parts_in terms session xs))) ≡ true
    on (Err refusal) rest = refl
    on (Ok (u, reply)) rest = stays_refused reply (run u client (parts_in terms session xs)) (rest u)

    at : (m : Meaning Part) → (is_err m || list_any (λ part. is_err (part_in terms session part)) xs) ≡ true
        → (list_any (λ part. is_err (part_in terms session part)) xs ≡ true → (u : Tree) → is_err (run u client (parts_in terms session xs)) ≡ true)
        → is_err (run t client (or_never m (parts_in terms session xs))) ≡ true
    at (Err fault) some rest = refl
    at (Ok part) others rest = on (part_step t client part) (rest others)

pub refused_parts_are_never_done : RefusedPartsAreNeverDone
unfolding step
refused_parts_are_never_done t terms client session parts some = at (is_exhausted t (act.Multi all))
  where
    all : List Part
    all = parts_in terms session parts

    at : (over : Bool) → (if over then (t, Refused Exhausted) else multi_result t (run t client all)).0 ≡ t
    at true = refl
    at false = leaves t (run t client all) (is_refused terms session parts t client some)
