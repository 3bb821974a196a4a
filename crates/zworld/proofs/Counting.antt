-- How many clients wait, where one begins a call or hands out an answer.
use Rattle.std.proofs.Common.{◌≡◌, ℕ, ◌+◌, ◌<◌, ◌≤◌, Bool, true, false, if◌then◌else◌, Option, None}
use Rattle.std.proofs.Common.{Some, List, [], ◌∷◌, length, set, refl, sym, ap, ◌∙◌, arith}
use Rattle.std.specs.Prelude.{◌==◌, is_none, is_some, nat_lt, not, option_to_list}
use Rattle.std.specs.Option.{option_map}
use mathlib.Core.Bool.{true≢false}
use Rattle.ztree.specs.Tree.{Tree}
use Rattle.zcalls.specs.Cached.{CachedState}
use Rattle.zcalls.specs.declared.call.Call.{Call}
use Rattle.zcalls.specs.declared.reply.Reply.{Reply}
use Rattle.zcalls.specs.declared.limits.TheConstants.{MAX_CALL_NUMBER}
use Rattle.zpath.specs.First.{first_that_holds}
use Rattle.zprotocol.specs.declared.client.begin_fault.BeginFault.TheVariants.{Busy, Exhausted}
use Rattle.zprotocol.specs.declared.limits.TheConstants.{PROCESSES}
use Rattle.zprotocol.specs.declared.message.Message.{Message}
use Rattle.zprotocol.specs.declared.message.Message.TheVariants as message
use Rattle.zprotocol.specs.declared.process.Process.{Process}
use Rattle.zprotocol.specs.declared.process.Process.TheVariants.{Master, Server, Client}
use Rattle.zprotocol.specs.Places.{place_of}
use Rattle.zprotocol.specs.server.View.{Transfer}
use Rattle.zprotocol.specs.client.View.{ClientView}
use Rattle.zprotocol.specs.client.Table.{ClientResult, client_step, answer_row, config_row, is_waiting_for, begin_step, begin_fault}
use Rattle.zserver.specs.Server.{TreeOut}
use Rattle.zactor.specs.Acting.{TreeStanding, HasActed, can_come, reply_in}
use Rattle.zactor.specs.declared.done.Done.{Done}
use Rattle.zactor.specs.declared.done.Done.TheVariants as done
use Rattle.zactor.specs.declared.input.Input.{Input}
use Rattle.zactor.specs.declared.input.Input.TheVariants as input
use Rattle.zprotocol.specs.declared.world.history.CallEvent.TheVariants as call_event
use Rattle.zprotocol.specs.world.Does.{AtMaster, AtServer, AtClient, Out, answer_reported}
use Rattle.zworld.specs.links.support.Counts.{share, passing}
use Rattle.zworld.proofs.links_lemmas.Counts.{passing-set, passing_at, passing_le}
use Rattle.zworld.specs.Held.{bystander, standing_at}
use Rattle.zworld.specs.support.Posting.{CanCount, waiting_after}
use Rattle.zworld.specs.support.Standing.{waits}
use Rattle.zworld.proofs.Standing.{Stands, IsMaster, IsServer, HasLeft, IsClient}

-- a client that can begin a call doesn't wait, and then it does
pub free_to_begin : (v : ClientView) → begin_fault v ≡ None → waits (AtClient v) ≡ false
unfolding begin_fault
free_to_begin v free = by (is_some v.outstanding) (not (nat_lt v.number MAX_CALL_NUMBER)) free
  where
    by : (b c : Bool) → first_that_holds ((b, Busy) ∷ (c, Exhausted) ∷ []) ≡ None → b ≡ false
    by true c never = cc
    by false c free = refl

pub waits_then : (T : Type 0) (v : ClientView) (call : Call) → waits (AtClient (begin_step {T = T} v call).0) ≡ true
unfolding begin_step
waits_then T v call = refl

-- a client that is handed a reply waited for it, and waits no more; else it waits as before
abbrev pub HasLet : {T : Type 0} → ClientView → ClientResult T → Type 0
HasLet v did = share (waits (AtClient v)) ≡ share (waits (AtClient did.0)) + share (is_some did.2)

as_before : (n : ℕ) → n ≡ n + 0
as_before n = omega arith

waited : (o : Option (ℕ × Call)) (number : ℕ) → elim o [ None ↦ false | Some waits ↦ waits.0 == number ] ≡ true → share (is_some o) ≡ 1
waited None number never = cc
waited (Some waits) number here = refl

module _ {T : Type 0} (v : ClientView) where
  by_test : (b : Bool) (x y : ClientResult T) → (b ≡ true → HasLet v x) → HasLet v y → HasLet v (if b then x else y)
  by_test true x y first second = first refl
  by_test false x y first second = second

  pub lets_go : (from : Process) (m : Message T) → HasLet v (client_step v from m)
  unfolding client_step answer_row config_row
  lets_go (Server s) (message.Answer number reply) =
      by_test (is_waiting_for v number) _ _ (λ here. waited v.outstanding number here) (as_before (share (waits (AtClient v))))
  lets_go Master (message.Config epoch head tail) =
      by_test (nat_lt v.epoch epoch) _ _ (λ later. as_before (share (waits (AtClient v)))) (as_before (share (waits (AtClient v))))
  lets_go from m = as_before (share (waits (AtClient v)))

-- 1 for a call that began, and for an answer that was handed out
abbrev pub began : Done → ℕ
began (done.Began number) = 1
began end = 0

abbrev pub answered : Done → ℕ
answered (done.Answered number) = 1
answered end = 0

-- nothing of the kind
abbrev IsQuiet : Done → Type 0
IsQuiet end = (began end ≡ 0) × (answered end ≡ 0)

-- what the history has of an answer says whether there is one
unanswered : (c : ℕ) (handed : Option (ℕ × Reply)) → answer_reported c handed ≡ [] → share (is_some handed) ≡ 0
unanswered c None is = refl
unanswered c (Some given) is = cc

some_answer : (c : ℕ) (handed : Option (ℕ × Reply)) (number : ℕ) (brought : Option Reply) → is_some brought ≡ true
    → answer_reported c handed ≡ option_to_list (option_map (λ reply. call_event.Answer c number reply) brought) → share (is_some handed) ≡ 1
some_answer c None number (Some reply) some is = cc
some_answer c None number None some is = absurd (true≢false (sym some))
some_answer c (Some given) number brought some is = refl

-- a client alone begins a call, or hands out an answer
abbrev IsBegun : TreeStanding → Input → Type 0
IsBegun standing given = (v : ClientView) × (call : Call) × (standing ≡ AtClient v) × (given ≡ input.Begin call)

abbrev IsHeard : TreeStanding → Input → Type 0
IsHeard standing given =
    (v : ClientView) × (from : Process) × (m : Message (Transfer (CachedState Tree))) × (standing ≡ AtClient v) × (given ≡ input.Hear from m)

begins : (standing : TreeStanding) (given : Input) (number : ℕ) → can_come standing given (done.Began number) ≡ true → IsBegun standing given
begins (AtMaster v) (input.Hear from message) number comes = absurd (true≢false (sym comes))
begins (AtMaster v) (input.Begin call) number comes = absurd (true≢false (sym comes))
begins (AtMaster v) input.Retry number comes = absurd (true≢false (sym comes))
begins (AtMaster v) (input.Obey order) number comes = absurd (true≢false (sym comes))
begins (AtMaster v) input.Stop number comes = absurd (true≢false (sym comes))
begins (AtServer v) (input.Hear from message) number comes = absurd (true≢false (sym comes))
begins (AtServer v) (input.Begin call) number comes = absurd (true≢false (sym comes))
begins (AtServer v) input.Retry number comes = absurd (true≢false (sym comes))
begins (AtServer v) (input.Obey order) number comes = absurd (true≢false (sym comes))
begins (AtServer v) input.Stop number comes = absurd (true≢false (sym comes))
begins Out (input.Hear from message) number comes = absurd (true≢false (sym comes))
begins Out (input.Begin call) number comes = absurd (true≢false (sym comes))
begins Out input.Retry number comes = absurd (true≢false (sym comes))
begins Out (input.Obey order) number comes = absurd (true≢false (sym comes))
begins Out input.Stop number comes = absurd (true≢false (sym comes))
begins (AtClient v) (input.Hear from message) number comes = absurd (true≢false (sym comes))
begins (AtClient v) (input.Begin call) number comes = (v, call, refl, refl)
begins (AtClient v) input.Retry number comes = absurd (true≢false (sym comes))
begins (AtClient v) (input.Obey order) number comes = absurd (true≢false (sym comes))
begins (AtClient v) input.Stop number comes = absurd (true≢false (sym comes))

answers : (standing : TreeStanding) (given : Input) (number : ℕ) → can_come standing given (done.Answered number) ≡ true
    → IsHeard standing given
answers (AtMaster v) (input.Hear from message) number comes = absurd (true≢false (sym comes))
answers (AtMaster v) (input.Begin call) number comes = absurd (true≢false (sym comes))
answers (AtMaster v) input.Retry number comes = absurd (true≢false (sym comes))
answers (AtMaster v) (input.Obey order) number comes = absurd (true≢false (sym comes))
answers (AtMaster v) input.Stop number comes = absurd (true≢false (sym comes))
answers (AtServer v) (input.Hear from message) number comes = absurd (true≢false (sym comes))
answers (AtServer v) (input.Begin call) number comes = absurd (true≢false (sym comes))
answers (AtServer v) input.Retry number comes = absurd (true≢false (sym comes))
answers (AtServer v) (input.Obey order) number comes = absurd (true≢false (sym comes))
answers (AtServer v) input.Stop number comes = absurd (true≢false (sym comes))
answers Out (input.Hear from message) number comes = absurd (true≢false (sym comes))
answers Out (input.Begin call) number comes = absurd (true≢false (sym comes))
answers Out input.Retry number comes = absurd (true≢false (sym comes))
answers Out (input.Obey order) number comes = absurd (true≢false (sym comes))
answers Out input.Stop number comes = absurd (true≢false (sym comes))
answers (AtClient v) (input.Hear from message) number comes = (v, from, message, refl, refl)
answers (AtClient v) (input.Begin call) number comes = absurd (true≢false (sym comes))
answers (AtClient v) input.Retry number comes = absurd (true≢false (sym comes))
answers (AtClient v) (input.Obey order) number comes = absurd (true≢false (sym comes))
answers (AtClient v) input.Stop number comes = absurd (true≢false (sym comes))

-- whoever isn't a client waits for nothing
not_client : (standing : TreeStanding) → ((v : ClientView) → standing ≡ AtClient v → ⊥) → waits standing ≡ false
not_client (AtMaster v) other = refl
not_client (AtServer v) other = refl
not_client (AtClient v) other = absurd (other v refl)
not_client Out other = refl

-- and does nothing that is counted
quiet_if : (standing : TreeStanding) (given : Input) (end : Done) → ((v : ClientView) → standing ≡ AtClient v → ⊥)
    → can_come standing given end ≡ true → IsQuiet end
quiet_if standing given done.Acted other comes = (refl, refl)
quiet_if standing given done.Unheard other comes = (refl, refl)
quiet_if standing given done.Stopped other comes = (refl, refl)
quiet_if standing given done.Left other comes = (refl, refl)
quiet_if standing given (done.Began number) other comes =
    let did = begins standing given number comes in absurd (other did.0 did.2)
quiet_if standing given (done.Answered number) other comes =
    let did = answers standing given number comes in absurd (other did.0 did.3)

-- the shares of one process in the count, before and after
abbrev pub HasShares : TreeStanding → TreeStanding → Done → Type 0
HasShares standing new end = share (waits standing) + began end ≡ share (waits new) + answered end

shares_of_others : (standing new : TreeStanding) (given : Input) (end : Done) → ((v : ClientView) → standing ≡ AtClient v → ⊥)
    → ((v : ClientView) → new ≡ AtClient v → ⊥)
    → can_come standing given end ≡ true → HasShares standing new end
shares_of_others standing new given end was is comes =
    let quiet = quiet_if standing given end was comes in
    omega (arith, quiet.0, quiet.1, ap share (not_client standing was), ap share (not_client new is))

-- a client's, by what it did
module _ (c : ℕ) (v : ClientView) (new : TreeStanding) (before after : TreeOut) where
  abbrev Did : Input → Done → Type 0
  Did given end = HasActed (Client c) (AtClient v) new given before after end

  began_shares : (call : Call) (number : ℕ) → Did (input.Begin call) (done.Began number) → HasShares (AtClient v) new (done.Began number)
  began_shares call number did =
      let free = free_to_begin v (none_if (begin_fault v) did.accepted) in
      let waits_now : waits new ≡ true = ap waits did.left ∙ waits_then (Transfer (CachedState Tree)) v call in
      omega (arith, ap share free, ap share waits_now)
    where
      none_if : {X : Type 0} (o : Option X) → is_none o ≡ true → o ≡ None
      none_if None is = refl
      none_if (Some x) is = absurd (true≢false (sym is))

  acted_shares : (given : Input) → Did given done.Acted → HasShares (AtClient v) new done.Acted
  acted_shares (input.Hear from message) did =
      let lets = lets_go {T = Transfer (CachedState Tree)} v from message in
      let none = unanswered c (client_step {T = Transfer (CachedState Tree)} v from message).2 did.reported in
      omega (arith, lets, none, ap (λ (standing : TreeStanding). share (waits standing)) did.left)
  acted_shares input.Retry did = omega (arith, ap (λ (standing : TreeStanding). share (waits standing)) did.left)
  acted_shares (input.Begin call) did = absurd (true≢false (sym did.comes))
  acted_shares (input.Obey order) did = absurd (true≢false (sym did.comes))
  acted_shares input.Stop did = absurd (true≢false (sym did.comes))

  answered_shares : (from : Process) (m : Message (Transfer (CachedState Tree))) (number : ℕ)
      → Did (input.Hear from m) (done.Answered number)
      → HasShares (AtClient v) new (done.Answered number)
  answered_shares from m number did =
      let lets = lets_go {T = Transfer (CachedState Tree)} v from m in
      let some = some_answer c (client_step {T = Transfer (CachedState Tree)} v from m).2 number (reply_in m) did.comes did.reported in
      omega (arith, lets, some, ap (λ (standing : TreeStanding). share (waits standing)) did.left)

-- who is of another kind is no client
other_kind : (p : Process) (standing : TreeStanding) → Stands p standing → ((c : ℕ) → p ≡ Client c → ⊥) → (v : ClientView) → standing ≡ AtClient v → ⊥
other_kind p standing (IsMaster w) other v is = cc
other_kind p standing (IsServer s w) other v is = cc
other_kind p standing (HasLeft s) other v is = cc
other_kind p standing (IsClient c w) other v is = other c refl

-- the shares of a process in the count, by what it did
client_shares : (c : ℕ) (v : ClientView) (new : TreeStanding) (given : Input) (end : Done) (before after : TreeOut)
    → HasActed (Client c) (AtClient v) new given before after end → HasShares (AtClient v) new end
client_shares c v new given done.Acted before after did = acted_shares c v new before after given did
client_shares c v new given done.Unheard before after did = omega (arith, ap (λ (standing : TreeStanding). share (waits standing)) did.left)
client_shares c v new given done.Stopped before after did = omega (arith, ap (λ (standing : TreeStanding). share (waits standing)) did.left)
client_shares c v new (input.Hear from message) done.Left before after did = absurd (true≢false (sym did.comes))
client_shares c v new (input.Begin call) done.Left before after did = absurd (true≢false (sym did.comes))
client_shares c v new input.Retry done.Left before after did = absurd (true≢false (sym did.comes))
client_shares c v new (input.Obey order) done.Left before after did = absurd (true≢false (sym did.comes))
client_shares c v new input.Stop done.Left before after did = absurd (true≢false (sym did.comes))
client_shares c v new (input.Hear from message) (done.Began number) before after did = absurd (true≢false (sym did.comes))
client_shares c v new (input.Begin call) (done.Began number) before after did = began_shares c v new before after call number did
client_shares c v new input.Retry (done.Began number) before after did = absurd (true≢false (sym did.comes))
client_shares c v new (input.Obey order) (done.Began number) before after did = absurd (true≢false (sym did.comes))
client_shares c v new input.Stop (done.Began number) before after did = absurd (true≢false (sym did.comes))
client_shares c v new (input.Hear from message) (done.Answered number) before after did =
    answered_shares c v new before after from message number did
client_shares c v new (input.Begin call) (done.Answered number) before after did = absurd (true≢false (sym did.comes))
client_shares c v new input.Retry (done.Answered number) before after did = absurd (true≢false (sym did.comes))
client_shares c v new (input.Obey order) (done.Answered number) before after did = absurd (true≢false (sym did.comes))
client_shares c v new input.Stop (done.Answered number) before after did = absurd (true≢false (sym did.comes))

pub has_shares : (p : Process) (standing new : TreeStanding) (given : Input) (end : Done) (before after : TreeOut) → Stands p standing → Stands p new
    → HasActed p standing new given before after end → HasShares standing new end
has_shares p standing new given end before after (IsMaster w) is did =
    shares_of_others (AtMaster w) new given end (λ v e. cc) (other_kind Master new is (λ c e. cc)) did.comes
has_shares p standing new given end before after (IsServer s w) is did =
    shares_of_others (AtServer w) new given end (λ v e. cc) (other_kind (Server s) new is (λ c e. cc)) did.comes
has_shares p standing new given end before after (HasLeft s) is did =
    shares_of_others Out new given end (λ v e. cc) (other_kind (Server s) new is (λ c e. cc)) did.comes
has_shares p standing new given end before after (IsClient c v) is did = client_shares c v new given end before after did

-- so the count continues with what is counted
module _ (actors : List TreeStanding) (process : Process) (new : TreeStanding) (waiting : ℕ) (inside : place_of process < length actors)
    (counted : waiting ≡ passing waits actors) where
  abbrev was : TreeStanding
  was = standing_at actors process

  counts : passing waits (set actors (place_of process) new) + share (waits was) ≡ passing waits actors + share (waits new)
  counts = passing-set waits actors (place_of process) new (bystander process) inside

  here : share (waits was) ≤ passing waits actors
  here = passing_at waits actors (place_of process) (bystander process) inside

  pub counted_then : (end : Done) → HasShares was new end → waiting_after waiting end ≡ passing waits (set actors (place_of process) new)
  counted_then (done.Began number) shares = omega (arith, counted, counts, shares)
  counted_then (done.Answered number) shares = omega (arith, counted, counts, here, shares)
  counted_then done.Acted shares = omega (arith, counted, counts, shares)
  counted_then done.Unheard shares = omega (arith, counted, counts, shares)
  counted_then done.Stopped shares = omega (arith, counted, counts, shares)
  counted_then done.Left shares = omega (arith, counted, counts, shares)

  pub can_count : (end : Done) → length actors ≡ PROCESSES → HasShares was new end → CanCount waiting end
  can_count (done.Answered number) all shares = omega (arith, counted, here, shares)
  can_count (done.Began number) all shares = omega (arith, counted, all, passing_le waits actors)
  can_count done.Acted all shares = omega (arith, counted, all, passing_le waits actors)
  can_count done.Unheard all shares = omega (arith, counted, all, passing_le waits actors)
  can_count done.Stopped all shares = omega (arith, counted, all, passing_le waits actors)
  can_count done.Left all shares = omega (arith, counted, all, passing_le waits actors)
