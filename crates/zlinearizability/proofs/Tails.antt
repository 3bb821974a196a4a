-- At most one live server is a tail, the log of each member begins that of the one before it, and tails hold what is
-- committed.
use Rattle.std.specs.Prelude.{◌&&◌, is_none, is_some, if◌then◌else◌}
use Rattle.std.specs.Option.{option_map}
use Rattle.std.proofs.Common.{◌≡◌, ℕ, Bool, true, false, List, ◌++◌, Option, Some, None, refl, sym, ap, ◌∙◌, subst, inl, inr}
use Rattle.zcalls.specs.declared.call.Entry.{Entry}
use Rattle.zcalls.specs.Lists.{ComesBefore}
use Rattle.zcalls.specs.PlainTree.{plain_tree}
use Rattle.zcalls.proofs.ActedLogs.{acted_entries_once}
use Rattle.zprotocol.specs.server.Machine.{cached_tree, replay}
use Rattle.zprotocol.specs.server.View.{ServerView, is_tail, spare}
use Rattle.zprotocol.specs.server.support.Homomorphism.{view_with}
use Rattle.zprotocol.proofs.server_lemmas.Projection.{log_stands_for_machine}
use Rattle.zprotocol.specs.master.View.{members}
use Rattle.zprotocol.specs.world.World.{World, opening_world}
use Rattle.zprotocol.specs.world.Events.{let_go, run}
use Rattle.zprotocol.specs.world.support.LogWorld.{world_with}
use Rattle.zprotocol.proofs.world_lemmas.LogWorlds.{runs_with}
use Rattle.zlinearizability.specs.legal.Prefix.{IsPrefix}
use Rattle.zlinearizability.proofs.legal_lemmas.lists.Tests.{left_of, right_of}
use Rattle.zlinearizability.proofs.legal_lemmas.lists.Places.{two_places}
use Rattle.zlinearizability.proofs.legal_lemmas.lists.Prefixes.{prefix_of}
use Rattle.zlinearizability.specs.chain.Flow.{LogWorld, Log, log_at}
use Rattle.zlinearizability.specs.chain.Account.{Account}
use Rattle.zlinearizability.specs.chain.Sound.{IsSound}
use Rattle.zlinearizability.proofs.chain_lemmas.places.Pairs.{log_member}
use Rattle.zlinearizability.proofs.chain_lemmas.steps.Sends.{final_log_of_log}
use Rattle.zlinearizability.specs.Facts.{account_of, OneTailAnswers, LogsBeginEachOther, TailsHoldWhatTailsHeld, UpdatesActOnce}
use Rattle.zlinearizability.proofs.Runs.{run_world, every_run_is_sound, committed_stays}

-- who is before a member with a log has a successor, and a log that extends the member's
record IsLonger (w : LogWorld) (x : ℕ) (log : List Entry) : Type 0 where
  pub own : List Entry
  pub holds : log_at w x ≡ Some own
  pub begins : IsPrefix log own
  pub has_successor : is_none (w.servers x).succ ≡ false

longer : (t : Account) → IsSound plain_tree t → (x y : ℕ) (log : List Entry) → ComesBefore x y (members t.world.master) → log_at t.world y ≡ Some log
    → IsLonger t.world x log
longer t s x y log before has =
    let more = final_log_of_log t.world y log has in
    let ahead = s.ordered x y before more.0 more.1 in
    record { own = ahead.own; holds = ahead.holds; begins = prefix_of log more.0 ahead.own more.2 ahead.begins; has_successor = ahead.has_successor }

-- so of the logs of members
pub logs_begin_each_other : LogsBeginEachOther
logs_begin_each_other servers clients events x y log before has =
    let m = longer (account_of servers clients events) (every_run_is_sound servers clients events) x y log before has in
    (m.own, m.holds, m.begins)

-- a tail has a log
log_of_tail : (v : ServerView (List Entry)) → is_tail v ≡ true → (log : List Entry) × (v.machine ≡ Some log)
log_of_tail v is = by v.machine refl
  where
    by : (machine : Log) → v.machine ≡ machine → (log : List Entry) × (v.machine ≡ Some log)
    by None none = absurd (let no : ◌≡◌ {A = Bool} false true = sym (ap is_some none) ∙ left_of (is_some v.machine) (is_none v.succ) is in cc no)
    by (Some log) has = (log, has)

no_successor : (v : ServerView (List Entry)) → is_tail v ≡ true → is_none v.succ ≡ true
no_successor v is = right_of (is_some v.machine) (is_none v.succ) is

one_tail : (t : Account) → IsSound plain_tree t → (x y : ℕ) → t.world.failed x ≡ false → t.world.failed y ≡ false
    → is_tail (t.world.servers x) ≡ true → is_tail (t.world.servers y) ≡ true → x ≡ y
one_tail t s x y x_lives y_lives x_tail y_tail =
    let x_log = log_of_tail (t.world.servers x) x_tail in
    let y_log = log_of_tail (t.world.servers y) y_tail in
    elim (two_places x y (members t.world.master) (log_member t.world s.blank s.live x x_lives x_log.0 x_log.1)
    (log_member t.world s.blank s.live y y_lives y_log.0 y_log.1)) [
      | inl same ↦ same
      | inr p ↦ elim p [
        | inl before ↦ absurd (let some = (longer t s x y y_log.0 before y_log.1).has_successor in cc (some, no_successor (t.world.servers x) x_tail))
        | inr before ↦ absurd (let some = (longer t s y x x_log.0 before x_log.1).has_successor in cc (some, no_successor (t.world.servers y) y_tail))
      ]
    ]

-- a view over a tree is that of a tail where the view over the log is
tail_with : {M N : Type 0} (h : M → N) (v : ServerView M) → is_tail (view_with h v) ≡ is_tail v
tail_with h v = ap (λ b. b && is_none v.succ) (by v.machine)
  where
    by : (machine : Option _) → is_some (option_map h machine) ≡ is_some machine
    by None = refl
    by (Some m) = refl

-- a tail of a world that lets go of what failed servers held is alive, and is a tail where that is
-- preserved
lives_as_tail : (w : LogWorld) (x : ℕ) → is_tail (view_with (replay cached_tree) ((let_go w).servers x)) ≡ true
    → (w.failed x ≡ false) × (is_tail (w.servers x) ≡ true)
lives_as_tail w x is = by (w.failed x) refl
  where
    so : (b : Bool) → w.failed x ≡ b → is_tail (view_with (replay cached_tree) (if b then spare else w.servers x)) ≡ true
    so b has = sym (ap (λ c. is_tail (view_with (replay cached_tree) (if c then spare else w.servers x))) has) ∙ is

    by : (b : Bool) → w.failed x ≡ b → (w.failed x ≡ false) × (is_tail (w.servers x) ≡ true)
    by true has = absurd (let no : ◌≡◌ {A = Bool} false true = so true has in cc no)
    by false lives = (lives, sym (tail_with (replay cached_tree) (w.servers x)) ∙ so false lives)

-- the world over trees
pub one_tail_answers : OneTailAnswers
one_tail_answers servers clients events s t =
    let kept = (account_of servers clients events).world in
    let world : run cached_tree (opening_world cached_tree servers clients) events ≡ world_with (replay cached_tree) (let_go kept) =
    runs_with (replay cached_tree) (log_stands_for_machine cached_tree) servers clients events
    ∙ ap (world_with (replay cached_tree)) (run_world plain_tree servers clients events) in
    subst (λ (w : World _). is_tail (w.servers s) ≡ true → is_tail (w.servers t) ≡ true → s ≡ t) (sym world)
    (λ s_tail t_tail.
    let first = lives_as_tail kept s s_tail in
    let second = lives_as_tail kept t t_tail in
    one_tail (account_of servers clients events) (every_run_is_sound servers clients events) s t first.0 second.0 first.1 second.1)

-- a live tail holds the committed log
holds_committed : (t : Account) → IsSound plain_tree t → (x : ℕ) (log : List Entry) → t.world.failed x ≡ false → is_tail (t.world.servers x) ≡ true
    → log_at t.world x ≡ Some log → log ≡ t.committed
holds_committed t s x log lives tail has =
    s.tail x log (log_member t.world s.blank s.live x lives log has) has (no_successor (t.world.servers x) tail)

-- and the committed log only grows
pub tails_hold_what_tails_held : TailsHoldWhatTailsHeld
tails_hold_what_tails_held servers clients events more s t old log s_lives s_tail s_has t_lives t_tail t_has =
    let v = account_of servers clients events in
    let w = account_of servers clients (events ++ more) in
    let was = holds_committed v (every_run_is_sound servers clients events) s old s_lives s_tail s_has in
    let is = holds_committed w (every_run_is_sound servers clients (events ++ more)) t log t_lives t_tail t_has in
    subst (λ a. IsPrefix a log) (sym was) (subst (IsPrefix v.committed) (sym is) (committed_stays servers clients events more))

-- in any log a call acts once
pub updates_act_once : UpdatesActOnce
updates_act_once servers clients events = acted_entries_once plain_tree (account_of servers clients events).committed
