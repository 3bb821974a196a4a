-- A server that is gone stays so, and is skipped.
use Rattle.std.proofs.Common.{◌≡◌, ℕ, zero, suc, ◌-◌, ◌<◌, Bool, true, false, cond, not, ◌&&◌, ◌==◌, nat_le, List, [], ◌∷◌, ◌++◌, length, get_or, refl, sym, ap, ◌∙◌, arith, length-append}
use Rattle.std.specs.Prelude.{slice_set}
use Rattle.std.proofs.lemmas.Bool.Decides.{nat_tests}
use mathlib.Core.Bool.{true≢false}
use Rattle.zmaster_log.specs.declared.entry.LogEntry.{LogEntry}
use Rattle.zmaster_log.specs.declared.entry.LogEntry.TheVariants as log
use Rattle.zmaster_log.specs.declared.entry.Report.{Report}
use Rattle.zmaster_log.specs.declared.entry.News.{News}
use Rattle.zmaster_log.specs.declared.entry.News.TheVariants as news
use Rattle.zmaster_log.specs.Log.{MembershipView, Played, is_live, is_next, count_of, subject_of, gone_after, may_join, joins, may_retire, retires, takes, join_played, retire_played, report_played, plays, plays_all, skipped}
use Rattle.zmaster_log.proofs.Flags.{left, right, together}
use Rattle.zmaster_log.specs.Laws.{is_gone, gone_report, ReportsEndServers, LateReportsAreSkipped, GoneIsTakenOnce}

-- ---- flags

-- a flag that is set stays so
still_set : (flags : List Bool) (i j : ℕ) → get_or flags j false ≡ true → get_or (slice_set flags i true) j false ≡ true
still_set [] i j is = is
still_set (flag ∷ flags) zero zero is = refl
still_set (flag ∷ flags) zero (suc j) is = is
still_set (flag ∷ flags) (suc i) zero is = is
still_set (flag ∷ flags) (suc i) (suc j) is = still_set flags i j is

-- a flag is set by setting it
now_set : (flags : List Bool) (i : ℕ) → i < length flags → get_or (slice_set flags i true) i false ≡ true
now_set [] i within = absurd (omega arith)
now_set (flag ∷ flags) zero within = refl
now_set (flag ∷ flags) (suc i) within = now_set flags i (omega arith)

-- ---- the server that is gone

-- its number is one of those given, and it is marked
has_number : (m : MembershipView) (s : ℕ) → is_gone m s ≡ true → nat_le s (length m.nodes) ≡ true
has_number m s is = left (nat_le s (length m.nodes)) (get_or m.gone (s - 1) false) is

is_marked : (m : MembershipView) (s : ℕ) → is_gone m s ≡ true → get_or m.gone (s - 1) false ≡ true
is_marked m s is = right (nat_le s (length m.nodes)) (get_or m.gone (s - 1) false) is

-- it isn't live
not_live : (m : MembershipView) (s : ℕ) → is_gone m s ≡ true → is_live m s ≡ false
not_live m s is = by (nat_le s (length m.nodes)) (get_or m.gone (s - 1) false) (is_marked m s is)
  where
    by : (a b : Bool) → b ≡ true → (a && not b) ≡ false
    by true true is = refl
    by false b is = refl
    by true false is = absurd (true≢false (sym is))

no_report : (T : Type 0) (m : MembershipView) (r : Report) → is_next m r ≡ false → report_played {T = T} m r ≡ skipped m
unfolding report_played
no_report T m r not_next = rw not_next refl

author_gone : (m : MembershipView) (r : Report) → is_live m r.author ≡ false → is_next m r ≡ false
author_gone m r gone = rw gone refl

subject_gone : (m : MembershipView) (r : Report) → is_live m (subject_of r.author r.news) ≡ false → is_next m r ≡ false
subject_gone m r gone = rw gone (none (is_live m r.author && count_of m r.author == r.earlier))
  where
    none : (a : Bool) → (a && false) ≡ false
    none true = refl
    none false = refl

-- ---- one entry

more_nodes : (s : ℕ) (nodes : List (List ℕ)) (node : List ℕ) → nat_le s (length nodes) ≡ true → nat_le s (length (nodes ++ node ∷ [])) ≡ true
more_nodes s nodes node is = let more = length-append nodes (node ∷ []) in grind (arith, nat_tests, is, more)

gone_by_news : (gone : List Bool) (report : News) (j : ℕ) → get_or gone j false ≡ true → get_or (gone_after gone report) j false ≡ true
gone_by_news gone (news.Have epoch last) j is = is
gone_by_news gone (news.Joined epoch) j is = is
gone_by_news gone (news.Gone s) j is = still_set gone (s - 1) j is

module _ (T : Type 0) where
  -- the part of what an entry does that is left in place
  stays : (m : MembershipView) (s : ℕ) (test : Bool) (other : Played T) → is_gone m s ≡ true → is_gone other.0 s ≡ true
      → is_gone (cond test other (skipped m)).0 s ≡ true
  stays m s true other is then = then
  stays m s false other is then = is

  pub gone_stays : (m : MembershipView) (entry : LogEntry) (s : ℕ) → is_gone m s ≡ true → is_gone (plays {T = T} m entry).0 s ≡ true
  unfolding join_played retire_played report_played
  gone_stays m (log.Opening nodes) s is = is
  gone_stays m (log.Join t node) s is =
      stays m s (may_join m t) (joins m t node) is (together (nat_le s (length (m.nodes ++ node ∷ []))) (get_or m.gone (s - 1) false) (more_nodes s m.nodes node (has_number m s is)) (is_marked m s is))
  gone_stays m (log.Retire t) s is = stays m s (may_retire m t) (retires m t) is is
  gone_stays m (log.Reported r) s is =
      stays m s (is_next m r) (takes m r) is (together (nat_le s (length m.nodes)) (get_or (gone_after m.gone r.news) (s - 1) false) (has_number m s is) (gone_by_news m.gone r.news (s - 1) (is_marked m s is)))

  pub gone_stays_along : (m : MembershipView) (entries : List LogEntry) (s : ℕ) → is_gone m s ≡ true
      → is_gone (plays_all {T = T} m entries).0 s ≡ true
  gone_stays_along m [] s is = is
  gone_stays_along m (entry ∷ entries) s is = gone_stays_along (plays {T = T} m entry).0 entries s (gone_stays m entry s is)

  pub reports_end : ReportsEndServers T
  unfolding report_played
  reports_end m author earlier s some within next =
      let live : is_live m s ≡ true = right (is_live m author && count_of m author == earlier) (is_live m s) next in
      let number : nat_le s (length m.nodes) ≡ true = left (nat_le s (length m.nodes)) (not (get_or m.gone (s - 1) false)) live in
      let inside : s - 1 < length m.gone = omega (arith, some, within) in
      let marked : get_or (slice_set m.gone (s - 1) true) (s - 1) false ≡ true = now_set m.gone (s - 1) inside in
      rw next (together (nat_le s (length m.nodes)) (get_or (slice_set m.gone (s - 1) true) (s - 1) false) number marked)

  pub late_are_skipped : LateReportsAreSkipped T
  late_are_skipped m s entries r is of =
      let later = (plays_all {T = T} m entries).0 in
      let gone : is_live later r.author ≡ false = ap (is_live later) of ∙ not_live later s (gone_stays_along m entries s is) in
      no_report T later r (author_gone later r gone)

  pub taken_once : GoneIsTakenOnce T
  taken_once m author earlier s entries is =
      let later = (plays_all {T = T} m entries).0 in
      no_report T later (gone_report author earlier s) (subject_gone later (gone_report author earlier s) (not_live later s (gone_stays_along m entries s is)))
