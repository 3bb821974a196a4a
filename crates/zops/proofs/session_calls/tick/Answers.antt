use Rattle.std.proofs.Common.{◌≡◌, ◌+◌, ◌||◌, Bool, true, false, not, length, refl, ap, sym, subst, ◌∙◌, arith}
use Rattle.std.specs.Prelude.{nat_lt}
use Rattle.ztree.specs.Tree.{Tree, with_next_zxid}
use Rattle.ztree.specs.Sessions.{without_sessions, with_next_tick}
use Rattle.ztree.proofs.Ending.{none_due, sessions-all_dropped, time-all_dropped, time-all_ended}
use Rattle.zcalls.specs.declared.reply.Reply.TheVariants.{Ticked}
use Rattle.zcalls.specs.Step.{after_tick, counted_if, is_busy, due_next, stale_next}
use Rattle.zcalls.specs.Bounds.{IsBounded}
use Rattle.zcalls.proofs.Ends.{all_ended-ends}
use Rattle.zcalls.proofs.Ticks.{gone-ends}
use Rattle.zcalls.proofs.Timed.{ticked_bounded, idle_bounded}
use Rattle.zops.proofs.Ticking.{ticking}
use Rattle.zops.proofs.session_calls.tick.Goals as goal

turned : (b : Bool) → not b ≡ false → b ≡ true
turned true e = refl
turned false e = cc

turned-back : (b : Bool) → not b ≡ true → b ≡ false
turned-back true e = cc
turned-back false e = refl

pub remove_all-requires-clause-named : goal.remove_all-requires-clause-named
remove_all-requires-clause-named c =
    (ticking c.args.store.now c.end_all.new.store c.now-next.result c.in_ok-due.due.items c.in-Ok.stale.items c.keeps_lawful.ensures c.now-next.ensures c.in_ok-due.ensures c.in-Ok.ensures
    c.end_all.ensures.tree c.end_all.ensures.still).can

pub remove_all-requires-clause-room : goal.remove_all-requires-clause-room
remove_all-requires-clause-room c =
    (ticking c.args.store.now c.end_all.new.store c.now-next.result c.in_ok-due.due.items c.in-Ok.stale.items c.keeps_lawful.ensures c.now-next.ensures c.in_ok-due.ensures c.in-Ok.ensures
    c.end_all.ensures.tree c.end_all.ensures.still).room
    c.requires.ready.steady.bounded c.requires.ready.zxid

pub remove_all-requires-clause-zxid : goal.remove_all-requires-clause-zxid
remove_all-requires-clause-zxid c = rw (c.end_all.ensures.tree, (all_ended-ends c.in_ok-due.due.items c.args.store.now.tree).zxid) c.requires.ready.zxid

pub advance-requires-clause-none_due : goal.advance-requires-clause-none_due
advance-requires-clause-none_due c =
    let t = c.args.store.now.tree in
    let known =
    ticking c.args.store.now c.end_all.new.store c.now-next.result c.in_ok-due.due.items c.in-Ok.stale.items c.keeps_lawful.ensures c.now-next.ensures c.in_ok-due.ensures c.in-Ok.ensures
    c.end_all.ensures.tree c.end_all.ensures.still in
    let ended = without_sessions t (due_next t) in
    rw (known.gone c.remove_all.new.store c.remove_all.ensures.tree, sessions-all_dropped ended (stale_next t), time-all_dropped ended (stale_next t), time-all_ended t (due_next t)) (none_due t (t.time + 1))

pub advance-requires-clause-ticks : goal.advance-requires-clause-ticks
advance-requires-clause-ticks c =
    let t = c.args.store.now.tree in
    let known =
    ticking c.args.store.now c.end_all.new.store c.now-next.result c.in_ok-due.due.items c.in-Ok.stale.items c.keeps_lawful.ensures c.now-next.ensures c.in_ok-due.ensures c.in-Ok.ensures
    c.end_all.ensures.tree c.end_all.ensures.still in
    rw (known.gone c.remove_all.new.store c.remove_all.ensures.tree, (gone-ends (due_next t) (stale_next t) t).time) c.requires.time

pub raise-requires : goal.raise-requires
raise-requires c =
    let t = c.args.store.now.tree in
    let known =
    ticking c.args.store.now c.end_all.new.store c.now-next.result c.in_ok-due.due.items c.in-Ok.stale.items c.keeps_lawful.ensures c.now-next.ensures c.in_ok-due.ensures c.in-Ok.ensures
    c.end_all.ensures.tree c.end_all.ensures.still in
    rw (c.advance.ensures.tree, known.gone c.remove_all.new.store c.remove_all.ensures.tree, (gone-ends (due_next t) (stale_next t) t).zxid) c.requires.ready.zxid

pub returns-then-is_idle-clause-done : goal.returns-then-is_idle-clause-done
returns-then-is_idle-clause-done c =
    let t = c.args.store.now.tree in
    let known =
    ticking c.args.store.now c.end_all.new.store c.now-next.result c.in_ok-due.due.items c.in-Ok.stale.items c.keeps_lawful.ensures c.now-next.ensures c.in_ok-due.ensures c.in-Ok.ensures
    c.end_all.ensures.tree c.end_all.ensures.still in
    let now = c.advance.ensures.tree ∙ ap with_next_tick (known.gone c.remove_all.new.store c.remove_all.ensures.tree) in
    let ended : c.len-ended.result ≡ length (due_next t) = c.len-ended.ensures ∙ c.in_ok-due.due.ok.0 ∙ ap length known.due_is in
    let removed : c.len-removed.result ≡ length (stale_next t) = c.len-removed.ensures ∙ c.in-Ok.stale.ok.0 ∙ known.count in
    let time : c.now.result ≡ t.time + 1 = c.now.ensures ∙ ap (λ (u : Tree). u.time) now ∙ ap (λ time. time + 1) (gone-ends (due_next t) (stale_next t) t).time in
    let idle : is_busy (due_next t) (stale_next t) ≡ false = (λ i. nat_lt 0 (sym ended i) || nat_lt 0 (sym removed i)) ∙ turned-back _ (sym c.is_idle.ensures ∙ c.if-is_idle.true) in
    (λ i. (now i, Ticked (time i) (ended i) (removed i)))
    ∙ ap (λ b. (counted_if b (after_tick t (due_next t) (stale_next t)), Ticked (t.time + 1) (length (due_next t)) (length (stale_next t)))) (sym idle)

pub returns-then-is_idle-clause-left : goal.returns-then-is_idle-clause-left
returns-then-is_idle-clause-left c =
    let t = c.args.store.now.tree in
    let known =
    ticking c.args.store.now c.end_all.new.store c.now-next.result c.in_ok-due.due.items c.in-Ok.stale.items c.keeps_lawful.ensures c.now-next.ensures c.in_ok-due.ensures c.in-Ok.ensures
    c.end_all.ensures.tree c.end_all.ensures.still in
    let now = c.advance.ensures.tree ∙ ap with_next_tick (known.gone c.remove_all.new.store c.remove_all.ensures.tree) in
    let ended : c.len-ended.result ≡ length (due_next t) = c.len-ended.ensures ∙ c.in_ok-due.due.ok.0 ∙ ap length known.due_is in
    let removed : c.len-removed.result ≡ length (stale_next t) = c.len-removed.ensures ∙ c.in-Ok.stale.ok.0 ∙ known.count in
    let idle : is_busy (due_next t) (stale_next t) ≡ false = (λ i. nat_lt 0 (sym ended i) || nat_lt 0 (sym removed i)) ∙ turned-back _ (sym c.is_idle.ensures ∙ c.if-is_idle.true) in
    record {
      bounded = subst IsBounded (sym now) (idle_bounded t (due_next t) (stale_next t) c.requires.ready.steady.bounded idle c.requires.time);
      given = let a = c.advance.ensures.same.1 in let b = c.remove_all.ensures.given in let d = c.end_all.ensures.given in omega (arith, a, b, d);
    }

pub returns-clause-left : goal.returns-clause-left
returns-clause-left c =
    let t = c.args.store.now.tree in
    let known =
    ticking c.args.store.now c.end_all.new.store c.now-next.result c.in_ok-due.due.items c.in-Ok.stale.items c.keeps_lawful.ensures c.now-next.ensures c.in_ok-due.ensures c.in-Ok.ensures
    c.end_all.ensures.tree c.end_all.ensures.still in
    let now = c.raise.ensures.tree ∙ ap (λ (u : Tree). with_next_zxid u) (c.advance.ensures.tree ∙ ap with_next_tick (known.gone c.remove_all.new.store c.remove_all.ensures.tree)) in
    record {
      bounded = subst IsBounded (sym now) (ticked_bounded t (due_next t) (stale_next t) c.requires.ready.steady.bounded c.keeps_lawful.ensures known.all c.requires.ready.zxid c.requires.time);
      given = let a = c.raise.ensures.same.1 in let b = c.advance.ensures.same.1 in let d = c.remove_all.ensures.given in let e = c.end_all.ensures.given in omega (arith, a, b, d, e);
    }

pub returns-clause-done : goal.returns-clause-done
returns-clause-done c =
    let t = c.args.store.now.tree in
    let known =
    ticking c.args.store.now c.end_all.new.store c.now-next.result c.in_ok-due.due.items c.in-Ok.stale.items c.keeps_lawful.ensures c.now-next.ensures c.in_ok-due.ensures c.in-Ok.ensures
    c.end_all.ensures.tree c.end_all.ensures.still in
    let now = c.raise.ensures.tree ∙ ap (λ (u : Tree). with_next_zxid u) (c.advance.ensures.tree ∙ ap with_next_tick (known.gone c.remove_all.new.store c.remove_all.ensures.tree)) in
    let ended : c.len-ended.result ≡ length (due_next t) = c.len-ended.ensures ∙ c.in_ok-due.due.ok.0 ∙ ap length known.due_is in
    let removed : c.len-removed.result ≡ length (stale_next t) = c.len-removed.ensures ∙ c.in-Ok.stale.ok.0 ∙ known.count in
    let time : c.now-2.result ≡ t.time + 1 = c.now-2.ensures ∙ ap (λ (u : Tree). u.time) now ∙ ap (λ time. time + 1) (gone-ends (due_next t) (stale_next t) t).time in
    let busy : is_busy (due_next t) (stale_next t) ≡ true = (λ i. nat_lt 0 (sym ended i) || nat_lt 0 (sym removed i)) ∙ turned _ (sym c.is_idle.ensures ∙ c.if-is_idle.false) in
    (λ i. (now i, Ticked (time i) (ended i) (removed i)))
    ∙ ap (λ b. (counted_if b (after_tick t (due_next t) (stale_next t)), Ticked (t.time + 1) (length (due_next t)) (length (stale_next t)))) (sym busy)
