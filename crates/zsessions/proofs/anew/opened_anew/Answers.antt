use Rattle.std.proofs.Common.{◌≡◌, length, rules, sym, ap, ◌∙◌, arith}
use mathlib.Core.Path.{subst}
use Rattle.std.specs.FinMap.{get, insert}
use Rattle.std.specs.Map.Iter.{deref_pair}
use Rattle.std.proofs.lemmas.Map.Iter.{rest_more, rest_all}
use Rattle.zsessions.specs.support.Rows.{IdEntries}
use Rattle.zsessions.proofs.Reopened.{Left, left-all, left-none, not_open, left-skipped, left-opened}
use Rattle.zsessions.proofs.anew.opened_anew.Goals as goal

pub loop-number-init : goal.loop-number-init
loop-number-init c =
    let ids = c.args.ids.now.entries in
    let all : c.into_iter-number-iterator.result ≡ ids = search rules in
    let longer = ap (λ (es : IdEntries). length es) all in
    let given = c.new-copy.ensures.given in
    record {
      left = subst (Left ids c.args.rows.now.items c.new-copy.result.sessions) (sym all) (left-all ids c.args.rows.now.items c.keeps_unique.ensures.unique c.new-copy.result.sessions c.new-copy.ensures.sessions);
      few = omega (arith, longer, given);
    }

pub open-requires : goal.open-requires
open-requires c =
    let ids = c.args.ids.now.entries in
    let rows = c.args.rows.now.items in
    let n = c.in-Some.number.now in
    let id = c.in-Some.at.now in
    let rest = c.next.new.self in
    let is = rest_more deref_pair c.loop-number.number-iterator rest c.next.result (c.in-Some.number, c.in-Some.at) c.in-Some.is c.next.ensures.steps in
    let before = subst (Left ids rows c.loop-number.copy.sessions) is c.loop-number.invariant.left in
    let few = c.loop-number.invariant.few in
    let fewer = c.keeps_unique.ensures.few in
    record {
      free = ap (get c.loop-number.copy.sessions) c.new.ensures ∙ not_open ids rows c.loop-number.copy.sessions n id rest before;
      given = omega (arith, few, fewer);
    }

pub loop-number-preserved : goal.loop-number-preserved
loop-number-preserved c =
    let ids = c.args.ids.now.entries in
    let rows = c.args.rows.now.items in
    let n = c.in-Some.number.now in
    let id = c.in-Some.at.now in
    let rest = c.next.new.self in
    let is = rest_more deref_pair c.loop-number.number-iterator rest c.next.result (c.in-Some.number, c.in-Some.at) c.in-Some.is c.next.ensures.steps in
    let before = subst (Left ids rows c.loop-number.copy.sessions) is c.loop-number.invariant.left in
    let longer = ap (λ (es : IdEntries). length es) is in
    let few = c.loop-number.invariant.few in
    let more = c.open.ensures.given in
    record {
      left = left-opened ids rows c.loop-number.copy.sessions n id rest before c.in-Some-session_of.session c.open.new.self.sessions (sym c.session_of.ensures ∙ c.in-Some-session_of.is) (c.in_ok-open.ensures.sessions ∙ ap (λ k. insert c.loop-number.copy.sessions k c.in-Some-session_of.session) c.new.ensures);
      few = omega (arith, longer, few, more);
    }

pub loop-number-preserved-in_default : goal.loop-number-preserved-in_default
loop-number-preserved-in_default c =
    let ids = c.args.ids.now.entries in
    let rows = c.args.rows.now.items in
    let n = c.in-Some.number.now in
    let id = c.in-Some.at.now in
    let rest = c.next.new.self in
    let is = rest_more deref_pair c.loop-number.number-iterator rest c.next.result (c.in-Some.number, c.in-Some.at) c.in-Some.is c.next.ensures.steps in
    let before = subst (Left ids rows c.loop-number.copy.sessions) is c.loop-number.invariant.left in
    let longer = ap (λ (es : IdEntries). length es) is in
    let few = c.loop-number.invariant.few in
    record {
      left = left-skipped ids rows c.loop-number.copy.sessions n id rest before (sym c.session_of.ensures ∙ c.in_default.is);
      few = omega (arith, longer, few);
    }

pub returns-clause-sessions : goal.returns-clause-sessions
returns-clause-sessions c =
    let ids = c.args.ids.now.entries in
    let rows = c.args.rows.now.items in
    let is = rest_all deref_pair c.loop-number.number-iterator c.next.new.self c.next.result c.in-None.is c.next.ensures.steps in
    left-none ids rows c.loop-number.copy.sessions (subst (Left ids rows c.loop-number.copy.sessions) is c.loop-number.invariant.left)
