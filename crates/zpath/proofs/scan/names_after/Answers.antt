use Rattle.std.proofs.Common.{sym, ◌∙◌, append_assoc, rules, refl}
use Rattle.zpath.proofs.Splits.{parts_of-cut, parts_of-uncut, names_of-some}
use Rattle.zpath.proofs.scan.names_after.Goals as goal

pub push_name-requires : goal.push_name-requires
push_name-requires c =
    let cut = parts_of-cut _ _ _ c.split_once.ensures.cases c.in-Some.is in
    (rw cut at c.loop-name.invariant.ahead).0

pub loop-name-init : goal.loop-name-init
loop-name-init c =
    let is = names_of-some _ (sym c.if-is_empty.ensures) in
    record { text = search rules; so_far = rw c.new-names.ensures.items refl; ahead = rw is at c.requires }

pub loop-name-preserved : goal.loop-name-preserved
loop-name-preserved c =
    let cut = parts_of-cut _ _ _ c.split_once.ensures.cases c.in-Some.is in
    let so_far = rw cut at c.loop-name.invariant.so_far in
    record {
      text = search rules;
      so_far = rw (c.in_ok-push_name.ensures, append_assoc) so_far;
      ahead = (rw cut at c.loop-name.invariant.ahead).1;
    }

pub push_name-requires-2 : goal.push_name-requires-2
push_name-requires-2 c =
    let last = parts_of-uncut _ _ c.split_once.ensures.cases c.in_default.is in
    (rw last at c.loop-name.invariant.ahead).0

pub returns : goal.returns
returns c =
    let last = parts_of-uncut _ _ c.split_once.ensures.cases c.in_default.is in
    let so_far = rw last at c.loop-name.invariant.so_far in
    rw c.in_ok-push_name-2.ensures (so_far ∙ sym (names_of-some _ (sym c.if-is_empty.ensures)))
