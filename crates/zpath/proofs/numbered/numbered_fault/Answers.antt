use Rattle.std.proofs.Common.{[], ◌∷◌, refl, sym, ◌∙◌}
use Rattle.zpath.specs.declared.limits.TheConstants.{MAX_NAME_LEN, MAX_TEXT_LEN}
use Rattle.zpath.proofs.Family.{IsPath-front}
use Rattle.zpath.proofs.NameTests.{above, not_above}
use Rattle.zpath.proofs.Sequence.{numbered_fault-lengths}
use Rattle.zpath.proofs.numbered.numbered_fault.Goals as goal

pub child_len-requires : goal.child_len-requires
child_len-requires c = IsPath-front c.args.front.now (c.args.last.now ∷ []) c.requires

pub returns-then-as_str-gt-MAX_NAME_LEN : goal.returns-then-as_str-gt-MAX_NAME_LEN
returns-then-as_str-gt-MAX_NAME_LEN c = λ counter.
    let long = above MAX_NAME_LEN _ (rw c.as_str.ensures.text at c.if-as_str-gt-MAX_NAME_LEN.true) in
    sym (numbered_fault-lengths c.args.front.now c.args.last.now c.requires counter ∙ rw long refl)

pub returns-then-child_len-gt-MAX_TEXT_LEN : goal.returns-then-child_len-gt-MAX_TEXT_LEN
returns-then-child_len-gt-MAX_TEXT_LEN c = λ counter.
    let short = not_above MAX_NAME_LEN _ (rw c.as_str.ensures.text at c.if-as_str-gt-MAX_NAME_LEN.false) in
    let over = above MAX_TEXT_LEN _ (rw c.child_len.ensures at c.if-child_len-gt-MAX_TEXT_LEN.true) in
    sym (numbered_fault-lengths c.args.front.now c.args.last.now c.requires counter ∙ rw (short, over) refl)

pub returns-else-child_len-gt-MAX_TEXT_LEN : goal.returns-else-child_len-gt-MAX_TEXT_LEN
returns-else-child_len-gt-MAX_TEXT_LEN c = λ counter.
    let short = not_above MAX_NAME_LEN _ (rw c.as_str.ensures.text at c.if-as_str-gt-MAX_NAME_LEN.false) in
    let fits = not_above MAX_TEXT_LEN _ (rw c.child_len.ensures at c.if-child_len-gt-MAX_TEXT_LEN.false) in
    sym (numbered_fault-lengths c.args.front.now c.args.last.now c.requires counter ∙ rw (short, fits) refl)
