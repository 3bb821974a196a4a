use Rattle.std.proofs.Common.{◌≡◌, ◌-◌, ◌<◌, ◌∷◌, length, get_or, take, subst, sym, ap, ◌∙◌, arith}
use Rattle.std.specs.Str.{IsUtf8}
use Rattle.zscript_text.specs.support.Left.{words_in}
use Rattle.zscript_text.specs.LineWords.{words_of}
use Rattle.zscript_text.proofs.WordEnd.{first_space, cut_word, last_word, behind_space, within_text}
use Rattle.zscript_text.proofs.cursor.Cursor.next.Goals as goal
use Rattle.zscript_text.proofs.cursor.Cursor.next.Goals.{then-loop-end-test+else-bytes-end-ne32, else-loop-end-test}

pub returns-then-end-left-clause-word : goal.returns-then-end-left-clause-word
returns-then-end-left-clause-word c =
    let bytes = c.as_bytes-bytes.result.now in
    let stops : c.loop-end.end < length bytes → get_or bytes c.loop-end.end 0 ≡ 0x20 = elim c.loop-end-test.branch [
      | then-loop-end-test+else-bytes-end-ne32 w ↦ λ _. w.if-bytes-end-ne32.false
      | else-loop-end-test w ↦ λ l. absurd (omega (arith, l, w.loop-end-test.false))
    ] in
    let is = first_space bytes c.in_ok-left.left.now c.loop-end.end c.as_bytes-bytes.ensures.value c.loop-end.invariant.rest stops in
    sym c.self.view_is ∙ ap words_in c.in_ok-left.was ∙ last_word c.in_ok-left.left.now c.loop-end.end is c.if-end-left.true

pub range_from-requires : goal.range_from-requires
range_from-requires c =
    let left = c.in_ok-left.left.now in
    let bytes = c.as_bytes-bytes.result.now in
    let stops : c.loop-end.end < length bytes → get_or bytes c.loop-end.end 0 ≡ 0x20 = elim c.loop-end-test.branch [
      | then-loop-end-test+else-bytes-end-ne32 w ↦ λ _. w.if-bytes-end-ne32.false
      | else-loop-end-test w ↦ λ l. absurd (omega (arith, l, w.loop-end-test.false))
    ] in
    let is = first_space bytes c.in_ok-left.left.now c.loop-end.end c.as_bytes-bytes.ensures.value c.loop-end.invariant.rest stops in
    let utf8 = subst IsUtf8 c.as_bytes-bytes.ensures.value c.as_bytes-bytes.ensures.utf8 in
    λ _. behind_space left c.loop-end.end is utf8 (within_text left c.loop-end.end is c.if-end-left.false)

pub returns-clause-word : goal.returns-clause-word
returns-clause-word c =
    let left = c.in_ok-left.left.now in
    let bytes = c.as_bytes-bytes.result.now in
    let stops : c.loop-end.end < length bytes → get_or bytes c.loop-end.end 0 ≡ 0x20 = elim c.loop-end-test.branch [
      | then-loop-end-test+else-bytes-end-ne32 w ↦ λ _. w.if-bytes-end-ne32.false
      | else-loop-end-test w ↦ λ l. absurd (omega (arith, l, w.loop-end-test.false))
    ] in
    let is = first_space bytes c.in_ok-left.left.now c.loop-end.end c.as_bytes-bytes.ensures.value c.loop-end.invariant.rest stops in
    let cut = cut_word left c.loop-end.end is (within_text left c.loop-end.end is c.if-end-left.false) in
    let whole : c.loop-end.end - 0 ≡ c.loop-end.end = omega arith in
    let front = c.range.ensures.value ∙ ap (λ k. take k left) whole in
    sym c.self.view_is ∙ ap words_in c.in_ok-left.was ∙ cut ∙ (λ i. sym front i ∷ words_of (sym c.range_from.ensures.value i))
