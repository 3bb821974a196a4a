use Rattle.std.proofs.Common.{◌≡◌, Ok, false, not, refl, sym, ap, subst, ◌∙◌, arith, inr, IfOk, IfErr}
use Rattle.std.proofs.lemmas.Str.{IsUtf8-from_ascii}
use Rattle.std.proofs.lemmas.Bool.Decides.{nat_tests}
use Rattle.zscript_text.specs.declared.line.Line.{Line}
use Rattle.zscript_text.specs.LineWords.{is_long, words_of}
use Rattle.zscript_text.specs.Line.{line_of, line_in}
use Rattle.zscript_text.specs.Request.{Read, IsUnread}
use Rattle.zscript_text.proofs.Numerals.{ascii_of_plain}
use Rattle.zscript_text.proofs.Spacing.{is_malformed-spaced, spaced_is_plain}
use Rattle.zscript_text.proofs.line_reading.read_line.Goals as goal

pub returns-then-not-is_spaced-clause-fault : goal.returns-then-not-is_spaced-clause-fault
unfolding line_of
returns-then-not-is_spaced-clause-fault c =
    let line = c.args.line.now in
    let short : is_long line ≡ false = grind (arith, nat_tests) in
    let malformed = is_malformed-spaced line short ∙ ap not (sym c.if-not-is_spaced.ensures) in
    rw malformed (inr refl)

pub unreachable-requires : goal.unreachable-requires
unreachable-requires c =
    let line = c.args.line.now in
    c.in_default.ensures.cases.0 (IsUtf8-from_ascii line (ascii_of_plain line (spaced_is_plain line c.if-not-is_spaced.ensures)))

pub returns-clause-found : goal.returns-clause-found
unfolding line_of
returns-clause-found c =
    let line = c.args.line.now in
    let short : is_long line ≡ false = grind (arith, nat_tests) in
    let well_formed = is_malformed-spaced line short ∙ ap not (sym c.if-not-is_spaced.ensures) in
    let read : line_of line ≡ line_in c.new.result = rw well_formed (ap line_in (sym (c.new.ensures ∙ ap words_of c.in-Ok.ensures.cases.0))) in
    subst (λ (read : Read Line). IfOk c.read_words.result (λ asked. read ≡ Ok asked)) (sym read) c.read_words.ensures.found

pub returns-clause-fault : goal.returns-clause-fault
unfolding line_of
returns-clause-fault c =
    let line = c.args.line.now in
    let short : is_long line ≡ false = grind (arith, nat_tests) in
    let well_formed = is_malformed-spaced line short ∙ ap not (sym c.if-not-is_spaced.ensures) in
    let read : line_of line ≡ line_in c.new.result = rw well_formed (ap line_in (sym (c.new.ensures ∙ ap words_of c.in-Ok.ensures.cases.0))) in
    subst (λ (read : Read Line). IfErr c.read_words.result (IsUnread read)) (sym read) c.read_words.ensures.fault
