use Rattle.std.proofs.Common.{sym, ◌∙◌}
use mathlib.Core.Bool.{true≢false}
use Rattle.zjournal.proofs.Heads.{no_journal, begins, version_is, given_is, other_version_is_such, other_word, no_other_word, head_damaged, head_whole}
use Rattle.zjournal.proofs.head.check_head.Goals as goal

pub returns-in_default-clause-err : goal.returns-in_default-clause-err
returns-in_default-clause-err c = no_journal c.args.servers c.args.bytes.now c.requires.made c.requires.opened c.in_default.ensures.none

pub returns-then-version-ne-VERSION-clause-err : goal.returns-then-version-ne-VERSION-clause-err
returns-then-version-ne-VERSION-clause-err c =
    let at = begins c.args.bytes.now c.in-Some.rest.now c.in-Some-first.more.now c.in-Some-first-2.last.now c.in-Some-first.version
    c.in-Some-first-2.given c.in-Some.ensures.some c.in-Some-first.ensures.some c.in-Some-first-2.ensures.some in
    other_version_is_such c.args.servers c.in-Some-first.version c.in-Some-first-2.given c.in-Some-first-2.last.now c.args.bytes.now
    c.other_version.result at c.if-version-ne-VERSION.true c.other_version.ensures.old c.other_version.ensures.other

pub returns-then-has_other_word-clause-err : goal.returns-then-has_other_word-clause-err
returns-then-has_other_word-clause-err c =
    let at = begins c.args.bytes.now c.in-Some.rest.now c.in-Some-first.more.now c.in-Some-first-2.last.now c.in-Some-first.version
    c.in-Some-first-2.given c.in-Some.ensures.some c.in-Some-first.ensures.some c.in-Some-first-2.ensures.some in
    let ours = version_is c.in-Some-first.version c.in-Some-first-2.given c.in-Some-first-2.last.now c.args.bytes.now at c.if-version-ne-VERSION.false in
    other_word c.in-Some-first-2.given c.in-Some-first-2.last.now c.args.bytes.now ours (c.has_other_word.ensures.0 c.if-has_other_word.true)

pub returns-then-given-servers-clause-err : goal.returns-then-given-servers-clause-err
returns-then-given-servers-clause-err c =
    let at = begins c.args.bytes.now c.in-Some.rest.now c.in-Some-first.more.now c.in-Some-first-2.last.now c.in-Some-first.version
    c.in-Some-first-2.given c.in-Some.ensures.some c.in-Some-first.ensures.some c.in-Some-first-2.ensures.some in
    let ours = version_is c.in-Some-first.version c.in-Some-first-2.given c.in-Some-first-2.last.now c.args.bytes.now at c.if-version-ne-VERSION.false in (
      c.in-Some-first-2.last.now,
      ours,
      c.if-given-servers.true,
      no_other_word c.in-Some-first-2.given c.in-Some-first-2.last.now c.args.bytes.now ours
          (λ h. true≢false (sym (c.has_other_word.ensures.1 h) ∙ c.if-has_other_word.false)),
    )

pub returns-in-None-clause-err : goal.returns-in-None-clause-err
returns-in-None-clause-err c =
    let at = begins c.args.bytes.now c.in-Some.rest.now c.in-Some-first.more.now c.in-Some-first-2.last.now c.in-Some-first.version
    c.in-Some-first-2.given c.in-Some.ensures.some c.in-Some-first.ensures.some c.in-Some-first-2.ensures.some in
    let ours = version_is c.in-Some-first.version c.in-Some-first-2.given c.in-Some-first-2.last.now c.args.bytes.now at c.if-version-ne-VERSION.false in
    let headed = given_is c.in-Some-first-2.given c.args.servers c.in-Some-first-2.last.now c.args.bytes.now ours c.if-given-servers.false in
    head_damaged c.args.servers c.args.bytes.now c.in-Some-first-2.last.now headed
    (no_other_word c.in-Some-first-2.given c.in-Some-first-2.last.now c.args.bytes.now ours
    (λ h. true≢false (sym (c.has_other_word.ensures.1 h) ∙ c.if-has_other_word.false))) c.in-None.ensures.none

pub returns-in-Some-start_in-clause-ok : goal.returns-in-Some-start_in-clause-ok
returns-in-Some-start_in-clause-ok c =
    let at = begins c.args.bytes.now c.in-Some.rest.now c.in-Some-first.more.now c.in-Some-first-2.last.now c.in-Some-first.version
    c.in-Some-first-2.given c.in-Some.ensures.some c.in-Some-first.ensures.some c.in-Some-first-2.ensures.some in
    let ours = version_is c.in-Some-first.version c.in-Some-first-2.given c.in-Some-first-2.last.now c.args.bytes.now at c.if-version-ne-VERSION.false in
    let headed = given_is c.in-Some-first-2.given c.args.servers c.in-Some-first-2.last.now c.args.bytes.now ours c.if-given-servers.false in
    let found = c.in-Some-start_in.ensures.some in
    (found.0, head_whole c.in-Some-start_in.start c.args.servers c.args.bytes.now c.in-Some-first-2.last.now headed found.1)
