use Rattle.std.proofs.Common.{◌≡◌, ◌∷◌, sym, ◌∙◌, arith, codes, rules}
use Rattle.std.proofs.lemmas.Str.Pattern.{starts_text}
use Rattle.zpath.proofs.Plain.{plain_is_faultless, plain_below_root, unreserved}
use Rattle.zpath.proofs.quick.plain_rest.Goals as goal

pub returns-clause-fault : goal.returns-clause-fault
returns-clause-fault c =
    let begins : c.args.text.now ≡ 47 ∷ c.in_ok-rest.rest.now = search rules in
    let rest = c.in_ok-rest.rest.now in
    let starts = starts_text _ (codes "zookeeper") rest c.starts_with.ensures.cases in
    let other = unreserved rest (sym starts ∙ c.if-starts_with.false) in
    plain_is_faultless c.args.text.now rest begins (omega (arith, c.if-text-gt-MAX_NAME_LEN.false)) other c.if-not-has_plain_names.ensures.plain

pub returns-clause-names : goal.returns-clause-names
returns-clause-names c =
    let begins : c.args.text.now ≡ 47 ∷ c.in_ok-rest.rest.now = search rules in
    plain_below_root c.args.text.now c.in_ok-rest.rest.now begins c.if-not-has_plain_names.ensures.plain
