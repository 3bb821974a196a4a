use Rattle.std.proofs.Common.{◌∙◌, List, Option, map, option_and_then, refl, sym, ap, true≢false}
use Rattle.std.proofs.lemmas.Result.{IfOk-weaker}
use Rattle.clap.specs.Matches.{found_of}
use Rattle.clap.specs.Walk.{Row, rows_of}
use Rattle.clap.specs.Simple.{app_of, subcommand_rows_of}
use Rattle.clap.specs.Faults.{is_simple_and_free}
use Rattle.zarguments.specs.Asked.{numbers_of, spelling_of, texts_of}
use Rattle.zarguments.proofs.CommandLine.{simple_and_free}
use Rattle.zarguments.proofs.Given.{asked-faulty, asked-matches, matches_under-met, matches_under-other, name-rows}
use Rattle.zarguments.proofs.asked.numbers_asked.Goals as goal

pub returns-in-Err : goal.returns-in-Err
returns-in-Err c =
    let name = c.args.name.now in
    let options = map spelling_of c.args.options.now in
    let is = c.in_ok-command.ensures in
    let simple = ap is_simple_and_free is ∙ simple_and_free name options in
    asked-faulty (app_of c.in_ok-command.command) name options (texts_of c.args.words.now) c.in-Err.error is (c.in-Err.ensures.kinds simple)
    (λ memory. c.in_ok-distinct-in-Err.ensures.words refl (c.kind.ensures ∙ memory))

pub returns-in-Some : goal.returns-in-Some
returns-in-Some c =
    let name = c.args.name.now in
    let options = map spelling_of c.args.options.now in
    let is = c.in_ok-command.ensures in
    let m = c.in-Ok.matches in
    let simple = ap is_simple_and_free is ∙ simple_and_free name options in
    let met = matches_under-met name (subcommand_rows_of m) (rows_of (found_of c.in-Some.given.now))
    (sym (name-rows m) ∙ c.in-Some.ensures.found.0 refl) c.in-Some.ensures.rows in
    let given = asked-matches (app_of c.in_ok-command.command) name options (texts_of c.args.words.now) m is (c.in-Ok.ensures.kinds simple) c.in-Ok.ensures.matches
    ∙ ap (λ (rows : Option (List Row)). option_and_then (numbers_of options) rows) met in
    IfOk-weaker c.numbers_in.result _ _ (λ numbers are. are ∙ sym given) c.numbers_in.ensures

pub returns : goal.returns
returns c =
    let name = c.args.name.now in
    let options = map spelling_of c.args.options.now in
    let is = c.in_ok-command.ensures in
    let m = c.in-Ok.matches in
    let simple = ap is_simple_and_free is ∙ simple_and_free name options in
    let other = matches_under-other name (subcommand_rows_of m) (λ met. true≢false (sym (c.in-None.ensures.found.1 (name-rows m ∙ met)))) in
    sym (asked-matches (app_of c.in_ok-command.command) name options (texts_of c.args.words.now) m is (c.in-Ok.ensures.kinds simple) c.in-Ok.ensures.matches
    ∙ ap (λ (rows : Option (List Row)). option_and_then (numbers_of options) rows) other)
