use Rattle.std.proofs.Common.{rules, ◌≡◌, ◌∙◌, ℕ, List, [], ◌∷◌, Option, Some, Result, Vec, Global, codes, inr, map, option_map, sym, ap}
use Rattle.zarguments.specs.Asked.{asked_of, spelling_of, texts_of}
use Rattle.zcommand.specs.Asked.{settings_asked, settings_of}
use Rattle.zarguments.specs.declared.fault.WordsFault.{WordsFault}
use Rattle.zcommand.proofs.Asked.{asked-err, asked-ok}
use Rattle.zcommand.proofs.words.settings.Goals as goal

-- the option of a script
abbrev script_options : List (List ℕ × List ℕ)
script_options = (codes "servers", codes "1") ∷ []

-- what a vector of numbers asks for
abbrev given : Option (Vec ℕ Global) → Result ℕ WordsFault
given numbers = settings_of (option_map (λ v. v.items) numbers)

-- what was asked for is answered
is-asked : (c : goal.After-drop-numbers) → settings_asked (texts_of c.args.words.now) ≡ c.asked.result
unfolding settings_asked
is-asked c =
    let options : map spelling_of c.as_slice.result.now ≡ script_options = search rules in
    ap (λ (os : List (List ℕ × List ℕ)). settings_of (asked_of (codes "script") os (texts_of c.args.words.now))) (sym options)
    ∙ ap settings_of (sym c.in_ok-numbers.ensures)
    ∙ ap given c.in-Some.is
    ∙ ap (λ (ns : List ℕ). settings_of (Some ns)) (sym c.deref.ensures.value)
    ∙ sym c.asked.ensures.exact

pub returns-in-Some-clause-ok : goal.returns-in-Some-clause-ok
returns-in-Some-clause-ok c = asked-ok _ c.asked.result (is-asked c)

pub returns-in-Some-clause-err : goal.returns-in-Some-clause-err
returns-in-Some-clause-err c = asked-err _ c.asked.result (is-asked c)

pub returns-in-None-clause-err : goal.returns-in-None-clause-err
unfolding settings_asked
returns-in-None-clause-err c =
    let options : map spelling_of c.as_slice.result.now ≡ script_options = search rules in
    inr (ap (λ (os : List (List ℕ × List ℕ)). settings_of (asked_of (codes "script") os (texts_of c.args.words.now))) (sym options)
    ∙ ap settings_of (sym c.in_ok-numbers.ensures)
    ∙ ap given c.in-None.is)
