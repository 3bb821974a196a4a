use Rattle.std.proofs.Common.{rules, ◌≡◌, ◌∙◌, ℕ, List, Option, None, Some, Vec, Global, codes, map, option_map, sym, ap}
use Rattle.zarguments.specs.Asked.{asked_of, spelling_of, texts_of}
use Rattle.zrace.specs.Asked.{race_options}
use Rattle.zrace.proofs.Asked.{asked-given, given-asked}
use Rattle.zrace.proofs.words.race_settings.Goals as goal

-- the numbers that the words give are those that were answered
given : (words : List (List ℕ)) (options : List (List ℕ × List ℕ)) (answer numbers : Option (List ℕ)) → options ≡ race_options
    → answer ≡ asked_of (codes "race") options words → answer ≡ numbers → asked_of (codes "race") race_options words ≡ numbers
given words options answer numbers are is same = ap (λ (os : List (List ℕ × List ℕ)). asked_of (codes "race") os words) (sym are) ∙ sym is ∙ same

abbrev items_of : Option (Vec ℕ Global) → Option (List ℕ)
items_of = option_map (λ v. v.items)

pub returns-in-Some-race_of-clause-asked : goal.returns-in-Some-race_of-clause-asked
returns-in-Some-race_of-clause-asked c =
    let words = texts_of c.args.words.now in
    let numbers = given words (map spelling_of c.as_slice.result.now) (items_of c.in_ok-numbers.field-0) (Some c.deref.result.now) (search rules)
    c.in_ok-numbers.ensures (ap items_of c.in-Some.is ∙ ap Some (sym c.deref.ensures.value)) in
    asked-given words (Some c.deref.result.now) numbers c.in-Some-race_of.race c.in-Some-race_of.ensures.known

pub returns-in-Some-clause-bad : goal.returns-in-Some-clause-bad
returns-in-Some-clause-bad c =
    let words = texts_of c.args.words.now in
    let numbers = given words (map spelling_of c.as_slice.result.now) (items_of c.in_ok-numbers.field-0) (Some c.deref.result.now) (search rules)
    c.in_ok-numbers.ensures (ap items_of c.in-Some.is ∙ ap Some (sym c.deref.ensures.value)) in
    λ bad race asked. c.in-None-race_of.ensures.refused race (given-asked words (Some c.deref.result.now) numbers race asked)

pub returns-clause-bad : goal.returns-clause-bad
returns-clause-bad c =
    let words = texts_of c.args.words.now in
    let numbers = given words (map spelling_of c.as_slice.result.now) (items_of c.in_ok-numbers.field-0) None (search rules)
    c.in_ok-numbers.ensures (ap items_of c.in-None.is) in
    λ bad race asked. given-asked words None numbers race asked
