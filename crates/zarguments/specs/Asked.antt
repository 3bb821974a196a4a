-- The numbers that a program's words give to the options of a subcommand, by what clap specifies of
-- its parse.
use Rattle.std.specs.Prelude.{ℕ, ◌^◌, ◌&&◌, pos, List, [], ◌∷◌, map, Option, None, Some, Result, IfOk, Vec, ◌≡◌}
use Rattle.std.specs.Prelude.{option_map, option_and_then, if◌then◌else◌, nat_lt, codes}
use Rattle.std.specs.Borrow.{Bor}
use Rattle.std.specs.Str.{bytes_eq}
use Rattle.std.specs.Str.Parse.{digits_value, without_leading_plus}
use Rattle.clap.specs.Walk.{Text, Row, Rule, one_of}
use Rattle.clap.specs.Simple.{App, new_rule, new_shape, new_app, with_subcommand, subcommand_of}
use Rattle.clap.specs.Kinds.{Kinds}
use Rattle.clap.specs.Faults.{fault_of}
use Rattle.clap.specs.ValueTests.{is_numeral}
use Rattle.clap.specs.declared.builder.value_parser.ValueParser.TheVariants.{Signed}
use Rattle.zarguments.specs.declared.options.NumberOption.{NumberOption}

-- The words, as texts.
abbrev pub texts_of : List (Bor Text) → List Text
texts_of words = map (λ word. word.now) words

-- An option is spelled by its name and its default.
abbrev pub spelling_of : NumberOption → Text × Text
spelling_of option = (option.name.now, option.default.now)

-- The spellings of options.
abbrev pub spellings : List NumberOption → List (Text × Text)
spellings options = map spelling_of options

-- ---- the command line

-- How an option `--NAME N` is described to clap: the value is a number that u16 holds.
abbrev pub rule_for : Text × Text → Rule
rule_for option = record (new_rule option.0) {
  long = Some option.0;
  parser = Some (Signed (pos 0) (pos 65535));
  defaults = option.1 ∷ [];
}

-- The command line `zk NAME [--OPTION N] ..`.
abbrev pub command_of : Text → List (Text × Text) → App
command_of name options =
    with_subcommand (new_app (codes "zk")) (record (new_shape name) { rules = map rule_for options })

-- ---- the numbers

-- The number that a text denotes, among those that u16 holds.
abbrev pub u16_of : Text → Option ℕ
u16_of text =
    let digits = without_leading_plus text in
    if is_numeral digits && nat_lt (digits_value 10 digits) (2 ^ 16) then Some (digits_value 10 digits) else None

-- The number of an option, by its name, among a subcommand's matches.
abbrev pub number_in : Text → List Row → Option ℕ
number_in name rows = option_and_then u16_of (one_of name rows)

-- The numbers of the options, in their order; none where one of them has none.
abbrev pub numbers_of : List (Text × Text) → List Row → Option (List ℕ)
numbers_of [] rows = Some []
numbers_of (option ∷ options) rows =
    option_and_then (λ number. option_map (λ numbers. number ∷ numbers) (numbers_of options rows)) (number_in option.0 rows)

-- The matches of the subcommand of this name, if that one was given.
abbrev pub matches_under : Text → Option (Text × List Row) → Option (List Row)
matches_under name = option_and_then (λ met. if bytes_eq met.0 name then Some met.1 else None)

-- Words in which clap finds a fault give nothing.
abbrev pub unless_faulty : {X : Type 0} → Kinds → Option X → Option X
unless_faulty [] given = given
unless_faulty (kind ∷ kinds) given = None

-- The numbers that the words give to the options of the subcommand: none where they are bad words.
unfoldable pub asked_of : Text → List (Text × Text) → List Text → Option (List ℕ)
asked_of name options words =
    let command = command_of name options in
    unless_faulty (fault_of command words)
    (option_and_then (numbers_of options) (matches_under name (subcommand_of command words)))

-- The result, unless memory runs out, is these numbers, or that there are none.
abbrev pub GivesNumbers : {A E : Type 0} → Result (Option (Vec ℕ A)) E → Option (List ℕ) → Type 0
GivesNumbers result numbers = IfOk result (λ given. option_map (λ v. v.items) given ≡ numbers)
