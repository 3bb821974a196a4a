-- The command line is one of which clap reports exactly what a parse gives.
use Rattle.std.proofs.Common.{◌≡◌, ◌∙◌, ◌<◌, ◌+◌, ◌&&◌, ◌++◌, ℕ, Bool, true, false, not, refl, ap, List, [], ◌∷◌, map, length, take, get_or}
use Rattle.std.specs.List.{list_all, list_any}
use Rattle.std.proofs.lemmas.List.{take_more, map-append}
use Rattle.clap.specs.Walk.{Rule, Text, is_early_multiple}
use Rattle.clap.specs.Simple.{App, filled_from, help_rule, new_shape}
use Rattle.clap.specs.Simple.{built, is_buildable, is_simple}
use Rattle.clap.specs.Faults.{is_free_app, is_simple_and_free}
use Rattle.zarguments.specs.declared.options.NumberOption.{NumberOption}
use Rattle.zarguments.specs.Asked.{command_of, rule_for, spelling_of}

-- ---- it is built up option by option

-- a subcommand with the options
abbrev pub with_options : Text → List (Text × Text) → App
with_options name options = record { top = record (new_shape name) { rules = map rule_for options }; subs = [] }

-- the rules of one more option
pub rules-more : (options : List NumberOption) (i : ℕ) (d : NumberOption) → i < length options
    → map rule_for (map spelling_of (take (i + 1) options))
    ≡ map rule_for (map spelling_of (take i options)) ++ rule_for (spelling_of (get_or options i d)) ∷ []
rules-more options i d lt =
    let x = get_or options i d in
    ap (λ xs. map rule_for (map spelling_of xs)) (take_more options i d lt)
    ∙ ap (map rule_for) (map-append spelling_of (take i options) (x ∷ []))
    ∙ map-append rule_for (map spelling_of (take i options)) (spelling_of x ∷ [])

-- ---- it is simple, and no option has a rule on another

both-true : (a b : Bool) → a ≡ true → b ≡ true → (a && b) ≡ true
both-true true b p q = q
both-true false b p q = p

-- the rules as they are built: those of the options from the position i on, and the flag for help
abbrev built_from : ℕ → List (Text × Text) → List Rule
built_from i options = filled_from i (map rule_for options ++ help_rule ∷ [])

rules-simple : (options : List (Text × Text)) → list_all (λ (a : Rule). a.is_simple) (map rule_for options) ≡ true
rules-simple [] = refl
rules-simple (option ∷ options) = rules-simple options

built-simple : (i : ℕ) (options : List (Text × Text)) → list_all (λ (a : Rule). a.is_simple) (built_from i options) ≡ true
built-simple i [] = refl
built-simple i (option ∷ options) = built-simple i options

built-free : (i : ℕ) (options : List (Text × Text)) → list_all (λ (a : Rule). a.is_free) (built_from i options) ≡ true
built-free i [] = refl
built-free i (option ∷ options) = built-free i options

-- no option is identified by its position
built-named : (n i : ℕ) (options : List (Text × Text)) → list_any (is_early_multiple n) (built_from i options) ≡ false
built-named n i [] = refl
built-named n i (option ∷ options) = built-named n i options

is_simple-command : (name : Text) (options : List (Text × Text)) → is_simple (command_of name options) ≡ true
is_simple-command name options =
    both-true (is_buildable (command_of name options)) _
    (both-true _ true (rules-simple options) refl)
    (both-true _ true (both-true _ _ (built-simple 1 options) (ap not (built-named _ 1 options))) refl)

is_free-command : (name : Text) (options : List (Text × Text)) → is_free_app (built (command_of name options)) ≡ true
is_free-command name options = both-true _ true (built-free 1 options) refl

pub simple_and_free : (name : Text) (options : List (Text × Text)) → is_simple_and_free (command_of name options) ≡ true
simple_and_free name options = both-true _ _ (is_simple-command name options) (is_free-command name options)

pub simple : (name : Text) (options : List (Text × Text)) → is_simple (command_of name options) ≡ true
simple = is_simple-command
