-- What is given by what a parse returns.
use Rattle.std.proofs.Common.{◌≡◌, ◌∙◌, ◌≢◌, Bool, cond, true, false, refl, sym, ap, ap₂, subst, inl, inr, List, [], ◌∷◌, Option, Some, None, Box, option_map, option_and_then}
use Rattle.std.specs.Str.{bytes_eq}
use Rattle.std.specs.Box.{box_value}
use Rattle.std.proofs.lemmas.Slice.Eq.{bytes_eq-Decides}
use Rattle.clap.specs.Walk.{Row, Text}
use Rattle.clap.specs.Values.{kind_of}
use Rattle.clap.specs.Matches.{subcommand_name_of}
use Rattle.clap.specs.Kinds.{HasKind, Kinds}
use Rattle.clap.specs.Faults.{fault_of}
use Rattle.clap.specs.Simple.{App, HasMatchesOf, subcommand_of, subcommand_rows, subcommand_rows_of}
use Rattle.clap.specs.declared.error.Error.{Error}
use Rattle.clap.specs.declared.error.kind.ErrorKind.TheVariants.{OutOfMemory}
use Rattle.clap.specs.declared.parser.matches.ArgMatches.{ArgMatches}
use Rattle.clap.specs.declared.parser.matches.ArgMatches.TheViews.{out-ArgMatches, out-SubCommand}
use Rattle.clap.specs.declared.parser.matches.SubCommand.{SubCommand}
use Rattle.zarguments.specs.Asked.{asked_of, command_of, matches_under, numbers_of, unless_faulty}
use Rattle.zarguments.proofs.CommandLine.{simple}

-- ---- the subcommand that was met

names : {Z : Type 0} (o : Option (Box SubCommand Z))
    → option_map (λ b. (out-SubCommand (box_value b)).name.now) o ≡ option_map (λ (p : Text × List Row). p.0) (subcommand_rows o)
names None = refl
names (Some b) = refl

pub name-rows : (m : ArgMatches) → subcommand_name_of m ≡ option_map (λ (p : Text × List Row). p.0) (subcommand_rows_of m)
name-rows m = names (out-ArgMatches m).subcommand

some-is : {X : Type 0} (d x y : X) → Some x ≡ Some y → x ≡ y
some-is d x y e = ap (λ o. elim o [
  | None ↦ d
  | Some z ↦ z
]) e

pub matches_under-met : (name : Text) (met : Option (Text × List Row)) (rows : List Row) → option_map (λ (p : Text × List Row). p.0) met ≡ Some name
    → option_map (λ (p : Text × List Row). p.1) met ≡ Some rows → matches_under name met ≡ Some rows
matches_under-met name None rows is at = cc
matches_under-met name (Some p) rows is at =
    ap (λ (b : Bool). cond b (Some p.1) None) ((bytes_eq-Decides p.0 name).1 (some-is name p.0 name is)) ∙ at

pub matches_under-other : (name : Text) (met : Option (Text × List Row)) → (option_map (λ (p : Text × List Row). p.0) met ≡ Some name → ⊥)
    → matches_under name met ≡ None
matches_under-other name None other = refl
matches_under-other name (Some p) other = go (bytes_eq p.0 name) refl
  where
    go : (b : Bool) → bytes_eq p.0 name ≡ b → cond b (Some p.1) None ≡ None
    go false e = refl
    go true e = absurd (other (ap Some ((bytes_eq-Decides p.0 name).0 e)))

-- ---- the numbers

-- words that clap understands give what its matches give
pub asked-matches : (app : App) (name : Text) (options : List (Text × Text)) (words : List Text) (m : ArgMatches) → app ≡ command_of name options
    → fault_of app words ≡ [] → HasMatchesOf app words m
    → asked_of name options words ≡ option_and_then (numbers_of options) (matches_under name (subcommand_rows_of m))
unfolding asked_of
asked-matches app name options words m is none has =
    let right = subst (λ (a : App). HasMatchesOf a words m) is has in
    ap₂ unless_faulty (ap (λ (a : App). fault_of a words) (sym is) ∙ none)
    (ap (λ (o : Option (Text × List Row)). option_and_then (numbers_of options) (matches_under name o)) (sym (right (simple name options)).1))

-- words with a fault give nothing: only running out of memory comes without one
pub asked-faulty : (app : App) (name : Text) (options : List (Text × Text)) (words : List Text) (e : Error) → app ≡ command_of name options
    → HasKind (fault_of app words) e → kind_of e ≢ OutOfMemory → None ≡ asked_of name options words
unfolding asked_of
asked-faulty app name options words e is has left =
    go (fault_of (command_of name options) words) (subst (λ (a : App). HasKind (fault_of a words) e) is has)
  where
    go : (kinds : Kinds) → HasKind kinds e
        → None ≡ unless_faulty kinds (option_and_then (numbers_of options) (matches_under name (subcommand_of (command_of name options) words)))
    go [] h = elim h [
      | inl memory ↦ absurd (left memory)
      | inr among ↦ absurd among
    ]
    go (kind ∷ kinds) h = refl
