-- A text without a fault spells a path, and the text of a path has no fault.
use Rattle.std.proofs.Common.{◌≡◌, ℕ, ◌<◌, Bool, true, false, eqb, not, List, [], ◌∷◌, ◌++◌, length, Some, None, refl, sym, ap, ◌∙◌, arith}
use Rattle.std.specs.List.{flat_map}
use Rattle.std.proofs.lemmas.Bool.Decides.{nat_tests}
use Rattle.zpath.specs.declared.fault.PathFault.TheVariants.{NotAbsolute}
use Rattle.zpath.specs.declared.limits.TheConstants.{MAX_TEXT_LEN, MAX_DEPTH}
use Rattle.zpath.specs.Grammar.{is_empty, is_long_text, is_deep, is_reserved, IsPath, segment_of, text_of}
use Rattle.zpath.specs.Faults.{parts_of, names_of, is_absolute, text_tests, fault_of}
use Rattle.zpath.proofs.First.{no_test_holds, first_that_holds-none}
use Rattle.zpath.proofs.NameTests.{PassesTests, names_from_tests, tests_from_names, at_most, not_above}
use Rattle.zpath.proofs.Splits.{spelled-parts_of, parts_of-spelled}

-- no test of a text holds
pub record HasNoFault (text : List ℕ) : Type 0 where
  pub filled : is_empty text ≡ false
  pub absolute : not (is_absolute text) ≡ false
  pub names : PassesTests (names_of text)
  pub short : is_long_text text ≡ false
  pub shallow : is_deep (names_of text) ≡ false
  pub unreserved : is_reserved (names_of text) ≡ false

no_fault : (text : List ℕ) → fault_of text ≡ None → HasNoFault text
unfolding fault_of
no_fault text none =
    let off = no_test_holds (text_tests text) none in
    record {
      filled = off.0;
      absolute = off.1.0;
      names = record { filled = off.1.1.0; no_dots = off.1.1.1.0; visible = off.1.1.1.1.0; short = off.1.1.1.1.1.0 };
      short = off.1.1.1.1.1.1.0;
      shallow = off.1.1.1.1.1.1.1.0;
      unreserved = off.1.1.1.1.1.1.1.1.0;
    }

pub fault_of-none : (text : List ℕ) → HasNoFault text → fault_of text ≡ None
unfolding fault_of
fault_of-none text has =
    first_that_holds-none (text_tests text) (has.filled, (has.absolute, (has.names.filled, (has.names.no_dots, (has.names.visible, (has.names.short, (has.short, (has.shallow, (has.unreserved, tt)))))))))

-- the names of an absolute text spell it
text_of-names_of : (rest : List ℕ) → text_of (names_of (47 ∷ rest)) ≡ 47 ∷ rest
text_of-names_of [] = refl
text_of-names_of (byte ∷ bytes) = text_of-parts (parts_of (byte ∷ bytes)) (spelled-parts_of (byte ∷ bytes))
  where
    text_of-parts : (parts : List (List ℕ)) → flat_map segment_of parts ≡ 47 ∷ (byte ∷ bytes) → text_of parts ≡ 47 ∷ (byte ∷ bytes)
    text_of-parts [] spelled = cc
    text_of-parts (part ∷ parts) spelled = spelled

-- an absolute text begins with a slash
absolute_begins : (text : List ℕ) → not (is_absolute text) ≡ false → (rest : List ℕ) × (text ≡ 47 ∷ rest)
absolute_begins [] absolute = cc
absolute_begins (byte ∷ rest) absolute =
    let slash : byte ≡ 47 = grind (arith, nat_tests) in
    (rest, ap (λ first. first ∷ rest) slash)

-- a text without a fault spells the path of its names
pub path_from_text : (text : List ℕ) → fault_of text ≡ None → IsPath (names_of text) × (text ≡ text_of (names_of text))
path_from_text text none =
    let has = no_fault text none in
    let begins = absolute_begins text has.absolute in
    let spelled : text_of (names_of text) ≡ text = rw begins.1 (text_of-names_of begins.0) in (
      record {
        names = names_from_tests (names_of text) has.names;
        short = rw spelled (at_most MAX_TEXT_LEN (length text) has.short);
        shallow = at_most MAX_DEPTH (length (names_of text)) has.shallow;
        unreserved = has.unreserved;
      },
      sym spelled,
    )

-- a name is something to cut
names_of-name : (name : List ℕ) (more : List ℕ) → 0 < length name → names_of (47 ∷ (name ++ more)) ≡ parts_of (name ++ more)
names_of-name [] more some = absurd (omega arith)
names_of-name (byte ∷ name) more some = refl

-- the names of a path's text are the path
pub names_of-text_of : (path : List (List ℕ)) → IsPath path → names_of (text_of path) ≡ path
names_of-text_of [] is = refl
names_of-text_of (name ∷ names) is =
    names_of-name name (flat_map segment_of names) is.names.0.filled ∙ parts_of-spelled name names is.names

-- the text of a path begins with a slash
begins-text_of : (path : List (List ℕ)) → (rest : List ℕ) × (text_of path ≡ 47 ∷ rest)
begins-text_of [] = ([], refl)
begins-text_of (name ∷ names) = (name ++ flat_map segment_of names, refl)

-- a text that begins with a slash passes the first two tests
pub tests_of_absolute : (text rest : List ℕ) → text ≡ 47 ∷ rest → (is_empty text ≡ false) × (not (is_absolute text) ≡ false)
tests_of_absolute text rest begins = rw begins (grind (arith, nat_tests), refl)

-- the text of a path has no fault
pub text_has_no_fault : (path : List (List ℕ)) → IsPath path → fault_of (text_of path) ≡ None
text_has_no_fault path is =
    let begins = begins-text_of path in
    let absolute = tests_of_absolute (text_of path) begins.0 begins.1 in
    let names = names_of-text_of path is in
    fault_of-none (text_of path) (record {
      filled = absolute.0;
      absolute = absolute.1;
      names = rw names (tests_from_names path is.names);
      short = not_above MAX_TEXT_LEN (length (text_of path)) is.short;
      shallow = rw names (not_above MAX_DEPTH (length path) is.shallow);
      unreserved = rw names is.unreserved;
    })

-- a text that begins with no slash has that fault
pub not_absolute : (text : List ℕ) → is_empty text ≡ false → ((rest : List ℕ) → text ≡ 47 ∷ rest → ⊥) → fault_of text ≡ Some NotAbsolute
unfolding fault_of
not_absolute text filled other = rw (filled, is_relative text other) refl
  where
    at : (byte : ℕ) (rest : List ℕ) → (test : Bool) → eqb byte 47 ≡ test → (byte ≡ 47 → ⊥) → test ≡ false
    at byte rest true is other = absurd (other (grind (arith, nat_tests)))
    at byte rest false is other = refl

    is_relative : (text : List ℕ) → ((rest : List ℕ) → text ≡ 47 ∷ rest → ⊥) → is_absolute text ≡ false
    is_relative [] other = refl
    is_relative (byte ∷ rest) other = at byte rest (eqb byte 47) refl (λ slash. other rest (ap (λ first. first ∷ rest) slash))
