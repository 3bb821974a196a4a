-- Names are forms. A name is read as that of a node below another.
use Rattle.std.proofs.Common.{◌≡◌, ℕ, ◌≤◌, Bool, true, false, cond, ◌||◌, List, [], ◌∷◌, ◌++◌, length, Result, Ok, Err}
use Rattle.std.proofs.Common.{refl, sym, ap, subst, ◌∙◌, append-nil, arith, lit<}
use Rattle.std.specs.Prelude.{is_some}
use Rattle.std.specs.List.{flat_map}
use Rattle.zcodec.specs.declared.fault.Fault.{Fault}
use Rattle.zcodec.specs.declared.fault.Fault.TheVariants.{Invalid}
use Rattle.zcodec.specs.declared.fault.ReadError.{ReadError}
use Rattle.zcodec.specs.declared.fault.ReadError.TheVariants as errors
use Rattle.zcodec.specs.Forms.{◌>>=◌}
use Rattle.zcodec.specs.Choices.{sized}
use Rattle.zcodec.specs.Laws.{IsForm}
use Rattle.zcodec.specs.Readers.{Fails, Gives}
use Rattle.zcodec.proofs.Bytes.{guard_ok, ok_is}
use Rattle.zcodec.proofs.Parts.{is_made}
use Rattle.zcodec.proofs.Choices.{is_sized}
use Rattle.zpath.specs.declared.limits.TheConstants.{MAX_NAME_LEN, MAX_TEXT_LEN}
use Rattle.zpath.specs.Grammar.{IsName, IsPath, is_empty, is_dots, has_bad_byte, is_long, segment_of, text_of}
use Rattle.zpath.specs.Faults.{fault_of, names_of, parts_of}
use Rattle.zpath.proofs.NameTests.{both_false, names_from_tests, tests_from_names}
use Rattle.zpath.proofs.Spelling.{names_of-text_of}
use Rattle.zpath.proofs.Splits.{spelled-parts_of}
use Rattle.ztree.specs.Tree.{Path}
use Rattle.zwire.specs.records.Fields.{path_from}
use Rattle.zwire.proofs.records_lemmas.Fields.{path_again, path_back}
use Rattle.zwire.specs.Fields.{name_from, name, second_from}

-- ---- what is a name

abbrev bad : List ℕ → Bool
bad text = is_empty text || is_dots text || has_bad_byte text || is_long text

all_false : (a b c d : Bool) → (a || b || c || d) ≡ false → (a ≡ false) × (b ≡ false) × (c ≡ false) × (d ≡ false)
all_false true b c d e = absurd cc
all_false false true c d e = absurd cc
all_false false false true d e = absurd cc
all_false false false false true e = absurd cc
all_false false false false false e = (refl, refl, refl, refl)

-- one test of one name
test_one : (b : Bool) → b ≡ false → (b || false) ≡ false
test_one b e = rw e refl

good : (text : List ℕ) → bad text ≡ false → IsName text
good text none =
    let off = all_false (is_empty text) (is_dots text) (has_bad_byte text) (is_long text) none in
    (names_from_tests (text ∷ []) (record {
      filled = test_one (is_empty text) off.0;
      no_dots = test_one (is_dots text) off.1;
      visible = test_one (has_bad_byte text) off.2;
      short = test_one (is_long text) off.3;
    })).0

not_bad : (text : List ℕ) → IsName text → bad text ≡ false
not_bad text is =
    let passes = tests_from_names (text ∷ []) (is, tt) in
    let filled = both_false (is_empty text) false passes.filled in
    let no_dots = both_false (is_dots text) false passes.no_dots in
    let visible = both_false (has_bad_byte text) false passes.visible in
    let short = both_false (is_long text) false passes.short in
    none (is_empty text) (is_dots text) (has_bad_byte text) (is_long text) filled.0 no_dots.0 visible.0 short.0
  where
    none : (a b c d : Bool) → a ≡ false → b ≡ false → c ≡ false → d ≡ false → (a || b || c || d) ≡ false
    none a b c d p q r s = rw (p, q, r, s) refl

pub name_again : (text : List ℕ) → IsName text → name_from text ≡ Ok text
unfolding name_from
name_again text is = ap (λ (b : Bool). cond b (Err Invalid) (Ok text)) (not_bad text is)

name_back : (text k : List ℕ) → name_from text ≡ Ok k → (k ≡ text) × IsName k
unfolding name_from
name_back text k e =
    let g = guard_ok (bad text) Invalid (Ok text) k e in
    subst (λ (x : List ℕ). (x ≡ text) × IsName x) (ok_is text k g.1) (refl, good text g.0)

-- it is one, or it is read as none
pub name_or : {R : Type 0} (text : List ℕ) → (IsName text → R) → (name_from text ≡ Err Invalid → R) → R
unfolding name_from
name_or {R} text named other = by (bad text) refl
  where
    by : (b : Bool) → bad text ≡ b → R
    by true is = other (ap (λ (b : Bool). cond b (Err Invalid) (Ok text)) is)
    by false is = named (good text is)

pub is_name : IsForm name
unfolding name
is_name = is_made (sized MAX_NAME_LEN) (λ text. text) name_from IsName (is_sized MAX_NAME_LEN (omega arith))
    (λ text k fits e. name_back text k e)
    (λ text is. (name_again text is, (is.short, refl)))

-- ---- below another

-- the path of the node with this name below the node `/-`
abbrev pub below : List ℕ → List ℕ
below text = 47 ∷ (45 ∷ (47 ∷ text))

abbrev two : List ℕ → Path
two text = (45 ∷ []) ∷ text ∷ []

text_two : (text : List ℕ) → text_of (two text) ≡ below text
text_two text = ap below (append-nil text)

dash : IsName (45 ∷ [])
dash = record { filled = lit< tt; no_dots = refl; visible = refl; short = omega arith }

is_two : (text : List ℕ) → IsName text → IsPath (two text)
is_two text is =
    record {
      names = (dash, (is, tt));
      short = subst (λ (t : List ℕ). length t ≤ MAX_TEXT_LEN) (sym (text_two text)) (let short = is.short in omega (arith, short));
      shallow = omega arith;
      unreserved = refl;
    }

-- the second of two names is the text after the second slash
second_name : (text : List ℕ) (first second : List ℕ) → IsPath (first ∷ second ∷ []) → below text ≡ text_of (first ∷ second ∷ []) → IsName text
second_name text first second is same =
    let names : (45 ∷ []) ∷ parts_of text ≡ first ∷ second ∷ [] = ap names_of same ∙ names_of-text_of (first ∷ second ∷ []) is in
    let one : parts_of text ≡ second ∷ [] = cc in
    let spelled : flat_map segment_of (second ∷ []) ≡ 47 ∷ text = ap (flat_map segment_of) (sym one) ∙ spelled-parts_of text in
    let whole : second ++ [] ≡ text = cc in
    subst IsName (sym (append-nil second) ∙ whole) is.names.1.0

second_bad : (text : List ℕ) (p : Path) → IsPath p → below text ≡ text_of p → name_from text ≡ Err Invalid → second_from p ≡ Err Invalid
second_bad text [] is same none = refl
second_bad text (first ∷ []) is same none = refl
second_bad text (first ∷ (second ∷ [])) is same none =
    absurd (apart (sym none ∙ name_again text (second_name text first second is same)))
  where
    apart : ◌≡◌ {A = Result (List ℕ) Fault} (Err Invalid) (Ok text) → ⊥
    apart e = cc
second_bad text (first ∷ (second ∷ (third ∷ more))) is same none = refl

abbrev failed : Fault → Result (List ℕ) Fault
failed fault = Err fault

path_invalid : (text : List ℕ) (fault : Fault) → path_from text ≡ Err fault → fault ≡ Invalid
unfolding path_from
path_invalid text fault e = by (is_some (fault_of text)) e
  where
    by : (b : Bool) → cond b (Err Invalid) (Ok (names_of text)) ≡ Err fault → fault ≡ Invalid
    by true e = cc
    by false e = absurd cc

-- so a text is a name where it is that of a node below another
pub name_below : (text : List ℕ) → name_from text ≡ (path_from (below text) >>= second_from)
name_below text =
    name_or text
    (λ is. name_again text is ∙ ap (λ (r : Result Path Fault). r >>= second_from)
    (sym (ap path_from (sym (text_two text)) ∙ path_again (two text) (is_two text is))))
    (λ none. none ∙ sym (by none (path_from (below text)) refl))
  where
    by : name_from text ≡ Err Invalid → (r : Result Path Fault) → path_from (below text) ≡ r → (path_from (below text) >>= second_from) ≡ Err Invalid
    by none (Ok p) read =
        let back = path_back (below text) p read in
        ap (λ (r : Result Path Fault). r >>= second_from) read ∙ second_bad text p back.1 (sym back.0) none
    by none (Err fault) read = ap (λ (r : Result Path Fault). r >>= second_from) read ∙ ap failed (path_invalid (below text) fault read)

-- what is read of that path is what is read of the name
path_below : (text bytes : List ℕ) → bytes ≡ below text → name_from text ≡ (path_from bytes >>= second_from)
path_below text bytes same = name_below text ∙ ap (λ (b : List ℕ). path_from b >>= second_from) (sym same)

pub below_fails : (text bytes : List ℕ) (error : ReadError) → bytes ≡ below text → Fails error (path_from bytes) → Fails error (name_from text)
below_fails text bytes errors.Memory same reported = tt
below_fails text bytes (errors.Fault fault) same reported = path_below text bytes same ∙ ap (λ (r : Result Path Fault). r >>= second_from) reported

pub below_gives : (text bytes : List ℕ) (p : Path) (result : Result (List ℕ) ReadError) → bytes ≡ below text → path_from bytes ≡ Ok p
    → Gives (λ it. it) result (second_from p) → Gives (λ it. it) result (name_from text)
below_gives text bytes p result same read reported =
    subst (Gives (λ it. it) result) (sym (path_below text bytes same ∙ ap (λ (r : Result Path Fault). r >>= second_from) read)) reported
