-- The lines of a tree are read as the calls that they are to be.
use Rattle.std.proofs.Common.{◌≡◌, ℕ, zero, suc, ◌<◌, ◌≤◌, ◌+◌, ◌%◌, ◌^◌, Bool, true, false, not, ◌&&◌, ◌||◌, cond}
use Rattle.std.proofs.Common.{List, [], ◌∷◌, ◌++◌, length, length-append, codes, slice_index, Some, None, Ok, decimal}
use Rattle.std.proofs.Common.{refl, sym, ap, subst, ◌∙◌, append_assoc, arith}
use Rattle.std.specs.Prelude.{nat_le, nat_lt, ◌==◌, if◌then◌else◌}
use Rattle.std.specs.Fmt.{IsBoundedDecimal}
use Rattle.std.specs.List.{AllByRecursion, flat_map}
use Rattle.std.proofs.lemmas.Bool.Decides.{nat_tests}
use Rattle.std.proofs.lemmas.Fmt.{decimal_by_steps, decimal_nonempty, length-decimal-le}
use Rattle.base64.specs.GeneralPurpose.{IsBytes}
use Rattle.zpath.specs.declared.limits.TheConstants.{MAX_TEXT_LEN}
use Rattle.zpath.specs.Grammar.{has_bad_byte, is_name_byte, segment_of, text_of, IsName, IsPath}
use Rattle.zpath.specs.Faults.{fault_of, names_of}
use Rattle.zpath.proofs.Spelling.{names_of-text_of, text_has_no_fault}
use Rattle.ztree.specs.declared.limits.TheConstants.{MAX_DATA, MAX_TTL}
use Rattle.ztree.specs.declared.term.Term.{Term}
use Rattle.ztree.specs.declared.term.Term.TheVariants.{Unlimited, Timed, Container}
use Rattle.ztree.specs.declared.node.Node.{Node}
use Rattle.ztree.specs.Tree.{Path}
use Rattle.zcalls.specs.declared.call.Call.TheVariants.{Update}
use Rattle.zcalls.specs.declared.call.Update.TheVariants as act
use Rattle.zcalls.specs.declared.call.Kind.{Kind}
use Rattle.zcalls.specs.declared.call.Lifetime.{Lifetime}
use Rattle.zcalls.specs.declared.call.Lifetime.TheVariants.{Persistent, WithTtl, Container as OfContainer}
use Rattle.zcalls.specs.Part.{named}
use Rattle.zcalls.specs.declared.call.Expected.TheVariants.{Any}
use Rattle.zscript_text.specs.declared.limits.TheConstants.{MAX_LINE, NUMBER_BOUND}
use Rattle.zscript_text.specs.declared.line.Line.TheVariants.{Call}
use Rattle.zscript_text.specs.Line.{line_of}
use Rattle.zscript_text.specs.LineWords.{Word, data_of, data_text, is_malformed, number_of, words_of}
use Rattle.zscript_text.specs.Shape.{in_ttl_range, kind_of}
use Rattle.zscript_text.proofs.OneNumeral.{reads_decimal}
use Rattle.zsnapshots.specs.Rows.{HasValidTtl}
use Rattle.zsnapshots.specs.export.Export.{create_line, kind_text, set_line}
use Rattle.zsnapshots.specs.export.Laws.{IsWithinLimits}
use Rattle.zsnapshots.proofs.export_lemmas.Words.{AreMarks, AreWords, IsMark, IsWord, length-spaced, marks-append, spaced, well_formed, words_of-spaced}
use Rattle.zsnapshots.proofs.export_lemmas.Data.{data_length, data_of-text, data_word}

-- ---- kinds

-- the lifetime of a node without an owner, by its term
abbrev pub lifetime_for : Term → Lifetime
lifetime_for Unlimited = Persistent
lifetime_for (Timed ttl) = WithTtl ttl
lifetime_for Container = OfContainer

-- and its kind
abbrev pub kind_for : Term → Kind
kind_for term = named (lifetime_for term)

range : (ttl : ℕ) → 0 < ttl → ttl ≤ MAX_TTL → in_ttl_range ttl ≡ Some ttl
range ttl some few =
    let low : nat_lt 0 ttl ≡ true = grind (arith, nat_tests) in
    let high : nat_le ttl MAX_TTL ≡ true = grind (arith, nat_tests) in
    rw (low, high) refl

timed : (ttl : ℕ) → 0 < ttl → ttl ≤ MAX_TTL → kind_of (codes "t:" ++ decimal ttl) ≡ Some (named (WithTtl ttl))
unfolding kind_of
timed ttl some few = rw (reads_decimal ttl (omega arith), range ttl some few) refl

for_good : kind_of (codes "p") ≡ Some (named Persistent)
unfolding kind_of
for_good = refl

contained : kind_of (codes "c") ≡ Some (named OfContainer)
unfolding kind_of
contained = refl

pub kind_of-text : (term : Term) → HasValidTtl term → kind_of (kind_text term) ≡ Some (kind_for term)
kind_of-text Unlimited is = for_good
kind_of-text (Timed ttl) is = timed ttl is.0 is.1
kind_of-text Container is = contained

digits_marks : (n : ℕ) → n < 2 ^ 64 → AreMarks (decimal n)
digits_marks n small = decimal_by_steps (λ n ds. AreMarks ds) one more n small
  where
    one : (n : ℕ) → n < 10 → AreMarks ((48 + n) ∷ [])
    one n small = ((omega arith, omega arith), tt)

    more : (n : ℕ) (ds : List ℕ) → 10 ≤ n → AreMarks ds → AreMarks (ds ++ ((48 + n % 10) ∷ []))
    more n ds large are = marks-append ds ((48 + n % 10) ∷ []) are ((omega arith, omega arith), tt)

timed_word : (ttl : ℕ) → ttl ≤ MAX_TTL → IsWord (codes "t:" ++ decimal ttl)
timed_word ttl few = record {
  some = omega arith;
  marks = ((omega arith, omega arith), ((omega arith, omega arith), digits_marks ttl (omega arith)));
}

kind_word : (term : Term) → HasValidTtl term → IsWord (kind_text term)
kind_word Unlimited is = record { some = omega arith; marks = ((omega arith, omega arith), tt) }
kind_word (Timed ttl) is = timed_word ttl is.1
kind_word Container is = record { some = omega arith; marks = ((omega arith, omega arith), tt) }

timed_length : (ttl : ℕ) → ttl ≤ MAX_TTL → length (codes "t:" ++ decimal ttl) ≤ 12
timed_length ttl few = let digits = length-decimal-le 10 ttl (omega arith) (omega arith) (omega arith) in omega (arith, digits)

kind_length : (term : Term) → HasValidTtl term → length (kind_text term) ≤ 12
kind_length Unlimited is = omega arith
kind_length (Timed ttl) is = timed_length ttl is.1
kind_length Container is = omega arith

-- ---- paths

both_false : (a b : Bool) → (a || b) ≡ false → (a ≡ false) × (b ≡ false)
both_false true b e = cc
both_false false b e = (refl, e)

name_mark : (b : ℕ) → not (is_name_byte b) ≡ false → IsMark b
name_mark b e = (grind (arith, nat_tests), grind (arith, nat_tests))

name_marks : (name : List ℕ) → has_bad_byte name ≡ false → AreMarks name
name_marks [] e = tt
name_marks (b ∷ name) e =
    let parts = both_false (not (is_name_byte b)) (has_bad_byte name) e in
    (name_mark b parts.0, name_marks name parts.1)

segments_marks : (names : List (List ℕ)) → AllByRecursion IsName names → AreMarks (flat_map segment_of names)
segments_marks [] are = tt
segments_marks (name ∷ names) are =
    marks-append (segment_of name) (flat_map segment_of names) ((omega arith, omega arith), name_marks name are.0.visible)
    (segments_marks names are.1)

pub path_word : (path : Path) → IsPath path → IsWord (text_of path)
path_word [] is = record { some = omega arith; marks = ((omega arith, omega arith), tt) }
path_word (name ∷ names) is = record {
  some = omega arith;
  marks = segments_marks (name ∷ names) is.names;
}

-- ---- lines

-- a line of five words that creates a node
read_create : (line : List ℕ) (path kind bytes : Word) (p : Path) (k : Kind) (d : List ℕ) → is_malformed line ≡ false
    → words_of line ≡ codes "1" ∷ codes "create" ∷ path ∷ kind ∷ bytes ∷ [] → kind_of kind ≡ Some k → fault_of path ≡ None
    → names_of path ≡ p → data_of bytes ≡ Some d
    → line_of line ≡ Ok (Call (record { client = 1; call = Update (act.Create (record { path = p; kind = k; bytes = d })) }))
unfolding line_of
read_create line path kind bytes p k d formed words is_kind no_fault names is_data = rw (formed, words, is_kind, no_fault, names, is_data) refl

-- a line of five words that writes data
read_set : (line : List ℕ) (path bytes : Word) (p : Path) (d : List ℕ) → is_malformed line ≡ false
    → words_of line ≡ codes "1" ∷ codes "set" ∷ path ∷ codes "any" ∷ bytes ∷ [] → fault_of path ≡ None → names_of path ≡ p → data_of bytes ≡ Some d
    → line_of line ≡ Ok (Call (record { client = 1; call = Update (act.SetData (record { path = p; bytes = d; version = Any })) }))
unfolding line_of
read_set line path bytes p d formed words no_fault names is_data = rw (formed, words, no_fault, names, is_data) refl

word_one : IsWord (codes "1")
word_one = record { some = omega arith; marks = ((omega arith, omega arith), tt) }

module _ (path : Path) (n : Node) (is : IsPath path) (within : IsWithinLimits n) (short : length n.bytes ≤ MAX_DATA) where
  abbrev create_words : List Word
  create_words = codes "create" ∷ text_of path ∷ kind_text n.term ∷ data_text n.bytes ∷ []

  word_create : IsWord (codes "create")
  word_create = record {
    some = omega arith;
    marks = (
      (omega arith, omega arith),
      (
        (omega arith, omega arith),
        ((omega arith, omega arith), ((omega arith, omega arith), ((omega arith, omega arith), ((omega arith, omega arith), tt)))),
      ),
    );
  }

  create_are : AreWords (codes "1" ∷ create_words)
  create_are = (word_one, (word_create, (path_word path is, (kind_word n.term within.ttl, (data_word n.bytes within.bytes, tt)))))

  create_short : length (spaced (codes "1") create_words) ≤ MAX_LINE
  create_short =
      let all = length-spaced (codes "1") create_words in
      let of_path = is.short in
      let of_kind = kind_length n.term within.ttl in
      let of_data = data_length n.bytes short in
      omega (arith, all, of_path, of_kind, of_data)

  create_is : create_line path n ≡ spaced (codes "1") create_words
  unfolding create_line
  create_is = simp append_assoc

  pub create_read : line_of (create_line path n)
      ≡ Ok (Call (record { client = 1; call = Update (act.Create (record { path = path; kind = kind_for n.term; bytes = n.bytes })) }))
  create_read = ap line_of create_is ∙ read_create (spaced (codes "1") create_words) (text_of path) (kind_text n.term)
      (data_text n.bytes) path (kind_for n.term) n.bytes
      (well_formed (codes "1") create_words create_are create_short) (words_of-spaced (codes "1") create_words create_are)
      (kind_of-text n.term within.ttl) (text_has_no_fault path is) (names_of-text_of path is) (data_of-text n.bytes within.bytes short)

module _ (bytes : List ℕ) (are_bytes : IsBytes bytes) (short : length bytes ≤ MAX_DATA) where
  abbrev set_words : List Word
  set_words = codes "set" ∷ codes "/" ∷ codes "any" ∷ data_text bytes ∷ []

  set_are : AreWords (codes "1" ∷ set_words)
  set_are = (
    word_one,
    (
      record { some = omega arith; marks = ((omega arith, omega arith), ((omega arith, omega arith), ((omega arith, omega arith), tt))) },
      (
        record { some = omega arith; marks = ((omega arith, omega arith), tt) },
        (
          record { some = omega arith; marks = ((omega arith, omega arith), ((omega arith, omega arith), ((omega arith, omega arith), tt))) },
          (data_word bytes are_bytes, tt),
        ),
      ),
    ),
  )

  set_short : length (spaced (codes "1") set_words) ≤ MAX_LINE
  set_short =
      let all = length-spaced (codes "1") set_words in
      let of_data = data_length bytes short in
      omega (arith, all, of_data)

  set_is : set_line bytes ≡ spaced (codes "1") set_words
  unfolding set_line
  set_is = refl

  root_fault : fault_of (codes "/") ≡ None
  unfolding fault_of
  root_fault = refl

  pub set_read : line_of (set_line bytes)
      ≡ Ok (Call (record { client = 1; call = Update (act.SetData (record { path = []; bytes = bytes; version = Any })) }))
  set_read = ap line_of set_is ∙ read_set (spaced (codes "1") set_words) (codes "/") (data_text bytes) [] bytes
      (well_formed (codes "1") set_words set_are set_short) (words_of-spaced (codes "1") set_words set_are)
      root_fault refl (data_of-text bytes are_bytes short)
