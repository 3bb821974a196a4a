-- The fields of calls are forms.
use Rattle.std.proofs.Common.{◌≡◌, ℕ, ◌^◌, ◌<◌, ◌≤◌, Bool, true, false, cond, ltb, leb, ◌&&◌, List, ◌++◌, Option, Some, None, Ok, Err, refl, sym, ap, subst, ◌∙◌, arith, inl, inr}
use Rattle.std.specs.Prelude.{is_some}
use Rattle.std.specs.Int.{Width, w8, w64, byte_len}
use Rattle.std.proofs.lemmas.Bool.{and_from, and_parts, lt-ltb, ltb-true, le-leb, leb-true}
use Rattle.zcodec.specs.declared.fault.Fault.TheVariants.{Invalid}
use Rattle.zcodec.specs.declared.fault.ReadError.{ReadError}
use Rattle.zcodec.specs.declared.fault.ReadError.TheVariants as errors
use Rattle.zcodec.specs.Forms.{number, empty}
use Rattle.zcodec.specs.Choices.{sized}
use Rattle.zcodec.specs.Laws.{IsForm}
use Rattle.zcodec.specs.Readers.{Fails}
use Rattle.zcodec.proofs.Bytes.{done, ok_is}
use Rattle.zcodec.proofs.Numbers.{is_u8, is_u64, is_empty}
use Rattle.zcodec.proofs.Parts.{is_made}
use Rattle.zcodec.proofs.Choices.{is_sized}
use Rattle.zjute.proofs.Before.{Anything, before, is_form}
use Rattle.zjute.proofs.Tags.{again_as, is_by_tag}
use Rattle.std.specs.Str.{IsUtf8}
use Rattle.zwire.proofs.records_lemmas.Paths.{faultless_utf8}
use Rattle.zpath.specs.declared.fault.PathFault.{PathFault}
use Rattle.zpath.specs.declared.fault.PathFault.TheVariants.{Memory}
use Rattle.zpath.specs.declared.limits.TheConstants.{MAX_TEXT_LEN}
use Rattle.zpath.specs.Grammar.{IsPath, text_of}
use Rattle.zpath.specs.Faults.{fault_of, names_of, IsMemoryOr}
use Rattle.zpath.proofs.Spelling.{path_from_text, text_has_no_fault, names_of-text_of}
use Rattle.ztree.specs.declared.limits.TheConstants.{MOST_DATA, MAX_TTL}
use Rattle.ztree.specs.Tree.{Path}
use Rattle.zcalls.specs.declared.call.Expected.{Expected}
use Rattle.zcalls.specs.declared.call.Expected.TheVariants.{Any, Exactly}
use Rattle.zcalls.specs.declared.call.Kind.{Kind}
use Rattle.zcalls.specs.declared.call.Lifetime.{Lifetime}
use Rattle.zcalls.specs.declared.call.Lifetime.TheVariants.{Persistent, WithTtl, Ephemeral, Container}
use Rattle.zcalls.specs.Part.{named, sequential}
use Rattle.zwire.specs.records.Fields.{up_to_from, up_to, ttl, long, content, path_from, path, version_at, version_spelled, version, kind_at, spelled_as, kind_spelled, node_kind}
use Rattle.zwire.proofs.records_lemmas.Sums.{none_take, one_takes}

-- ---- numbers

-- a number in the range is read
pub up_to-some : (most n : ℕ) → 0 < n → n ≤ most → up_to_from most n ≡ Ok n
up_to-some most n above few = ap (λ (b : Bool). cond b (Ok n) (Err Invalid)) (and_from (ltb 0 n) (leb n most) (lt-ltb 0 n above) (le-leb n most few))

-- and no other
up_to-in : (most n k : ℕ) (b : Bool) → (ltb 0 n && leb n most) ≡ b → cond b (Ok n) (Err Invalid) ≡ Ok k → (k ≡ n) × ((0 < k) × (k ≤ most))
up_to-in most n k true within e =
    let parts = and_parts (ltb 0 n) (leb n most) within in
    subst (λ (x : ℕ). (x ≡ n) × ((0 < x) × (x ≤ most))) (ok_is n k e) (refl, (ltb-true 0 n parts.0, leb-true n most parts.1))
up_to-in most n k false other e = absurd cc

pub up_to-none : (most n : ℕ) → ((0 < n) × (n ≤ most) → ⊥) → up_to_from most n ≡ Err Invalid
up_to-none most n other = by (ltb 0 n && leb n most) refl
  where
    by : (b : Bool) → (ltb 0 n && leb n most) ≡ b → cond b (Ok n) (Err Invalid) ≡ Err Invalid
    by true within =
        let parts = and_parts (ltb 0 n) (leb n most) within in
        absurd (other (ltb-true 0 n parts.0, leb-true n most parts.1))
    by false out = refl

pub is_up_to : (w : Width) (most : ℕ) → IsForm (number w) → most < 256 ^ byte_len w → IsForm (up_to w most)
is_up_to w most is room = is_made (number w) (λ n. n) (up_to_from most) (λ n. (0 < n) × (n ≤ most)) is
    (λ n k fits e. let t = up_to-in most n k (ltb 0 n && leb n most) refl e in (t.0, t.1))
    (λ n fits. (up_to-some most n fits.0 fits.1, omega (arith, fits.1, room)))

pub is_ttl : IsForm ttl
unfolding ttl
is_ttl = is_up_to w64 MAX_TTL is_u64 (omega arith)

pub is_number : IsForm long
is_number = is_u64

-- ---- bytes

pub is_content : IsForm content
unfolding content
is_content = is_sized MOST_DATA (omega arith)

-- the text of a path is read as it
pub path_again : (p : Path) → IsPath p → path_from (text_of p) ≡ Ok p
unfolding path_from
path_again p is =
    ap (λ (o : Option PathFault). cond (is_some o) (Err Invalid) (Ok (names_of (text_of p)))) (text_has_no_fault p is)
    ∙ ap done (names_of-text_of p is)

-- a text that is read as a path is its text
pub path_back : (text : List ℕ) (p : Path) → path_from text ≡ Ok p → (text_of p ≡ text) × IsPath p
unfolding path_from
path_back text p e = by (fault_of text) refl e
  where
    by : (o : Option PathFault) → fault_of text ≡ o → cond (is_some o) (Err Invalid) (Ok (names_of text)) ≡ Ok p → (text_of p ≡ text) × IsPath p
    by None none e =
        let t = path_from_text text none in
        subst (λ (q : Path). (text_of q ≡ text) × IsPath q) (ok_is (names_of text) p e) (sym t.1, t.0)
    by (Some fault) some e = absurd cc

pub path_fault : (text : List ℕ) (fault : PathFault) → fault_of text ≡ Some fault → path_from text ≡ Err Invalid
unfolding path_from
path_fault text fault has = ap (λ (o : Option PathFault). cond (is_some o) (Err Invalid) (Ok (names_of text))) has

-- bytes that aren't UTF-8 are no path
pub path_alien : (bytes : List ℕ) → (IsUtf8 bytes → ⊥) → path_from bytes ≡ Err Invalid
path_alien bytes alien = by (fault_of bytes) refl
  where
    by : (o : Option PathFault) → fault_of bytes ≡ o → path_from bytes ≡ Err Invalid
    by None none = absurd (alien (faultless_utf8 bytes none))
    by (Some fault) some = path_fault bytes fault some

-- a text that isn't read as a path is none, or memory ran out
path_bad : (text : List ℕ) (fault : PathFault) → IsMemoryOr (fault_of text) fault → (fault ≡ Memory → ⊥) → path_from text ≡ Err Invalid
path_bad text fault (inl is) other = absurd (other is)
path_bad text fault (inr some) other = path_fault text fault some

pub path_unread : (text : List ℕ) (fault : PathFault) (error : ReadError) → IsMemoryOr (fault_of text) fault
    → (fault ≡ Memory → error ≡ errors.Memory) → ((fault ≡ Memory → ⊥) → error ≡ errors.Fault Invalid) → Fails error (path_from text)
path_unread text Memory error reported memory other = subst (λ (e : ReadError). Fails e (path_from text)) (sym (memory refl)) tt
path_unread text fault error reported memory other =
    let is_other : fault ≡ Memory → ⊥ = λ same. cc in
    subst (λ (e : ReadError). Fails e (path_from text)) (sym (other is_other)) (path_bad text fault reported is_other)

pub is_path : IsForm path
unfolding path
is_path = is_made (sized MAX_TEXT_LEN) text_of path_from IsPath (is_sized MAX_TEXT_LEN (omega arith))
    (λ text p fits e. path_back text p e)
    (λ p is. (path_again p is, (is.short, refl)))

-- ---- tagged

version_again : (v : Expected) (rest : List ℕ) → Anything rest → (version_spelled v).fits → version_at (version_spelled v).tag ((version_spelled v).text ++ rest) ≡ Ok (v, rest)
unfolding version_at
version_again Any rest any fits = refl
version_again (Exactly n) rest any fits = again_as Anything long (λ n. Exactly n) (before Anything long is_number) n rest any fits

pub is_version : IsForm version
unfolding version version_at
is_version = is_form version (is_by_tag Anything (number w8) version_at version_spelled is_u8
    (one_takes version_spelled 0 empty (λ _. Any) _ is_empty (λ x. refl) (λ x. refl) (λ x fits. fits)
    (one_takes version_spelled 1 long (λ n. Exactly n) _ is_number (λ x. refl) (λ x. refl) (λ x fits. fits)
    (none_take version_spelled)))
    version_again)

kind_again : (k : Kind) (rest : List ℕ) → Anything rest → (kind_spelled k).fits → kind_at (kind_spelled k).tag ((kind_spelled k).text ++ rest) ≡ Ok (k, rest)
unfolding kind_at
kind_again kind rest any = by kind.lifetime kind.is_sequential
  where
    by : (l : Lifetime) (b : Bool) → (spelled_as l b).fits → kind_at (spelled_as l b).tag ((spelled_as l b).text ++ rest) ≡ Ok (record { lifetime = l; is_sequential = b }, rest)
    by Persistent false fits = refl
    by Persistent true fits = refl
    by (WithTtl ticks) false fits = again_as Anything ttl (λ ticks. named (WithTtl ticks)) (before Anything ttl is_ttl) ticks rest any fits
    by (WithTtl ticks) true fits = again_as Anything ttl (λ ticks. sequential (WithTtl ticks)) (before Anything ttl is_ttl) ticks rest any fits
    by (Ephemeral session) false fits = again_as Anything long (λ session. named (Ephemeral session)) (before Anything long is_number) session rest any fits
    by (Ephemeral session) true fits = again_as Anything long (λ session. sequential (Ephemeral session)) (before Anything long is_number) session rest any fits
    by Container false fits = refl
    by Container true fits = refl

pub is_node_kind : IsForm node_kind
unfolding node_kind kind_at
is_node_kind = is_form node_kind (is_by_tag Anything (number w8) kind_at kind_spelled is_u8
    (one_takes kind_spelled 0 empty (λ _. named Persistent) _ is_empty (λ x. refl) (λ x. refl) (λ x fits. fits)
    (one_takes kind_spelled 1 empty (λ _. sequential Persistent) _ is_empty (λ x. refl) (λ x. refl) (λ x fits. fits)
    (one_takes kind_spelled 2 ttl (λ ticks. named (WithTtl ticks)) _ is_ttl (λ x. refl) (λ x. refl) (λ x fits. fits)
    (one_takes kind_spelled 3 ttl (λ ticks. sequential (WithTtl ticks)) _ is_ttl (λ x. refl) (λ x. refl) (λ x fits. fits)
    (one_takes kind_spelled 4 long (λ session. named (Ephemeral session)) _ is_number (λ x. refl) (λ x. refl) (λ x fits. fits)
    (one_takes kind_spelled 5 long (λ session. sequential (Ephemeral session)) _ is_number (λ x. refl) (λ x. refl) (λ x fits. fits)
    (one_takes kind_spelled 6 empty (λ _. named Container) _ is_empty (λ x. refl) (λ x. refl) (λ x fits. fits)
    (one_takes kind_spelled 7 empty (λ _. sequential Container) _ is_empty (λ x. refl) (λ x. refl) (λ x fits. fits)
    (none_take kind_spelled)))))))))
    kind_again)
