-- The headers of parts, the parts after them, and the lists of parts are forms.
use Rattle.std.proofs.Common.{◌≡◌, ℕ, ◌<◌, ℤ, Bool, true, false, cond, List, ◌++◌, length, Option, Some, None, Result, Ok, Err, refl, sym, ap, subst, ◌∙◌, arith}
use Rattle.std.specs.Int.{w32}
use Rattle.std.specs.Ordering.{int_eq}
use Rattle.std.proofs.Math.Facts.{sfits_lit}
use Rattle.std.proofs.lemmas.Bool.Decides.{Decides-int_eq}
use Rattle.zcodec.specs.declared.fault.Fault.{Fault}
use Rattle.zcodec.specs.declared.fault.Fault.TheVariants.{Invalid}
use Rattle.zcodec.specs.Forms.{◌>>=◌, both}
use Rattle.zcodec.specs.Choices.{flag}
use Rattle.zcodec.specs.Laws.{IsBytes, IsForm}
use Rattle.zcodec.proofs.Bytes.{bind_ok, done, ok_is}
use Rattle.zcodec.proofs.Parts.{is_both, is_made}
use Rattle.zcodec.proofs.Choices.{is_flag}
use Rattle.zjute.specs.declared.part.PartRequest.{PartRequest}
use Rattle.zjute.specs.declared.part.PartRequest.TheVariants as part
use Rattle.zjute.specs.declared.part.LookPart.{LookPart}
use Rattle.zjute.specs.declared.part.LookPart.TheVariants as look_part
use Rattle.zjute.specs.declared.part_kind.PartKind.{PartKind}
use Rattle.zjute.specs.declared.part_kind.PartKind.TheVariants as kind
use Rattle.zjute.specs.declared.part_kind.LookKind.{LookKind}
use Rattle.zjute.specs.declared.part_kind.LookKind.TheVariants as look_kind
use Rattle.zjute.specs.Jute.{neg, int}
use Rattle.zjute.specs.Shapes.{Spelled, or_invalid}
use Rattle.zjute.specs.Requests.{create, create_ttl, at_version, look, set_data}
use Rattle.zjute.specs.Parts.{Header, header_fields, header_of, kind_at, header_kind, FitsKind, header, or_end, end_or}
use Rattle.zjute.specs.Parts.{part_number, part_kinds, part_kind_of, part_at, part_spelled, part_header, part_or_end, parts}
use Rattle.zjute.specs.Parts.{look_number, look_kinds, look_kind_of, look_at, look_spelled, look_header, look_or_end, looks}
use Rattle.zjute.proofs.Signed.{is_int}
use Rattle.zjute.proofs.Numbered.{has_number}
use Rattle.zjute.proofs.Before.{Anything, before, is_form}
use Rattle.zjute.proofs.Tags.{TakesAt, takes_as, again_as, is_by_tag, is_until}
use Rattle.zjute.proofs.Records.{is_create, is_create_ttl, is_at_version, is_look, is_set_data}

pub neg_1 : int.Fits (neg 1)
unfolding int
neg_1 = sfits_lit {w = w32} {z = neg 1} tt

pub is_header_fields : IsForm header_fields
is_header_fields = is_both int (both flag int) is_int (is_both flag int is_flag is_int)

-- ---- a header encodes a kind

-- the header of a kind that was read is the one that it was read of
abbrev Back : {K : Type 0} → (K → ℤ) → (ℤ → Option K) → Header → Option K → Type 0
Back number of h o = (header_of number o ≡ h) × FitsKind number of o

end_back : {K : Type 0} (number : K → ℤ) (of : ℤ → Option K) (n : ℤ) (o : Option K) (b : Bool) → int_eq n (neg 1) ≡ b
    → cond b (Ok None) (Err Invalid) ≡ Ok o → Back number of (n, (true, neg 1)) o
end_back number of n o true same e =
    subst (Back number of (n, (true, neg 1))) (ok_is None o e) (ap (λ (x : ℤ). (x, (true, neg 1))) (sym ((Decides-int_eq n (neg 1)).0 same)), tt)
end_back number of n o false other e = absurd cc

some_back : {K : Type 0} (number : K → ℤ) (of : ℤ → Option K) → ((n : ℤ) (k : K) → of n ≡ Some k → number k ≡ n) → (n : ℤ) (o : Option K) → int.Fits n → (found : Option K)
    → of n ≡ found → (or_invalid found >>= λ k. Ok (Some k)) ≡ Ok o → Back number of (n, (false, neg 1)) o
some_back number of reports n o fits None none e = absurd cc
some_back number of reports n o fits (Some k) has e =
    let is = reports n k has in
    subst (Back number of (n, (false, neg 1))) (ok_is (Some k) o e)
    (ap (λ (x : ℤ). (x, (false, neg 1))) is, (subst int.Fits (sym is) fits, ap of is ∙ has))

kind_back : {K : Type 0} (number : K → ℤ) (of : ℤ → Option K) → ((n : ℤ) (k : K) → of n ≡ Some k → number k ≡ n) → (n : ℤ) (done : Bool) (o : Option K) → int.Fits n
    → kind_at of n done ≡ Ok o → Back number of (n, (done, neg 1)) o
kind_back number of reports n true o fits e = end_back number of n o (int_eq n (neg 1)) refl e
kind_back number of reports n false o fits e = some_back number of reports n o fits (of n) refl e

header_back : {K : Type 0} (number : K → ℤ) (of : ℤ → Option K) → ((n : ℤ) (k : K) → of n ≡ Some k → number k ≡ n) → (n : ℤ) (done : Bool) (code : ℤ) (o : Option K) (b : Bool) → int.Fits n
    → int_eq code (neg 1) ≡ b → cond b (kind_at of n done) (Err Invalid) ≡ Ok o → Back number of (n, (done, code)) o
header_back number of reports n done code o true fits same e =
    let r = kind_back number of reports n done o fits e in
    (r.0 ∙ ap (λ (x : ℤ). (n, (done, x))) (sym ((Decides-int_eq code (neg 1)).0 same)), r.1)
header_back number of reports n done code o false fits other e = absurd cc

header_forth : {K : Type 0} (number : K → ℤ) (of : ℤ → Option K) (o : Option K) → FitsKind number of o → (header_kind of (header_of number o) ≡ Ok o) × header_fields.Fits (header_of number o)
header_forth number of None fits = (refl, (neg_1, (tt, neg_1)))
header_forth {K} number of (Some k) fits = (ap (λ (found : Option K). or_invalid found >>= λ k. Ok (Some k)) fits.1, (fits.0, (tt, neg_1)))

is_header : {K : Type 0} (number : K → ℤ) (of : ℤ → Option K) → ((n : ℤ) (k : K) → of n ≡ Some k → number k ≡ n) → IsForm (header number of)
is_header number of reports = is_made header_fields (header_of number) (header_kind of) (FitsKind number of) is_header_fields
    (λ h o fits e. header_back number of reports h.0 h.1.0 h.1.1 o (int_eq h.1.1 (neg 1)) fits.0 refl e)
    (header_forth number of)

-- ---- after a header

end_takes : {K A : Type 0} (at : K → List ℕ → Result (A × List ℕ) Fault) (spelled : A → Spelled K)
    → ((k : K) (bytes : List ℕ) (y : A × List ℕ) → IsBytes bytes → at k bytes ≡ Ok y → TakesAt spelled k bytes y)
    → (k : Option K) (bytes : List ℕ) (y : Option A × List ℕ) → IsBytes bytes → or_end at k bytes ≡ Ok y → TakesAt (end_or spelled) k bytes y
end_takes at spelled takes None bytes y are e = subst (TakesAt (end_or spelled) None bytes) (ok_is (None, bytes) y e) (refl, refl, tt)
end_takes at spelled takes (Some k) bytes y are e =
    let a = bind_ok (at k bytes) (λ x. Ok (Some x.0, x.1)) y e in
    let t = takes k bytes a.0 are a.1 in
    subst (TakesAt (end_or spelled) (Some k) bytes) (ok_is (Some a.0.0, a.0.1) y a.2) (t.0, ap Some t.1, t.2)

end_again : {K A : Type 0} (at : K → List ℕ → Result (A × List ℕ) Fault) (spelled : A → Spelled K)
    → ((x : A) (rest : List ℕ) → Anything rest → (spelled x).fits → at (spelled x).tag ((spelled x).text ++ rest) ≡ Ok (x, rest))
    → (y : Option A) (rest : List ℕ) → Anything rest → (end_or spelled y).fits → or_end at (end_or spelled y).tag ((end_or spelled y).text ++ rest) ≡ Ok (y, rest)
end_again at spelled again None rest ends fits = refl
end_again {K} {A} at spelled again (Some x) rest ends fits = ap (λ (r : Result (A × List ℕ) Fault). r >>= λ x. done (Some x.0, x.1)) (again x rest ends fits)

-- ---- the parts of a multi

part_header_is : IsForm part_header
unfolding part_header
part_header_is = is_header part_number part_kind_of (λ n k e. has_number part_number part_kinds n k e)

part_takes : (k : PartKind) (bytes : List ℕ) (y : PartRequest × List ℕ) → IsBytes bytes → part_at k bytes ≡ Ok y → TakesAt part_spelled k bytes y
part_takes kind.Create bytes y are e = takes_as Anything part_spelled kind.Create create (λ x. part.Create x) (before Anything create is_create) (λ x. refl) (λ x. refl) (λ x fits. fits) bytes y are e
part_takes kind.Delete bytes y are e = takes_as Anything part_spelled kind.Delete at_version (λ x. part.Delete x) (before Anything at_version is_at_version) (λ x. refl) (λ x. refl) (λ x fits. fits) bytes y are e
part_takes kind.SetData bytes y are e = takes_as Anything part_spelled kind.SetData set_data (λ x. part.SetData x) (before Anything set_data is_set_data) (λ x. refl) (λ x. refl) (λ x fits. fits) bytes y are e
part_takes kind.Check bytes y are e = takes_as Anything part_spelled kind.Check at_version (λ x. part.Check x) (before Anything at_version is_at_version) (λ x. refl) (λ x. refl) (λ x fits. fits) bytes y are e
part_takes kind.Create2 bytes y are e = takes_as Anything part_spelled kind.Create2 create (λ x. part.Create2 x) (before Anything create is_create) (λ x. refl) (λ x. refl) (λ x fits. fits) bytes y are e
part_takes kind.CreateContainer bytes y are e = takes_as Anything part_spelled kind.CreateContainer create (λ x. part.CreateContainer x) (before Anything create is_create) (λ x. refl) (λ x. refl) (λ x fits. fits) bytes y are e
part_takes kind.CreateTtl bytes y are e = takes_as Anything part_spelled kind.CreateTtl create_ttl (λ x. part.CreateTtl x) (before Anything create_ttl is_create_ttl) (λ x. refl) (λ x. refl) (λ x fits. fits) bytes y are e

part_again : (p : PartRequest) (rest : List ℕ) → Anything rest → (part_spelled p).fits → part_at (part_spelled p).tag ((part_spelled p).text ++ rest) ≡ Ok (p, rest)
part_again (part.Create x) rest ends fits = again_as Anything create (λ x. part.Create x) (before Anything create is_create) x rest ends fits
part_again (part.Delete x) rest ends fits = again_as Anything at_version (λ x. part.Delete x) (before Anything at_version is_at_version) x rest ends fits
part_again (part.SetData x) rest ends fits = again_as Anything set_data (λ x. part.SetData x) (before Anything set_data is_set_data) x rest ends fits
part_again (part.Check x) rest ends fits = again_as Anything at_version (λ x. part.Check x) (before Anything at_version is_at_version) x rest ends fits
part_again (part.Create2 x) rest ends fits = again_as Anything create (λ x. part.Create2 x) (before Anything create is_create) x rest ends fits
part_again (part.CreateContainer x) rest ends fits = again_as Anything create (λ x. part.CreateContainer x) (before Anything create is_create) x rest ends fits
part_again (part.CreateTtl x) rest ends fits = again_as Anything create_ttl (λ x. part.CreateTtl x) (before Anything create_ttl is_create_ttl) x rest ends fits

part_is : IsForm part_or_end
unfolding part_or_end
part_is = is_form part_or_end (is_by_tag Anything part_header (or_end part_at) (end_or part_spelled) part_header_is (end_takes part_at part_spelled part_takes) (end_again part_at part_spelled part_again))

part_long : (o : Option PartRequest) → 0 < length (part_or_end.spell o)
unfolding part_or_end part_header int
part_long o = omega arith

pub is_parts : IsForm parts
unfolding parts
is_parts = is_until part_or_end part_is part_long

-- ---- the parts of a multiRead

look_header_is : IsForm look_header
unfolding look_header
look_header_is = is_header look_number look_kind_of (λ n k e. has_number look_number look_kinds n k e)

look_takes : (k : LookKind) (bytes : List ℕ) (y : LookPart × List ℕ) → IsBytes bytes → look_at k bytes ≡ Ok y → TakesAt look_spelled k bytes y
look_takes look_kind.GetData bytes y are e = takes_as Anything look_spelled look_kind.GetData look (λ x. look_part.GetData x) (before Anything look is_look) (λ x. refl) (λ x. refl) (λ x fits. fits) bytes y are e
look_takes look_kind.GetChildren bytes y are e = takes_as Anything look_spelled look_kind.GetChildren look (λ x. look_part.GetChildren x) (before Anything look is_look) (λ x. refl) (λ x. refl) (λ x fits. fits) bytes y are e

look_again : (p : LookPart) (rest : List ℕ) → Anything rest → (look_spelled p).fits → look_at (look_spelled p).tag ((look_spelled p).text ++ rest) ≡ Ok (p, rest)
look_again (look_part.GetData x) rest ends fits = again_as Anything look (λ x. look_part.GetData x) (before Anything look is_look) x rest ends fits
look_again (look_part.GetChildren x) rest ends fits = again_as Anything look (λ x. look_part.GetChildren x) (before Anything look is_look) x rest ends fits

look_part_is : IsForm look_or_end
unfolding look_or_end
look_part_is = is_form look_or_end (is_by_tag Anything look_header (or_end look_at) (end_or look_spelled) look_header_is (end_takes look_at look_spelled look_takes) (end_again look_at look_spelled look_again))

look_long : (o : Option LookPart) → 0 < length (look_or_end.spell o)
unfolding look_or_end look_header int
look_long o = omega arith

pub is_looks : IsForm looks
unfolding looks
is_looks = is_until look_or_end look_part_is look_long
