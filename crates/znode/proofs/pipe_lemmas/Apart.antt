-- Bytes are those of one sequence of records.
use Rattle.std.proofs.Common.{◌≡◌, ◌<◌, ℕ, length, length-append, List, [], ◌∷◌, ◌++◌, refl, sym, ap, ◌∙◌, arith}
use Rattle.std.specs.List.{flat_map, AllByRecursion}
use Rattle.std.proofs.lemmas.List.Concat.{flat_map-cons}
use Rattle.zcodec.specs.Forms.{Form}
use Rattle.zcodec.specs.Laws.{IsForm}
use Rattle.zcodec.proofs.Whole.{one_value}

-- a record has a byte
abbrev pub HasBytes : {A : Type 0} → Form A → Type 0
HasBytes {A} c = (x : A) → 0 < length (c.spell x)

some : {A : Type 0} (c : Form A) → HasBytes c → (x : A) (rest : List ℕ) → c.spell x ++ rest ≡ [] → ⊥
some c has x rest none =
    let long = has x in
    let is : length (c.spell x ++ rest) ≡ 0 = ap length none in
    omega (arith, length-append (c.spell x) rest, long, is)

pub apart : {A : Type 0} (c : Form A) → IsForm c → HasBytes c → (a b : List A) → AllByRecursion c.Fits a → AllByRecursion c.Fits b
    → flat_map c.spell a ≡ flat_map c.spell b → a ≡ b
apart c is has [] [] fit also same = refl
apart c is has [] (b ∷ bs) fit also same = absurd (some c has b (flat_map c.spell bs) (sym (same ∙ flat_map-cons c.spell b bs)))
apart c is has (a ∷ first) [] fit also same = absurd (some c has a (flat_map c.spell first) (sym (flat_map-cons c.spell a first) ∙ same))
apart c is has (a ∷ first) (b ∷ second) fit also same =
    let front = one_value c is a b (flat_map c.spell first) (flat_map c.spell second) fit.0 also.0 (sym (flat_map-cons c.spell a first)
    ∙ same ∙ flat_map-cons c.spell b second) in
    let rest = apart c is has first second fit.1 also.1 front.1 in
    let head = front.0 in
    cc
