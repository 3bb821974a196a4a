-- How a file begins.
use Rattle.std.proofs.Common.{◌≡◌, ◌≢◌, ◌≤◌, inl, inr, ℕ, zero, suc, ◌+◌, ◌<◌, List, [], ◌∷◌, ◌++◌, length, take, drop, refl, sym, ◌∙◌, ap}
use Rattle.std.proofs.Common.{arith, get_or, subst, length-append, length-drop}
use Rattle.zjournal.specs.declared.place.Place.{Place}
use Rattle.zjournal.specs.declared.fault.OpenError.{OpenError}
use Rattle.zjournal.specs.declared.fault.OpenError.TheVariants.{Memory, Failed, NotJournal, Version, Old, Other, Servers, Damaged}
use Rattle.zjournal.specs.Blocks.{IsText, AreTexts, blocks, IsEnd}
use Rattle.zjournal.specs.Checksum.{IsSum, digits, stamped, stamped_all, sum_after_all}
use Rattle.zjournal.specs.Journal.{mark, version, word, head, holdings, IsUnmade, IsUnopened}
use Rattle.zjournal.specs.Faults.{Begins, IsJournal, HasOtherWord, IsOlder, IsDamagedAt, IsSuch}
use Rattle.zjournal.specs.Found.{KeepsTo}
use Rattle.zjournal.specs.Scan.{AreBatches, IsOther}
use Rattle.zjournal.proofs.Blocks.{first_block}
use Rattle.zjournal.proofs.Files.{head_text, head_size}

pub no_journal : (servers : ℕ) (file : List ℕ) → (IsUnmade servers file → ⊥) → (IsUnopened servers file → ⊥)
    → ((rest : List ℕ) → file ≡ 1 ∷ mark ++ rest → ⊥) → IsJournal servers file → ⊥
no_journal servers file made opened none (inl (inl unmade)) = made unmade
no_journal servers file made opened none (inl (inr unopened)) = opened unopened
no_journal servers file made opened none (inr begun) = none (begun.0 ∷ begun.1 ∷ begun.2) begun.3

pub begins : (file rest more last : List ℕ) (found given : ℕ) → file ≡ 1 ∷ mark ++ rest → rest ≡ found ∷ more
    → more ≡ given ∷ last → Begins found given last file
begins file rest more last found given front first second =
    front ∙ ap (λ (l : List ℕ). 1 ∷ mark ++ l) (first ∙ ap (λ (l : List ℕ). found ∷ l) second)

pub version_is : (found given : ℕ) (last file : List ℕ) → Begins found given last file → found ≡ version → Begins version given last file
version_is found given last file begins is = begins ∙ ap (λ (n : ℕ). 1 ∷ mark ++ n ∷ given ∷ last) is

pub given_is : (given servers : ℕ) (last file : List ℕ) → Begins version given last file → given ≡ servers → Begins version servers last file
given_is given servers last file begins is = begins ∙ ap (λ (n : ℕ). 1 ∷ mark ++ version ∷ n ∷ last) is

-- the version is another one
pub older_is : (found given : ℕ) (last file : List ℕ) → Begins found given last file → IsOlder file → (0 < found) × (found < version)
older_is found given last file begins old =
    let same : old.0 ≡ found = ap (λ (l : List ℕ). get_or l 19 0) (sym old.3 ∙ begins) in
    (subst (λ (n : ℕ). 0 < n) same old.4, subst (λ (n : ℕ). n < version) same old.5)

pub other_version_is_such : (servers found given : ℕ) (last file : List ℕ) (e : OpenError) → Begins found given last file → found ≢ version
    → (0 < found → found < 3 → e ≡ Old) → ((0 < found → found < 3 → ⊥) → e ≡ Version found) → IsSuch servers file e
other_version_is_such servers found given last file e at differs is_old is_other = by_cases found at differs is_old is_other
  where
    newer : (n : ℕ) → Begins n given last file → n ≢ version → (0 < n → n < 3 → ⊥) → e ≡ Version n → IsSuch servers file e
    newer n at differs none is = subst (IsSuch servers file) (sym is)
        (given, last, at, differs, λ old. let h = older_is n given last file at old in none h.0 h.1)

    older : (n : ℕ) → Begins n given last file → 0 < n → n < 3 → e ≡ Old → IsSuch servers file e
    older n at some below is = subst (IsSuch servers file) (sym is) (n, given, last, at, some, below)

    by_cases : (n : ℕ) → Begins n given last file → n ≢ version → (0 < n → n < 3 → e ≡ Old)
        → ((0 < n → n < 3 → ⊥) → e ≡ Version n) → IsSuch servers file e
    by_cases zero at differs is_old is_other =
        let none : 0 < 0 → 0 < 3 → ⊥ = λ some below. omega (arith, some) in newer 0 at differs none (is_other none)
    by_cases (suc zero) at differs is_old is_other = older 1 at (omega arith) (omega arith) (is_old (omega arith) (omega arith))
    by_cases (suc (suc zero)) at differs is_old is_other = older 2 at (omega arith) (omega arith) (is_old (omega arith) (omega arith))
    by_cases (suc (suc (suc n))) at differs is_old is_other =
        let none : 0 < suc (suc (suc n)) → suc (suc (suc n)) < 3 → ⊥ = λ some below. omega (arith, below) in
        newer (suc (suc (suc n))) at differs none (is_other none)

-- the word is another one
pub other_word : (given : ℕ) (last file : List ℕ) → Begins version given last file → (4 ≤ length last) × (take 4 last ≢ word) → HasOtherWord file
other_word given last file begins h = (given, last, begins, h.0, h.1)

pub no_other_word : (given : ℕ) (last file : List ℕ) → Begins version given last file
    → ((4 ≤ length last) × (take 4 last ≢ word) → ⊥) → HasOtherWord file → ⊥
no_other_word given last file begins none other =
    let same : other.1 ≡ last = ap (λ (l : List ℕ). drop 21 l) (sym other.2 ∙ begins) in
    none (subst (λ (l : List ℕ). 4 ≤ length l) same other.3, (λ is. other.4 (ap (λ (l : List ℕ). take 4 l) same ∙ is)))

-- the head has a word, a sum and an end, or it hasn't
pub head_damaged : (servers : ℕ) (file last : List ℕ) → Begins version servers last file → (HasOtherWord file → ⊥)
    → ((start : ℕ) (more : List ℕ) → IsSum start → last ≡ word ++ digits start ++ 0 ∷ more → ⊥) → IsDamagedAt servers 0 file
head_damaged servers file last begins other none = inl (refl, (last, begins, none, other))

pub head_whole : (start servers : ℕ) (file last : List ℕ) → Begins version servers last file
    → last ≡ word ++ digits start ++ 0 ∷ drop 13 last → file ≡ 1 ∷ (head start servers ++ 0 ∷ drop 34 file)
head_whole start servers file last begins is =
    begins
    ∙ ap (λ (l : List ℕ). 1 ∷ mark ++ version ∷ servers ∷ l) is
    ∙ ap (λ (l : List ℕ). 1 ∷ (head start servers ++ 0 ∷ l)) (sym (ap (λ (l : List ℕ). drop 34 l) begins))

-- the batches follow the head
module _ (servers : ℕ) (file : List ℕ) (first : Place) (some : 0 < servers) (at : first.end ≡ 34) (sum : first.sum ≡ first.start)
    (is_sum : IsSum first.start) (headed : file ≡ 1 ∷ (head first.start servers ++ 0 ∷ drop 34 file)) where
  sums_are : (batches : List (List ℕ)) → stamped_all first.sum batches ≡ stamped_all first.start batches
  sums_are batches = ap (λ (n : ℕ). stamped_all n batches) sum

  module _ (batches : List (List ℕ)) (last : Place) (are : AreBatches file first batches last) where
    texts_are : AreTexts (holdings first.start servers batches)
    texts_are = (head_text first.start servers some, subst AreTexts (sums_are batches) are.texts)

    whole : file ≡ blocks (holdings first.start servers batches) ++ drop last.end file
    whole =
        headed
        ∙ ap (λ (l : List ℕ). 1 ∷ (head first.start servers ++ 0 ∷ l)) (ap (λ (n : ℕ). drop n file) (sym at) ∙ are.stand
        ∙ ap (λ (t : List (List ℕ)). blocks t ++ drop last.end file) (sums_are batches))
        ∙ sym (first_block (head first.start servers) (stamped_all first.start batches) (drop last.end file))

    long : last.end ≡ length (blocks (holdings first.start servers batches))
    long =
        omega (
          arith,
          at,
          are.long,
          ap (λ (t : List (List ℕ)). length (blocks t)) (sums_are batches),
          head_size first.start servers,
          length-append (head first.start servers) (0 ∷ blocks (stamped_all first.start batches)),
        )

    sum_is : last.sum ≡ sum_after_all first.start batches
    sum_is = are.goes_on ∙ ap (λ (n : ℕ). sum_after_all n batches) sum

    pub keeps_to : IsEnd (drop last.end file) → KeepsTo servers batches last file
    keeps_to nothing = record {
      texts = subst (λ (n : ℕ). AreTexts (holdings n servers batches)) (sym are.same) texts_are;
      split = whole ∙ ap (λ (n : ℕ). blocks (holdings n servers batches) ++ drop last.end file) (sym are.same);
      is_place = record {
        end = long ∙ ap (λ (n : ℕ). length (blocks (holdings n servers batches))) (sym are.same);
        sum = sum_is ∙ ap (λ (n : ℕ). sum_after_all n batches) (sym are.same);
        is_sum = subst IsSum (sym are.same) is_sum;
      };
      counts_for_nothing = nothing;
    }

  nothing_there : (commit_byte : ℕ) → commit_byte + 1 < length file → drop (commit_byte + 1) file ≡ [] → ⊥
  nothing_there commit_byte within none = omega (arith, within, ap length none, length-drop (commit_byte + 1) file)

  pub other_is_such : (e : OpenError) → IsOther file first e → IsSuch servers file e
  other_is_such Memory other = tt
  other_is_such Failed other = tt
  other_is_such NotJournal other = absurd other
  other_is_such (Version found) other = absurd other
  other_is_such Old other = absurd other
  other_is_such Other other = absurd other
  other_is_such (Servers given) other = absurd other
  other_is_such (Damaged commit_byte) other =
      let last = other.1 in
      inr (
        first.start,
        is_sum,
        other.0,
        texts_are other.0 last other.2,
        other.3 ∙ long other.0 last other.2,
        (
          drop (last.end + 1) file,
          whole other.0 last other.2 ∙ ap (λ (l : List ℕ). blocks (holdings first.start servers other.0) ++ l) other.4,
          nothing_there last.end other.5,
          subst (λ (n : ℕ). (text more : List ℕ) → IsText (stamped n text) → drop (last.end + 1) file ≡ stamped n text ++ 0 ∷ more → ⊥)
              (sum_is other.0 last other.2) other.6,
        ),
      )
