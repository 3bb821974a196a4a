-- Parts are read from the left: one more is read of the words, and is appended to those that were
-- read.
use Rattle.std.proofs.Common.{◌≡◌, ◌<◌, ◌+◌, ℕ, List, [], ◌∷◌, ◌++◌, length, drop, Ok, Err, refl, append_assoc}
use Rattle.std.proofs.Math.ListN.{get_or}
use Rattle.std.proofs.lemmas.List.{drop_more}
use Rattle.zcalls.specs.declared.call.Part.{Part}
use Rattle.zscript_text.specs.declared.part_words.PartWords.{PartWords}
use Rattle.zscript_text.specs.Request.{Read, then_read, part_in, parts_in}

-- what precedes the rest of the parts may be appended to those that were read
behind_those_read : (rest : Read (List Part)) (part : Part) (parts : List Part)
    → then_read (then_read rest (λ more. Ok (part ∷ more))) (λ more. Ok (parts ++ more))
    ≡ then_read rest (λ more. Ok ((parts ++ part ∷ []) ++ more))
behind_those_read (Err fault) part parts = refl
behind_those_read (Ok more) part parts = rw append_assoc refl

pub one_more_read : (words : List PartWords) (i : ℕ) (word : PartWords) (part : Part) (parts : List Part)
    → i < length words → word ≡ get_or words i word → part_in word ≡ Ok part
    → then_read (parts_in (drop i words)) (λ more. Ok (parts ++ more))
    ≡ then_read (parts_in (drop (i + 1) words)) (λ more. Ok ((parts ++ part ∷ []) ++ more))
one_more_read words i word part parts more is read =
    rw (drop_more words i word more, ← is, read) (behind_those_read (parts_in (drop (i + 1) words)) part parts)
