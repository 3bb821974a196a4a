-- A change that isn't made leaves the file as it was.
use Rattle.std.proofs.Common.{refl, ℕ, List, length, arith}
use Rattle.std.proofs.lemmas.List.{take_all}
use Rattle.zjournal.specs.Device.{Torn, Cut}

pub torn_not : (at n : ℕ) (file : List ℕ) → Torn at n file file
torn_not at n file = record { before = λ k le short. refl; behind = refl; no_shorter = omega arith; no_longer = omega arith }

pub cut_not : (len : ℕ) (file : List ℕ) → Cut len file file
cut_not len file = record { no_shorter = λ le. le; front = take_all (length file) file (omega arith) }
