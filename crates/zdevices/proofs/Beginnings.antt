-- What a device took of a text and of what follows it, and when it failed.
use Rattle.std.proofs.Common.{◌≡◌, ◌+◌, ℕ, List, ◌++◌, sym, ap, ◌∙◌, append_assoc, arith}
use Rattle.zdevices.specs.Device.{TookBeginning, Failed}

-- a fault after other calls is one of all of them
pub failed_after : (failed all_failed : ℕ → Type 0) → ((n : ℕ) → failed n → all_failed (0 + n)) → Failed failed → Failed all_failed
failed_after failed all_failed grow h = (0 + h.0, omega (arith, h.1), grow h.0 h.2)

-- a beginning of a text is one of a longer text, and all of a text with a beginning of what follows
pub beginning-longer : (took : List ℕ → Type 0) (a b : List ℕ) → TookBeginning took a → TookBeginning took (a ++ b)
beginning-longer took a b h = (h.0, (h.1.0 ++ b, ap (λ t. t ++ b) h.1.1 ∙ append_assoc h.0 h.1.0 b), h.2)

pub beginning-later : (took more_took all_took : List ℕ → Type 0) (a b : List ℕ) → ((a b : List ℕ) → took a → more_took b → all_took (a ++ b)) → took a → TookBeginning more_took b → TookBeginning all_took (a ++ b)
beginning-later took more_took all_took a b both h cut = (a ++ cut.0, (cut.1.0, ap (λ t. a ++ t) cut.1.1 ∙ sym (append_assoc a cut.0 cut.1.0)), both a cut.0 h cut.2)
