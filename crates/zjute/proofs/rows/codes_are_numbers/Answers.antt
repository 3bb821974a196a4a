use Rattle.std.proofs.Common.{refl}
use Rattle.zjute.specs.Codes.{code_of, middle_codes, late_codes, last_codes}
use Rattle.zjute.proofs.Numbered.{codes_again}
use Rattle.zjute.proofs.rows.codes_are_numbers.Goals as goal

pub returns : goal.returns
unfolding code_of middle_codes late_codes last_codes
returns c =
    record {
      each = codes_again;
      numbers = refl;
      none = refl;
      unknown = refl;
    }
