use Rattle.std.proofs.Common.{zero, suc, [], ◌∷◌, codes, refl, arith}
use Rattle.base64.proofs.OnLiterals.{base64_on_literals}
use Rattle.zcodec.specs.declared.fault.Fault.TheVariants.{Short}
use Rattle.zcodec.specs.Forms.{number_at}
use Rattle.zcodec.specs.Laws.{IsBytes}
use Rattle.zwire.specs.records.Calls.{update}
use Rattle.zwire.specs.records.Records.{logged, line_of, Fits, HasNoRecord}
use Rattle.zwire.specs.records.support.Samples.{tick}
use Rattle.zwire.proofs.records_lemmas.Lines.{HasNoEnd}
use Rattle.zwire.proofs.records_lemmas.Faults.{none_without_end, none_unread}
use Rattle.zwire.proofs.records.rows.lines_are_counted.Goals as goal

-- a tick's four letters are no LF
no_end : HasNoEnd (codes "AQc=")
no_end = ((λ same. omega (arith, same)), ((λ same. omega (arith, same)), ((λ same. omega (arith, same)), ((λ same. omega (arith, same)), tt))))

two_bytes : IsBytes (1 ∷ 7 ∷ [])
two_bytes zero = omega arith
two_bytes (suc zero) = omega arith
two_bytes (suc (suc i)) = omega arith

tick_fits : Fits tick
unfolding logged update
tick_fits = ((omega arith, (omega arith, refl)), two_bytes)

no_bytes : HasNoRecord (10 ∷ [])
unfolding logged number_at base64_on_literals
no_bytes = none_unread (10 ∷ []) [] [] [] Short tt refl refl refl

pub returns : goal.returns
unfolding line_of logged update base64_on_literals
returns c =
    record {
      unended = record { before = []; left = codes "AQc="; fit = tt; split = refl; some = λ none. cc; none = none_without_end (codes "AQc=") no_end; place = refl };
      empty = record { before = tick ∷ []; left = 10 ∷ []; fit = (tick_fits, tt); split = refl; some = λ none. cc; none = no_bytes; place = refl };
    }
