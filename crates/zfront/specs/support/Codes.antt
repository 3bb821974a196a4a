-- Codes of a front, by its parts.
use Rattle.std.specs.Prelude.{ℕ, Bool, List, refl}
use Rattle.std.specs.Coded.{Coded, code_by, coded×, coded_ℕ, coded_bool, coded_list}
use Rattle.ztree.specs.Tree.{Tree}
use Rattle.ztree.specs.support.Codes.{coded_tree}
use Rattle.zcalls.specs.contracts.call.Update as update
use Rattle.zcalls.specs.declared.call.Update.{Update}
use Rattle.zresponses.specs.contracts.clock.Clock as clock
use Rattle.zresponses.specs.declared.clock.Clock.{Clock}
use Rattle.zconnections.specs.Tables.{TablesView}
use Rattle.zconnections.specs.support.Codes.{coded_tables}
use Rattle.zfront.specs.Front.{FrontView}
use Rattle.zfront.specs.Inputs.{ServerView}

abbrev pub coded_front : Coded FrontView
coded_front =
    code_by (Tree × (TablesView × (Bool × (List Update × (List ℕ × Clock)))))
    (coded× coded_tree (coded× coded_tables (coded× coded_bool (coded× (coded_list update.the_row.coded) (coded× (coded_list coded_ℕ) clock.the_row.coded)))))
    (λ v. (v.tree, (v.tables, (v.is_kept, (v.made, (v.secret, v.clock))))))
    (λ p. record { tree = p.0; tables = p.1.0; is_kept = p.1.1.0; made = p.1.1.1.0; secret = p.1.1.1.1.0; clock = p.1.1.1.1.1 }) (λ _. refl)

abbrev pub coded_server : Coded ServerView
coded_server =
    code_by (FrontView × Bool) (coded× coded_front coded_bool) (λ v. (v.front, v.is_broken))
    (λ p. record { front = p.0; is_broken = p.1 }) (λ _. refl)
