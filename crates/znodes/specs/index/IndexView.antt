-- What a contract sees of an `Index`.
use Rattle.std.specs.Prelude.{ℕ, List, refl}
use Rattle.std.specs.Coded.{Coded, code_by, coded×, coded_ℕ, coded_list}
use Rattle.std.specs.FinMap as finite
use Rattle.std.specs.FinMap.{FinMap}
use Rattle.zpath.specs.Grammar.{path_cmp}
use Rattle.zslots.specs.declared.id.Id.{Id}
use Rattle.zslots.specs.Ids.{coded_id}

-- Ids by path
abbrev pub IdsByPath : Type 0
IdsByPath = FinMap path_cmp Id

-- the Ids, and how many more entries fit without allocating
pub record IndexView : Type 0 where
  pub ids : IdsByPath
  pub room : ℕ

-- how a path is encoded
abbrev pub coded_path : Coded (List (List ℕ))
coded_path = coded_list (coded_list coded_ℕ)

-- how the view is encoded
abbrev pub coded_view : Coded IndexView
coded_view =
    code_by (IdsByPath × ℕ) (coded× (finite.code coded_path coded_id) coded_ℕ)
    (λ v. (v.ids, v.room)) (λ p. record { ids = p.0; room = p.1 }) (λ _. refl)
