-- Codes of tables: proofs distinguish two tables by their codes.
use Rattle.std.specs.Prelude.{◌≡◌, ℕ, zero, suc, refl}
use Rattle.std.specs.Coded.{Coded, code_by, coded×, coded_ℕ, coded_list}
use Rattle.std.specs.FinSet as sets
use Rattle.zwatches.specs.declared.kind.Kind.{Kind}
use Rattle.zwatches.specs.declared.kind.Kind.TheVariants.{Data, Missing, Children, EachData, EachChildren, Recursive}
use Rattle.zwatches.specs.declared.limits.WatchLimits.{WatchLimits}
use Rattle.zwatches.specs.declared.watch.Watch.{Watch}
use Rattle.zwatches.specs.Watches.{Path, Watches, kind_number, watch}

abbrev pub kind_of : ℕ → Kind
kind_of zero = Data
kind_of (suc zero) = Missing
kind_of (suc (suc zero)) = Children
kind_of (suc (suc (suc zero))) = EachData
kind_of (suc (suc (suc (suc zero)))) = EachChildren
kind_of (suc (suc (suc (suc (suc n))))) = Recursive

pub watch_again : (path : Path) (kind : Kind) (connection : ℕ) →
    watch path (kind_of (kind_number kind)) connection ≡ watch path kind connection
watch_again path Data connection = refl
watch_again path Missing connection = refl
watch_again path Children connection = refl
watch_again path EachData connection = refl
watch_again path EachChildren connection = refl
watch_again path Recursive connection = refl

abbrev pub coded_watch : Coded Watch
coded_watch =
    code_by (Path × (ℕ × ℕ)) (coded× (coded_list (coded_list coded_ℕ)) (coded× coded_ℕ coded_ℕ))
    (λ w. (w.path, (kind_number w.kind, w.connection)))
    (λ p. watch p.0 (kind_of p.1.0) p.1.1) (λ w. watch_again w.path w.kind w.connection)

abbrev pub coded_watches : Coded Watches
coded_watches = sets.code coded_watch

abbrev pub coded_limits : Coded WatchLimits
coded_limits =
    code_by (ℕ × ℕ) (coded× coded_ℕ coded_ℕ) (λ l. (l.most, l.each)) (λ p. record { most = p.0; each = p.1 }) (λ _. refl)
