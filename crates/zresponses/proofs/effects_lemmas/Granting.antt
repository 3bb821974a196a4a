-- Wishes in order: why one isn't granted is an error that one may get; and what holds of each that is
-- granted holds of all.
use Rattle.std.proofs.Common.{◌≡◌, ℕ, Bool, true, false, List, [], ◌∷◌, Option, None, Some, refl, inl, inr}
use Rattle.ztree.specs.Tree.{Path}
use Rattle.zjute.specs.declared.code.Code.{Code}
use Rattle.zjute.specs.declared.watch_type.WatchType.{WatchType}
use Rattle.zwatches.specs.declared.changes.event.Event.{Event}
use Rattle.zwatches.specs.declared.kind.Kind.{Kind}
use Rattle.zwatches.specs.Removal.{has_meant}
use Rattle.zwatches.specs.Watches.{watch, is_full}
use Rattle.zconnections.specs.Tables.{TablesView, sent}
use Rattle.zconnections.specs.Reporting.{event_frame}
use Rattle.zresponses.specs.declared.effects.wish.Wish.{Wish}
use Rattle.zresponses.specs.declared.effects.wish.Wish.TheVariants.{Waits, Reports, Has, Ends}
use Rattle.zresponses.specs.effects.Watching.{IsFaultOf, earlier, fault_of, first_fault, full_fault, granted, granted_all, may_get, none_fault, unwatched, waiting}

-- the first error of three, and of one with none behind it
pub earlier_of_three : (first second third : Option Code) → earlier (earlier first second) third ≡ earlier first (earlier second third)
earlier_of_three None second third = refl
earlier_of_three (Some fault) second third = refl

pub earlier_alone : (first : Option Code) → earlier first None ≡ first
earlier_alone None = refl
earlier_alone (Some fault) = refl

module _ (c : ℕ) (t : TablesView) where
  own : (w : Wish) (fault : Code) → fault_of c w t ≡ Some fault → may_get w ≡ Some fault
  own (Waits kind path) fault = by (is_full t.limits t.watches (watch path kind c))
    where
      by : (b : Bool) → full_fault b ≡ Some fault → may_get (Waits kind path) ≡ Some fault
      by true is = is
      by false is = absurd (cc is)
  own (Reports event) fault = λ is. is
  own (Has type path) fault = by (has_meant t.watches c type path)
    where
      by : (b : Bool) → none_fault b ≡ Some fault → may_get (Has type path) ≡ Some fault
      by true is = absurd (cc is)
      by false is = is
  own (Ends type path) fault = by (has_meant t.watches c type path)
    where
      by : (b : Bool) → none_fault b ≡ Some fault → may_get (Ends type path) ≡ Some fault
      by true is = absurd (cc is)
      by false is = is

more : (w : Wish) (ws : List Wish) (fault : Option Code) → IsFaultOf ws fault → IsFaultOf (w ∷ ws) fault
more w ws None is = tt
more w ws (Some fault) is = (is.0, inr is.1, is.2)

pub first_fault_is : (c : ℕ) (ws : List Wish) (t : TablesView) → IsFaultOf ws (first_fault c ws t)
first_fault_is c [] t = tt
first_fault_is c (w ∷ ws) t = by (fault_of c w t) refl (first_fault_is c ws (granted c w t))
  where
    by : (o : Option Code) → fault_of c w t ≡ o → IsFaultOf ws (first_fault c ws (granted c w t)) → IsFaultOf (w ∷ ws) (earlier o (first_fault c ws (granted c w t)))
    by None is rest = more w ws (first_fault c ws (granted c w t)) rest
    by (Some fault) is rest = (w, inl refl, own c t w fault is)

-- what holds where nothing is done, of one thing after another, where a watch waits, where an event
-- is reported and where watches are removed
module _ (Is : TablesView → TablesView → Type 0) (same : (t : TablesView) → Is t t) (both : (t u w : TablesView) → Is t u → Is u w → Is t w) (c : ℕ)
    (waits : (kind : Kind) (path : Path) (t : TablesView) → Is t (waiting c kind path t))
    (reports : (e : Event) (t : TablesView) → Is t (sent c (event_frame e) t))
    (removes : (type : WatchType) (path : Path) (t : TablesView) → Is t (unwatched c type path t)) where
  grants_one : (w : Wish) (t : TablesView) → Is t (granted c w t)
  grants_one (Waits kind path) t = waits kind path t
  grants_one (Reports event) t = reports event t
  grants_one (Has type path) t = same t
  grants_one (Ends type path) t = removes type path t

  pub grants_all : (ws : List Wish) (t : TablesView) → Is t (granted_all c ws t)
  grants_all [] t = same t
  grants_all (w ∷ ws) t = both t (granted c w t) (granted_all c ws (granted c w t)) (grants_one w t) (grants_all ws (granted c w t))
