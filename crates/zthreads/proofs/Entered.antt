-- An event, seen from where the endpoint was before it was made ready.
use Rattle.std.proofs.Common.{◌≡◌, ◌<◌, ℕ, [], ◌∷◌, ◌++◌, refl, ap, ◌∙◌, subst, sym}
use Rattle.zprotocol.specs.world.History.{History}
use Rattle.zprotocol.specs.declared.traces.stamp.TheConstants.{MAX_STAMP}
use Rattle.zprotocol.specs.declared.traces.trace.Act.{Act}
use Rattle.zprotocol.specs.declared.traces.trace.TraceEvent.{TraceEvent}
use Rattle.zthreads.specs.declared.endpoint.Endpoint.{Endpoint}
use Rattle.zthreads.specs.Endpoints.{HasEntered, IsEntered, SameBooks}

-- an event was entered as this act, and the caller saw this
pub is_entered : (a b : Endpoint) (stamp : ℕ) (x y : Act) (reported seen : History)
    → HasEntered a b (record { stamp = stamp; act = x }) reported → x ≡ y → reported ≡ seen
    → HasEntered a b (record { stamp = b.stamp; act = y }) seen
is_entered a b stamp x y reported seen e act same =
    let event : TraceEvent = record { stamp = stamp; act = x } in
    record {
      whole = e.whole;
      trace = e.trace ∙ ap (λ (n : ℕ). a.trace.items ++ record { stamp = n; act = x } ∷ []) (sym e.stamp)
          ∙ ap (λ (z : Act). a.trace.items ++ record { stamp = b.stamp; act = z } ∷ []) act;
      seen = e.seen ∙ ap (λ l. a.seen.items ++ l) same;
      stamp = refl;
      early = subst (λ n. n < MAX_STAMP) (sym e.stamp) e.early;
    }

module _ (a z b : Endpoint) (same : SameBooks a z) where
  pub entered_before : (event : TraceEvent) (reported : History) → HasEntered z b event reported → HasEntered a b event reported
  entered_before event reported e =
      record {
        whole = sym same.is_cut ∙ e.whole;
        trace = e.trace ∙ ap (λ l. l ++ event ∷ []) same.trace;
        seen = e.seen ∙ ap (λ l. l ++ reported) same.reported;
        stamp = e.stamp;
        early = e.early;
      }

  pub entered_too : (act : Act) (reported : History) → IsEntered z b b.stamp act reported → IsEntered a b b.stamp act reported
  entered_too act reported e whole = entered_before (record { stamp = b.stamp; act = act }) reported (e whole)
