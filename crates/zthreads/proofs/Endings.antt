-- What an endpoint leaves, where nothing waits on it.
use mathlib.Core.Logic.{∥∥₁_map}
use Rattle.std.proofs.Common.{◌≡◌, Bool, true, false, ◌||◌, List, [], ◌++◌, Option, Some, None, IfNone, is_some, refl}
use Rattle.std.proofs.Common.{sym, ap, ◌∙◌, append-nil, true≢false}
use Rattle.zprotocol.specs.world.Links.{messages_to}
use Rattle.zprotocol.specs.traces.Deeds.{stamped}
use Rattle.zprotocol.specs.Places.{process_at}
use Rattle.zchannels.specs.Rings.{put_of}
use Rattle.zthreads.specs.declared.endpoint.Endpoint.{Endpoint}
use Rattle.zthreads.specs.declared.endpoint.Ending.{Ending}
use Rattle.zthreads.specs.Endpoints.{TreeDeed, TreeStanding, TreeTaken, TreePost, Accounts, Self, self_of, books_of, took_from, SameEndpoint}
use Rattle.zthreads.specs.Endpoints.{HasPut, pending, PutsOn, SameBooks, Stands}
use Rattle.zthreads.specs.Endings.{AccountsAtEnd, HasEnded, HasEndedBy, KeepsAtEnd}

pub neither : (a b : Bool) → (a || b) ≡ false → (a ≡ false) × (b ≡ false)
neither false b is = (refl, is)
neither true b is = absurd (true≢false is)

pub if_none : {A : Type 0} {P : Type 0} (o : Option A) → IfNone o P → is_some o ≡ false → P
if_none None p is = p
if_none (Some x) p is = absurd (true≢false is)

pub same_self_of : (a b : Endpoint) → SameEndpoint a b → self_of b ≡ self_of a
same_self_of a b same = rw (same.me, same.last, same.clients) refl

-- what isn't cut at the end isn't lost
pub kept_at_end : (d : Endpoint) (waits : Bool) → (d.is_cut || waits) ≡ false → (d.is_lost || waits) ≡ false
kept_at_end d waits whole = let two = neither d.is_cut waits whole in rw (d.kept two.0) two.1

-- where the same steps account for it, its standing is unchanged
pub put_stands : (a b : Endpoint) (posts rest : List TreePost) → SameBooks a b → PutsOn a b posts rest → HasPut a b posts rest
put_stands a b posts rest books steps s t h lost = ∥∥₁_map (h (sym books.lost ∙ lost)) (λ x. (x.0, steps s t x.0 x.1))

unlost : (a b : Bool) → (a ≡ true → b ≡ true) → b ≡ false → a ≡ false
unlost true b kept none = absurd (true≢false (sym (kept refl) ∙ none))
unlost false b kept none = refl

-- a process with a standing at its endpoint ends by the steps that account for it there
pub ends_by : (d : Endpoint) (e : Ending) (s : TreeStanding) (t : TreeTaken) → (d.is_lost ≡ true → e.is_lost ≡ true) → KeepsAtEnd d e
    → Stands d s t (pending d) → HasEndedBy (self_of d) e (Accounts (self_of d) (books_of d) s t (pending d))
ends_by d e s t kept keeps h lost = ∥∥₁_map (h (unlost d.is_lost e.is_lost kept lost)) (λ x. (x.0, keeps s t x.0 lost x.1, x.1))

pub has_ended : (who : Self) (e : Ending) (P : List TreeDeed → Type 0) → HasEndedBy who e P → HasEnded who e
has_ended who e P h lost = ∥∥₁_map (h lost) (λ x. (x.0, x.1))

-- deeds that account for an endpoint on which nothing waits account for what it leaves
pub ended : (who : Self) (d : Endpoint) (e : Ending) (s : TreeStanding) (t : TreeTaken) (waits : List TreePost) (deeds : List TreeDeed)
    → (e.ins ≡ d.ins) × (e.outs ≡ d.outs) × (e.trace.events ≡ d.trace) × (e.seen ≡ d.seen) → (e.trace.is_cut ≡ false → d.is_cut ≡ false) → waits ≡ []
    → Accounts who (books_of d) s t waits deeds → AccountsAtEnd who e deeds
ended who d e s t waits deeds same uncut none a =
    record {
      goes = a.goes;
      traced = λ whole. a.traced (uncut whole) ∙ ap (λ v. v.items) (sym same.2);
      reported = λ whole. a.reported (uncut whole) ∙ ap (λ v. v.items) (sym same.3);
      taken = λ i r at. (took_from (process_at i) t, a.taken i r (rw (sym same.0) at));
      others = λ p outside. (a.others p (rw (sym same.0) outside)).0;
      put = λ i x at.
          sym (append-nil (put_of x))
          ∙ ap (λ (w : List TreePost). put_of x ++ stamped d.stamp (messages_to (process_at i) w)) (sym none)
          ∙ a.put i x (rw (sym same.1) at);
    }
