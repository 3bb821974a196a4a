-- What was returned to a client remains so.
use Rattle.std.proofs.Common.{◌≡◌, ◌≢◌, ◌<◌, ⊎_elim, refl, ℕ, zero, suc, Option, None, Some, List, [], ◌∷◌, length}
use Rattle.std.proofs.Common.{get_or, set, sym, subst, ap, ◌∙◌, true≢false}
use Rattle.std.specs.Prelude.{All, IsNone, is_some}
use mathlib.Core.Logic.{∥∥₁_map}
use Rattle.std.proofs.lemmas.Bool.{cases_eq}
use Rattle.std.proofs.lemmas.List.{get_or-set_same, get_or-set_other}
use Rattle.std.proofs.lemmas.List.Elements.{All-head, All-tail, All-weaker}
use Rattle.ztree.proofs.Maps.{same_some}
use Rattle.zrun.specs.declared.client.Client.{Client}
use Rattle.zrun.specs.Clients.{BelongsTo, SameClient}
use Rattle.zrun.specs.Origins.{Run}
use Rattle.zrun.proofs.Still.{still_belongs}
use Rattle.zrace.specs.Cached.{IsKeptBehind}
use Rattle.zrace.specs.Seen.{AreSeenIn, HasSeen, IsSeenIn, WasReportedSince}
use Rattle.zrace.proofs.Cached.{all_kept}

-- a client is the same through one call and another
pub same_through : (a b c : Client) → SameClient a b → SameClient b c → SameClient a c
same_through a b c one two = record { number = two.number ∙ one.number; wiring = two.wiring ∙ one.wiring }

pub same_back : (a b : Client) → SameClient a b → SameClient b a
same_back a b same = record { number = sym same.number; wiring = sym same.wiring }

pub same_self : (a : Client) → SameClient a a
same_self a = record { number = refl; wiring = refl }

-- what was returned to a client remains so after more calls
pub still_seen : (c d : Client) (node version : ℕ) → SameClient c d → HasSeen c node version → HasSeen d node version
still_seen c d node version same seen =
    let back = same_back c d same in
    ∥∥₁_map seen (λ s. (s.0, s.1, same_through d c s.0 back s.2, same_through d c s.1 back s.3, s.4))

pub all_still_seen : (c d : Client) (seen : List (ℕ × ℕ)) → SameClient c d → All (λ it. HasSeen c it.0 it.1) seen
    → All (λ it. HasSeen d it.0 it.1) seen
all_still_seen c d seen same all =
    All-weaker (λ (it : ℕ × ℕ). HasSeen c it.0 it.1) (λ (it : ℕ × ℕ). HasSeen d it.0 it.1) (λ it has. still_seen c d it.0 it.1 same has) seen all

-- what was returned to it just now
pub seen_now : (c d : Client) (node version : ℕ) → SameClient c d → WasReportedSince node c d version → HasSeen d node version
seen_now c d node version same reported =
    let back = same_back c d same in
    ∣ (reported.0, d, same_through d c reported.0 back reported.1, same_self d, reported.2) ∣₁

-- the two together, where the one is stored after the others
pub all_seen_now : (c d : Client) (old new : List (ℕ × ℕ)) (node version : ℕ) → SameClient c d → WasReportedSince node c d version
    → IsKeptBehind old new (node, version) → All (λ it. HasSeen c it.0 it.1) old → All (λ it. HasSeen d it.0 it.1) new
all_seen_now c d old new node version same reported kept all =
    all_kept (λ (it : ℕ × ℕ). HasSeen d it.0 it.1) old new (node, version) kept (all_still_seen c d old same all)
    (seen_now c d node version same reported)

-- what was returned to a client of a run
pub seen_in_run : (run : Run) (c : Client) (node version : ℕ) → BelongsTo run c → HasSeen c node version → IsSeenIn run node version
seen_in_run run c node version belongs seen =
    ∥∥₁_map seen (λ s. (s.0, s.1, still_belongs run c s.0 belongs s.2, still_belongs run c s.1 belongs s.3, s.4))

pub all_seen_in_run : (run : Run) (c : Client) (seen : List (ℕ × ℕ)) → BelongsTo run c → All (λ it. HasSeen c it.0 it.1) seen
    → All (λ it. IsSeenIn run it.0 it.1) seen
all_seen_in_run run c seen belongs all =
    All-weaker (λ (it : ℕ × ℕ). HasSeen c it.0 it.1) (λ (it : ℕ × ℕ). IsSeenIn run it.0 it.1)
    (λ it has. seen_in_run run c it.0 it.1 belongs has) seen all

-- where no version was returned, none is another than was returned
none_there : (versions : List (Option ℕ)) (node version : ℕ) → All IsNone versions → get_or versions node None ≡ Some version → ⊥
none_there [] node version none is = true≢false (sym (ap is_some is))
none_there (x ∷ xs) zero version none is = true≢false (sym (ap is_some is) ∙ All-head IsNone x xs none)
none_there (x ∷ xs) (suc node) version none is = none_there xs node version (All-tail IsNone x xs none) is

pub none_seen : (run : Run) (versions : List (Option ℕ)) → All IsNone versions → AreSeenIn run versions
none_seen run versions none node version is = absurd (none_there versions node version none is)

-- one more version is noted
pub one_seen : (run : Run) (versions : List (Option ℕ)) (place version : ℕ) → place < length versions
    → AreSeenIn run versions → IsSeenIn run place version → AreSeenIn run (set versions place (Some version))
one_seen run versions place version below reported one node v is =
    ⊎_elim
    (λ (here : node ≡ place).
    let at : get_or (set versions place (Some version)) node None ≡ Some version =
    ap (λ m. get_or (set versions place (Some version)) m None) here ∙ get_or-set_same versions place (Some version) None below in
    let same : version ≡ v = same_some version v (sym at ∙ is) in
    subst (λ (w : ℕ × ℕ). IsSeenIn run w.0 w.1) (λ k. (sym here k, same k)) one)
    (λ (other : node ≢ place). reported node v (sym (get_or-set_other versions place node (Some version) None other) ∙ is))
    (cases_eq node place)
