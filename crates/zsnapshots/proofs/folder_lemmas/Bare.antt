-- Machines that did nothing.
use Rattle.std.proofs.Common.{◌≡◌, ℕ, List, [], map, length, sym, ap, ◌∙◌, arith}
use Rattle.std.proofs.lemmas.List.{length-map, nil_from_length}
use Rattle.std.specs.Ordering.{nat_cmp}
use Rattle.std.specs.FinMap as finite
use Rattle.std.specs.FinMap.{keys}
use Rattle.zcalls.specs.Cached.{Cached}
use Rattle.zops.specs.Machine.{MachineState, MachineView}
use Rattle.ztree_service.specs.Machines.{IsBare}

-- an empty map has no entries
no_entries : {X : Type 0} → finite.entries (finite.empty {K = ℕ} {X = X} {R = nat_cmp}) ≡ []
no_entries {X} =
    nil_from_length (finite.entries (finite.empty {K = ℕ} {X = X} {R = nat_cmp}))
    (sym (finite.len-entries (finite.empty {K = ℕ} {X = X} {R = nat_cmp})) ∙ finite.len-empty nat_cmp X)

-- the clients of a machine that cached no reply
pub no_clients : (m : MachineView) (clients : List ℕ) → clients ≡ keys m.state.service.kept → IsBare m → length clients ≡ 0
no_clients m clients is bare =
    let none = ap (λ (s : MachineState). map (λ (e : ℕ × Cached). e.0) (finite.entries s.service.kept)) bare
    ∙ ap (map (λ (e : ℕ × Cached). e.0)) (no_entries {X = Cached}) in
    ap (λ (ids : List ℕ). length ids) (is ∙ none)

pub is_bare : (m : MachineView) (clients : List ℕ) → clients ≡ keys m.state.service.kept → length clients ≡ 0 → m.state.applied ≡ 0 → IsBare m
is_bare m clients is none applied =
    let long = length-map (finite.entries m.state.service.kept) (λ (e : ℕ × Cached). e.0) in
    let same = ap (λ (ids : List ℕ). length ids) is in
    let count = finite.len-entries m.state.service.kept in
    let few : finite.len m.state.service.kept ≡ 0 = omega (arith, long, same, count, none) in
    let kept = finite.empty_of_len m.state.service.kept few in
    λ i. record { service = record { plain = m.state.service.plain; kept = kept i }; applied = applied i }
