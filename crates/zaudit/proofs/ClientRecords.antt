-- What a history has of a client, against that client's record, up to a position.
use Rattle.std.proofs.Common.{◌≡◌, ◌<◌, ◌≤◌, ℕ, suc, ◌+◌, ◌==◌, true, refl, sym, ap, ◌∙◌, length, ◌∷◌, ◌++◌, take, drop, get_or, arith}
use Rattle.std.proofs.Math.Seq.{split_at, take-length}
use Rattle.std.proofs.lemmas.Bool.Decides.{nat_tests}
use Rattle.std.proofs.lemmas.List.{length-append, append_cancel_left}
use Rattle.std.proofs.lemmas.List.Elements.{filter-append}
use Rattle.zprotocol.specs.declared.world.history.CallEvent.{CallEvent}
use Rattle.zprotocol.specs.world.History.{History}
use Rattle.zprotocol.specs.traces.Traces.{client_of, reported_of}

same_number : (a b : ℕ) → a ≡ b → (a == b) ≡ true
same_number a b same = grind (arith, nat_tests)

-- a position that isn't the end is before it
pub before_end : (at end : ℕ) → at ≤ end → (at ≡ end → ⊥) → at < end
before_end at end most other = grind (arith, nat_tests)

-- the history has of the client what it had so far, then this event of the client's, then more
reported_here : (c : ℕ) (history : History) (i : ℕ) (x : CallEvent) → i < length history → client_of (get_or history i x) ≡ c
    → reported_of c history ≡ reported_of c (take i history) ++ get_or history i x ∷ reported_of c (drop (suc i) history)
reported_here c history i x there own =
    let own_test : (client_of (get_or history i x) == c) ≡ true = same_number _ _ own in
    let kept : reported_of c (get_or history i x ∷ drop (suc i) history) ≡ get_or history i x ∷ reported_of c (drop (suc i) history) = rw own_test refl in
    ap (reported_of c) (split_at history i x there)
    ∙ (filter-append (λ e. client_of e == c) (take i history) (get_or history i x ∷ drop (suc i) history)
    ∙ ap (λ more. reported_of c (take i history) ++ more) kept)

-- where the record ends before an event of the client's, the history has more of the client
pub ends_early : (c : ℕ) (history seen : History) (i at : ℕ) (x : CallEvent) → i < length history → client_of (get_or history i x) ≡ c
    → reported_of c (take i history) ≡ take at seen → at ≡ length seen → reported_of c history ≡ seen → ⊥
ends_early c history seen i at x there own so_far end same =
    let rest = reported_of c (drop (suc i) history) in
    let all : take at seen ≡ seen = ap (λ n. take n seen) end ∙ take-length seen in
    let whole : seen ≡ seen ++ get_or history i x ∷ rest = sym same
    ∙ (reported_here c history i x there own ∙ ap (λ front. front ++ get_or history i x ∷ rest) (so_far ∙ all)) in
    let longer : length seen ≡ length seen + suc (length rest) = ap length whole ∙ length-append seen (get_or history i x ∷ rest) in
    omega (arith, longer)

-- and where it is the same, its next event is that one
pub is_next : (c : ℕ) (history seen : History) (i at : ℕ) (x y : CallEvent) → i < length history → client_of (get_or history i x) ≡ c
    → reported_of c (take i history) ≡ take at seen → at < length seen → reported_of c history ≡ seen → get_or history i x ≡ get_or seen at y
is_next c history seen i at x y there own so_far more same =
    let rest = reported_of c (drop (suc i) history) in
    let whole : seen ≡ take at seen ++ get_or history i x ∷ rest =
    sym same ∙ (reported_here c history i x there own ∙ ap (λ front. front ++ get_or history i x ∷ rest) so_far) in
    let both : get_or history i x ∷ rest ≡ get_or seen at y ∷ drop (suc at) seen = append_cancel_left (take at seen) _
    _ (sym whole ∙ split_at seen at y more) in
    ap (λ (l : History). get_or l 0 x) both
