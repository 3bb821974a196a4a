-- What is read is what each change made whole, or not at all.
use Rattle.std.proofs.Common.{◌≡◌, inl, inr, refl, sym, ◌∙◌, ap, subst, Bool, true, false, not, ◌&&◌, ℕ, zero, suc, ◌+◌, ◌==◌, ◌≤◌, if◌then◌else◌, List, [], ◌∷◌, ◌++◌, length, take, drop, arith, append_assoc, length-append, length-take, length-drop}
use mathlib.Core.Bool.{true≢false}
use Rattle.std.proofs.lemmas.List.{drop_at, drop_all}
use Rattle.zjournal.specs.Device.{Torn, Cut}
use Rattle.zjournal.specs.declared.file.mode.SyncMode.{SyncMode}
use Rattle.zjournal.specs.file.Events.{Event, FileModel, Reaches, IsLeftOf, after_call, after_split, keeps_file, keeps_name, replay, synced, MayLeave}
use Rattle.zjournal.proofs.file_lemmas.Unchanged.{torn_not, cut_not}

take_front : (k at : ℕ) (file rest : List ℕ) → k ≤ at → k ≤ length file → take k (take at file ++ rest) ≡ take k file
take_front zero at file rest le short = refl
take_front (suc k) zero file rest le short = absurd (omega arith)
take_front (suc k) (suc at) [] rest le short = absurd (omega arith)
take_front (suc k) (suc at) (x ∷ file) rest le short = ap (λ (l : List ℕ). x ∷ l) (take_front k at file rest (omega arith) (omega arith))

drop_whole : (at n : ℕ) (file bytes : List ℕ) → n ≡ at + length bytes → drop n (take at file ++ (bytes ++ drop n file)) ≡ drop n file
drop_whole zero n file bytes is = drop_at bytes (drop n file) n (omega (arith, is))
drop_whole (suc at) zero file bytes is = absurd (omega (arith, is))
drop_whole (suc at) (suc n) [] bytes is = drop_all (suc n) (bytes ++ []) (omega (arith, is, length-append bytes []))
drop_whole (suc at) (suc n) (x ∷ file) bytes is = drop_whole at n file bytes (omega (arith, is))

torn_parts : (at : ℕ) (bytes file : List ℕ) → Torn at (length bytes) file (take at file ++ (bytes ++ drop (at + length bytes) file))
torn_parts at bytes file =
    let rest : List ℕ = drop (at + length bytes) file in
    let all = length-append (take at file) (bytes ++ rest) in
    let behind = length-append bytes rest in
    let front = length-take at file in
    let left = length-drop (at + length bytes) file in
    record {
      before = λ k le short. take_front k at file (bytes ++ rest) le short;
      behind = drop_whole at (at + length bytes) file bytes refl;
      no_shorter = omega (arith, all, behind, front, left);
      no_longer = omega (arith, all, behind, front, left);
    }

torn_whole : (at : ℕ) (bytes file : List ℕ) → Torn at (length bytes) file (take at file ++ bytes ++ drop (at + length bytes) file)
torn_whole at bytes file =
    subst (Torn at (length bytes) file) (sym (append_assoc (take at file) bytes (drop (at + length bytes) file))) (torn_parts at bytes file)

front_of : (len : ℕ) (file : List ℕ) → take (length (take len file)) file ≡ take len file
front_of zero file = refl
front_of (suc len) [] = refl
front_of (suc len) (x ∷ file) = ap (λ (l : List ℕ). x ∷ l) (front_of len file)

cut_whole : (len : ℕ) (file : List ℕ) → Cut len file (take len file)
cut_whole len file = record { no_shorter = λ le. omega (arith, length-take len file, le); front = front_of len file }

settled : (kept : Bool) (m : FileModel) → Reaches m.kept m.changes m.seen → Reaches (if kept then m.seen else m.kept) (if kept then [] else m.changes) m.seen
settled true m reaches = refl
settled false m reaches = reaches

whole_left : (whole : Bool) (bytes : List ℕ) → IsLeftOf whole bytes bytes
whole_left true bytes = refl
whole_left false bytes = tt

abbrev IsLeft : FileModel → Type 0
IsLeft m = Reaches m.kept m.changes m.seen

-- a new part has the name, and the changes are the same, or a crash leaves anything
part_left : (durable : Bool) (m : FileModel) → IsLeft m → Reaches m.kept (if durable then m.changes else inr (inr (false, m.seen)) ∷ m.changes) m.seen
part_left true m left = left
part_left false m left = (m.seen, left, inl refl)

split_left : (call : ℕ) (ok : Bool) (m : FileModel) → IsLeft m → IsLeft (after_split call ok m)
split_left zero ok m left = left
split_left (suc zero) ok m left = left
split_left (suc (suc zero)) ok m left = part_left (m.part == 2) m left
split_left (suc (suc (suc more))) ok m left = left

after : (which at : ℕ) (ok : Bool) (bytes : List ℕ) (m : FileModel) → IsLeft m → IsLeft (after_call which at ok bytes m)
after zero at ok bytes m left = refl
after (suc zero) at true bytes m left = (m.seen, left, torn_whole at bytes m.seen)
after (suc zero) at false bytes m left = (m.seen, left, torn_not at (length bytes) m.seen)
after (suc (suc zero)) len true bytes m left = (m.seen, left, cut_whole len m.seen)
after (suc (suc zero)) len false bytes m left = (m.seen, left, cut_not len m.seen)
after (suc (suc (suc zero))) at ok bytes m left = settled (keeps_file ok m) m left
after (suc (suc (suc (suc zero)))) at ok bytes m left = left
after (suc (suc (suc (suc (suc zero))))) at ok bytes m left = left
after (suc (suc (suc (suc (suc (suc zero)))))) at ok bytes m left = left
after (suc (suc (suc (suc (suc (suc (suc zero))))))) at ok bytes m left = left
after (suc (suc (suc (suc (suc (suc (suc (suc zero)))))))) at true bytes m left = (m.seen, left, inr (whole_left m.is_whole m.beside))
after (suc (suc (suc (suc (suc (suc (suc (suc zero)))))))) at false bytes m left = (m.seen, left, inl refl)
after (suc (suc (suc (suc (suc (suc (suc (suc (suc zero))))))))) at ok bytes m left = settled (keeps_name ok m) m left
after (suc (suc (suc (suc (suc (suc (suc (suc (suc (suc call)))))))))) at ok bytes m left = split_left call ok m left

pub seen_may : (events : List Event) → MayLeave events (replay events).seen
seen_may [] = refl
seen_may (e ∷ earlier) = after e.0 e.1 e.2 e.3 (replay earlier) (seen_may earlier)

pub kept_only : (kept : Bool) (m : FileModel) (c : List ℕ) → kept ≡ true → Reaches (if kept then m.seen else m.kept) (if kept then [] else m.changes) c → c ≡ m.seen
kept_only true m c is reaches = reaches
kept_only false m c is reaches = absurd (true≢false (sym is))

-- a sync that was done leaves what was read, which a crash might have left before
pub sync_leaves : (mode : SyncMode) (events more : List Event) → more ≡ synced mode true ∷ events → (replay events).has_failed ≡ false → (replay events).is_moved ≡ false → (c : List ℕ) → MayLeave more c → MayLeave events c
sync_leaves mode events more is sound named c left =
    let m = replay events in
    let keeps : keeps_file true m ≡ true = ap (λ (b : Bool). true && not b && not m.is_moved) sound ∙ ap (λ (b : Bool). true && not false && not b) named in
    let only : c ≡ m.seen = kept_only (keeps_file true m) m c keeps (subst (λ (l : List Event). MayLeave l c) is left) in
    subst (λ (l : List ℕ). MayLeave events l) (sym only) (seen_may events)
