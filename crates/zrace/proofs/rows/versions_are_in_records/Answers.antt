use Rattle.std.proofs.Common.{◌≡◌, ◌<◌, ◌∷◌, [], ℕ, zero, suc, Some, None, List, codes, get_or, inl, inr, refl, sym, ap, subst, ◌∙◌, ⊎_elim, arith}
use mathlib.Core.Logic.{∥∥₁_elim}
use mathlib.Core.HLevel.{⊥_prop}
use Rattle.std.specs.Fmt.{digits}
use Rattle.ztree.specs.declared.node.Stat.{Stat}
use Rattle.ztree.proofs.Maps.{same_some}
use Rattle.zprotocol.specs.declared.traces.trace.Traces.{Traces}
use Rattle.zprotocol.specs.traces.Traces.{client_count, record_of}
use Rattle.zprotocol.specs.world.History.{History}
use Rattle.zrace.specs.Records.{AreInRecords, IsRecorded}
use Rattle.zrace.specs.Seen.{IsPathOf}
use Rattle.zrace.specs.support.Rows.{exists_call, exists_reply, HasSecond}
use Rattle.zrace.proofs.rows.versions_are_in_records.Goals as goal

-- of the two clients only the second recorded something
in_second : (t : Traces) (history : History) (client node version : ℕ) → HasSecond t history → client < client_count t
    → IsRecorded client node version (record_of t client) → IsRecorded 1 node version history
in_second t history zero node version second lt r = absurd (subst (λ (h : History). IsRecorded 0 node version h) second.first r).4
in_second t history (suc zero) node version second lt r = subst (λ (h : History). IsRecorded 1 node version h) second.second r
in_second t history (suc (suc client)) node version second lt r = let two : client_count t ≡ 2 = second.two in absurd (omega arith)

module _ (t : Traces) (stat : Stat) (one : stat.version ≡ 1) (second : HasSecond t (exists_call 1 3 (codes "n0") ∷ exists_reply 1 3 stat ∷ [])) where
  -- its record shows one version, of one path
  shown : (node version : ℕ) → IsRecorded 1 node version (exists_call 1 3 (codes "n0") ∷ exists_reply 1 3 stat ∷ [])
      → (version ≡ 1) × IsPathOf node (codes "n0" ∷ [])
  shown node version r = (
    ⊎_elim (λ same. absurd (cc same))
        (λ rest. ⊎_elim (λ same. let s : stat ≡ r.2 = cc same in sym r.6 ∙ ap (λ (x : Stat). x.version) (sym s) ∙ one) (λ none. absurd none) rest) r.5,
    ⊎_elim (λ same. let p : codes "n0" ∷ [] ≡ r.1 = cc same in subst (IsPathOf node) (sym p) r.3)
        (λ rest. ⊎_elim (λ same. absurd (cc same)) (λ none. absurd none) rest) r.4,
  )

  first_shown : (node version : ℕ) → get_or (Some 1 ∷ None ∷ []) node None ≡ Some version
      → ∥ ((client : ℕ) × (client < client_count t) × IsRecorded client node version (record_of t client)) ∥₁
  unfolding digits
  first_shown zero version is =
      let two : client_count t ≡ 2 = second.two in
      ∣ (
        1,
        omega arith,
        subst (λ (h : History). IsRecorded 1 0 version h) (sym second.second)
            (3, codes "n0" ∷ [], stat, refl, inl refl, inr (inl refl), one ∙ same_some 1 version is),
      ) ∣₁
  first_shown (suc zero) version is = absurd (cc is)
  first_shown (suc (suc node)) version is = absurd (cc is)

  not_two : AreInRecords t (Some 2 ∷ None ∷ []) → ⊥
  not_two all =
      ∥∥₁_elim (all second.whole 0 2 refl) ⊥_prop (λ r.
      let two : 2 ≡ 1 = (shown 0 2 (in_second t _ r.0 0 2 second r.1 r.2)).0 in omega arith)

  not_node_1 : AreInRecords t (Some 1 ∷ Some 1 ∷ []) → ⊥
  unfolding digits
  not_node_1 all =
      ∥∥₁_elim (all second.whole 1 1 refl) ⊥_prop (λ r.
      let path : IsPathOf 1 (codes "n0" ∷ []) = (shown 1 1 (in_second t _ r.0 1 1 second r.1 r.2)).1 in
      let last : 48 ≡ 49 = ap (λ (text : List ℕ). get_or text 2 0) path in omega arith)

pub returns-clause-recorded : goal.returns-clause-recorded
returns-clause-recorded c = λ t stat one second whole. first_shown t stat one second

pub returns-clause-other_version : goal.returns-clause-other_version
returns-clause-other_version c = not_two

pub returns-clause-other_node : goal.returns-clause-other_node
returns-clause-other_node c = not_node_1
