-- Bytes of which no second frame is whole.
use Rattle.std.proofs.Common.{◌≡◌, ◌≢◌, ◌⊎◌, inl, inr, ◌∙◌, ℕ, List, [], ◌++◌, refl, sym, ap, subst}
use Rattle.zjute.specs.Frames.{Whole, Partial, TooLong, next_of}
use Rattle.zguard.specs.declared.visitor.Standing.{Standing}
use Rattle.zguard.specs.declared.visitor.Standing.TheVariants as at
use Rattle.zguard.specs.Guarding.{before_rest, no_frame}
use Rattle.zguard.specs.Laws.{IsOfStranger}
use Rattle.zguard.proofs.Cutting.{next_alone, next_more}
use Rattle.zguard.proofs.Pieces.{Stands}

-- no frame is whole, and no second one
abbrev pub HasNone : List ℕ → Type 0
HasNone came = (bytes more : List ℕ) → next_of came ≡ Whole bytes more → ⊥

abbrev pub HasNoSecond : List ℕ → Type 0
HasNoSecond came = (first more second rest : List ℕ) → next_of came ≡ Whole first more → next_of more ≡ Whole second rest → ⊥

same_rest : (a b x y : List ℕ) → Whole a x ≡ Whole b y → x ≡ y
same_rest a b x y is = cc

part_never : (bytes more : List ℕ) → Partial ≡ Whole bytes more → ⊥
part_never bytes more is = cc is

long_never : (bytes more : List ℕ) → TooLong ≡ Whole bytes more → ⊥
long_never bytes more is = cc is

pub nothing_none : HasNone []
unfolding next_of
nothing_none bytes more is = part_never bytes more is

end_none : HasNone no_frame
unfolding next_of
end_none bytes more is = long_never bytes more is

no_second : (came : List ℕ) → HasNone came → HasNoSecond came
no_second came none first more second rest is next = none first more is

-- one frame, and behind it none
pub one_alone : (came greeting more : List ℕ) → next_of came ≡ Whole greeting more → HasNone more → HasNoSecond came
one_alone came greeting more one none first behind second rest is next =
    none second rest (ap next_of (same_rest greeting first more behind (sym one ∙ is)) ∙ next)

ends_none : (end : List ℕ) → (end ≡ []) ⊎ (end ≡ no_frame) → HasNone end
ends_none end (inl is) = subst HasNone (sym is) nothing_none
ends_none end (inr is) = subst HasNone (sym is) end_none

strangers_one : (came passed : List ℕ) → IsOfStranger came passed → HasNoSecond passed
strangers_one came passed (end, ends, inl is) = subst HasNoSecond (sym is) (no_second end (ends_none end ends))
strangers_one came passed (end, ends, inr (greeting, more, first, is)) =
    let one = before_rest came more in
    subst HasNoSecond (sym is)
    (one_alone (one ++ end) greeting end (next_more one end greeting [] (next_alone came greeting more first)).0 (ends_none end ends))

-- what passed of a connection that isn't admitted
pub passed_one : (logins : List (List ℕ)) (s : Standing) (came passed bytes : List ℕ) → s ≢ at.Admitted → Stands logins s came passed bytes
    → HasNoSecond passed
passed_one logins at.Silent came passed bytes other (is, none) = subst HasNoSecond (sym none) (no_second [] nothing_none)
passed_one logins at.Stranger came passed bytes other greeted =
    subst HasNoSecond (sym greeted.passes)
    (one_alone (before_rest came bytes) greeted.greeting [] (next_alone came greeted.greeting bytes greeted.first) nothing_none)
passed_one logins at.Admitted came passed bytes other stands = absurd (other refl)
passed_one logins at.Refused came passed bytes other (inl stranger) = strangers_one came passed stranger
passed_one logins at.Refused came passed bytes other (inr long) =
    no_second passed (λ bytes more is. long_never bytes more (sym long ∙ is))
