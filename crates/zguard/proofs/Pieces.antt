-- What holds of a connection, of the bytes that came on it, and of those that passed.
use Rattle.std.proofs.Common.{◌≡◌, ◌≢◌, ℕ, Bool, true, false, List, [], ◌∷◌, ◌++◌, length, ◌⊎◌, inl, inr, refl, sym, ap, subst, ◌∙◌, append_assoc}
use Rattle.std.specs.Prelude.{nat_lt, if◌then◌else◌}
use Rattle.std.specs.List.{concat}
use Rattle.std.proofs.lemmas.List.{append-nil}
use Rattle.zjute.specs.Frames.{Front, Whole, Partial, TooLong, next_of}
use Rattle.zguard.specs.declared.limits.TheConstants.{MAX_KEPT}
use Rattle.zguard.specs.declared.visitor.Standing.{Standing}
use Rattle.zguard.specs.declared.visitor.Standing.TheVariants as at
use Rattle.zguard.specs.Judging.{VerdictView, Waits, Admits, Refuses, judged}
use Rattle.zguard.specs.Guarding.{HeardView, VisitorView, before_rest, front_heard, heard, heard_by, heard_in, new_visitor, no_frame, refused}
use Rattle.zguard.specs.Laws.{GaveLogin, IsOfStranger, after_all, passed_all, visitor_of}
use Rattle.zguard.proofs.Admitting.{judged_admits}
use Rattle.zguard.proofs.Cutting.{before-rest, before_rest-more, next_more, next_rest}

-- its first frame came, and what is stored came behind it
pub record IsGreeted (came passed bytes : List ℕ) : Type 0 where
  pub greeting : List ℕ
  pub first : next_of came ≡ Whole greeting bytes
  pub passes : passed ≡ before_rest came bytes

module _ (logins : List (List ℕ)) where
  abbrev pub Stands : Standing → List ℕ → List ℕ → List ℕ → Type 0
  Stands at.Silent came passed bytes = (bytes ≡ came) × (passed ≡ [])
  Stands at.Stranger came passed bytes = IsGreeted came passed bytes
  Stands at.Admitted came passed bytes = GaveLogin logins came × (passed ≡ came)
  Stands at.Refused came passed bytes = IsOfStranger came passed ⊎ (next_of passed ≡ TooLong)

  -- of what was heard
  abbrev pub StandsHeard : List ℕ → List ℕ → HeardView → Type 0
  StandsHeard came passed h = Stands h.standing came (passed ++ h.passed) h.bytes

  -- ---- bytes behind the first frame

  behind : (came passed before rest greeting : List ℕ) → next_of came ≡ Whole greeting rest → passed ++ before ≡ before_rest came rest
      → StandsHeard came passed (heard_by (judged logins rest) before rest)
  behind came passed before rest greeting first passes = by (judged logins rest) refl
    where
      to_end : (end : List ℕ) → passed ++ (before ++ end) ≡ before_rest came rest ++ end
      to_end end = sym (append_assoc passed before end) ∙ ap (λ xs. xs ++ end) passes

      by : (verdict : VerdictView) → judged logins rest ≡ verdict → StandsHeard came passed (heard_by verdict before rest)
      by Waits is = record { greeting = greeting; first = first; passes = passes }
      by Admits is =
          let login = judged_admits logins rest is in (
            record {
              greeting = greeting;
              more = rest;
              login = login.login;
              rest = login.rest;
              first = first;
              second = login.first;
              is_login = login.is_login;
            },
            to_end rest ∙ before-rest came rest (next_rest came greeting rest first),
          )
      by (Refuses answer) is = inl (no_frame, inr refl, inr (greeting, rest, first, to_end no_frame))

  -- ---- the first bytes

  greets : (came : List ℕ) (front : Front) → next_of came ≡ front → StandsHeard came [] (front_heard logins came front)
  greets came (Whole greeting rest) is = behind came [] (before_rest came rest) rest greeting is refl
  greets came Partial is = by (nat_lt MAX_KEPT (length came))
    where
      by : (long : Bool) → StandsHeard came [] (if long then refused [] [] else record { passed = []; standing = at.Silent; bytes = came })
      by true = inl (no_frame, inr refl, inl refl)
      by false = (refl, refl)
  greets came TooLong is = inr is

  -- ---- more bytes

  gave_more : (came more : List ℕ) → GaveLogin logins came → GaveLogin logins (came ++ more)
  gave_more came more gave = record {
    greeting = gave.greeting;
    more = gave.more ++ more;
    login = gave.login;
    rest = gave.rest ++ more;
    first = (next_more came more gave.greeting gave.more gave.first).0;
    second = (next_more gave.more more gave.login gave.rest gave.second).0;
    is_login = gave.is_login;
  }

  still_stranger : (came more passed : List ℕ) → IsOfStranger came passed → IsOfStranger (came ++ more) passed
  still_stranger came more passed (end, ends, inl is) = (end, ends, inl is)
  still_stranger came more passed (end, ends, inr (greeting, rest, first, is)) = (
    end,
    ends,
    inr (
      greeting,
      rest ++ more,
      (next_more came more greeting rest first).0,
      is ∙ ap (λ xs. xs ++ end) (sym (before_rest-more came rest more (next_rest came greeting rest first))),
    ),
  )

  pub stands_more : (s : Standing) (came passed bytes piece : List ℕ) → Stands s came passed bytes
      → StandsHeard (came ++ piece) passed (heard_in s logins bytes piece)
  stands_more at.Silent came passed bytes piece (is, none) =
      let all = bytes ++ piece in
      let now = greets all (next_of all) refl in
      subst (λ xs. StandsHeard (xs ++ piece) passed (front_heard logins all (next_of all))) is
      (subst (λ xs. StandsHeard all xs (front_heard logins all (next_of all))) (sym none) now)
  stands_more at.Stranger came passed bytes piece greeted =
      let first = (next_more came piece greeted.greeting bytes greeted.first).0 in
      behind (came ++ piece) passed [] (bytes ++ piece) greeted.greeting first
      (append-nil passed ∙ greeted.passes ∙ sym (before_rest-more came bytes piece (next_rest came greeted.greeting bytes greeted.first)))
  stands_more at.Admitted came passed bytes piece (gave, all) = (gave_more came piece gave, ap (λ xs. xs ++ piece) all)
  stands_more at.Refused came passed bytes piece (inl stranger) =
      inl (subst (IsOfStranger (came ++ piece)) (sym (append-nil passed)) (still_stranger came piece passed stranger))
  stands_more at.Refused came passed bytes piece (inr long) = inr (ap next_of (append-nil passed) ∙ long)

  -- ---- all pieces

  abbrev pub StandsFor : List ℕ → List ℕ → VisitorView → Type 0
  StandsFor came passed v = Stands v.standing came passed v.bytes

  stands_after : (pieces : List (List ℕ)) (came passed : List ℕ) (v : VisitorView) → StandsFor came passed v
      → StandsFor (came ++ concat pieces) (passed ++ passed_all logins v pieces) (after_all logins v pieces)
  stands_after [] came passed v stands =
      subst (λ xs. StandsFor xs (passed ++ []) v) (sym (append-nil came)) (subst (λ xs. StandsFor came xs v) (sym (append-nil passed)) stands)
  stands_after (piece ∷ pieces) came passed v stands =
      let h = heard logins v piece in
      let next = visitor_of h in
      let after = after_all logins next pieces in
      let more = stands_after pieces (came ++ piece) (passed ++ h.passed) next (stands_more v.standing came passed v.bytes piece stands) in
      subst (λ xs. StandsFor xs (passed ++ (h.passed ++ passed_all logins next pieces)) after) (append_assoc came piece (concat pieces))
      (subst (λ xs. StandsFor ((came ++ piece) ++ concat pieces) xs after) (append_assoc passed h.passed (passed_all logins next pieces)) more)

  pub stands_all : (pieces : List (List ℕ)) → StandsFor (concat pieces) (passed_all logins new_visitor pieces) (after_all logins new_visitor pieces)
  stands_all pieces = stands_after pieces [] [] new_visitor (refl, refl)

  -- one that isn't admitted
  pub strangers : (s : Standing) (came passed bytes : List ℕ) → s ≢ at.Admitted → Stands s came passed bytes
      → IsOfStranger came passed ⊎ (next_of passed ≡ TooLong)
  strangers at.Silent came passed bytes other (is, none) = inl ([], inl refl, inl none)
  strangers at.Stranger came passed bytes other greeted =
      inl ([], inl refl, inr (greeted.greeting, bytes, greeted.first, greeted.passes ∙ sym (append-nil _)))
  strangers at.Admitted came passed bytes other stands = absurd (other refl)
  strangers at.Refused came passed bytes other stands = stands
