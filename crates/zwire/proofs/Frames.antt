-- Frames are a form, and their faults.
use Rattle.std.proofs.Common.{◌≡◌, ◌≢◌, ℕ, ◌^◌, ◌<◌, ◌≤◌, List, [], ◌∷◌, ◌++◌, length, Result, Ok, Err, refl, sym, ap, subst, ◌∙◌, append-nil, arith}
use Rattle.std.specs.Prelude.{IfOk, IfErr}
use Rattle.std.specs.Int.{w32, to_be_bytes}
use Rattle.zcodec.specs.declared.fault.Fault.{Fault}
use Rattle.zcodec.specs.declared.fault.Fault.TheVariants.{Short, Long, Invalid, Trailing}
use Rattle.zcodec.specs.Forms.{◌>>=◌, Form}
use Rattle.zcodec.specs.Choices.{sized}
use Rattle.zcodec.specs.Laws.{IsBytes, IsForm}
use Rattle.zcodec.specs.Readers.{whole}
use Rattle.zcodec.proofs.Bytes.{bytes_before, bytes_after, bind_ok, done, ok_is}
use Rattle.zcodec.proofs.Parts.{is_both, is_record}
use Rattle.zcodec.proofs.Choices.{is_sized}
use Rattle.zcodec.proofs.Whole.{whole_takes, whole_again, one_value}
use Rattle.zwire.specs.declared.limits.TheConstants.{MAX_FRAME}
use Rattle.zwire.specs.declared.fault.FrameFault.{FrameFault}
use Rattle.zwire.specs.declared.fault.FrameFault.TheVariants.{Cut, TooLong, Contents, Memory}
use Rattle.zwire.specs.Fields.{process}
use Rattle.zwire.specs.Messages.{any_message}
use Rattle.zwire.specs.Frames.{contents, framed, frame, IsFaultOf}
use Rattle.zwire.specs.Laws.{IsReadAgain, WasSpelled, AreDistinct, BeginningsAreCut}
use Rattle.zwire.proofs.Fields.{is_process}
use Rattle.zwire.proofs.Messages.{is_message}
use Rattle.zwire.proofs.Steady.{Stays, steady_sized}

-- ---- frames

pub is_contents : IsForm contents
unfolding contents
is_contents = is_record _ _ _ (is_both process _ is_process (is_both process any_message is_process is_message)) (λ p. refl) (λ f. refl)

pub is_framed : {A : Type 0} (most : ℕ) (c : Form A) → most < 2 ^ 32 → IsForm c → IsForm (framed most c)
is_framed {A} most c few is = record {
  takes = λ bytes x are e.
      let a = bind_ok ((sized most).read bytes) (λ t. whole c t.0 >>= λ y. Ok (y, t.1)) x e in
      let b = bind_ok (whole c a.0.0) (λ y. Ok (y, a.0.1)) x a.2 in
      let t = (is_sized most few).takes bytes a.0 are a.1 in
      let both_are = bytes_before bytes ((sized most).spell a.0.0) a.0.1 are t.0 in
      let text_are = bytes_after ((sized most).spell a.0.0) (to_be_bytes w32 (length a.0.0)) a.0.0 both_are refl in
      let w = whole_takes c is a.0.0 b.0 text_are b.1 in
      subst (λ (y : A × List ℕ). (bytes ≡ (sized most).spell (c.spell y.0) ++ y.1) × (c.Fits y.0 × (length (c.spell y.0) ≤ most))) (ok_is _ _ b.2)
      (subst (λ (text : List ℕ). (bytes ≡ (sized most).spell text ++ a.0.1) × (c.Fits b.0 × (length text ≤ most))) w.0 (t.0, (w.1, t.1.0)));
  again = λ x rest fits.
      ap (λ (r : Result (List ℕ × List ℕ) Fault). r >>= λ t. whole c t.0 >>= λ y. done (y, t.1))
      ((is_sized most few).again (c.spell x) rest (fits.1, refl))
      ∙ ap (λ (r : Result A Fault). r >>= λ y. done (y, rest)) (whole_again c is x fits.0);
}

pub is_frame : IsForm frame
unfolding frame
is_frame = is_framed MAX_FRAME contents (omega arith) is_contents

pub read_again : IsReadAgain
read_again f rest fits = is_frame.again f rest fits

pub was_spelled : WasSpelled
was_spelled bytes x are e = is_frame.takes bytes x are e

pub distinct : AreDistinct
distinct f g x y fits also same = one_value frame is_frame f g x y fits also same

-- ---- faults

apart : {A B : Type 0} (x : A) (e : B) → ◌≡◌ {A = Result A B} (Ok x) (Err e) → ⊥
apart x e same = cc

module _ {A : Type 0} (c : Form A) (is : IsForm c) where
  -- the length of a frame, and its bytes, are read
  frame_sized : (x : A) (rest : List ℕ) → (framed MAX_FRAME c).Fits x → (sized MAX_FRAME).read ((framed MAX_FRAME c).spell x ++ rest)
      ≡ Ok (c.spell x, rest)
  frame_sized x rest fits = (is_sized MAX_FRAME (omega arith)).again (c.spell x) rest (fits.1, refl)

  -- where a frame comes first, no fault but out of memory is reported
  only_memory : (bytes : List ℕ) (fault : FrameFault) (x : A) (rest : List ℕ) → (framed MAX_FRAME c).Fits x
      → bytes ≡ (framed MAX_FRAME c).spell x ++ rest → IsFaultOf c bytes fault → fault ≡ Memory
  only_memory bytes Cut x rest fits same reported = absurd (apart (c.spell x, rest) Short (sym (frame_sized x rest fits)
      ∙ ap (sized MAX_FRAME).read (sym same) ∙ reported))
  only_memory bytes TooLong x rest fits same reported = absurd (apart (c.spell x, rest) Long (sym (frame_sized x rest fits)
      ∙ ap (sized MAX_FRAME).read (sym same) ∙ reported))
  only_memory bytes (Contents fault) x rest fits same reported =
      let both = ok_is (c.spell x, rest) (reported.0, reported.1) (sym (frame_sized x rest fits) ∙ ap (sized MAX_FRAME).read (sym same) ∙ reported.2) in
      let text : c.spell x ≡ reported.0 = ap (λ (p : List ℕ × List ℕ). p.0) both in
      absurd (apart x fault (sym (whole_again c is x fits.0) ∙ ap (whole c) text ∙ reported.3))
  only_memory bytes Memory x rest fits same reported = refl

  -- what was read is in front
  pub found_in : {V : Type 0} (of : V → A × List ℕ) (bytes : List ℕ) (r : Result V FrameFault) → IsBytes bytes
      → IfOk r (λ v. (framed MAX_FRAME c).read bytes ≡ Ok (of v))
      → IfOk r (λ v. (framed MAX_FRAME c).Fits (of v).0 × (bytes ≡ (framed MAX_FRAME c).spell (of v).0 ++ (of v).1))
  found_in of bytes (Ok v) are read = let t = (is_framed MAX_FRAME c (omega arith) is).takes bytes (of v) are read in (t.1, t.0)
  found_in of bytes (Err fault) are read = tt

  -- and what is in front is read
  pub only_in : {V : Type 0} (of : V → A × List ℕ) (bytes : List ℕ) (r : Result V FrameFault)
      → IfOk r (λ v. (framed MAX_FRAME c).read bytes ≡ Ok (of v)) → IfErr r (IsFaultOf c bytes)
      → (x : A) (rest : List ℕ) → (framed MAX_FRAME c).Fits x → bytes ≡ (framed MAX_FRAME c).spell x ++ rest
      → IfOk r (λ v. ((of v).0 ≡ x) × ((of v).1 ≡ rest)) × IfErr r (λ fault. fault ≡ Memory)
  only_in of bytes (Ok v) read reported x rest fits same =
      let both = ok_is (of v) (x, rest) (sym read ∙ ap (framed MAX_FRAME c).read same ∙ (is_framed MAX_FRAME c (omega arith) is).again x rest fits) in
      ((ap (λ (p : A × List ℕ). p.0) both, ap (λ (p : A × List ℕ). p.1) both), tt)
  only_in of bytes (Err fault) read reported x rest fits same = (tt, only_memory bytes fault x rest fits same reported)

-- ---- more bytes

sized_stays : (bytes more : List ℕ) (r : Result (List ℕ × List ℕ) Fault) → (sized MAX_FRAME).read bytes ≡ r
    → Stays more r ((sized MAX_FRAME).read (bytes ++ more))
sized_stays bytes more r is =
    subst (λ (r : Result (List ℕ × List ℕ) Fault). Stays more r ((sized MAX_FRAME).read (bytes ++ more))) is (steady_sized MAX_FRAME bytes more)

pub faults_stay : {A : Type 0} (c : Form A) (bytes more : List ℕ) (fault : FrameFault) → fault ≢ Cut → IsFaultOf c bytes fault
    → IsFaultOf c (bytes ++ more) fault
faults_stay c bytes more Cut other is = absurd (other refl)
faults_stay c bytes more TooLong other is = sized_stays bytes more (Err Long) is
faults_stay c bytes more (Contents fault) other is = (is.0, is.1 ++ more, sized_stays bytes more (Ok (is.0, is.1)) is.2, is.3)
faults_stay c bytes more Memory other is = tt

-- a beginning of what is read is cut
begins_cut : (back x : List ℕ) → back ≢ [] → (r : Result (List ℕ × List ℕ) Fault) → Stays back r (Ok (x, [])) → r ≡ Err Short
begins_cut back x some (Ok y) stays =
    absurd (some (none y.1 (ap (λ (p : List ℕ × List ℕ). p.1) (ok_is (x, []) (y.0, y.1 ++ back) stays))))
  where
    none : (rest : List ℕ) → [] ≡ rest ++ back → back ≡ []
    none [] e = sym e
    none (byte ∷ rest) e = absurd cc
begins_cut back x some (Err Short) stays = refl
begins_cut back x some (Err Long) stays = absurd (apart (x, []) Long stays)
begins_cut back x some (Err Invalid) stays = absurd (apart (x, []) Invalid stays)
begins_cut back x some (Err Trailing) stays = absurd (apart (x, []) Trailing stays)

pub beginning_is_cut : {A : Type 0} (c : Form A) → IsForm c → (x : A) (front back : List ℕ) → (framed MAX_FRAME c).Fits x
    → (framed MAX_FRAME c).spell x ≡ front ++ back → back ≢ [] → IsFaultOf c front Cut
beginning_is_cut c is x front back fits split some =
    let whole_read : (sized MAX_FRAME).read (front ++ back) ≡ Ok (c.spell x, []) =
    ap (sized MAX_FRAME).read (sym split ∙ sym (append-nil ((framed MAX_FRAME c).spell x))) ∙ frame_sized c is x [] fits in
    begins_cut back (c.spell x) some ((sized MAX_FRAME).read front)
    (subst (Stays back ((sized MAX_FRAME).read front)) whole_read (steady_sized MAX_FRAME front back))

pub beginnings_are_cut : BeginningsAreCut
unfolding frame
beginnings_are_cut f front back fits split some = beginning_is_cut contents is_contents f front back fits split some
