-- Which fault of a row is reported, and that none is reported of the row of a readable state.
use Rattle.std.proofs.Common.{◌≡◌, ℕ, ◌<◌, Bool, true, false, List, [], ◌∷◌, ◌++◌, length, Option, Result, Ok, Err, refl, sym, ap, subst, ◌∙◌, arith}
use Rattle.std.proofs.lemmas.Bool.{ltb-true, lt-ltb}
use Rattle.std.specs.Prelude.{IfOk, IfErr}
use Rattle.std.specs.List.{AllByRecursion}
use Rattle.zcodec.specs.Forms.{Form}
use Rattle.zcodec.specs.Laws.{IsForm}
use Rattle.zcodec.proofs.Bytes.{ok_is}
use Rattle.zcodec.proofs.Whole.{one_value}
use Rattle.ztree.specs.declared.node.Node.{Node}
use Rattle.ztree.specs.declared.session.Session.{Session}
use Rattle.ztree.specs.Tree.{Path}
use Rattle.zcalls.specs.Cached.{Cached}
use Rattle.zstore.specs.declared.restore_fault.RestoreFault.{RestoreFault}
use Rattle.zstore.specs.declared.restore_fault.RestoreFault.TheVariants as restore
use Rattle.zops.specs.Machine.{MachineState}
use Rattle.zwire.specs.declared.limits.TheConstants.{MAX_FRAME}
use Rattle.zwire.specs.declared.fault.FrameFault.{FrameFault}
use Rattle.zwire.specs.declared.fault.FrameFault.TheVariants as frame
use Rattle.zwire.specs.Frames.{IsFaultOf}
use Rattle.zwire.proofs.Frames.{is_framed, only_in}
use Rattle.zsnapshots.specs.declared.header.Header.{Header}
use Rattle.zsnapshots.specs.declared.fault.RowFault.{RowFault}
use Rattle.zsnapshots.specs.declared.fault.RowFault.TheVariants.{Cut, TooLong, Contents, Unordered, Unlawful, Trailing, Ended, Memory}
use Rattle.zsnapshots.specs.Rows.{session_text, node_text, reply_text, row}
use Rattle.zsnapshots.specs.States.{StateRow, ReadingView, Fits, spelled, head_of, sessions_of, replies_of, below_of}
use Rattle.zsnapshots.specs.States.{body_of, rows_of, rows_so_far, wants_session, wants_node, wants_reply, IsReadable}
use Rattle.zsnapshots.specs.States.{IsWanted, IsTaken, IsRowFault, IsSessionFault, IsNodeFault, IsReplyFault}
use Rattle.zsnapshots.specs.States.{IsNextFault, NeverRefuses, either}
use Rattle.zsnapshots.specs.States.StateRow.{OfHeader, OfSession, OfNode, OfReply}
use Rattle.zsnapshots.specs.support.Faults.{of_frame, of_restoring}
use Rattle.zsnapshots.specs.support.Reading.{IsReading}
use Rattle.zsnapshots.proofs.RowForms.{is_session_text, is_node_text, is_reply_text}
use Rattle.zsnapshots.proofs.Cached.{view, sessions_some, sessions_none, nodes_some, nodes_none}
use Rattle.zsnapshots.proofs.Next.{next_session, next_node, next_reply, more_replies, same_sessions, session_next}
use Rattle.zsnapshots.proofs.Next.{node_next, reply_next, same_header, same_body}

module _ {A : Type 0} (c : Form A) (is : IsForm c) where
  pub framed_is : IsForm (row c)
  framed_is = is_framed MAX_FRAME c (omega arith) is

  -- what was found is in front
  pub read_is : (x : A) (rest bytes : List ℕ) → (row c).Fits x → bytes ≡ (row c).spell x ++ rest → (row c).read bytes ≡ Ok (x, rest)
  read_is x rest bytes fits front = ap (row c).read front ∙ framed_is.again x rest fits

  -- one row is in front
  pub one_row : (x y : A) (after behind bytes : List ℕ) → (row c).Fits x → (row c).Fits y → bytes ≡ (row c).spell x ++ after
      → bytes ≡ (row c).spell y ++ behind → (x ≡ y) × (after ≡ behind)
  one_row x y after behind bytes fits also front same = one_value (row c) framed_is x y after behind fits also (sym front ∙ same)

  pub frame_memory : (x : A) (rest bytes : List ℕ) → (row c).Fits x → bytes ≡ (row c).spell x ++ rest → (fault : FrameFault)
      → IsFaultOf c bytes fault → fault ≡ frame.Memory
  frame_memory x rest bytes fits front fault reported =
      (only_in c is {V = A × List ℕ} (λ v. v) bytes (Err fault) tt reported x rest fits front).1

  module _ (in_order can : A → Type 0) (bytes : List ℕ) where
    pub frame_reported : (fault : FrameFault) → IsFaultOf c bytes fault → IsRowFault c in_order can bytes (of_frame fault)
    frame_reported frame.Cut reported = reported
    frame_reported frame.TooLong reported = reported
    frame_reported (frame.Contents fault) reported = reported
    frame_reported frame.Memory reported = tt

    pub refused_reported : (x : A) (rest : List ℕ) → (row c).Fits x → bytes ≡ (row c).spell x ++ rest → in_order x
        → (fault : RestoreFault) → (can x → fault ≡ restore.Memory) → IsRowFault c in_order can bytes (of_restoring fault)
    refused_reported x rest fits front ordered restore.Unlawful memory = (
      x,
      rest,
      read_is x rest bytes fits front,
      ordered,
      λ yes_can. let bad = memory yes_can in cc,
    )
    refused_reported x rest fits front ordered restore.Memory memory = tt

    pub only_memory : (x : A) (rest : List ℕ) → (row c).Fits x → bytes ≡ (row c).spell x ++ rest → in_order x → can x
        → (fault : RowFault) → IsRowFault c in_order can bytes fault → fault ≡ Memory
    only_memory x rest fits front ordered able Cut reported = absurd (let bad = frame_memory x rest bytes fits front frame.Cut reported in cc)
    only_memory x rest fits front ordered able TooLong reported = absurd (let bad = frame_memory x rest bytes fits front frame.TooLong reported in cc)
    only_memory x rest fits front ordered able (Contents fault) reported = absurd
        (let bad = frame_memory x rest bytes fits front (frame.Contents fault) reported in cc)
    only_memory x rest fits front ordered able Unordered reported =
        let same = ok_is (x, rest) (reported.0, reported.1) (sym (read_is x rest bytes fits front) ∙ reported.2) in
        absurd (reported.3 (subst in_order (ap (λ (p : A × List ℕ). p.0) same) ordered))
    only_memory x rest fits front ordered able Unlawful reported =
        let same = ok_is (x, rest) (reported.0, reported.1) (sym (read_is x rest bytes fits front) ∙ reported.2) in
        absurd (reported.4 (subst can (ap (λ (p : A × List ℕ). p.0) same) able))
    only_memory x rest fits front ordered able Trailing reported = absurd reported
    only_memory x rest fits front ordered able Ended reported = absurd reported
    only_memory x rest fits front ordered able Memory reported = refl

-- ---- the kind that comes next

wanted_session : (r : ReadingView) (x : StateRow) → IsWanted r x → wants_session r ≡ true → (e : ℕ × Session) × (x ≡ OfSession e)
wanted_session r (OfHeader h) wanted is = absurd wanted
wanted_session r (OfSession e) wanted is = (e, refl)
wanted_session r (OfNode e) wanted is = absurd (let other = wanted.0 in cc)
wanted_session r (OfReply e) wanted is = absurd (let other = wanted.0 in cc)

wanted_node : (r : ReadingView) (x : StateRow) → IsWanted r x → wants_session r ≡ false → wants_node r ≡ true → (e : Path × Node) × (x ≡ OfNode e)
wanted_node r (OfHeader h) wanted none is = absurd wanted
wanted_node r (OfSession e) wanted none is = absurd (let other = wanted in cc)
wanted_node r (OfNode e) wanted none is = (e, refl)
wanted_node r (OfReply e) wanted none is = absurd (let other = wanted.1.0 in cc)

wanted_reply : (r : ReadingView) (x : StateRow) → IsWanted r x → wants_session r ≡ false → wants_node r ≡ false → (e : ℕ × Cached) × (x ≡ OfReply e)
wanted_reply r (OfHeader h) wanted none no_node = absurd wanted
wanted_reply r (OfSession e) wanted none no_node = absurd (let other = wanted in cc)
wanted_reply r (OfNode e) wanted none no_node = absurd (let other = wanted.1 in cc)
wanted_reply r (OfReply e) wanted none no_node = (e, refl)

pub all_at : (before : List StateRow) (x : StateRow) (after all : List StateRow) → AllByRecursion Fits all → all ≡ before ++ x ∷ after → Fits x
all_at [] x after all fit is = (subst (AllByRecursion Fits) is fit).0
all_at (y ∷ before) x after all fit is = all_at before x after (before ++ x ∷ after) (subst (AllByRecursion Fits) is fit).1 refl

-- two rows of a kind that are in front are one
same_row : {A : Type 0} (c : Form A) → IsForm c → (kind : A → StateRow) → ((a : A) → spelled (kind a) ≡ (row c).spell a)
    → ((a : A) → Fits (kind a) → (row c).Fits a) →
    (x y : StateRow) (e f : A) → x ≡ kind e → y ≡ kind f → Fits x → Fits y → (bytes rest more : List ℕ) → bytes ≡ spelled x ++ rest
    → bytes ≡ spelled y ++ more → (y ≡ x) × (more ≡ rest)
same_row c is kind spells fit x y e f x_is y_is fits also bytes rest more front same =
    let x_front = front ∙ ap (λ (t : StateRow). spelled t ++ rest) x_is ∙ ap (λ text. text ++ rest) (spells e) in
    let y_front = same ∙ ap (λ (t : StateRow). spelled t ++ more) y_is ∙ ap (λ text. text ++ more) (spells f) in
    let one = one_row c is f e more rest bytes (fit f (subst Fits y_is also)) (fit e (subst Fits x_is fits)) y_front x_front in
    (y_is ∙ ap kind one.0 ∙ sym x_is, one.1)

module _ (h : Header) (u : MachineState) (sessions nodes replies : ℕ) (session : Option ℕ) (path : Path) (client : Option ℕ)
    (is : IsReading h u sessions nodes replies session path client) where
  module _ (w : MachineState) (x : StateRow) (after : List StateRow) (readable : IsReadable w) (rows : rows_of w
      ≡ rows_so_far (view h u) ++ x ∷ after) where
    head : head_of w ≡ h
    head = same_header w h (body_of u ++ x ∷ after) rows

    body : body_of w ≡ body_of u ++ x ∷ after
    body = same_body w h (body_of u ++ x ∷ after) rows

    time : u.service.plain.time ≡ w.service.plain.time
    time = is.time ∙ ap (λ (h : Header). h.time) (sym head)

    zxid : u.service.plain.zxid ≡ w.service.plain.zxid
    zxid = is.zxid ∙ ap (λ (h : Header). h.zxid) (sym head)

    limits : u.service.plain.limits ≡ w.service.plain.limits
    limits = is.limits ∙ ap (λ (h : Header). h.limits) (sym head)

    fits : Fits x
    fits = all_at (rows_so_far (view h u)) x after (rows_of w) readable.fit rows

    full_sessions : wants_session (view h u) ≡ false → length (sessions_of u) ≡ length (sessions_of w)
    full_sessions none =
        let all = ap (λ (h : Header). h.sessions) head in
        let left = is.sessions_left in
        let no = sessions_none h u sessions nodes replies session path client is none in
        omega (arith, all, left, no)

    full_nodes : wants_node (view h u) ≡ false → length (below_of u) ≡ length (below_of w)
    full_nodes none =
        let all = ap (λ (h : Header). h.nodes) head in
        let left = is.nodes_left in
        let no = nodes_none h u sessions nodes replies session path client is none in
        omega (arith, all, left, no)

    module _ (bytes rest : List ℕ) (front : bytes ≡ spelled x ++ rest) {V : Type 0} (of : V → List ℕ) (new : ReadingView) where
      abbrev Outcome : Result V RowFault → Type 0
      Outcome r = IfOk r (λ v. ◌≡◌ {A = List StateRow × List ℕ} (rows_so_far new, of v) (rows_so_far (view h u) ++ x ∷ [], rest))
          × IfErr r (λ fault. fault ≡ Memory)

      ok_outcome : {A : Type 0} (c : Form A) → IsForm c → (kind : A → StateRow) → ((a : A) → spelled (kind a) ≡ (row c).spell a)
          → ((a : A) → Fits (kind a) → (row c).Fits a) →
          (e f : A) (v : V) (taken : IsTaken (view h u) new bytes (of v)) → x ≡ kind e → taken.x ≡ kind f → Outcome (Ok v)
      ok_outcome c form kind spells fit e f v taken x_is y_is =
          let same = same_row c form kind spells fit x taken.x e f x_is y_is fits taken.fits bytes rest (of v) front taken.front in
          let new_rows = taken.rows ∙ ap (λ (y : StateRow). rows_so_far (view h u) ++ y ∷ []) same.0 in
          ((λ i. (new_rows i, same.1 i)), tt)

      session_outcome : wants_session (view h u) ≡ true → (r : Result V RowFault) → IfOk r (λ v. IsTaken (view h u) new bytes (of v))
          → IfErr r (IsNextFault (view h u) bytes) → Outcome r
      session_outcome wanted (Ok v) taken reported =
          let some = sessions_some h u sessions nodes replies session path client is wanted in
          let all = ap (λ (h : Header). h.sessions) head in
          let less = ltb-true (length (sessions_of u)) h.sessions wanted in
          let next = next_session w u x after body is.root (is.nodes_wait some) (is.replies_wait (omega (arith, some))) (omega (arith, all, less)) in
          let own = wanted_session (view h u) taken.x taken.wanted wanted in
          ok_outcome session_text is_session_text OfSession (λ a. refl) (λ a it. it) next.0 own.0 v taken next.3 own.1
      session_outcome wanted (Err fault) taken reported =
          let some = sessions_some h u sessions nodes replies session path client is wanted in
          let all = ap (λ (h : Header). h.sessions) head in
          let less = ltb-true (length (sessions_of u)) h.sessions wanted in
          let next = next_session w u x after body is.root (is.nodes_wait some) (is.replies_wait (omega (arith, some))) (omega (arith, all, less)) in
          let can = session_next w u readable next.0 next.1 next.2 time zxid limits in
          let own : IsSessionFault u bytes fault = subst (λ b. either b (IsSessionFault u bytes fault)
          (either (wants_node (view h u)) (IsNodeFault u bytes fault)
          (either (wants_reply (view h u)) (IsReplyFault u bytes fault) (fault ≡ Ended)))) wanted reported in (
            tt,
            only_memory session_text is_session_text _ _ bytes next.0 rest (subst Fits next.3 fits) (front
                ∙ ap (λ (t : StateRow). spelled t ++ rest) next.3) can.0 can.1 fault own,
          )

      node_outcome : wants_session (view h u) ≡ false → wants_node (view h u) ≡ true → (r : Result V RowFault)
          → IfOk r (λ v. IsTaken (view h u) new bytes (of v)) → IfErr r (IsNextFault (view h u) bytes) → Outcome r
      node_outcome none wanted (Ok v) taken reported =
          let some = nodes_some h u sessions nodes replies session path client is wanted in
          let all = ap (λ (h : Header). h.nodes) head in
          let less = ltb-true (length (below_of u)) h.nodes wanted in
          let next = next_node w u x after body is.root (full_sessions none) (is.replies_wait (omega (arith, some))) (omega (arith, all, less)) in
          let own = wanted_node (view h u) taken.x taken.wanted none wanted in
          ok_outcome node_text is_node_text OfNode (λ a. refl) (λ a it. it) next.0 own.0 v taken next.3 own.1
      node_outcome none wanted (Err fault) taken reported =
          let some = nodes_some h u sessions nodes replies session path client is wanted in
          let all = ap (λ (h : Header). h.nodes) head in
          let less = ltb-true (length (below_of u)) h.nodes wanted in
          let next = next_node w u x after body is.root (full_sessions none) (is.replies_wait (omega (arith, some))) (omega (arith, all, less)) in
          let can = node_next w u readable next.0 next.1 next.2 (same_sessions w u x after body is.root (full_sessions none)) is.root time zxid limits in
          let own : IsNodeFault u bytes fault =
          subst (λ b. either b (IsNodeFault u bytes fault) (either (wants_reply (view h u)) (IsReplyFault u bytes fault) (fault ≡ Ended))) wanted
          (subst (λ b. either b (IsSessionFault u bytes fault) (either (wants_node (view h u)) (IsNodeFault u bytes fault)
          (either (wants_reply (view h u)) (IsReplyFault u bytes fault) (fault ≡ Ended)))) none reported) in (
            tt,
            only_memory node_text is_node_text _ _ bytes next.0 rest (subst Fits next.3 fits) (front
                ∙ ap (λ (t : StateRow). spelled t ++ rest) next.3) can.0 can.1 fault own,
          )

      -- not all sessions and nodes of the state were read without a further row
      reply_less : wants_session (view h u) ≡ false → wants_node (view h u) ≡ false → length (replies_of u) < length (replies_of w)
      reply_less none no_node = more_replies w u x after body is.root (full_sessions none) (full_nodes no_node)

      reply_outcome : wants_session (view h u) ≡ false → wants_node (view h u) ≡ false → (r : Result V RowFault)
          → IfOk r (λ v. IsTaken (view h u) new bytes (of v)) → IfErr r (IsNextFault (view h u) bytes) → Outcome r
      reply_outcome none no_node (Ok v) taken reported =
          let next = next_reply w u x after body is.root (full_sessions none) (full_nodes no_node) (reply_less none no_node) in
          let own = wanted_reply (view h u) taken.x taken.wanted none no_node in
          ok_outcome reply_text is_reply_text OfReply (λ a. refl) (λ a it. it.0) next.0 own.0 v taken next.3 own.1
      reply_outcome none no_node (Err fault) taken reported =
          let all = ap (λ (h : Header). h.replies) head in
          let less = reply_less none no_node in
          let next = next_reply w u x after body is.root (full_sessions none) (full_nodes no_node) less in
          let above = reply_next w u readable next.0 next.1 next.2 in
          let fit = subst Fits next.3 fits in
          let wanted : wants_reply (view h u) ≡ true = lt-ltb (length (replies_of u)) h.replies (omega (arith, all, less)) in
          let own : IsReplyFault u bytes fault =
          subst (λ b. either b (IsReplyFault u bytes fault) (fault ≡ Ended)) wanted
          (subst (λ b. either b (IsNodeFault u bytes fault) (either (wants_reply (view h u)) (IsReplyFault u bytes fault) (fault ≡ Ended))) no_node
          (subst (λ b. either b (IsSessionFault u bytes fault) (either (wants_node (view h u)) (IsNodeFault u bytes fault)
          (either (wants_reply (view h u)) (IsReplyFault u bytes fault) (fault ≡ Ended)))) none reported)) in (
            tt,
            only_memory reply_text is_reply_text _ _ bytes next.0 rest fit.0 (front ∙ ap (λ (t : StateRow). spelled t ++ rest) next.3)
                above fit.1 fault own,
          )

      outcome : (r : Result V RowFault) → IfOk r (λ v. IsTaken (view h u) new bytes (of v)) → IfErr r (IsNextFault (view h u) bytes) → Outcome r
      outcome r taken reported = by (wants_session (view h u)) (wants_node (view h u)) refl refl
        where
          by : (a b : Bool) → wants_session (view h u) ≡ a → wants_node (view h u) ≡ b → Outcome r
          by true b wanted other = session_outcome wanted r taken reported
          by false true none wanted = node_outcome none wanted r taken reported
          by false false none no_node = reply_outcome none no_node r taken reported

  -- the next row of a readable state is never refused
  pub never_refuses : {V : Type 0} (bytes : List ℕ) (of : V → List ℕ) (new : ReadingView) (r : Result V RowFault)
      → IfOk r (λ v. IsTaken (view h u) new bytes (of v)) → IfErr r (IsNextFault (view h u) bytes) →
      NeverRefuses (rows_so_far (view h u)) (λ v. (rows_so_far new, of v)) r bytes
  never_refuses bytes of new r taken reported w x after rest readable rows front = outcome w x after readable rows bytes rest front of new r taken reported
