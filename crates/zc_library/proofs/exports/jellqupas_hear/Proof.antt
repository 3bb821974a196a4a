-- `jellqupas_hear` meets its contract: a walk of its MIR, by hand. The service and the bytes are each lent for a lifetime that is made for the call of `hear`, and come back once it is ended.
use Rattle.std.proofs.Common.{ℕ, ◌*◌, ◌^◌, ◌<◌, List, [], ◌∷◌, ◌++◌, length, refl, subst, arith, w8, w32, w64, Bor}
use seplogic.Ra.Ura.{Ura}
use base.Fraction.{full_share}
use mir.Syntax.{named}
use mir.Val.{Val, vint, vptr}
use base.Logic.{SProp, ent, sep, via, fst∗, snd∗, never, never_e, id⊢}
use base.Fml.{Lft, GName, Share, Fml, ftrue, feq, fsep, flft, flent, Incl-refl}
use prog.Memory.{Memory}
use prog.Routine.{Routine}
use prog.Wp.{Calls, Loops, WpFn, Tables}
use types.Logic.{Logic, sem}
use types.SemTy.{Body}
use contract.Monad.{Fun, fact}
use contract.Running.{tables, tables_of}
use types.Kit.{‵, raw, ◌⊛◌, some, later, ◌$◌, ◌∵◌, !, qed, by, move, keep, use1, use2, use3, split, join, pick, fsplit}
use types.Kit.{fjoin, feq_l, feq_i, suffices, show, frame, await, done}
use types.Tokens.{lft_new, lft_end, lent_back}
use types.Run.{and_then, no_more, returns, enter, addr, stop, of_opd}
use types.Part.{agg}
use types.ByLocal.{alloc_all, pass_all, free_all, look_at, get, through, sets, lands_as}
use sound.WpLaws.{FmC, fm_of, WpFn-mono}
use denote.Exit.{yes}
use denote.RattleType.{RattleType, owns}
use denote.Laws.{Is, shows}
use denote.Memory.{part_at, mem}
use denote.Plain.{uint_vals, uint_Tells, uint_Lawful}
use denote.Builtin.{u8, u32, usize}
use denote.Array.{Array}
use denote.Ref.{MutBor, MutRef}
use denote.Slice.{ShrSlice, slice_val}
use denote.Lend.{lends_ref, ref_back, lends_shr_slice}
use denote.Copied.{uint_Copied}
use denote.RawPtr.{Ptr, block_ptr, null_ptr, RawPtr, rawptr_vals, rawptr_Tells, lies_at}
use denote.RawPtr.Bytes.{bytes, bytes_apart, bytes_whole}
use denote.Steps.{peeks, heard, nothing}
use denote.Triple.Statement.{Contract, Triple}
use denote.Triple.Call.{calls_at}
use denote.Triple.Clauses.{Lasts, lasts}
use denote.Triple.Entry.{on_entry}
use denote.Triple.Spec.{Meets, triple_of}
use denote.Triple.Table.{entered}
use denote.Triple.Walked.{says, Stays, stay_none, walk_of, Goes-none, ends_at, walked, walk_Meets}
use Rattle.zc_library.specs.Service.{HearsAs}
use Rattle.zc_library.specs.declared.service.Service.{Service}
use Rattle.zc_library.specs.contracts.service.Service as service
use Rattle.zc_library.specs.contracts.service.hear as of
use Rattle.zc_library.proofs.service.hear.Symbol.{name as #hear}
use Rattle.zc_library.proofs.service.hear.Met as of_thm
use Rattle.zc_library.specs.contracts.exports.jellqupas_hear.Key.{name as key}
use Rattle.zc_library.specs.contracts.exports.jellqupas_hear as f
use Rattle.zc_library.proofs.exports.jellqupas_hear.Statement as stated
use Rattle.zc_library.proofs.exports.jellqupas_hear.Code as code

abbrev stayed : Stays (f.ended).signature.params (f.ended).kept
stayed = (stay_none (λ _. RawPtr) yes, (stay_none (λ _. RawPtr) yes, (stay_none (λ _. usize) yes, tt)))

abbrev S : RattleType
S = service.the_row

module _ {M : Type 1} {𝓤 : Ura M} (𝓛 : Logic 𝓤) (at_mem : Memory → SProp 𝓤) (run : Routine → Fun 𝓤) where
  abbrev Of : Contract 𝓤
  Of = triple_of 𝓛 of.signature (of.spec 𝓛 at_mem run)

module _ {M : Type 1} {𝓤 : Ura M} (𝓛 : Logic 𝓤) (at_mem : Memory → SProp 𝓤) (run : Routine
    → Fun 𝓤) (C : Calls 𝓤 𝓛.H) (Λ : Loops 𝓤 𝓛.H) (fm : FmC 𝓤 𝓛.H 𝓛.laws C)
    (known : Triple 𝓤 (C #hear) (Of 𝓛 at_mem run)) (h : Service) (q : Share) (xs : List ℕ) where
  open 𝓛 use {H}

  abbrev Args : Type 0
  Args = Ptr × (Ptr × (ℕ × Unit {0}))

  abbrev args : Ptr → Ptr → ℕ → Args
  args p p' n = (p, (p', (n, tt)))

  abbrev passed : Ptr → Ptr → ℕ → List Val × (List Val × (List Val × Unit {0}))
  passed p p' n = (rawptr_vals p, (rawptr_vals p', (vint w64 n ∷ [], tt)))

  abbrev Entry : Ptr → Ptr → ℕ → SProp 𝓤
  Entry p p' n = on_entry 𝓛 f.signature tt tt (args p p' n) (passed p p' n)

  abbrev bound : Ptr → Ptr → ℕ → (walk_of 𝓛 f.ended stayed (f.clauses 𝓛 at_mem run)).Ghost
  bound p p' n = ((tt, tt, tt, args p p' n, passed p p' n), (h, (q, xs)))

  abbrev Post : Ptr → Ptr → ℕ → Val → SProp 𝓤
  Post p p' n = (walk_of 𝓛 f.ended stayed (f.clauses 𝓛 at_mem run)).post (bound p p' n)

  abbrev Runs : Ptr → Ptr → ℕ → SProp 𝓤
  Runs p p' n = WpFn 𝓤 H C Λ code.function (rawptr_vals p ++ (rawptr_vals p' ++ (vint w64 n ∷ []))) (Post p p' n)

  module _ (b o c i : ℕ) where
    abbrev n : ℕ
    n = length xs

    abbrev at : Ptr
    at = block_ptr b o

    abbrev from : Ptr
    from = block_ptr c i

    abbrev Counted : Fml
    Counted = fsep (feq ℕ n n) (bytes q xs c i)

    abbrev Reported : Service → ℕ → SProp 𝓤
    Reported new r = sep 𝓤 (sem 𝓛 (part_at S full_share new b o)) (sep 𝓤 (sem 𝓛 (part_at (Array u8 n) q xs c i)) (fact 𝓤 (HearsAs h new xs r)))

    exits : (new : Service) (r : ℕ) (v : Val) → HearsAs h new xs r
        → ent 𝓤 (sep 𝓤 (sem 𝓛 Counted) (sep 𝓤 (sem 𝓛 (part_at S full_share new b o)) (sep 𝓤 (sem 𝓛 (u32.own_val r (v ∷ []))) (Entry at from n))))
        (Post at from n v)
    exits new r v e =
        qed 𝓛 (‵ Counted ∷ ‵ (part_at S full_share new b o) ∷ ‵ (u32.own_val r (v ∷ []))
        ∷ (‵ ftrue ⊛ ‵ (owns (RawPtr ∷ RawPtr ∷ usize ∷ []) (args at from n) (passed at from n))) ∷ []) ∵
        use1 𝓛 (‵ (part_at (Array u8 n) q xs c i)) (bytes_whole 𝓛 q n xs c i) $
        suffices ! _ (ends_at 𝓛 f.ended stayed (f.clauses 𝓛 at_mem run) (bound at from n) v r (tt, (tt, (tt, tt))) (tt, (tt, (tt, tt)))) $
        move ! (3 ∷ []) $ split ! $ move ! (1 ∷ 4 ∷ []) $ join ! $ move ! (1 ∷ 0 ∷ []) $ join ! $ frame ! $
        show ! (λ (w : Service). Reported w r) new $ move ! (1 ∷ []) $ frame ! $ says ! e $ done !

    walk : n < 2 ^ 63 → ent 𝓤 (sep 𝓤 (sem 𝓛 Counted) (sep 𝓤 (sem 𝓛 (part_at S full_share h b o)) (Entry at from n))) (Runs at from n)
    walk low =
        let fits : n < 2 ^ 64 = omega arith in
        let room : n * 1 < 2 ^ 63 = omega arith in
        qed 𝓛 (‵ Counted ∷ ‵ (part_at S full_share h b o) ∷ raw (Entry at from n) ∷ []) ∵ enter ! C Λ code.function
        (vptr b o ∷ vptr c i ∷ vint w64 n ∷ []) _ $
        alloc_all ! (λ l. pass_all ! refl ((tt, tt), ((tt, tt), ((tt, record { fits = fits }), tt))) $
        -- &mut *at, from_raw_parts(from, len)
        sets ! (of_opd ! (get ! refl)) refl (tt, tt) $ sets ! (addr ! (through ! refl (stop !))) refl (tt, tt) $
        sets ! (agg ! (and_then ! (get ! refl) (and_then ! (get ! refl) (no_more !)))) refl (tt, (tt, (record { fits = fits }, tt))) $
        lft_new ! tt (λ α. let κ : Lft = α ∷ [] in move ! (1 ∷ 0 ∷ []) $
        use2 𝓛 (later ((‵ ((ShrSlice (named 1) κ u8).own_val (record { ref_ptr = (c, i); now = xs }) (slice_val (c, i) n ∷ []))
        ⊛ ‵ (flent κ Counted)) ⊛ ‵ (flft κ full_share)))
        (lends_shr_slice 𝓛 u8 (named 1) κ q xs c i (fits, room) κ ((uint_Copied 𝓛 w8).shares q κ) ((κ, full_share) ∷ [])
        (Incl-refl κ) (Incl-refl κ)) $ await ! tt $ split ! $ split ! $
        -- [the slice; the right to the bytes; its token; the service; what the parameters own; the locals]
        move ! (3 ∷ []) $ lft_new ! tt (λ β. let μ : Lft = β ∷ [] in move ! (1 ∷ []) $
        use1 𝓛 (later (some (λ (γ : GName). ‵ ((MutRef (named 0) μ S).own_val (record { ref_ptr = (b, o); ghost_name = γ; now = h })
        (vptr b o ∷ [])) ⊛ ‵ (flent μ (Body (mem S) b o γ)))))
        (lends_ref 𝓛 S (named 0) μ h b o) $ await ! tt $ pick ! (λ γ. split ! $
        -- [the reference; the right to the service; its token; the slice; the right to the bytes; its token; what the parameters own; the locals]
        let s : Bor (List ℕ) = record { ref_ptr = (c, i); now = xs } in
        let x : MutBor Service = record { ref_ptr = (b, o); ghost_name = γ; now = h } in
        let y : (Of 𝓛 at_mem run).Ghost =
        (((μ, (κ, tt)), (full_share, (full_share, tt)), tt, (x, (s, tt)), (vptr b o ∷ [], (slice_val (c, i) n ∷ [], tt))), tt) in
        nothing ! $ move ! (4 ∷ 0 ∷ []) $ fjoin ! $ move ! (1 ∷ 0 ∷ []) $ fjoin ! $
        nothing ! $ move ! (5 ∷ 0 ∷ []) $ join ! $ move ! (3 ∷ 0 ∷ []) $ join ! $ join ! $ nothing ! $ move ! (1 ∷ 0 ∷ []) $ join ! $
        use1 𝓛 (raw ((Of 𝓛 at_mem run).pre y)) (id⊢ 𝓤 ((Of 𝓛 at_mem run).pre y)) $
        -- hear(.., ..)
        calls_at ! fm (Of 𝓛 at_mem run) known y (and_then ! (get ! refl) (and_then ! (get ! refl) (no_more !))) (λ v.
        use1 𝓛 (later (some (λ (r : ℕ). ((‵ (flft μ full_share) ⊛ (‵ (flft κ full_share) ⊛ ‵ ftrue)) ⊛ ‵ (u32.own_val r (v ∷ [])))
        ⊛ some (λ (ws : Lasts of.ended (μ, (κ, tt)) (x, (s, tt))). ‵ (lasts of.ended (μ, (κ, tt)) (x, (s, tt)) ws) ⊛
        raw (fact 𝓤 (HearsAs h ws.0 xs r)))))) (id⊢ 𝓤 _) $ await ! tt $ pick ! (λ r.
        split ! $ move ! (1 ∷ []) $ pick ! (λ ws. split ! $ move ! (1 ∷ []) $ heard ! (HearsAs h ws.0 xs r) (λ e.
        -- [the last value; the tokens and the result; the right to the service; the right to the bytes; what the parameters own; the locals]
        fsplit ! $ fsplit ! $ move ! (3 ∷ []) $ split ! $ split ! $
        -- [its token; the other token; the result; the name; ..; ..; the right to the service; the right to the bytes; ..]
        lft_end ! tt $ move ! (0 ∷ 6 ∷ 3 ∷ []) $
        use3 𝓛 (later (‵ (part_at S full_share ws.0 b o))) (ref_back 𝓛 S μ γ ws.0 b o) $ await ! tt $
        -- [the service; the other token; the result; ..; ..; the right to the bytes; what the parameters own; ..]
        move ! (1 ∷ []) $ split ! $ lft_end ! tt $ move ! (0 ∷ 6 ∷ []) $ lent_back ! tt $
        -- [the bytes; ..; the service; the result; ..; ..; what the parameters own; ..]
        move ! (3 ∷ []) $ peeks ! u32 (Is u32) (shows 𝓛 u32) r (v ∷ []) (λ is. lands_as ! refl refl ((uint_Lawful 𝓛 w32).typed r _ is).0 $
        returns ! (look_at ! 0 refl) $ free_all ! refl $ keep ! (1 ∷ 3 ∷ 0 ∷ 6 ∷ []) $ by ! (exits ws.0 r v e))))))))))

  -- by the pointers' form: nothing lies at null, and at blocks the count passed is the count of the bytes
  at_each : (p p' : Ptr) (n : ℕ)
      → ent 𝓤 (sep 𝓤 (Entry p p' n) (sep 𝓤 (sem 𝓛 (lies_at S full_share p h))
      (sep 𝓤 (sem 𝓛 (lies_at (Array u8 n) q p' xs)) (fact 𝓤 (n < 2 ^ 63))))) (Runs p p' n)
  at_each (block_ptr b o) (block_ptr c i) n =
      qed 𝓛 (raw (Entry (block_ptr b o) (block_ptr c i) n) ∷ ‵ (part_at S full_share h b o) ∷ ‵ (part_at (Array u8 n) q xs c i)
      ∷ raw (fact 𝓤 (n < 2 ^ 63)) ∷ []) ∵ move ! (3 ∷ []) $ heard ! (n < 2 ^ 63) (λ low. move ! (2 ∷ []) $
      use1 𝓛 (‵ (fsep (feq ℕ (length xs) n) (bytes q xs c i))) (bytes_apart 𝓛 q n xs c i) $ fsplit ! $
      feq_l ! (λ e. feq_i ! ℕ (length xs) (length xs) refl $ fjoin ! $ move ! (0 ∷ 2 ∷ 1 ∷ []) $
      by ! (subst (λ (m : ℕ). m < 2 ^ 63
      → ent 𝓤 (sep 𝓤 (sem 𝓛 (Counted b o c i)) (sep 𝓤 (sem 𝓛 (part_at S full_share h b o)) (Entry (block_ptr b o) (block_ptr c i) m)))
      (Runs (block_ptr b o) (block_ptr c i) m)) e (walk b o c i) low)))
  at_each (block_ptr b o) null_ptr n = via 𝓤 _ (snd∗ 𝓤 (Entry (block_ptr b o) null_ptr n) _)
      (via 𝓤 _ (snd∗ 𝓤 (sem 𝓛 (part_at S full_share h b o)) _) (via 𝓤 (never 𝓤) (fst∗ 𝓤 (never 𝓤) (fact 𝓤 (n < 2 ^ 63))) (never_e 𝓤 _)))
  at_each null_ptr p' n = via 𝓤 _ (snd∗ 𝓤 (Entry null_ptr p' n) _)
      (via 𝓤 (never 𝓤) (fst∗ 𝓤 (never 𝓤) (sep 𝓤 (sem 𝓛 (lies_at (Array u8 n) q p' xs)) (fact 𝓤 (n < 2 ^ 63)))) (never_e 𝓤 _))

meets : {M : Type 1} {𝓤 : Ura M} (𝓛 : Logic 𝓤) (at_mem : Memory → SProp 𝓤) (run : Routine → Fun 𝓤) (𝓣 : Tables 𝓤 𝓛.H)
    → Triple 𝓤 (𝓣.C #hear) (Of 𝓛 at_mem run) → Meets 𝓛 f.signature (WpFn 𝓤 𝓛.H 𝓣.C 𝓣.Λ code.function) (f.spec 𝓛 at_mem run)
meets {𝓤 = 𝓤} 𝓛 at_mem run 𝓣 known =
    walk_Meets 𝓛 f.ended stayed (
      Goes-none 𝓛 0 (λ _. RawPtr) yes (λ κs a g. refl),
      (Goes-none 𝓛 0 (λ _. RawPtr) yes (λ κs a g. refl), (Goes-none 𝓛 0 (λ _. usize) yes (λ κs a g. refl), tt)),
    )
    (f.clauses 𝓛 at_mem run) (WpFn 𝓤 𝓛.H 𝓣.C 𝓣.Λ code.function) (WpFn-mono 𝓤 𝓛.H 𝓛.laws 𝓣 code.function)
    (walked 𝓛 f.ended stayed (f.clauses 𝓛 at_mem run) (WpFn 𝓤 𝓛.H 𝓣.C 𝓣.Λ code.function)
    (λ κs. (rawptr_vals, (rawptr_vals, (uint_vals w64, tt)))) (λ κs. (rawptr_Tells, (rawptr_Tells, (uint_Tells w64, tt))))
    (λ κs qs bounds a g are. at_each 𝓛 at_mem run 𝓣.C 𝓣.Λ (fm_of 𝓤 𝓛.H 𝓛.laws 𝓣) known g.0 g.1.0 g.1.1 a.0 a.1.0 a.1.1.0))

pub jellqupas_hear_spec : {M : Type 1} → stated.statement M
unfolding tables_of
jellqupas_hear_spec 𝓤 𝓛 𝓜 𝓡 wired =
    entered 𝓤 𝓛.H (triple_of 𝓛 f.signature (f.spec 𝓛 𝓜.mem 𝓡.returns))
    (tables 𝓤 𝓛.H 𝓜 𝓡 𝓡.env).C (tables 𝓤 𝓛.H 𝓜 𝓡 𝓡.env).Λ key code.function (code.unfolded 𝓤 𝓛.H 𝓜 𝓡 wired)
    (meets 𝓛 𝓜.mem 𝓡.returns (tables_of 𝓤 𝓛.H 𝓜 (tables 𝓤 𝓛.H 𝓜 𝓡 𝓡.env))
    (of_thm.met 𝓤 𝓛 𝓜 𝓡 (code.calls-zc_library::service::hear 𝓡.env wired)))
