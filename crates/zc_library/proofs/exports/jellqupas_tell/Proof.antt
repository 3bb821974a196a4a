-- `jellqupas_tell` meets its contract: a walk of its MIR, by hand. The service and the room for bytes are each lent for a lifetime that is made for the call of `tell`, and come back once it is ended.
use Rattle.std.proofs.Common.{ℕ, ◌*◌, ◌^◌, ◌<◌, List, [], ◌∷◌, ◌++◌, length, refl, subst, arith, w8, w64}
use seplogic.Ra.Ura.{Ura}
use base.Fraction.{full_share}
use mir.Syntax.{named}
use mir.Val.{Val, vint, vptr}
use base.Logic.{SProp, ent, sep, ex, via, fst∗, snd∗, never, never_e, id⊢}
use base.Fml.{Lft, GName, Fml, ftrue, flft, flent}
use prog.Memory.{Memory}
use prog.Routine.{Routine}
use prog.Wp.{Calls, Loops, WpFn, Tables}
use types.Logic.{Logic, sem}
use types.SemTy.{Arr, Body, cells}
use types.Share.{PartsLaws, arr_parts, arr_laws}
use contract.Monad.{Fun, fact}
use contract.Running.{tables, tables_of}
use types.Kit.{‵, raw, ◌⊛◌, some, later, ◌$◌, ◌∵◌, !, qed, by, move, keep, use1, use3, split, join, pick, fsplit, fjoin}
use types.Kit.{feq_l, suffices, show, frame, await, done}
use types.Tokens.{lft_new, lft_end}
use types.Run.{and_then, no_more, returns, enter, addr, stop, of_opd}
use types.Part.{agg}
use types.ByLocal.{alloc_all, pass_all, free_all, look_at, get, through, sets, lands_as}
use sound.WpLaws.{FmC, fm_of, WpFn-mono}
use denote.Exit.{yes}
use denote.RattleType.{RattleType, owns}
use denote.Laws.{Is, shows}
use denote.Memory.{part_at, mem, shares, share_laws}
use denote.Plain.{uint_vals, uint_Tells, uint_Lawful, uint_copy}
use denote.Builtin.{u8, usize}
use denote.Array.{Array}
use denote.Ref.{MutBor, MutRef}
use denote.Slice.{MutSlice, slice_val}
use denote.Lend.{Held, lends_ref, ref_back, lends_slice, slice_back}
use denote.RawPtr.{Ptr, block_ptr, null_ptr, RawPtr, rawptr_vals, rawptr_Tells, lies_at}
use denote.ArrayMemory.{Array-apart, Array-whole}
use denote.Steps.{peeks, heard, nothing}
use denote.Triple.Statement.{Contract, Triple}
use denote.Triple.Call.{calls_at}
use denote.Triple.Clauses.{Lasts, lasts}
use denote.Triple.Entry.{on_entry}
use denote.Triple.Spec.{Meets, triple_of}
use denote.Triple.Table.{entered}
use denote.Triple.Walked.{says, Stays, stay_none, walk_of, Goes-none, ends_at, walked, walk_Meets}
use Rattle.zc_library.specs.Service.{Reports}
use Rattle.zc_library.specs.declared.service.Service.{Service}
use Rattle.zc_library.specs.contracts.service.Service as service
use Rattle.zc_library.specs.contracts.service.tell as of
use Rattle.zc_library.proofs.service.tell.Symbol.{name as #tell}
use Rattle.zc_library.proofs.service.tell.Met as of_thm
use Rattle.zc_library.specs.contracts.exports.jellqupas_tell.Key.{name as key}
use Rattle.zc_library.specs.contracts.exports.jellqupas_tell as f
use Rattle.zc_library.proofs.exports.jellqupas_tell.Statement as stated
use Rattle.zc_library.proofs.exports.jellqupas_tell.Code as code

abbrev stayed : Stays (f.ended).signature.params (f.ended).kept
stayed = (stay_none (λ _. RawPtr) yes, (stay_none (λ _. RawPtr) yes, (stay_none (λ _. usize) yes, tt)))

abbrev S : RattleType
S = service.the_row

module _ {M : Type 1} {𝓤 : Ura M} (𝓛 : Logic 𝓤) (at_mem : Memory → SProp 𝓤) (run : Routine → Fun 𝓤) where
  abbrev Of : Contract 𝓤
  Of = triple_of 𝓛 of.signature (of.spec 𝓛 at_mem run)

module _ {M : Type 1} {𝓤 : Ura M} (𝓛 : Logic 𝓤) (at_mem : Memory → SProp 𝓤) (run : Routine
    → Fun 𝓤) (C : Calls 𝓤 𝓛.H) (Λ : Loops 𝓤 𝓛.H) (fm : FmC 𝓤 𝓛.H 𝓛.laws C)
    (known : Triple 𝓤 (C #tell) (Of 𝓛 at_mem run)) (h : Service) (xs : List ℕ) where
  open 𝓛 use {H}

  elems : (n : ℕ) → PartsLaws 𝓛 (Arr (mem u8) n) (arr_parts (shares u8) n)
  elems = arr_laws 𝓛 (mem u8) (shares u8) (share_laws 𝓛 u8 (Is u8) (shows 𝓛 u8) (uint_vals w8) (uint_Tells w8) (uint_copy 𝓛 w8))

  abbrev Args : Type 0
  Args = Ptr × (Ptr × (ℕ × Unit {0}))

  abbrev args : Ptr → Ptr → ℕ → Args
  args p p' n = (p, (p', (n, tt)))

  abbrev passed : Ptr → Ptr → ℕ → List Val × (List Val × (List Val × Unit {0}))
  passed p p' n = (rawptr_vals p, (rawptr_vals p', (vint w64 n ∷ [], tt)))

  abbrev Entry : Ptr → Ptr → ℕ → SProp 𝓤
  Entry p p' n = on_entry 𝓛 f.signature tt tt (args p p' n) (passed p p' n)

  abbrev bound : Ptr → Ptr → ℕ → (walk_of 𝓛 f.ended stayed (f.clauses 𝓛 at_mem run)).Ghost
  bound p p' n = ((tt, tt, tt, args p p' n, passed p p' n), (h, xs))

  abbrev Post : Ptr → Ptr → ℕ → Val → SProp 𝓤
  Post p p' n = (walk_of 𝓛 f.ended stayed (f.clauses 𝓛 at_mem run)).post (bound p p' n)

  abbrev Runs : Ptr → Ptr → ℕ → SProp 𝓤
  Runs p p' n = WpFn 𝓤 H C Λ code.function (rawptr_vals p ++ (rawptr_vals p' ++ (vint w64 n ∷ []))) (Post p p' n)

  module _ (b o c i : ℕ) where
    abbrev n : ℕ
    n = length xs

    abbrev at : Ptr
    at = block_ptr b o

    abbrev from : Ptr
    from = block_ptr c i

    abbrev Counted : List ℕ → Fml
    Counted ys = (Arr (mem u8) n).own_at ys c i

    abbrev Reported : ℕ → Service → List ℕ → SProp 𝓤
    Reported r new ys = sep 𝓤 (sem 𝓛 (part_at S full_share new b o)) (sep 𝓤 (sem 𝓛 (part_at (Array u8 n) full_share ys c i))
        (fact 𝓤 (Reports h new xs ys r)))

    exits : (new : Service) (ys : List ℕ) (r : ℕ) (v : Val) → Reports h new xs ys r
        → ent 𝓤 (sep 𝓤 (sem 𝓛 (Counted ys)) (sep 𝓤 (sem 𝓛 (part_at S full_share new b o))
        (sep 𝓤 (sem 𝓛 (usize.own_val r (v ∷ []))) (Entry at from n)))) (Post at from n v)
    exits new ys r v e =
        qed 𝓛 (‵ (Counted ys) ∷ ‵ (part_at S full_share new b o) ∷ ‵ (usize.own_val r (v ∷ []))
        ∷ (‵ ftrue ⊛ ‵ (owns (RawPtr ∷ RawPtr ∷ usize ∷ []) (args at from n) (passed at from n))) ∷ []) ∵
        use1 𝓛 (‵ ((arr_parts (shares u8) n).part full_share ys c i)) ((elems n).whole_out ys c i) $
        use1 𝓛 (‵ (part_at (Array u8 n) full_share ys c i)) (Array-whole 𝓛 u8 full_share n ys c i) $
        suffices ! _ (ends_at 𝓛 f.ended stayed (f.clauses 𝓛 at_mem run) (bound at from n) v r (tt, (tt, (tt, tt))) (tt, (tt, (tt, tt)))) $
        move ! (3 ∷ []) $ split ! $ move ! (1 ∷ 4 ∷ []) $ join ! $ move ! (1 ∷ 0 ∷ []) $ join ! $ frame ! $
        show ! (λ (w : Service). ex 𝓤 (Reported r w)) new $ show ! (Reported r new) ys $ move ! (1 ∷ []) $ frame ! $ says ! e $ done !

    walk : n < 2 ^ 63 → ent 𝓤 (sep 𝓤 (sem 𝓛 (cells (mem u8) xs c i)) (sep 𝓤 (sem 𝓛 (part_at S full_share h b o)) (Entry at from n))) (Runs at from n)
    walk low =
        let fits : n < 2 ^ 64 = omega arith in
        let room : n * 1 < 2 ^ 63 = omega arith in
        qed 𝓛 (‵ (cells (mem u8) xs c i) ∷ ‵ (part_at S full_share h b o) ∷ raw (Entry at from n) ∷ []) ∵ enter ! C Λ
        code.function (vptr b o ∷ vptr c i ∷ vint w64 n ∷ []) _ $
        alloc_all ! (λ l. pass_all ! refl ((tt, tt), ((tt, tt), ((tt, record { fits = fits }), tt))) $
        -- &mut *at, from_raw_parts_mut(to, len)
        sets ! (of_opd ! (get ! refl)) refl (tt, tt) $ sets ! (addr ! (through ! refl (stop !))) refl (tt, tt) $
        sets ! (agg ! (and_then ! (get ! refl) (and_then ! (get ! refl) (no_more !)))) refl (tt, (tt, (record { fits = fits }, tt))) $
        lft_new ! tt (λ α. let κ : Lft = α ∷ [] in move ! (1 ∷ []) $
        use1 𝓛 (later (some (λ (δ : GName). ‵ ((MutSlice (named 1) κ u8).own_val (record { ref_ptr = (c, i); ghost_name = δ; now = xs })
        (slice_val (c, i) n ∷ [])) ⊛ ‵ (flent κ (Held u8 n c i δ)))))
        (lends_slice 𝓛 u8 (named 1) κ xs c i (fits, room)) $ await ! tt $ pick ! (λ δ. split ! $
        -- [the slice; the right to the bytes; its token; the service; what the parameters own; the locals]
        move ! (3 ∷ []) $ lft_new ! tt (λ β. let μ : Lft = β ∷ [] in move ! (1 ∷ []) $
        use1 𝓛 (later (some (λ (γ : GName). ‵ ((MutRef (named 0) μ S).own_val (record { ref_ptr = (b, o); ghost_name = γ; now = h })
        (vptr b o ∷ [])) ⊛ ‵ (flent μ (Body (mem S) b o γ)))))
        (lends_ref 𝓛 S (named 0) μ h b o) $ await ! tt $ pick ! (λ γ. split ! $
        -- [the reference; the right to the service; its token; the slice; the right to the bytes; its token; what the parameters own; the locals]
        let s : MutBor (List ℕ) = record { ref_ptr = (c, i); ghost_name = δ; now = xs } in
        let x : MutBor Service = record { ref_ptr = (b, o); ghost_name = γ; now = h } in
        let y : (Of 𝓛 at_mem run).Ghost =
        (((μ, (κ, tt)), (full_share, (full_share, tt)), tt, (x, (s, tt)), (vptr b o ∷ [], (slice_val (c, i) n ∷ [], tt))), tt) in
        nothing ! $ move ! (4 ∷ 0 ∷ []) $ fjoin ! $ move ! (1 ∷ 0 ∷ []) $ fjoin ! $
        nothing ! $ move ! (5 ∷ 0 ∷ []) $ join ! $ move ! (3 ∷ 0 ∷ []) $ join ! $ join ! $ nothing ! $ move ! (1 ∷ 0 ∷ []) $ join ! $
        use1 𝓛 (raw ((Of 𝓛 at_mem run).pre y)) (id⊢ 𝓤 ((Of 𝓛 at_mem run).pre y)) $
        -- tell(.., ..)
        calls_at ! fm (Of 𝓛 at_mem run) known y (and_then ! (get ! refl) (and_then ! (get ! refl) (no_more !))) (λ v.
        use1 𝓛 (later (some (λ (r : ℕ). ((‵ (flft μ full_share) ⊛ (‵ (flft κ full_share) ⊛ ‵ ftrue)) ⊛ ‵ (usize.own_val r (v ∷ [])))
        ⊛ some (λ (ws : Lasts of.ended (μ, (κ, tt)) (x, (s, tt))). ‵ (lasts of.ended (μ, (κ, tt)) (x, (s, tt)) ws) ⊛
        raw (fact 𝓤 (Reports h ws.0 xs ws.1.0 r)))))) (id⊢ 𝓤 _) $ await ! tt $ pick ! (λ r.
        split ! $ move ! (1 ∷ []) $ pick ! (λ ws. split ! $ move ! (1 ∷ []) $ heard ! (Reports h ws.0 xs ws.1.0 r) (λ e.
        -- [the last values; the tokens and the result; the right to the service; the right to the bytes; what the parameters own; the locals]
        fsplit ! $ fsplit ! $ move ! (3 ∷ []) $ split ! $ split ! $
        -- [its token; the other token; the result; the name; ..; the slice's; the right to the service; the right to the bytes; ..]
        lft_end ! tt $ move ! (0 ∷ 6 ∷ 3 ∷ []) $
        use3 𝓛 (later (‵ (part_at S full_share ws.0 b o))) (ref_back 𝓛 S μ γ ws.0 b o) $ await ! tt $
        -- [the service; the other token; the result; ..; the slice's; the right to the bytes; what the parameters own; ..]
        move ! (4 ∷ []) $ fsplit ! $ fsplit ! $ fsplit ! $
        -- [its last bytes; as many; ..; ..; the service; the other token; the result; ..; the right to the bytes; what the parameters own; ..]
        move ! (5 ∷ []) $ split ! $ lft_end ! tt $ move ! (0 ∷ 9 ∷ 2 ∷ []) $
        use3 𝓛 (later (‵ (Counted ws.1.0))) (slice_back 𝓛 u8 κ δ ws.1.0 n c i) $ await ! tt $
        -- [the bytes; ..; as many; ..; ..; the service; the result; ..; what the parameters own; ..]
        move ! (6 ∷ []) $ peeks ! usize (Is usize) (shows 𝓛 usize) r (v ∷ []) (λ is. lands_as ! refl refl ((uint_Lawful 𝓛 w64).typed r _ is).0 $
        returns ! (look_at ! 0 refl) $ free_all ! refl $ keep ! (1 ∷ 6 ∷ 0 ∷ 8 ∷ []) $ by ! (exits ws.0 ws.1.0 r v e)))))))))))

  -- by the pointers' form: nothing lies at null, and at blocks the count passed is the count of the bytes
  at_each : (p p' : Ptr) (n : ℕ)
      → ent 𝓤 (sep 𝓤 (Entry p p' n) (sep 𝓤 (sem 𝓛 (lies_at S full_share p h))
      (sep 𝓤 (sem 𝓛 (lies_at (Array u8 n) full_share p' xs)) (fact 𝓤 (n < 2 ^ 63))))) (Runs p p' n)
  at_each (block_ptr b o) (block_ptr c i) n =
      qed 𝓛 (raw (Entry (block_ptr b o) (block_ptr c i) n) ∷ ‵ (part_at S full_share h b o) ∷ ‵ (part_at (Array u8 n) full_share xs c i)
      ∷ raw (fact 𝓤 (n < 2 ^ 63)) ∷ []) ∵ move ! (3 ∷ []) $ heard ! (n < 2 ^ 63) (λ low. move ! (2 ∷ []) $
      use1 𝓛 (‵ ((arr_parts (shares u8) n).part full_share xs c i)) (Array-apart 𝓛 u8 full_share tt n xs c i) $
      use1 𝓛 (‵ ((Arr (mem u8) n).own_at xs c i)) ((elems n).whole_in xs c i) $ fsplit ! $ feq_l ! (λ e. move ! (0 ∷ 2 ∷ 1 ∷ []) $
      by ! (subst (λ (m : ℕ). m < 2 ^ 63
      → ent 𝓤 (sep 𝓤 (sem 𝓛 (cells (mem u8) xs c i)) (sep 𝓤 (sem 𝓛 (part_at S full_share h b o)) (Entry (block_ptr b o) (block_ptr c i) m)))
      (Runs (block_ptr b o) (block_ptr c i) m)) e (walk b o c i) low)))
  at_each (block_ptr b o) null_ptr n = via 𝓤 _ (snd∗ 𝓤 (Entry (block_ptr b o) null_ptr n) _)
      (via 𝓤 _ (snd∗ 𝓤 (sem 𝓛 (part_at S full_share h b o)) _) (via 𝓤 (never 𝓤) (fst∗ 𝓤 (never 𝓤) (fact 𝓤 (n < 2 ^ 63))) (never_e 𝓤 _)))
  at_each null_ptr p' n = via 𝓤 _ (snd∗ 𝓤 (Entry null_ptr p' n) _)
      (via 𝓤 (never 𝓤) (fst∗ 𝓤 (never 𝓤) (sep 𝓤 (sem 𝓛 (lies_at (Array u8 n) full_share p' xs)) (fact 𝓤 (n < 2 ^ 63)))) (never_e 𝓤 _))

meets : {M : Type 1} {𝓤 : Ura M} (𝓛 : Logic 𝓤) (at_mem : Memory → SProp 𝓤) (run : Routine → Fun 𝓤) (𝓣 : Tables 𝓤 𝓛.H)
    → Triple 𝓤 (𝓣.C #tell) (Of 𝓛 at_mem run) → Meets 𝓛 f.signature (WpFn 𝓤 𝓛.H 𝓣.C 𝓣.Λ code.function) (f.spec 𝓛 at_mem run)
meets {𝓤 = 𝓤} 𝓛 at_mem run 𝓣 known =
    walk_Meets 𝓛 f.ended stayed (
      Goes-none 𝓛 0 (λ _. RawPtr) yes (λ κs a g. refl),
      (Goes-none 𝓛 0 (λ _. RawPtr) yes (λ κs a g. refl), (Goes-none 𝓛 0 (λ _. usize) yes (λ κs a g. refl), tt)),
    )
    (f.clauses 𝓛 at_mem run) (WpFn 𝓤 𝓛.H 𝓣.C 𝓣.Λ code.function) (WpFn-mono 𝓤 𝓛.H 𝓛.laws 𝓣 code.function)
    (walked 𝓛 f.ended stayed (f.clauses 𝓛 at_mem run) (WpFn 𝓤 𝓛.H 𝓣.C 𝓣.Λ code.function)
    (λ κs. (rawptr_vals, (rawptr_vals, (uint_vals w64, tt)))) (λ κs. (rawptr_Tells, (rawptr_Tells, (uint_Tells w64, tt))))
    (λ κs qs bounds a g are. at_each 𝓛 at_mem run 𝓣.C 𝓣.Λ (fm_of 𝓤 𝓛.H 𝓛.laws 𝓣) known g.0 g.1 a.0 a.1.0 a.1.1.0))

pub jellqupas_tell_spec : {M : Type 1} → stated.statement M
unfolding tables_of
jellqupas_tell_spec 𝓤 𝓛 𝓜 𝓡 wired =
    entered 𝓤 𝓛.H (triple_of 𝓛 f.signature (f.spec 𝓛 𝓜.mem 𝓡.returns))
    (tables 𝓤 𝓛.H 𝓜 𝓡 𝓡.env).C (tables 𝓤 𝓛.H 𝓜 𝓡 𝓡.env).Λ key code.function (code.unfolded 𝓤 𝓛.H 𝓜 𝓡 wired)
    (meets 𝓛 𝓜.mem 𝓡.returns (tables_of 𝓤 𝓛.H 𝓜 (tables 𝓤 𝓛.H 𝓜 𝓡 𝓡.env))
    (of_thm.met 𝓤 𝓛 𝓜 𝓡 (code.calls-zc_library::service::tell 𝓡.env wired)))
