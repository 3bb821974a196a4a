use Rattle.std.proofs.Common.{◌≡◌, ◌≤◌, ◌++◌, ℕ, List, length, drop, take, replicate, sym, ap, subst, ◌∙◌, arith}
use Rattle.std.proofs.Math.Seq.{take-append_seam}
use Rattle.std.proofs.lemmas.List.{length-replicate}
use Rattle.std.specs.Int.{to_be_bytes, w32}
use Rattle.zdaemon.specs.Guarded.{sized_text}
use Rattle.zdaemon.specs.declared.pipe.limits.TheConstants.{MAX_LOGINS}
use Rattle.zdaemon.proofs.pipe.logins.read_text.Goals as goal

-- bytes that were filled
as_long : (got lent items : List ℕ) (n : ℕ) → length got ≡ length lent → lent ≡ items → items ≡ replicate n 0 → length got ≡ n
as_long got lent items n room is zeros = room ∙ ap (λ (xs : List ℕ). length xs) (is ∙ zeros) ∙ length-replicate n 0

written : (got items : List ℕ) (len n : ℕ) → length got ≡ n → len ≡ n → take len (got ++ drop (length got) items) ≡ got
written got items len n long is =
    ap (λ (k : ℕ). take k (got ++ drop (length got) items)) (is ∙ sym long) ∙ take-append_seam got _

pub returns-clause-gave : goal.returns-clause-gave
returns-clause-gave g c =
    let n = c.in_ok-length.length in
    let got = c.fill.new.bytes in
    let long = as_long got _ _ n c.in_ok-fill.ensures.room c.deref_mut.ensures.value (c.in_ok-text.ensures.items_if_clones_equal (λ y same. same)) in
    subst (λ (text : List ℕ). g.S.Source.gave c.args.source.now (sized_text text) c.fill.new.source)
    (sym (written got c.in_ok-text.text.items c.in_ok-text.text.len n long c.in_ok-text.ensures.len))
    (subst (λ (k : ℕ). g.S.Source.gave c.args.source.now (to_be_bytes w32 k ++ got) c.fill.new.source) (sym long)
    (g.met.S.Source.gave_both _ _ _ _ _ c.in_ok-length.ensures c.in_ok-fill.ensures.gave))

pub returns-clause-short : goal.returns-clause-short
returns-clause-short g c =
    let n = c.in_ok-length.length in
    let got = c.fill.new.bytes in
    let long = as_long got _ _ n c.in_ok-fill.ensures.room c.deref_mut.ensures.value (c.in_ok-text.ensures.items_if_clones_equal (λ y same. same)) in
    subst (λ (text : List ℕ). length text ≤ MAX_LOGINS)
    (sym (written got c.in_ok-text.text.items c.in_ok-text.text.len n long c.in_ok-text.ensures.len))
    (omega (arith, long, c.if-length-gt-MAX_LOGINS.false))
