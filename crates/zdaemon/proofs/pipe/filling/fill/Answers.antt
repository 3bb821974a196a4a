use Rattle.std.proofs.Common.{◌≡◌, ◌≤◌, ◌+◌, ◌-◌, ℕ, List, ◌++◌, length, take, drop, sym, ap, subst, ◌∙◌, arith}
use Rattle.std.proofs.Math.Seq.{take-append-add}
use Rattle.std.proofs.lemmas.List.{length-drop, length-take-le, take-append-le}
use borrow.Rule.Slice.PartMut.{put_mid, mid_of, post_of, same_len_mid}
use Rattle.zdaemon.proofs.pipe.filling.fill.Goals as goal

-- bytes that are read after others
read_behind : (bytes got : List ℕ) (count more room : ℕ) → count ≤ length bytes → more ≤ length got
    → take (count + more) (put_mid count room bytes got) ≡ take count bytes ++ take more got
read_behind bytes got count more room is fits =
    ap (λ (n : ℕ). take (n + more) (put_mid count room bytes got)) (sym (length-take-le count bytes is))
    ∙ take-append-add (take count bytes) (got ++ post_of count room bytes) more
    ∙ ap (λ (t : List ℕ). take count bytes ++ t) (take-append-le more got (post_of count room bytes) fits)

-- a part of bytes is written over by as many
same_length : (bytes got : List ℕ) (count room : ℕ) → count + room ≤ length bytes → length got ≡ length (mid_of count room bytes)
    → (length got ≡ room) × (length (put_mid count room bytes got) ≡ length bytes)
same_length bytes got count room within same = (
  same ∙ length-take-le room (drop count bytes) (omega (arith, within, length-drop count bytes)),
  same_len_mid count room bytes got same,
)

pub loop-count-preserved : goal.loop-count-preserved
loop-count-preserved g c =
    let bytes = c.loop-count.bytes in
    let room = length bytes - c.loop-count.count in
    let within : c.loop-count.count + room ≤ length bytes = omega (arith, c.loop-count.invariant.1) in
    let same = same_length bytes c.read.new.buffer c.loop-count.count room within c.read.auto.buffer in (
      subst (λ (t : List ℕ). g.S.Source.gave c.args.source.now t c.read.new.self)
          (sym (read_behind bytes c.read.new.buffer c.loop-count.count c.in-Ok.more room (omega (arith, within)) c.in-Ok.ensures.count))
          (g.met.S.Source.gave_both _ _ _ _ _ c.loop-count.invariant.0 c.in-Ok.ensures.gave),
      omega (arith, c.in-Ok.ensures.count, same.0, same.1, c.loop-count.invariant.1),
      same.1 ∙ c.loop-count.invariant.2,
    )
