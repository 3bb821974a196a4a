use Rattle.std.proofs.Common.{◌≡◌, length, arith, sym, subst}
use Rattle.zfront.specs.Reading.{Reads}
use Rattle.zfront.proofs.Frames.{nothing_read}
use Rattle.zfront.proofs.Results.{on_ok}
use Rattle.zfront.proofs.inner.Inner.read_all.Goals as goal

-- nothing was read, so what came is the rest
pub returns-then-rest-len : goal.returns-then-rest-len
returns-then-rest-len g c =
    let came = c.args.came.items in
    let middle = c.read_frames.new.self in
    let reads : Reads came c.args.connection c.args.self.now c.in_ok-rest.rest.now middle =
    subst (λ b. Reads b c.args.connection c.args.self.now c.in_ok-rest.rest.now middle) c.deref.ensures.value c.in_ok-rest.ensures in
    let long : length c.in_ok-rest.rest.now ≡ length came = omega (arith, c.if-rest-len.true, c.len.ensures, c.args.came.ok) in
    let same = nothing_read came reads.frames c.in_ok-rest.rest.now reads.cuts long in
    on_ok c.keep.result
    (λ keeps. (came, middle, subst (λ r. Reads came c.args.connection c.args.self.now r middle) same reads, keeps))
    c.keep.ensures

pub returns : goal.returns
returns g c =
    let came = c.args.came.items in
    let middle = c.read_frames.new.self in
    let reads : Reads came c.args.connection c.args.self.now c.in_ok-rest.rest.now middle =
    subst (λ b. Reads b c.args.connection c.args.self.now c.in_ok-rest.rest.now middle) c.deref.ensures.value c.in_ok-rest.ensures in
    on_ok c.keep-2.result
    (λ keeps. (
      c.in_ok-rest-2.rest.items,
      middle,
      subst (λ r. Reads came c.args.connection c.args.self.now r middle) (sym c.in_ok-rest-2.ensures.items) reads,
      keeps,
    ))
    c.keep-2.ensures
