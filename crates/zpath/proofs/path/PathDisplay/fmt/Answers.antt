use Rattle.std.proofs.Common.{rules}
use Rattle.std.proofs.lemmas.Grind.{put_two}
use Rattle.std.specs.Prelude.{IsOk}
use Rattle.zpath.proofs.Family.{segments-next}
use Rattle.zpath.proofs.path.PathDisplay.fmt.Goals as goal

pub loop-name-preserved : goal.loop-name-preserved
loop-name-preserved g c = λ plain.
    let so_far = c.loop-name.invariant plain in
    let is_ok : IsOk c.write.result = search rules in
    put_two g.W.Write.write_str_gives _ _ _ _ _ _ so_far (c.write.ensures.writes so_far.plain is_ok) (segments-next _ _ _ c.loop-name-test.true c.name-item.is)
