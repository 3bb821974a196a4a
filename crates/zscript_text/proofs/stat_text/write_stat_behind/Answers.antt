use Rattle.std.proofs.Common.{◌≤◌, length, ◌∙◌, arith}
use Rattle.zscript_text.proofs.StatText.{text_behind}
use Rattle.zscript_text.proofs.stat_text.write_stat_behind.Goals as goal

pub unreachable-requires : goal.unreachable-requires
unreachable-requires c =
    let front = c.args.front.now in
    let put = c.put_stat-numbers in
    let room : length front ≤ put.result = omega (arith, c.requires, put.ensures.room) in
    let text = text_behind front c.copy_from_slice.new.self put.new.place put.result 218 (c.copy_from_slice.ensures.after ∙ c.as_bytes.ensures.value) put.ensures.len room put.ensures.within c.utf8.front put.ensures.ascii in
    c.in_default.ensures.cases.0 text
