use Rattle.std.proofs.Common.{true, false}
use Rattle.zjournal.proofs.file_lemmas.Split.{begun_still, settled_still, named_still, kept_still}
use Rattle.zjournal.proofs.file.device.FileDeviceDevice.split.Goals as goal

pub returns-in_err-begin_part-clause-crash : goal.returns-in_err-begin_part-clause-crash
returns-in_err-begin_part-clause-crash g c = (begun_still _ false _ c.in_err-begin_part.ensures.not_done).leaves

pub returns-in_err-begin_part-clause-time : goal.returns-in_err-begin_part-clause-time
returns-in_err-begin_part-clause-time g c = (begun_still _ false _ c.in_err-begin_part.ensures.not_done).time

pub returns-in_err-settle_part-clause-crash : goal.returns-in_err-settle_part-clause-crash
returns-in_err-settle_part-clause-crash g c = (settled_still _ _ c.in_ok-begin_part.ensures.done c.begin_part.new.self.mode false _ c.in_err-settle_part.ensures.not_done).leaves

pub returns-in_err-settle_part-clause-time : goal.returns-in_err-settle_part-clause-time
returns-in_err-settle_part-clause-time g c = (settled_still _ _ c.in_ok-begin_part.ensures.done c.begin_part.new.self.mode false _ c.in_err-settle_part.ensures.not_done).time

pub returns-in_err-name_part-clause-crash : goal.returns-in_err-name_part-clause-crash
returns-in_err-name_part-clause-crash g c = (named_still _ _ c.in_ok-begin_part.ensures.done c.begin_part.new.self.mode _ c.in_ok-settle_part.ensures.done false _ c.in_err-name_part.ensures.not_done).leaves

pub returns-in_err-name_part-clause-time : goal.returns-in_err-name_part-clause-time
returns-in_err-name_part-clause-time g c = (named_still _ _ c.in_ok-begin_part.ensures.done c.begin_part.new.self.mode _ c.in_ok-settle_part.ensures.done false _ c.in_err-name_part.ensures.not_done).time

pub returns-in_err-keep_part-clause-crash : goal.returns-in_err-keep_part-clause-crash
returns-in_err-keep_part-clause-crash g c = (kept_still _ _ c.in_ok-begin_part.ensures.done c.begin_part.new.self.mode _ c.in_ok-settle_part.ensures.done c.name_part.new.self.mode false _ _ c.in_ok-name_part.ensures.done c.in_err-keep_part.ensures.not_done).leaves

pub returns-in_err-keep_part-clause-time : goal.returns-in_err-keep_part-clause-time
returns-in_err-keep_part-clause-time g c = (kept_still _ _ c.in_ok-begin_part.ensures.done c.begin_part.new.self.mode _ c.in_ok-settle_part.ensures.done c.name_part.new.self.mode false _ _ c.in_ok-name_part.ensures.done c.in_err-keep_part.ensures.not_done).time

pub returns-clause-crash : goal.returns-clause-crash
returns-clause-crash g c = (kept_still _ _ c.in_ok-begin_part.ensures.done c.begin_part.new.self.mode _ c.in_ok-settle_part.ensures.done c.name_part.new.self.mode true _ _ c.in_ok-name_part.ensures.done c.in_ok-keep_part.ensures.done).leaves

pub returns-clause-time : goal.returns-clause-time
returns-clause-time g c = (kept_still _ _ c.in_ok-begin_part.ensures.done c.begin_part.new.self.mode _ c.in_ok-settle_part.ensures.done c.name_part.new.self.mode true _ _ c.in_ok-name_part.ensures.done c.in_ok-keep_part.ensures.done).time
