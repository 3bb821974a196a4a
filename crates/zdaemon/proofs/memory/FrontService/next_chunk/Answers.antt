use Rattle.std.proofs.Common.{◌≡◌, None, drop, sym, ap, ◌∙◌}
use Rattle.zconnections.specs.buffers.Outbox.{first_of}
use Rattle.zfront.specs.Front.{with_tables}
use Rattle.zfront.specs.Inputs.{ServerView}
use Rattle.zdaemon.proofs.Chunks.{where_none, none_first}
use Rattle.zdaemon.proofs.memory.FrontService.next_chunk.Goals as goal

-- where no chunk is handed out, taking one changes nothing
all_reported : (s : ServerView) → first_of s.front.tables.unsent ≡ None → record s { front = with_tables (record s.front.tables { unsent = drop 1 s.front.tables.unsent }) s.front } ≡ s
all_reported s is = ap (λ chunks. record s { front = with_tables (record s.front.tables { unsent = chunks }) s.front }) (none_first s.front.tables.unsent is)

pub returns-clause-none : goal.returns-clause-none
returns-clause-none g c =
    where_none c.next_chunk.result _ (λ is.
    let none : first_of c.args.self.now.front.tables.unsent ≡ None = sym c.next_chunk.ensures.first ∙ is in (
      none,
      c.next_chunk.ensures.rest ∙ all_reported c.args.self.now none,
    ))
