use Rattle.zmaster.proofs.knowledge.Knowledge.keeps_few_used.Goals as goal

pub returns : goal.returns
returns c = rw (← c.self.view_is) c.keeps_few.ensures
