use Rattle.zthreads.proofs.limits.limits_are_numbers.Goals as goal

pub returns-clause-whole : goal.returns-clause-whole
returns-clause-whole c a b stamp need few early = need few early

pub returns-clause-kept : goal.returns-clause-kept
returns-clause-kept c a b stamp need early = need early
