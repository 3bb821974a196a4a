use Rattle.std.proofs.Common.{◌≡◌, ◌∷◌, ◌++◌, [], Some, None, sym, ap, ◌∙◌, rules}
use Rattle.zpath.specs.Numbered.{numbered_path, numbered_fault}
use Rattle.zpath.proofs.Sequence.{numbered_last, last_fits, IsPath-numbered, is_over-fits, is_over-fault}
use Rattle.zpath.proofs.path.Path.numbered.Goals as goal

pub returns-in-Some-numbered_fault-clause-over : goal.returns-in-Some-numbered_fault-clause-over
returns-in-Some-numbered_fault-clause-over c =
    let split : c.args.self.now ≡ c.in-Some.front.now ++ c.in-Some.last.now ∷ [] = search rules in
    let fault : numbered_fault c.args.self.now c.args.counter ≡ Some c.in-Some-numbered_fault.fault =
    ap (λ path. numbered_fault path c.args.counter) split ∙ sym (c.numbered_fault.ensures c.args.counter) ∙ c.in-Some-numbered_fault.is in
    let over = is_over-fault c.args.self.now c.args.counter c.in-Some-numbered_fault.fault fault in
    search rules

pub numbered-requires : goal.numbered-requires
numbered-requires c =
    let split : c.args.self.now ≡ c.in-Some.front.now ++ c.in-Some.last.now ∷ [] = search rules in
    let none : numbered_fault (c.in-Some.front.now ++ c.in-Some.last.now ∷ []) c.args.counter ≡ None =
    sym (c.numbered_fault.ensures c.args.counter) ∙ c.in_default-numbered_fault.is in
    last_fits c.in-Some.front.now c.in-Some.last.now c.args.counter (rw split at c.names.ensures.path) none

pub of-requires : goal.of-requires
of-requires c =
    let split : c.args.self.now ≡ c.in-Some.front.now ++ c.in-Some.last.now ∷ [] = search rules in
    let none : numbered_fault (c.in-Some.front.now ++ c.in-Some.last.now ∷ []) c.args.counter ≡ None =
    sym (c.numbered_fault.ensures c.args.counter) ∙ c.in_default-numbered_fault.is in
    rw (c.in_ok-names.ensures, c.in_ok-name.ensures) (IsPath-numbered c.in-Some.front.now c.in-Some.last.now c.args.counter (rw split at c.names.ensures.path) none)

is_split : (c : goal.In_ok-of) → c.args.self.now ≡ c.in-Some.front.now ++ c.in-Some.last.now ∷ []
is_split c = search rules

pub returns-clause-numbered : goal.returns-clause-numbered
returns-clause-numbered c =
    let made = rw (c.in_ok-names.ensures, c.in_ok-name.ensures) at c.in_ok-of.ensures in
    (made.0, made.1 ∙ sym (numbered_last c.in-Some.front.now c.in-Some.last.now c.args.counter) ∙ ap (λ path. numbered_path path c.args.counter) (sym (is_split c)))

pub returns-clause-within : goal.returns-clause-within
returns-clause-within c =
    is_over-fits c.args.self.now c.args.counter
    (ap (λ path. numbered_fault path c.args.counter) (is_split c) ∙ sym (c.numbered_fault.ensures c.args.counter) ∙ c.in_default-numbered_fault.is)
