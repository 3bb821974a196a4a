use Rattle.std.proofs.Common.{◌≡◌, List, [], ◌∷◌, subst}
use Rattle.std.specs.Bool.{OnTrue, OnFalse}
use Rattle.zscript_text.specs.LineWords.{Word}
use Rattle.zscript_text.proofs.LeftOver.{none_left, some_left}
use Rattle.zscript_text.proofs.cursor.Cursor.is_done.Goals as goal

pub returns-clause-done : goal.returns-clause-done
returns-clause-done c = subst (λ (left : List Word). OnTrue c.is_none.result (left ≡ [])) c.self.view_is (none_left c.self.inside.left c.is_none.result c.is_none.ensures)

pub returns-clause-more : goal.returns-clause-more
returns-clause-more c =
    subst (λ (left : List Word). OnFalse c.is_none.result ((word : Word) × (words : List Word) × (left ≡ word ∷ words))) c.self.view_is
    (some_left c.self.inside.left c.is_none.result c.is_none.ensures)
