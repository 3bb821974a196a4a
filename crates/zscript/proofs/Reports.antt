-- A text that is written in two steps.
use Rattle.std.proofs.Common.{ℕ, List, ◌++◌, sym, ap, ◌∙◌, subst, append_assoc}
use Rattle.zdevices.specs.Device.{TookBeginning}
use Rattle.zscript.specs.support.PlayerView.{Reports}

-- what follows a text is held with it
pub reports_grown : (took : List ℕ → Type 0) (text held more : List ℕ) → Reports took text held → Reports took (text ++ more) (held ++ more)
reports_grown took text held more h = record {
  front = h.front;
  taken = h.taken;
  split = ap (λ t. t ++ more) h.split ∙ append_assoc h.front held more;
}

-- what is held is only begun
pub reports_begun : (took : List ℕ → Type 0) (text held : List ℕ) → Reports took text held → TookBeginning took text
reports_begun took text held h = (h.front, (held, h.split), h.taken)

module _ (took more_took all_took : List ℕ → Type 0) (both : (a b : List ℕ) → took a → more_took b → all_took (a ++ b)) where
  -- then all that is held went out
  pub reports_both : (text held : List ℕ) → Reports took text held → more_took held → all_took text
  reports_both text held reports rest = subst all_took (sym reports.split) (both reports.front held reports.taken rest)

  -- or a beginning of it, and the device failed
  pub reports_cut : (text held : List ℕ) → Reports took text held → TookBeginning more_took held → TookBeginning all_took text
  reports_cut text held reports cut = (
    reports.front ++ cut.0,
    (cut.1.0, reports.split ∙ ap (λ t. reports.front ++ t) cut.1.1 ∙ sym (append_assoc reports.front cut.0 cut.1.0)),
    both reports.front cut.0 reports.taken cut.2,
  )

  -- or some of it, and the rest is still held
  pub reports_again : (text held left : List ℕ) → Reports took text held → Reports more_took held left → Reports all_took text left
  reports_again text held left reports again = record {
    front = reports.front ++ again.front;
    taken = both reports.front again.front reports.taken again.taken;
    split = reports.split ∙ ap (λ t. reports.front ++ t) again.split ∙ sym (append_assoc reports.front again.front left);
  }
