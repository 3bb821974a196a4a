-- Sessions opened anew, one entry after the other.
use Rattle.std.proofs.Common.{◌≡◌, ◌≢◌, ◌⊎◌, inl, inr, ℕ, cond, [], ◌∷◌, Option, Some, None, is_some, refl, sym, ap, ◌∙◌}
use Rattle.std.specs.Option.{option_and_then}
use Rattle.std.specs.Ordering.{nat_cmp}
use Rattle.std.specs.Prelude.{nat_eq}
use Rattle.std.specs.Cmp.{nat_cmp_total}
use Rattle.std.specs.FinMap as finite
use Rattle.std.specs.FinMap.{get, insert, get-empty, nat_cmp-IsAntisymmetric}
use Rattle.std.specs.List.{IsDistinct}
use Rattle.std.specs.Map.{keys_of}
use Rattle.ztree.proofs.Maps.{get-insert-here, get-insert-elsewhere}
use Rattle.ztree.specs.Tree.{Sessions}
use Rattle.ztree.specs.declared.session.Session.{Session}
use Rattle.zslots.specs.declared.id.Id.{Id}
use Rattle.zsessions.specs.support.Rows.{Rows, IdEntries, session_at, id_at, sessions_of}
use Rattle.zsessions.proofs.Read.{same_number, other_key, same_sessions, get-sessions}
use Rattle.std.proofs.lemmas.Bool.{eq-eqb}
use Rattle.zsessions.proofs.Length.{apart-none}

-- what an entry is under its key, and under another
here : (n : ℕ) (id : Id) (left : IdEntries) → id_at ((n, id) ∷ left) n ≡ Some id
here n id left = ap (λ b. cond b (Some id) (id_at left n)) (eq-eqb n n refl)

elsewhere : (n q : ℕ) (id : Id) (left : IdEntries) → q ≢ n → id_at ((n, id) ∷ left) q ≡ id_at left q
elsewhere n q id left other = ap (λ b. cond b (Some id) (id_at left q)) (other_key q n (λ e. other (sym e)))

module _ (ids : IdEntries) (rows : Rows) where
  -- all sessions are open but those of the entries that are left
  pub record Left (copy : Sessions) (left : IdEntries) : Type 0 where
    pub part : (n : ℕ) (id : Id) → id_at left n ≡ Some id → id_at ids n ≡ Some id
    pub apart : IsDistinct nat_eq (keys_of left)
    pub reported : (n : ℕ) → get copy n ≡ cond (is_some (id_at left n)) None (get (sessions_of ids rows) n)

  pub left-all : IsDistinct nat_eq (keys_of ids) → (copy : Sessions) → copy ≡ finite.empty → Left copy ids
  left-all apart copy empty = record {
    part = λ n id e. e;
    apart = apart;
    reported = λ n. ap (λ (m : Sessions). get m n) empty ∙ get-empty nat_cmp n ∙ none n (id_at ids n) refl;
  }
    where
      none : (n : ℕ) (o : Option Id) → id_at ids n ≡ o → None ≡ cond (is_some o) None (get (sessions_of ids rows) n)
      none n None e = sym (get-sessions ids rows n ∙ ap (option_and_then (session_at rows)) e)
      none n (Some id) e = refl

  pub left-none : (copy : Sessions) → Left copy [] → copy ≡ sessions_of ids rows
  left-none copy is = same_sessions copy (sessions_of ids rows) (λ n. is.reported n)

  module _ (copy : Sessions) (n : ℕ) (id : Id) (left : IdEntries) (is : Left copy ((n, id) ∷ left)) where
    gone : id_at left n ≡ None
    unfolding IsDistinct
    gone = apart-none n left is.apart.0

    apart-left : IsDistinct nat_eq (keys_of left)
    unfolding IsDistinct
    apart-left = is.apart.1

    part-left : (q : ℕ) (other : Id) → id_at left q ≡ Some other → id_at ids q ≡ Some other
    part-left q other e = by (same_number q n)
      where
        by : (q ≡ n) ⊎ (q ≢ n) → id_at ids q ≡ Some other
        by (inl same) = let bad : None ≡ Some other = sym gone ∙ ap (id_at left) (sym same) ∙ e in cc
        by (inr away) = is.part q other (elsewhere n q id left away ∙ e)

    under : id_at ids n ≡ Some id
    under = is.part n id (here n id left)

    pub not_open : get copy n ≡ None
    not_open = is.reported n ∙ ap (λ o. cond (is_some o) None (get (sessions_of ids rows) n)) (here n id left)

    told-away : (q : ℕ) → q ≢ n → get copy q ≡ cond (is_some (id_at left q)) None (get (sessions_of ids rows) q)
    told-away q away = is.reported q ∙ ap (λ o. cond (is_some o) None (get (sessions_of ids rows) q)) (elsewhere n q id left away)

    told-here : (q : ℕ) → q ≡ n → cond (is_some (id_at left q)) None (get (sessions_of ids rows) q) ≡ session_at rows id
    told-here q same =
        ap (λ k. cond (is_some (id_at left k)) None (get (sessions_of ids rows) k)) same
        ∙ ap (λ o. cond (is_some o) None (get (sessions_of ids rows) n)) gone
        ∙ get-sessions ids rows n ∙ ap (option_and_then (session_at rows)) under

    -- an entry without a row is left out
    pub left-skipped : session_at rows id ≡ None → Left copy left
    left-skipped none = record { part = part-left; apart = apart-left; reported = λ q. by q (same_number q n) }
      where
        by : (q : ℕ) → (q ≡ n) ⊎ (q ≢ n) → get copy q ≡ cond (is_some (id_at left q)) None (get (sessions_of ids rows) q)
        by q (inl same) = ap (get copy) same ∙ not_open ∙ sym (told-here q same ∙ none)
        by q (inr away) = told-away q away

    pub left-opened : (s : Session) (more : Sessions) → session_at rows id ≡ Some s → more ≡ insert copy n s → Left more left
    left-opened s more has made = record { part = part-left; apart = apart-left; reported = λ q. ap (λ (m : Sessions). get m q) made ∙ by q (same_number q n) }
      where
        by : (q : ℕ) → (q ≡ n) ⊎ (q ≢ n) → get (insert copy n s) q ≡ cond (is_some (id_at left q)) None (get (sessions_of ids rows) q)
        by q (inl same) =
            ap (get (insert copy n s)) same ∙ get-insert-here nat_cmp_total nat_cmp-IsAntisymmetric copy n s ∙ sym (told-here q same ∙ has)
        by q (inr away) = get-insert-elsewhere nat_cmp_total nat_cmp-IsAntisymmetric copy n s q away ∙ told-away q away
