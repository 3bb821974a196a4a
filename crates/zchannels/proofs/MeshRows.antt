-- Rows of rings and the columns that they make.
use Rattle.std.proofs.Common.{◌≡◌, ◌<◌, ◌⊎◌, ℕ, zero, suc, ◌+◌, List, [], ◌∷◌, ◌++◌, length, map, set, get_or, replicate, refl, sym, ap, ◌∙◌, subst, inl, inr, ⊎_elim, arith, length-append}
use Rattle.std.proofs.lemmas.List.{length-map, get_or-map, map-append, map-set}
use Rattle.std.specs.declared.alloc.Global.{Global}
use Rattle.std.specs.declared.vec.Vec.{Vec}
use Rattle.zchannels.specs.declared.rings.Tx.{Tx}
use Rattle.zchannels.specs.declared.rings.Rx.{Rx}
use mathlib.Core.Option.{some, some-injective, some-ne-none}
use lib.ListN.{get_elem?}
use Rattle.atomic_table.proofs.Lists.{at_index}
use Rattle.zchannels.specs.Rings.{Ring, ring_of_rx, ring_of_tx}
use Rattle.zchannels.specs.Woven.{AreWide, in_rings, IsWoven, with_row}

pub with_none : (columns : List (List Ring)) → with_row columns [] ≡ columns
with_none [] = refl
with_none (column ∷ columns) = refl

-- one ring more in the row: one column more is longer
pub with_more : (columns : List (List Ring)) (row : List Ring) (x : Ring) → length row < length columns
    → set (with_row columns row) (length row) (get_or (with_row columns row) (length row) [] ++ x ∷ []) ≡ with_row columns (row ++ x ∷ [])
with_more [] row x lt = absurd (omega arith)
with_more (column ∷ columns) [] x lt = ap (λ cs. (column ++ x ∷ []) ∷ cs) (sym (with_none columns))
with_more (column ∷ columns) (r ∷ row) x lt = ap (λ cs. (column ++ r ∷ []) ∷ cs) (with_more columns row x (omega arith))

pub length_with : (columns : List (List Ring)) (row : List Ring) → length (with_row columns row) ≡ length columns
length_with [] row = refl
length_with (column ∷ columns) [] = refl
length_with (column ∷ columns) (r ∷ row) = ap suc (length_with columns row)

-- an end more in the row, and the other end in its column
pub column_more : {M : Type 0} (ins : List (Vec (Rx M) Global)) (cs : List (List Ring)) (row : List (Tx M)) (to : ℕ) (old new : Vec (Rx M) Global) (tx : Tx M) (rx : Rx M)
    → in_rings ins ≡ with_row cs (map ring_of_tx row) → length row ≡ to → to < length ins → length ins ≡ length cs
    → old ≡ get_or ins to old → new.items ≡ old.items ++ rx ∷ [] → ring_of_tx tx ≡ ring_of_rx rx
    → in_rings (set ins to new) ≡ with_row cs (map ring_of_tx (row ++ tx ∷ []))
column_more {M} ins cs row to old new tx rx is at lt wide value grown ends =
    let f : Vec (Rx M) Global → List Ring = λ c. map ring_of_rx c.items in
    let rr : List Ring = map ring_of_tx row in
    let here : to ≡ length rr = sym at ∙ sym (length-map row ring_of_tx) in
    let was : f old ≡ get_or (with_row cs rr) (length rr) [] =
    ap f value ∙ sym (get_or-map f ins to old [] lt) ∙ ap (λ l. get_or l to []) is ∙ ap (λ n. get_or (with_row cs rr) n []) here in
    let now : f new ≡ get_or (with_row cs rr) (length rr) [] ++ ring_of_tx tx ∷ [] =
    ap (λ l. map ring_of_rx l) grown ∙ map-append ring_of_rx old.items (rx ∷ []) ∙ ap (λ l. l ++ ring_of_rx rx ∷ []) was
    ∙ ap (λ x. get_or (with_row cs rr) (length rr) [] ++ x ∷ []) (sym ends) in
    map-set f ins to new
    ∙ ap (λ l. set l to (f new)) is
    ∙ ap (λ n. set (with_row cs rr) n (f new)) here
    ∙ ap (λ c. set (with_row cs rr) (length rr) c) now
    ∙ with_more cs rr (ring_of_tx tx) (omega (arith, here, lt, wide))
    ∙ ap (λ l. with_row cs l) (sym (map-append ring_of_tx row (tx ∷ [])))

-- a column of them is one that was there, with a ring of the row at the end
at_with : (columns : List (List Ring)) (row : List Ring) (j : ℕ) (column : List Ring) → length row ≡ length columns
    → get_elem? (with_row columns row) j ≡ some column
    → (before : List Ring) × (x : Ring) × (get_elem? columns j ≡ some before) × (get_elem? row j ≡ some x) × (column ≡ before ++ x ∷ [])
at_with [] row j column same at = absurd (some-ne-none column (sym at))
at_with (c ∷ columns) [] j column same at = absurd (omega (arith, same))
at_with (c ∷ columns) (r ∷ row) zero column same at = (c, r, refl, refl, sym (some-injective (c ++ r ∷ []) column at))
at_with (c ∷ columns) (r ∷ row) (suc j) column same at = at_with columns row j column (omega (arith, same)) at

-- an element of a longer list is one before, or the last
at_longer : {A : Type 0} (l : List A) (a b : A) (i : ℕ) → get_elem? (l ++ a ∷ []) i ≡ some b
    → ((i < length l) × (get_elem? l i ≡ some b)) ⊎ ((i ≡ length l) × (a ≡ b))
at_longer [] a b zero at = inr (refl, some-injective a b at)
at_longer [] a b (suc i) at = absurd (some-ne-none b (sym at))
at_longer (x ∷ l) a b zero at = inl (omega arith, at)
at_longer (x ∷ l) a b (suc i) at = ⊎_elim (λ h. inl (omega (arith, h.0), h.1)) (λ h. inr (ap suc h.0, h.1)) (at_longer l a b i at)

-- the rows of the first processes, and the columns that they make
pub record AreFirst (n k : ℕ) (outs ins : List (List Ring)) : Type 0 where
  pub rows : length outs ≡ k
  pub columns : length ins ≡ n
  pub each_row : (i : ℕ) (row : List Ring) → get_elem? outs i ≡ some row → length row ≡ n
  pub each_column : (j : ℕ) (column : List Ring) → get_elem? ins j ≡ some column → length column ≡ k
  pub ends : (i j : ℕ) (row column : List Ring) (a b : Ring)
      → get_elem? outs i ≡ some row → get_elem? row j ≡ some a
      → get_elem? ins j ≡ some column → get_elem? column i ≡ some b → a ≡ b

at_blank : (n j : ℕ) (column : List Ring) → get_elem? (replicate n []) j ≡ some column → column ≡ []
at_blank zero j column at = absurd (some-ne-none column (sym at))
at_blank (suc n) zero column at = sym (some-injective [] column at)
at_blank (suc n) (suc j) column at = at_blank n j column at

length_blank : (n : ℕ) → length {A = List Ring} (replicate n []) ≡ n
length_blank zero = refl
length_blank (suc n) = ap suc (length_blank n)

pub none_yet : (n : ℕ) → AreFirst n 0 [] (replicate n [])
none_yet n =
    record {
      rows = refl;
      columns = length_blank n;
      each_row = λ i row at. absurd (some-ne-none row (sym at));
      each_column = λ j column at. ap length (at_blank n j column at);
      ends = λ i j row column a b at _ _ _. absurd (some-ne-none row (sym at));
    }

pub one_more : (n k : ℕ) (outs ins : List (List Ring)) (row : List Ring) → AreFirst n k outs ins → length row ≡ n
    → AreFirst n (k + 1) (outs ++ row ∷ []) (with_row ins row)
one_more n k outs ins row first wide =
    let same : length row ≡ length ins = wide ∙ sym first.columns in
    record {
      rows = length-append outs (row ∷ []) ∙ ap (λ m. m + 1) first.rows;
      columns = length_with ins row ∙ first.columns;
      each_row = λ i r at. ⊎_elim (λ h. first.each_row i r h.1) (λ h. ap length (sym h.1) ∙ wide) (at_longer outs row r i at);
      each_column = λ j column at.
          let was = at_with ins row j column same at in
          ap length was.4 ∙ length-append was.0 (was.1 ∷ []) ∙ ap (λ m. m + 1) (first.each_column j was.0 was.2);
      ends = λ i j r column a b at_row at_a at_column at_b.
          let was = at_with ins row j column same at_column in
          let tall = first.each_column j was.0 was.2 in
          let here = at_longer was.0 was.1 b i (subst (λ c. get_elem? c i ≡ some b) was.4 at_b) in
          ⊎_elim
          (λ old. ⊎_elim (λ before. first.ends i j r was.0 a b old.1 at_a was.2 before.1)
          (λ last. absurd (let few = old.0 in let rows = first.rows in let at = last.0 in omega (arith, few, rows, at, tall))) here)
          (λ new. ⊎_elim (λ before. absurd (let few = before.0 in let rows = first.rows in let at = new.0 in omega (arith, few, rows, at, tall)))
          (λ last.
          some-injective a was.1 (sym at_a ∙ ap (λ r'. get_elem? r' j) (sym new.1) ∙ was.3) ∙ last.1) here)
          (at_longer outs row r i at_row);
    }

pub all_of_them : (n : ℕ) (outs ins : List (List Ring)) → AreFirst n n outs ins → IsWoven n outs ins
all_of_them n outs ins first =
    record { rows = first.rows; columns = first.columns; each_row = first.each_row; each_column = first.each_column; ends = first.ends }

-- what is true of each element's image under a map
pub wide_from : {X : Type 0} (f : X → Ring) (n : ℕ) (ends : List (Vec X Global))
    → ((i : ℕ) (row : List Ring) → get_elem? (map (λ e. map f e.items) ends) i ≡ some row → length row ≡ n)
    → AreWide n ends
wide_from f n ends each i d lt =
    let e = get_or ends i d in
    let g : Vec _ Global → List Ring = λ e. map f e.items in
    sym (length-map e.items f)
    ∙ each i (g e) (at_index (map g ends) i (g e) (subst (λ m. i < m) (sym (length-map ends g)) lt) (sym (get_or-map g ends i d (g e) lt)))
