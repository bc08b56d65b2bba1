-- Where a key is found, and the entry of the one key that a test picks out. Assumes nothing.
use Rattle.std.proofs.Common.{◌≡◌, Bool, true, false, cond, not, List, [], ◌∷◌, Some, None, Option, sym, refl, ap, ◌∙◌, subst, ⊎_elim}
use Rattle.std.proofs.lemmas.Bool.{and_parts, and_from, cases_Bool, both_ways}
use Rattle.ordered_table.specs.declared.row.Row.{Row}
use Rattle.ordered_table.specs.Rows.{found, placed, without, row_of, entry_where, rows_where}
use Rattle.ordered_table.specs.Order.{same_key, each_key, rising, FoundAt}
use Rattle.ordered_table.proofs.OnOrder.{Order, each_chain, each_apart, apart_left, apart_right}

module _ {K E : Type 0} {lt : K → K → Bool} (o : Order lt) where
  -- ---- where a key is found
  further : (k : K) (x : Row K E) (xs : List (Row K E)) (r : Option E) → not (same_key lt x.key k) ≡ true → FoundAt lt k xs r → FoundAt lt k (x ∷ xs) r
  unfolding each_key
  further k x xs None d f = and_from _ _ d f
  further k x xs (Some e) d f = (x ∷ f.0, f.1, ap (λ z. x ∷ z) f.2)

  pub found_at : (k : K) (rows : List (Row K E)) → rising lt rows ≡ true → FoundAt lt k rows (found lt k rows)
  unfolding found rising each_key
  found_at k [] h = refl
  found_at k (x ∷ xs) h =
      let h2 = and_parts (each_key (lt x.key) xs) (rising lt xs) h in
      ⊎_elim
      (λ (a : lt x.key k ≡ true). rw a (further k x xs (found lt k xs) (ap not (apart_left o x.key k a)) (found_at k xs h2.1)))
      (λ (a : lt x.key k ≡ false). ⊎_elim
      (λ (b : lt k x.key ≡ true). rw (a, b) (and_from _ _ (ap not (apart_right o x.key k b)) (each_apart o k xs (each_chain o k x.key xs b h2.0))))
      (λ (b : lt k x.key ≡ false). rw (a, b) ([], xs, ap (λ q. record { key = q; entry = x.entry } ∷ xs) (o.apart x.key k a b)))
      (cases_Bool (lt k x.key)))
      (cases_Bool (lt x.key k))

-- ---- a test that one key at most passes
module _ {K : Type 0} {lt : K → K → Bool} (o : Order lt) (passes : K → Bool) (one : (x y : K) → passes x ≡ true → passes y ≡ true → x ≡ y) where
  -- of two keys that differ, one does not pass where the other does
  second_fails : (x y : K) → lt x y ≡ true → passes x ≡ true → passes y ≡ false
  second_fails x y l p =
      ⊎_elim
      (λ (q : passes y ≡ true). absurd (both_ways (lt y y) (o.itself y) (subst (λ z. lt z y ≡ true) (one x y p q) l)))
      (λ q. q)
      (cases_Bool (passes y))

  first_fails : (x y : K) → lt x y ≡ true → passes y ≡ true → passes x ≡ false
  first_fails x y l p =
      ⊎_elim
      (λ (q : passes x ≡ true). absurd (both_ways (lt x x) (o.itself x) (subst (λ z. lt x z ≡ true) (one y x p q) l)))
      (λ q. q)
      (cases_Bool (passes x))

module _ {K E : Type 0} {lt : K → K → Bool} (o : Order lt) (passes : K → Bool) (one : (x y : K) → passes x ≡ true → passes y ≡ true → x ≡ y) where
  pub none_above : (k : K) (rows : List (Row K E)) → passes k ≡ true → each_key (lt k) rows ≡ true → entry_where passes rows ≡ None
  unfolding entry_where each_key
  none_above k [] p h = refl
  none_above k (x ∷ xs) p h =
      let h2 = and_parts (lt k x.key) (each_key (lt k) xs) h in
      let q : passes x.key ≡ false = second_fails o passes one k x.key h2.0 p in
      rw q (none_above k xs p h2.1)

  -- the search finds the entry of the key that passes
  pub found_where : (k : K) (rows : List (Row K E)) → passes k ≡ true → rising lt rows ≡ true → found lt k rows ≡ entry_where passes rows
  unfolding found entry_where rising
  found_where k [] p h = refl
  found_where k (x ∷ xs) p h =
      let h2 = and_parts (each_key (lt x.key) xs) (rising lt xs) h in
      ⊎_elim
      (λ (a : lt x.key k ≡ true). let q : passes x.key ≡ false = first_fails o passes one x.key k a p in rw (a, q) (found_where k xs p h2.1))
      (λ (a : lt x.key k ≡ false). ⊎_elim
      (λ (b : lt k x.key ≡ true).
      let q : passes x.key ≡ false = second_fails o passes one k x.key b p in
      rw (a, b, q) (sym (none_above k xs p (each_chain o k x.key xs b h2.0))))
      (λ (b : lt k x.key ≡ false). let q : passes x.key ≡ true = ap passes (o.apart x.key k a b) ∙ p in rw (a, b, q))
      (cases_Bool (lt k x.key)))
      (cases_Bool (lt x.key k))

  -- a put changes the entry of its key alone
  pub where_placed : (r : Row K E) (rows : List (Row K E)) → entry_where passes (placed lt r rows) ≡ cond (passes r.key) (Some r.entry) (entry_where passes rows)
  unfolding placed entry_where
  where_placed r [] = refl
  where_placed r (x ∷ xs) =
      ⊎_elim
      (λ (a : lt x.key r.key ≡ true). ⊎_elim
      (λ (p : passes x.key ≡ true). let q : passes r.key ≡ false = second_fails o passes one x.key r.key a p in rw (a, p, q))
      (λ (p : passes x.key ≡ false). rw (a, p) (where_placed r xs))
      (cases_Bool (passes x.key)))
      (λ (a : lt x.key r.key ≡ false). ⊎_elim
      (λ (b : lt r.key x.key ≡ true). rw (a, b))
      (λ (b : lt r.key x.key ≡ false).
      let k : passes x.key ≡ passes r.key = ap passes (o.apart x.key r.key a b) in
      ⊎_elim (λ (p : passes r.key ≡ true). rw (a, b, k, p)) (λ (p : passes r.key ≡ false). rw (a, b, k, p)) (cases_Bool (passes r.key)))
      (cases_Bool (lt r.key x.key)))
      (cases_Bool (lt x.key r.key))

  -- and so does a removal
  pub where_without : (k : K) (rows : List (Row K E)) → rising lt rows ≡ true → entry_where passes (without lt k rows) ≡ cond (passes k) None (entry_where passes rows)
  unfolding without entry_where rising
  where_without k [] h = ⊎_elim (λ (p : passes k ≡ true). rw p) (λ (p : passes k ≡ false). rw p) (cases_Bool (passes k))
  where_without k (x ∷ xs) h =
      let h2 = and_parts (each_key (lt x.key) xs) (rising lt xs) h in
      ⊎_elim
      (λ (a : lt x.key k ≡ true). ⊎_elim
      (λ (p : passes x.key ≡ true). let q : passes k ≡ false = second_fails o passes one x.key k a p in rw (a, p, q))
      (λ (p : passes x.key ≡ false). rw (a, p) (where_without k xs h2.1))
      (cases_Bool (passes x.key)))
      (λ (a : lt x.key k ≡ false). ⊎_elim
      (λ (b : lt k x.key ≡ true). ⊎_elim
      (λ (p : passes k ≡ true).
      let q : passes x.key ≡ false = second_fails o passes one k x.key b p in
      rw (a, b, p, q) (none_above k xs p (each_chain o k x.key xs b h2.0)))
      (λ (p : passes k ≡ false). rw (a, b, p))
      (cases_Bool (passes k)))
      (λ (b : lt k x.key ≡ false).
      let i : passes x.key ≡ passes k = ap passes (o.apart x.key k a b) in
      ⊎_elim
      (λ (p : passes k ≡ true). rw (a, b, p) (none_above x.key xs (i ∙ p) h2.0))
      (λ (p : passes k ≡ false). rw (a, b, i, p))
      (cases_Bool (passes k)))
      (cases_Bool (lt k x.key)))
      (cases_Bool (lt x.key k))

  no_rows_above : (k : K) (rows : List (Row K E)) → passes k ≡ true → each_key (lt k) rows ≡ true → rows_where passes rows ≡ []
  unfolding rows_where each_key
  no_rows_above k [] p h = refl
  no_rows_above k (x ∷ xs) p h =
      let h2 = and_parts (lt k x.key) (each_key (lt k) xs) h in
      let q : passes x.key ≡ false = second_fails o passes one k x.key h2.0 p in
      rw q (no_rows_above k xs p h2.1)

  -- the row of the key that passes is the only one that does
  pub row_where : (k : K) (rows : List (Row K E)) → passes k ≡ true → rising lt rows ≡ true → row_of lt k rows ≡ rows_where passes rows
  unfolding row_of rows_where rising
  row_where k [] p h = refl
  row_where k (x ∷ xs) p h =
      let h2 = and_parts (each_key (lt x.key) xs) (rising lt xs) h in
      ⊎_elim
      (λ (a : lt x.key k ≡ true). let q : passes x.key ≡ false = first_fails o passes one x.key k a p in rw (a, q) (row_where k xs p h2.1))
      (λ (a : lt x.key k ≡ false). ⊎_elim
      (λ (b : lt k x.key ≡ true).
      let q : passes x.key ≡ false = second_fails o passes one k x.key b p in
      rw (a, b, q) (sym (no_rows_above k xs p (each_chain o k x.key xs b h2.0))))
      (λ (b : lt k x.key ≡ false).
      let q : passes x.key ≡ true = ap passes (o.apart x.key k a b) ∙ p in
      rw (a, b, q) (ap (λ z. x ∷ z) (sym (no_rows_above x.key xs q h2.0))))
      (cases_Bool (lt k x.key)))
      (cases_Bool (lt x.key k))

-- where no key passes, no row does
pub no_rows : {K E : Type 0} (passes : K → Bool) (rows : List (Row K E)) → ((k : K) → passes k ≡ false) → rows_where passes rows ≡ []
unfolding rows_where
no_rows passes [] h = refl
no_rows passes (x ∷ xs) h = rw (h x.key) (no_rows passes xs h)
