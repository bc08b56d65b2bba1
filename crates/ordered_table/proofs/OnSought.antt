-- Where a key stands among rows in rising order, and what a put or a removal at its place gives.
use Rattle.std.proofs.Common.{◌≡◌, ℕ, zero, suc, ◌<◌, ◌≤◌, Bool, true, false, cond, not, List, [], ◌∷◌, length, get_or, take, drop, set, is_some, Some, None, Ok, Err, Result, sym, refl, ap, ◌∙◌, subst, ⊎_elim, one-add, arith, length-take-le, get_or-take}
use Rattle.std.specs.List.{insert, remove}
use Rattle.std.specs.List.Sorted.{IsPartitionedBy, IsPartitionPoint}
use Rattle.std.proofs.lemmas.Bool.{and_parts, cases_lt, not-true}
use Rattle.ordered_table.specs.declared.row.Row.{Row}
use Rattle.ordered_table.specs.Rows.{ahead, found, placed, without, row_of, sought, not_below}
use Rattle.ordered_table.specs.Order.{each_key, rising}
use Rattle.ordered_table.proofs.OnOrder.{Order}

module _ {K E : Type 0} (lt : K → K → Bool) (k : K) where
  -- what a search's answer says of the rows
  abbrev pub Stands : List (Row K E) → Result ℕ ℕ → Type 0
  Stands rows (Ok i) = (i < length rows) × ((d : Row K E) → found lt k rows ≡ Some (get_or rows i d).entry) × (without lt k rows ≡ remove rows i) × (row_of lt k rows ≡ take 1 (drop i rows)) × ((e : E) → placed lt (record { key = k; entry = e }) rows ≡ set rows i (record { key = k; entry = e }))
  Stands rows (Err i) = (i ≤ length rows) × (found lt k rows ≡ None) × (without lt k rows ≡ rows) × (row_of lt k rows ≡ []) × ((e : E) → placed lt (record { key = k; entry = e }) rows ≡ insert rows i (record { key = k; entry = e }))

  later : (x : Row K E) (xs : List (Row K E)) (r : Result ℕ ℕ) → lt x.key k ≡ true → Stands xs r → Stands (x ∷ xs) (ahead 1 r)
  unfolding found placed without row_of
  later x xs (Ok i) t s = rw (one-add i, t) (omega (arith, s.0), s.1, ap (λ z. x ∷ z) s.2, s.3, λ e. ap (λ z. x ∷ z) (s.4 e))
  later x xs (Err i) t s = rw (one-add i, t) (omega (arith, s.0), s.1, ap (λ z. x ∷ z) s.2, s.3, λ e. ap (λ z. x ∷ z) (s.4 e))

  first : (x : Row K E) (xs : List (Row K E)) (a b : Bool) → lt x.key k ≡ a → lt k x.key ≡ b → Stands xs (sought lt k xs) → Stands (x ∷ xs) (cond a (ahead 1 (sought lt k xs)) (cond b (Err 0) (Ok 0)))
  unfolding found placed without row_of
  first x xs true b t u s = later x xs (sought lt k xs) t s
  first x xs false true t u s = rw (t, u) (omega arith, refl, refl, refl, λ e. refl)
  first x xs false false t u s = rw (t, u) (omega arith, (λ _. refl), refl, refl, λ e. refl)

  pub stands : (rows : List (Row K E)) → Stands rows (sought lt k rows)
  unfolding sought found placed without row_of
  stands [] = (omega arith, refl, refl, refl, λ e. refl)
  stands (x ∷ xs) = first x xs (lt x.key k) (lt k x.key) refl refl (stands xs)

  pub at_ok : (rows : List (Row K E)) (i : ℕ) → Ok i ≡ sought lt k rows → Stands rows (Ok i)
  at_ok rows i e = subst (Stands rows) (sym e) (stands rows)

  pub at_err : (rows : List (Row K E)) (i : ℕ) → Err i ≡ sought lt k rows → Stands rows (Err i)
  at_err rows i e = subst (Stands rows) (sym e) (stands rows)

  pub ok_found : (rows : List (Row K E)) (i : ℕ) → Ok i ≡ sought lt k rows → is_some (found lt k rows) ≡ true
  unfolding sought
  ok_found [] i e = cc
  ok_found (x ∷ xs) i e = ap is_some ((at_ok (x ∷ xs) i e).1 x)

-- ---- a search by halves ends where the key stands, or would
module _ {K E : Type 0} {lt : K → K → Bool} (o : Order lt) where
  -- a key is below that of each later row
  each_at : (k : K) (rows : List (Row K E)) (i : ℕ) (d : Row K E) → each_key (lt k) rows ≡ true → i < length rows → lt k (get_or rows i d).key ≡ true
  unfolding each_key
  each_at k [] i d h l = absurd (omega (arith, l))
  each_at k (x ∷ xs) zero d h l = (and_parts (lt k x.key) (each_key (lt k) xs) h).0
  each_at k (x ∷ xs) (suc i) d h l = each_at k xs i d (and_parts (lt k x.key) (each_key (lt k) xs) h).1 (omega (arith, l))

  -- each row is below every later one
  rising_at : (rows : List (Row K E)) → rising lt rows ≡ true → (i j : ℕ) (d : Row K E) → i < j → j < length rows → lt (get_or rows i d).key (get_or rows j d).key ≡ true
  unfolding rising
  rising_at [] h i j d m l = absurd (omega (arith, l))
  rising_at (x ∷ xs) h i zero d m l = absurd (omega (arith, m))
  rising_at (x ∷ xs) h zero (suc j) d m l = each_at x.key xs j d (and_parts (each_key (lt x.key) xs) (rising lt xs) h).0 (omega (arith, l))
  rising_at (x ∷ xs) h (suc i) (suc j) d m l = rising_at xs (and_parts (each_key (lt x.key) xs) (rising lt xs) h).1 i j d (omega (arith, m)) (omega (arith, l))

  -- no row below a key comes after one that is not
  pub parted : (k : K) (rows : List (Row K E)) → rising lt rows ≡ true → IsPartitionedBy (λ x. lt x.key k) rows
  parted k rows h i j d m l p =
      ⊎_elim
      (λ (s : i < j). o.chain (get_or rows i d).key (get_or rows j d).key k (rising_at rows h i j d s l) p)
      (λ (g : j ≤ i). let same : i ≡ j = omega (arith, m, g) in ap (λ n. lt (get_or rows n d).key k) same ∙ p)
      (cases_lt i j)

module _ {K E : Type 0} (lt : K → K → Bool) (k : K) where
  pub sought_there : (rows : List (Row K E)) (i : ℕ) → i < length rows → ((j : ℕ) (d : Row K E) → j < i → lt (get_or rows j d).key k ≡ true) → (d : Row K E) → lt (get_or rows i d).key k ≡ false → lt k (get_or rows i d).key ≡ false → Ok i ≡ sought lt k rows
  unfolding sought
  sought_there [] i l b d e f = absurd (omega (arith, l))
  sought_there (x ∷ xs) zero l b d e f = rw (e, f) refl
  sought_there (x ∷ xs) (suc i) l b d e f =
      let s : Ok i ≡ sought lt k xs = sought_there xs i (omega (arith, l)) (λ j d' m. b (suc j) d' (omega (arith, m))) d e f in
      rw (b 0 x (omega arith), ← s, one-add i) refl

  pub sought_gap : (rows : List (Row K E)) (i : ℕ) → i < length rows → ((j : ℕ) (d : Row K E) → j < i → lt (get_or rows j d).key k ≡ true) → (d : Row K E) → lt (get_or rows i d).key k ≡ false → lt k (get_or rows i d).key ≡ true → Err i ≡ sought lt k rows
  unfolding sought
  sought_gap [] i l b d e f = absurd (omega (arith, l))
  sought_gap (x ∷ xs) zero l b d e f = rw (e, f) refl
  sought_gap (x ∷ xs) (suc i) l b d e f =
      let s : Err i ≡ sought lt k xs = sought_gap xs i (omega (arith, l)) (λ j d' m. b (suc j) d' (omega (arith, m))) d e f in
      rw (b 0 x (omega arith), ← s, one-add i) refl

  pub sought_end : (rows : List (Row K E)) (i : ℕ) → i ≡ length rows → ((j : ℕ) (d : Row K E) → j < i → lt (get_or rows j d).key k ≡ true) → Err i ≡ sought lt k rows
  unfolding sought
  sought_end [] i l b = ap Err l
  sought_end (x ∷ xs) zero l b = absurd (omega (arith, l))
  sought_end (x ∷ xs) (suc i) l b =
      let s : Err i ≡ sought lt k xs = sought_end xs i (omega (arith, l)) (λ j d' m. b (suc j) d' (omega (arith, m))) in
      rw (b 0 x (omega arith), ← s, one-add i) refl

  -- the first row behind some, where it is not below the key
  pub first_behind : (rows : List (Row K E)) (n : ℕ) (d : Row K E) → n < length rows → not_below lt k (drop n rows) ≡ true → lt (get_or rows n d).key k ≡ false
  first_behind [] n d l h = absurd (omega (arith, l))
  first_behind (x ∷ xs) zero d l h = not-true _ h
  first_behind (x ∷ xs) (suc n) d l h = first_behind xs n d (omega (arith, l)) h

  pub behind_first : (rows : List (Row K E)) (n : ℕ) (d : Row K E) → n < length rows → lt (get_or rows n d).key k ≡ false → not_below lt k (drop n rows) ≡ true
  behind_first [] n d l h = absurd (omega (arith, l))
  behind_first (x ∷ xs) zero d l h = ap not h
  behind_first (x ∷ xs) (suc n) d l h = behind_first xs n d (omega (arith, l)) h

  pub none_behind : (rows : List (Row K E)) (n : ℕ) → n ≡ length rows → not_below lt k (drop n rows) ≡ true
  none_behind [] zero h = refl
  none_behind [] (suc n) h = absurd (omega (arith, h))
  none_behind (x ∷ xs) zero h = absurd (omega (arith, h))
  none_behind (x ∷ xs) (suc n) h = none_behind xs n (omega (arith, h))

-- ---- of the first n rows, behind which the next is not below the key k, the first i are below it and the others are not
module _ {K E : Type 0} (lt : K → K → Bool) (k : K) (rows : List (Row K E)) (n : ℕ) (within : n ≤ length rows) (enough : not_below lt k (drop n rows) ≡ true)
    (i : ℕ) (bound : i ≤ length (take n rows)) (point : IsPartitionPoint (λ x. lt x.key k ≡ true) (λ x. lt x.key k ≡ false) (take n rows) i) where
  all_below : (j : ℕ) (d : Row K E) → j < i → lt (get_or rows j d).key k ≡ true
  all_below j d m = ap (λ r. lt r.key k) (sym (get_or-take n rows j d (omega (arith, m, bound, length-take-le n rows within)))) ∙ point.0 j d (omega arith) m

  next_not : (d : Row K E) → i < length rows → lt (get_or rows i d).key k ≡ false
  next_not d l =
      ⊎_elim
      (λ (s : i < n). ap (λ r. lt r.key k) (sym (get_or-take n rows i d s)) ∙ point.1 i d (omega arith) (omega (arith, s, length-take-le n rows within)))
      (λ (g : n ≤ i).
      let same : i ≡ n = omega (arith, g, bound, length-take-le n rows within) in
      ap (λ m. lt (get_or rows m d).key k) same ∙ first_behind lt k rows n d (omega (arith, l, same)) enough)
      (cases_lt i n)

  pub stands_there : (d : Row K E) → i < length rows → lt k (get_or rows i d).key ≡ false → Ok i ≡ sought lt k rows
  stands_there d l f = sought_there lt k rows i l all_below d (next_not d l) f

  pub would_stand : (d : Row K E) → i < length rows → lt k (get_or rows i d).key ≡ true → Err i ≡ sought lt k rows
  would_stand d l f = sought_gap lt k rows i l all_below d (next_not d l) f

  pub would_end : length rows ≤ i → Err i ≡ sought lt k rows
  would_end g = sought_end lt k rows i (omega (arith, g, bound, within, length-take-le n rows within)) all_below
