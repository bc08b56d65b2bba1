-- What a total order gives of the rows.
use Rattle.std.proofs.Common.{◌≡◌, Bool, true, false, cond, not, ◌&&◌, ℕ, zero, suc, List, [], ◌∷◌, take, is_some, Some, None, Option, sym, refl, ap, ◌∙◌, subst, ⊎_elim}
use Rattle.std.proofs.lemmas.Bool.{and_parts, and_from, cases_Bool, not-true}
use Rattle.ordered_table.specs.declared.row.Row.{Row}
use Rattle.ordered_table.specs.Rows.{found, placed, without}
use Rattle.ordered_table.specs.Order.{same_key, each_key, rising, distinct, MapSet}

-- a total order, as every key has one
pub record Order {K : Type 0} (lt : K → K → Bool) : Type 0 where
  -- nothing is below itself
  pub itself : (x : K) → lt x x ≡ false
  -- what is below something below z is below z
  pub chain : (x y z : K) → lt x y ≡ true → lt y z ≡ true → lt x z ≡ true
  -- of two that differ one is below the other
  pub apart : (x y : K) → lt x y ≡ false → lt y x ≡ false → x ≡ y

pub order_of : {K : Type 0} {lt : K → K → Bool} → ((x : K) → lt x x ≡ false) → ((x y z : K) → lt x y ≡ true → lt y z ≡ true → lt x z ≡ true) → ((x y : K) → lt x y ≡ false → lt y x ≡ false → x ≡ y) → Order lt
order_of itself chain apart = record { itself = itself; chain = chain; apart = apart }

and_false : (a : Bool) → (a && false) ≡ false
and_false true = refl
and_false false = refl

one : (a b : Bool) {E : Type 0} (n s : Option E) → cond a n (cond b n s) ≡ cond (not b && not a) s n
one true true n s = refl
one true false n s = refl
one false true n s = refl
one false false n s = refl

module _ {K : Type 0} {lt : K → K → Bool} (o : Order lt) where
  -- from x below l and not below q: q is below l
  through : (x q l : K) → lt x l ≡ true → lt x q ≡ false → lt q l ≡ true
  through x q l a b =
      ⊎_elim (λ (t : lt q x ≡ true). o.chain q x l t a) (λ (f : lt q x ≡ false). subst (λ y. lt y l ≡ true) (o.apart x q b f) a) (cases_Bool (lt q x))

  pub not_both : (x y : K) → lt x y ≡ true → lt y x ≡ false
  not_both x y a = ⊎_elim (λ (t : lt y x ≡ true). let z : true ≡ false = sym (o.chain x y x a t) ∙ o.itself x in cc) (λ f. f) (cases_Bool (lt y x))

  pub apart_left : (a b : K) → lt a b ≡ true → same_key lt a b ≡ false
  apart_left a b t = rw t

  pub apart_right : (a b : K) → lt b a ≡ true → same_key lt a b ≡ false
  apart_right a b t = rw (t, and_false)

  pub same_key_itself : (a : K) → same_key lt a a ≡ true
  same_key_itself a = rw (o.itself a)

module _ {K E : Type 0} {lt : K → K → Bool} (o : Order lt) where
  -- ---- a put
  pub found_placed : (q : K) (l : Row K E) (rows : List (Row K E)) → found lt q (placed lt l rows) ≡ cond (same_key lt q l.key) (Some l.entry) (found lt q rows)
  unfolding found placed
  found_placed q l [] = one (lt l.key q) (lt q l.key) None (Some l.entry)
  found_placed q l (x ∷ xs) =
      ⊎_elim
      (λ (a : lt x.key l.key ≡ true). ⊎_elim
      (λ (b : lt x.key q ≡ true). rw (a, b) (found_placed q l xs))
      (λ (b : lt x.key q ≡ false). let s : same_key lt q l.key ≡ false = apart_left o q l.key (through o x.key q l.key a b) in rw (a, b, s))
      (cases_Bool (lt x.key q)))
      (λ (a : lt x.key l.key ≡ false). ⊎_elim
      (λ (b : lt l.key x.key ≡ true). ⊎_elim
      (λ (d : lt l.key q ≡ true). let s : same_key lt q l.key ≡ false = apart_right o q l.key d in rw (a, b, s, d))
      (λ (d : lt l.key q ≡ false). ⊎_elim
      (λ (e : lt q l.key ≡ true).
      let s : same_key lt q l.key ≡ false = apart_left o q l.key e in
      let u : lt q x.key ≡ true = o.chain q l.key x.key e b in
      let v : lt x.key q ≡ false = not_both o q x.key u in
      rw (a, b, d, e, v, u))
      (λ (e : lt q l.key ≡ false). rw (a, b, d, e))
      (cases_Bool (lt q l.key)))
      (cases_Bool (lt l.key q)))
      (λ (b : lt l.key x.key ≡ false).
      let k : x.key ≡ l.key = o.apart x.key l.key a b in
      rw (a, b) (⊎_elim
      (λ (d : lt l.key q ≡ true). let s : same_key lt q l.key ≡ false = apart_right o q l.key d in let w : lt x.key q ≡ true = ap (λ y. lt y q) k ∙ d in rw (s, d, w))
      (λ (d : lt l.key q ≡ false). ⊎_elim
      (λ (e : lt q l.key ≡ true).
      let v : lt x.key q ≡ false = ap (λ y. lt y q) k ∙ d in
      let u : lt q x.key ≡ true = ap (lt q) k ∙ e in
      rw (d, e, v, u))
      (λ (e : lt q l.key ≡ false). rw (d, e))
      (cases_Bool (lt q l.key)))
      (cases_Bool (lt l.key q))))
      (cases_Bool (lt l.key x.key)))
      (cases_Bool (lt x.key l.key))

  pub each_placed : (p : K → Bool) (l : Row K E) (rows : List (Row K E)) → each_key p rows ≡ true → p l.key ≡ true → each_key p (placed lt l rows) ≡ true
  unfolding each_key placed
  each_placed p l [] h k = rw k
  each_placed p l (x ∷ xs) h k =
      let h2 = and_parts (p x.key) (each_key p xs) h in
      ⊎_elim
      (λ (a : lt x.key l.key ≡ true). rw a (and_from _ _ h2.0 (each_placed p l xs h2.1 k)))
      (λ (a : lt x.key l.key ≡ false). ⊎_elim
      (λ (b : lt l.key x.key ≡ true). rw (a, b) (and_from _ _ k h))
      (λ (b : lt l.key x.key ≡ false). rw (a, b) (and_from _ _ k h2.1))
      (cases_Bool (lt l.key x.key)))
      (cases_Bool (lt x.key l.key))

  pub each_chain : (j k : K) (rows : List (Row K E)) → lt j k ≡ true → each_key (lt k) rows ≡ true → each_key (lt j) rows ≡ true
  unfolding each_key
  each_chain j k [] a h = refl
  each_chain j k (x ∷ xs) a h = let h2 = and_parts (lt k x.key) (each_key (lt k) xs) h in and_from _ _ (o.chain j k x.key a h2.0) (each_chain j k xs a h2.1)

  pub rising_placed : (l : Row K E) (rows : List (Row K E)) → rising lt rows ≡ true → rising lt (placed lt l rows) ≡ true
  unfolding rising placed each_key
  rising_placed l [] h = refl
  rising_placed l (x ∷ xs) h =
      let h2 = and_parts (each_key (lt x.key) xs) (rising lt xs) h in
      ⊎_elim
      (λ (a : lt x.key l.key ≡ true). rw a (and_from _ _ (each_placed (lt x.key) l xs h2.0 a) (rising_placed l xs h2.1)))
      (λ (a : lt x.key l.key ≡ false). ⊎_elim
      (λ (b : lt l.key x.key ≡ true). rw (a, b) (and_from _ _ (and_from _ _ b (each_chain l.key x.key xs b h2.0)) h))
      (λ (b : lt l.key x.key ≡ false). rw (a, b) (and_from _ _ (subst (λ y. each_key (lt y) xs ≡ true) (o.apart x.key l.key a b) h2.0) h2.1))
      (cases_Bool (lt l.key x.key)))
      (cases_Bool (lt x.key l.key))

  each_take : (p : K → Bool) (n : ℕ) (rows : List (Row K E)) → each_key p rows ≡ true → each_key p (take n rows) ≡ true
  unfolding each_key
  each_take p zero rows h = refl
  each_take p (suc n) [] h = refl
  each_take p (suc n) (x ∷ xs) h = let h2 = and_parts (p x.key) (each_key p xs) h in and_from _ _ h2.0 (each_take p n xs h2.1)

  pub rising_take : (n : ℕ) (rows : List (Row K E)) → rising lt rows ≡ true → rising lt (take n rows) ≡ true
  unfolding rising
  rising_take zero rows h = refl
  rising_take (suc n) [] h = refl
  rising_take (suc n) (x ∷ xs) h =
      let h2 = and_parts (each_key (lt x.key) xs) (rising lt xs) h in
      and_from _ _ (each_take (lt x.key) n xs h2.0) (rising_take n xs h2.1)

  -- ---- a removal
  pub found_above : (q : K) (rows : List (Row K E)) → each_key (lt q) rows ≡ true → found lt q rows ≡ None
  unfolding found each_key
  found_above q [] h = refl
  found_above q (x ∷ xs) h =
      let h2 = and_parts (lt q x.key) (each_key (lt q) xs) h in
      let b = h2.0 in
      let a = not_both o q x.key b in
      rw (a, b)

  pub found_cons : (q : K) (x : Row K E) (xs : List (Row K E)) → rising lt (x ∷ xs) ≡ true → found lt q (x ∷ xs) ≡ cond (same_key lt q x.key) (Some x.entry) (found lt q xs)
  unfolding found rising
  found_cons q x xs h =
      let h2 = and_parts (each_key (lt x.key) xs) (rising lt xs) h in
      ⊎_elim
      (λ (a : lt x.key q ≡ true). let s : same_key lt q x.key ≡ false = apart_right o q x.key a in rw (s, a))
      (λ (a : lt x.key q ≡ false). ⊎_elim
      (λ (b : lt q x.key ≡ true). let n : found lt q xs ≡ None = found_above q xs (each_chain q x.key xs b h2.0) in rw (a, b, n))
      (λ (b : lt q x.key ≡ false). rw (a, b))
      (cases_Bool (lt q x.key)))
      (cases_Bool (lt x.key q))

  pub each_without : (p : K → Bool) (k : K) (rows : List (Row K E)) → each_key p rows ≡ true → each_key p (without lt k rows) ≡ true
  unfolding each_key without
  each_without p k [] h = refl
  each_without p k (x ∷ xs) h =
      let h2 = and_parts (p x.key) (each_key p xs) h in
      ⊎_elim
      (λ (a : lt x.key k ≡ true). rw a (and_from _ _ h2.0 (each_without p k xs h2.1)))
      (λ (a : lt x.key k ≡ false). ⊎_elim (λ (b : lt k x.key ≡ true). rw (a, b) h) (λ (b : lt k x.key ≡ false). rw (a, b) h2.1) (cases_Bool (lt k x.key)))
      (cases_Bool (lt x.key k))

  pub rising_without : (k : K) (rows : List (Row K E)) → rising lt rows ≡ true → rising lt (without lt k rows) ≡ true
  unfolding rising without
  rising_without k [] h = refl
  rising_without k (x ∷ xs) h =
      let h2 = and_parts (each_key (lt x.key) xs) (rising lt xs) h in
      ⊎_elim
      (λ (a : lt x.key k ≡ true). rw a (and_from _ _ (each_without (lt x.key) k xs h2.0) (rising_without k xs h2.1)))
      (λ (a : lt x.key k ≡ false). ⊎_elim (λ (b : lt k x.key ≡ true). rw (a, b) h) (λ (b : lt k x.key ≡ false). rw (a, b) h2.1) (cases_Bool (lt k x.key)))
      (cases_Bool (lt x.key k))

  none_both : (s : Bool) → cond {A = Option E} s None None ≡ None
  none_both true = refl
  none_both false = refl

  pub found_without : (q k : K) (rows : List (Row K E)) → rising lt rows ≡ true → found lt q (without lt k rows) ≡ cond (same_key lt q k) None (found lt q rows)
  unfolding found without rising
  found_without q k [] h = sym (none_both (same_key lt q k))
  found_without q k (x ∷ xs) h =
      let h2 = and_parts (each_key (lt x.key) xs) (rising lt xs) h in
      ⊎_elim
      (λ (a : lt x.key k ≡ true). ⊎_elim
      (λ (b : lt x.key q ≡ true). rw (a, b) (found_without q k xs h2.1))
      (λ (b : lt x.key q ≡ false). let s : same_key lt q k ≡ false = apart_left o q k (through o x.key q k a b) in rw (a, b, s))
      (cases_Bool (lt x.key q)))
      (λ (a : lt x.key k ≡ false). ⊎_elim
      (λ (b : lt k x.key ≡ true). ⊎_elim
      (λ (d : lt q k ≡ true). let s : same_key lt q k ≡ false = apart_left o q k d in rw (s, a, b))
      (λ (d : lt q k ≡ false). ⊎_elim
      (λ (e : lt k q ≡ true). let s : same_key lt q k ≡ false = apart_right o q k e in rw (s, a, b))
      (λ (e : lt k q ≡ false).
      let i : q ≡ k = o.apart q k d e in
      let u : lt x.key q ≡ false = ap (lt x.key) i ∙ a in
      let v : lt q x.key ≡ true = ap (λ y. lt y x.key) i ∙ b in
      let n : found lt q (x ∷ xs) ≡ None = rw (u, v) in
      rw (a, b) (n ∙ sym (none_both (same_key lt q k)) ∙ ap (cond (same_key lt q k) None) (sym n)))
      (cases_Bool (lt k q)))
      (cases_Bool (lt q k)))
      (λ (b : lt k x.key ≡ false).
      let i : x.key ≡ k = o.apart x.key k a b in
      let f : found lt q (x ∷ xs) ≡ cond (same_key lt q x.key) (Some x.entry) (found lt q xs) = found_cons q x xs h in
      rw (a, b, ← i) (⊎_elim
      (λ (t : same_key lt q x.key ≡ true).
      let t2 = and_parts (not (lt q x.key)) (not (lt x.key q)) t in
      let j : q ≡ x.key = o.apart q x.key (not-true _ t2.0) (not-true _ t2.1) in
      let n : found lt q xs ≡ None = found_above q xs (subst (λ y. each_key (lt y) xs ≡ true) (sym j) h2.0) in
      n ∙ sym (ap (λ s. cond s None (found lt q (x ∷ xs))) t))
      (λ (t : same_key lt q x.key ≡ false). sym (ap (λ s. cond s None (found lt q (x ∷ xs))) t ∙ f ∙ ap (λ s. cond s (Some x.entry) (found lt q xs)) t))
      (cases_Bool (same_key lt q x.key))))
      (cases_Bool (lt k x.key)))
      (cases_Bool (lt x.key k))

  pub rising_tail : (x : Row K E) (xs : List (Row K E)) → rising lt (x ∷ xs) ≡ true → rising lt xs ≡ true
  unfolding rising
  rising_tail x xs h = (and_parts (each_key (lt x.key) xs) (rising lt xs) h).1

  pub rising_head : (x : Row K E) (xs : List (Row K E)) → rising lt (x ∷ xs) ≡ true → found lt x.key xs ≡ None
  unfolding rising
  rising_head x xs h = found_above x.key xs (and_parts (each_key (lt x.key) xs) (rising lt xs) h).0

  pub each_apart : (k : K) (rows : List (Row K E)) → each_key (lt k) rows ≡ true → each_key (λ q. not (same_key lt q k)) rows ≡ true
  unfolding each_key
  each_apart k [] h = refl
  each_apart k (x ∷ xs) h =
      let h2 = and_parts (lt k x.key) (each_key (lt k) xs) h in
      and_from _ _ (ap not (apart_right o x.key k h2.0)) (each_apart k xs h2.1)

  rising_distinct : (rows : List (Row K E)) → rising lt rows ≡ true → distinct lt rows ≡ true
  unfolding rising distinct
  rising_distinct [] h = refl
  rising_distinct (x ∷ xs) h =
      let h2 = and_parts (each_key (lt x.key) xs) (rising lt xs) h in
      and_from _ _ (each_apart x.key xs h2.0) (rising_distinct xs h2.1)

  set_by : (k : K) (x : Option E) (before after : List (Row K E)) → ((q : K) → found lt q after ≡ cond (same_key lt q k) x (found lt q before)) → rising lt after ≡ true → MapSet lt k x before after
  set_by k x before after h r = record {
    there = h k ∙ ap (λ s. cond s x (found lt k before)) (same_key_itself o k);
    elsewhere = λ q f. h q ∙ ap (λ s. cond s x (found lt q before)) f;
    rises = r;
    differs = rising_distinct after r;
  }

  pub set_placed : (k : K) (e : E) (rows : List (Row K E)) → rising lt rows ≡ true → MapSet lt k (Some e) rows (placed lt (record { key = k; entry = e }) rows)
  set_placed k e rows h = set_by k (Some e) rows _ (λ q. found_placed q (record { key = k; entry = e }) rows) (rising_placed (record { key = k; entry = e }) rows h)

  pub set_without : (k : K) (rows : List (Row K E)) → rising lt rows ≡ true → MapSet lt k None rows (without lt k rows)
  set_without k rows h = set_by k None rows _ (λ q. found_without q k rows h) (rising_without k rows h)

-- a key that has no row is not taken out
pub without_none : {K E : Type 0} (lt : K → K → Bool) (k : K) (rows : List (Row K E)) → is_some (found lt k rows) ≡ false → without lt k rows ≡ rows
unfolding found without
without_none lt k [] h = refl
without_none lt k (x ∷ xs) h =
    ⊎_elim
    (λ (a : lt x.key k ≡ true). rw a (ap (λ z. x ∷ z) (without_none lt k xs (rw a at h))))
    (λ (a : lt x.key k ≡ false). ⊎_elim
    (λ (b : lt k x.key ≡ true). rw (a, b))
    (λ (b : lt k x.key ≡ false). let z = rw (a, b) at h in cc)
    (cases_Bool (lt k x.key)))
    (cases_Bool (lt x.key k))
