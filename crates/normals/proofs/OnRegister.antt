-- What a register holds, by its rows, and what a put makes of it. Assumes nothing.
use Rattle.std.proofs.Common.{◌≡◌, ℕ, suc, ◌+◌, ◌<◌, ◌≤◌, Bool, true, false, cond, not, ◌||◌, ltb, leb, List, [], ◌∷◌, ◌++◌, length, take, drop, ℤ, pos, is_some, Some, None, Ok, Err, Option, sym, refl, ap, ◌∙◌, ⊎_elim, arith}
use mathlib.Core.Path.{fun_ext}
use Rattle.std.proofs.lemmas.Bool.Decides.{nat_tests}
use Rattle.std.proofs.lemmas.Int.{ints}
use Rattle.std.proofs.lemmas.Bool.{cases_Bool, and_parts, or_cases, or_parts, and_right, ltb-true, ltb-false, lt-leb, le-leb}
use Rattle.station.specs.declared.refusal.Refusal.{Refusal}
use Rattle.station.specs.declared.refusal.Refusal.TheVariants.{Full}
use Rattle.station.specs.Numbers.{same}
use Rattle.station.proofs.OnNumbers.{same_true}
use Rattle.station.proofs.OnRefusals.{none_first}
use Rattle.ordered_table.specs.declared.row.Row.{Row}
use Rattle.ordered_table.specs.Rows.{found, placed, entry_where}
use Rattle.ordered_table.specs.Order.{rising}
use Rattle.ordered_table.proofs.OnEntries.{found_where, where_placed}
use Rattle.ordered_table.proofs.OnTables.{unchanged}
use Rattle.normals.specs.declared.record.Normals.{Normals}
use Rattle.normals.specs.declared.checked.CheckedNormals.{CheckedNormals}
use Rattle.normals.specs.declared.key.StationMonth.{StationMonth}
use Rattle.normals.specs.Normals.{normals_refusal}
use Rattle.normals.specs.Keys.{key_refusal}
use Rattle.normals.specs.Order.{key_below}
use Rattle.normals.specs.Register.{Holdings, same_pair, is_key, plain, filed_at, nothing_held, with_record, record_refusal, store_refusal, looked_up, Filed}
use Rattle.normals.specs.OnKeys.{same_parts, key_order}

abbrev Rows : Type 0
Rows = List (Row StationMonth CheckedNormals)

-- the holdings that rows of records mean, under a ceiling
abbrev pub held : Rows → ℕ → Holdings
held filed ceiling = record { at = filed_at filed; count = length filed; ceiling = ceiling }

-- ---- keys
same_itself : (x : ℤ) → same x x ≡ true
same_itself x = grind (arith, nat_tests, ints)

pair_itself : (s m : ℤ) → same_pair s m s m ≡ true
pair_itself s m = rw (same_itself s, same_itself m)

-- a station and a month have one key
one_key : (s m : ℤ) (x y : StationMonth) → is_key s m x ≡ true → is_key s m y ≡ true → x ≡ y
one_key s m x y p q =
    let a = and_parts (same s (pos x.station)) (same m (pos x.month)) p in
    let b = and_parts (same s (pos y.station)) (same m (pos y.month)) q in
    let xs : s ≡ pos x.station = same_true _ _ a.0 in
    let xm : m ≡ pos x.month = same_true _ _ a.1 in
    let ys : s ≡ pos y.station = same_true _ _ b.0 in
    let ym : m ≡ pos y.month = same_true _ _ b.1 in
    let es : x.station ≡ y.station = cc in
    let em : x.month ≡ y.month = cc in
    same_parts x y es em

module _ (s m : ℤ) (k : StationMonth) (is-s : pos k.station ≡ s) (is_m : pos k.month ≡ m) where
  own_key : is_key s m k ≡ true
  own_key = rw (is-s, is_m, same_itself s, same_itself m)

  -- what the search for the key finds is what is filed there
  found_filed : (filed : Rows) → rising key_below filed ≡ true → plain (found key_below k filed) ≡ filed_at filed s m
  unfolding filed_at
  found_filed filed h = ap plain (found_where key_order (is_key s m) (one_key s m) k filed own_key h)

  some_filed : (o : Option CheckedNormals) → is_some o ≡ is_some (plain o)
  some_filed None = refl
  some_filed (Some e) = refl

  found_there : (filed : Rows) → rising key_below filed ≡ true → is_some (found key_below k filed) ≡ is_some (filed_at filed s m)
  found_there filed h = some_filed (found key_below k filed) ∙ ap is_some (found_filed filed h)

plain_cond : (b : Bool) (e : CheckedNormals) (o : Option CheckedNormals) → plain (cond b (Some e) o) ≡ cond b (Some e.normals) (plain o)
plain_cond true e o = refl
plain_cond false e o = refl

filed_none : (s m : ℤ) → filed_at [] s m ≡ None
unfolding filed_at entry_where
filed_none s m = refl

-- ---- a put
-- how many rows there are then
length_placed : (r : Row StationMonth CheckedNormals) (filed : Rows) → length (placed key_below r filed) ≡ cond (is_some (found key_below r.key filed)) (length filed) (length filed + 1)
unfolding placed found
length_placed r [] = refl
length_placed r (x ∷ xs) =
    ⊎_elim
    (λ (a : key_below x.key r.key ≡ true). let later = length_placed r xs in rw a (one_more (is_some (found key_below r.key xs)) _ _ later))
    (λ (a : key_below x.key r.key ≡ false). ⊎_elim
    (λ (b : key_below r.key x.key ≡ true). rw (a, b) (omega arith))
    (λ (b : key_below r.key x.key ≡ false). rw (a, b))
    (cases_Bool (key_below r.key x.key)))
    (cases_Bool (key_below x.key r.key))
  where
    one_more : (b : Bool) (p n : ℕ) → p ≡ cond b n (n + 1) → suc p ≡ cond b (suc n) (suc n + 1)
    one_more true p n h = omega arith
    one_more false p n h = omega arith

module _ (s m : ℤ) (k : StationMonth) (is-s : pos k.station ≡ s) (is_m : pos k.month ≡ m) (e : CheckedNormals) (filed : Rows) where
  filed_placed : filed_at (placed key_below (record { key = k; entry = e }) filed) ≡ (λ s' m'. cond (same_pair s' m' s m) (Some e.normals) (filed_at filed s' m'))
  unfolding filed_at
  filed_placed = fun_ext (λ s'. fun_ext (λ m'.
      ap plain (where_placed key_order (is_key s' m') (one_key s' m') (record { key = k; entry = e }) filed) ∙
      plain_cond (is_key s' m' k) e (entry_where (is_key s' m') filed) ∙
      (λ i. cond (same_pair s' m' (is-s i) (is_m i)) (Some e.normals) (plain (entry_where (is_key s' m') filed)))))

pub held_none : (filed : Rows) (ceiling n : ℕ) → filed ≡ [] → ceiling ≡ n → held filed ceiling ≡ nothing_held n
held_none filed ceiling n e f =
    let a : filed_at filed ≡ (λ s m. None) = ap filed_at e ∙ fun_ext (λ s. fun_ext (λ m. filed_none s m)) in
    λ i. record { at = a i; count = length (e i); ceiling = f i }

-- ---- looking up
pub look_declined : (h : Holdings) (s m : ℤ) (r : Refusal) → key_refusal s m ≡ Some r → looked_up h s m ≡ Err r
unfolding looked_up
look_declined h s m r e = rw e

pub look_found : (s m : ℤ) (k : StationMonth) → pos k.station ≡ s → pos k.month ≡ m → (filed : Rows) (ceiling : ℕ) (o : Option CheckedNormals) →
    rising key_below filed ≡ true → key_refusal s m ≡ None → o ≡ found key_below k filed → Ok (plain o) ≡ looked_up (held filed ceiling) s m
unfolding looked_up
look_found s m k is-s is_m filed ceiling o sorted e f = rw e (ap (λ x. Ok (plain x)) f ∙ ap Ok (found_filed s m k is-s is_m filed sorted))

module _ (h : Holdings) (s m : ℤ) (n : Normals) where
  -- ---- the record is checked first, and then the ceiling
  pub wrong_record : (r : Refusal) → record_refusal s m n ≡ Some r → store_refusal h s m n ≡ Some r
  unfolding store_refusal
  wrong_record r e = rw e

  no_room : record_refusal s m n ≡ None → is_some (h.at s m) ≡ false → h.ceiling ≤ h.count → store_refusal h s m n ≡ Some Full
  unfolding store_refusal
  no_room e a l = rw (e, a, le-leb h.ceiling h.count l)

  replaced : record_refusal s m n ≡ None → is_some (h.at s m) ≡ true → store_refusal h s m n ≡ None
  unfolding store_refusal
  replaced e a = rw (e, a)

  added : record_refusal s m n ≡ None → h.count < h.ceiling → store_refusal h s m n ≡ None
  unfolding store_refusal
  added e l = rw (e, and_right (not (is_some (h.at s m))) (leb h.ceiling h.count) (lt-leb h.ceiling h.count l))

  -- ---- what an accepted record leaves
  pub filed_with : record_refusal s m n ≡ None → Filed s m n h (with_record h s m n)
  unfolding looked_up record_refusal
  filed_with r = let e : key_refusal s m ≡ None = none_first (key_refusal s m) (normals_refusal n) r in record { there = rw (e, pair_itself s m); elsewhere = λ s' m' d. rw d }

-- ---- a put that is taken, and one that is not
module _ (s m : ℤ) (k : StationMonth) (is-s : pos k.station ≡ s) (is_m : pos k.month ≡ m) (n : Normals) (e : CheckedNormals) (is-n : e.normals ≡ n)
    (good : record_refusal s m n ≡ None) (filed filed' : Rows) (ceiling ceiling' : ℕ) (put : Bool) (sorted : rising key_below filed ≡ true)
    (answer : put ≡ (is_some (found key_below k filed) || ltb (length filed) ceiling))
    (rows : filed' ≡ cond put (placed key_below (record { key = k; entry = e }) filed) filed) (room : ceiling' ≡ ceiling) where
  there : is_some (found key_below k filed) ≡ is_some (filed_at filed s m)
  there = found_there s m k is-s is_m filed sorted

  taken : put ≡ true → store_refusal (held filed ceiling) s m n ≡ None
  taken t =
      ⊎_elim
      (λ (x : is_some (found key_below k filed) ≡ true). replaced (held filed ceiling) s m n good (sym there ∙ x))
      (λ (x : ltb (length filed) ceiling ≡ true). added (held filed ceiling) s m n good (ltb-true (length filed) ceiling x))
      (or_cases _ _ (sym answer ∙ t))

  changed : put ≡ true → held filed' ceiling' ≡ with_record (held filed ceiling) s m n
  changed t =
      let r : filed' ≡ placed key_below (record { key = k; entry = e }) filed = rows ∙ ap (λ b. cond b (placed key_below (record { key = k; entry = e }) filed) filed) t in
      let a : filed_at filed' ≡ (λ s' m'. cond (same_pair s' m' s m) (Some n) (filed_at filed s' m')) =
      ap filed_at r ∙ filed_placed s m k is-s is_m e filed ∙ ap (λ x s' m'. cond (same_pair s' m' s m) (Some x) (filed_at filed s' m')) is-n in
      let l : length filed' ≡ cond (is_some (filed_at filed s m)) (length filed) (length filed + 1) =
      ap length r ∙ length_placed (record { key = k; entry = e }) filed ∙ ap (λ b. cond b (length filed) (length filed + 1)) there in
      λ i. record { at = a i; count = l i; ceiling = room i }

  pub put_taken : put ≡ true → (store_refusal (held filed ceiling) s m n ≡ None) × (held filed' ceiling' ≡ with_record (held filed ceiling) s m n)
  put_taken t = (taken t, changed t)

  pub put_full : put ≡ false → (store_refusal (held filed ceiling) s m n ≡ Some Full) × (held filed' ceiling' ≡ held filed ceiling) × (filed' ≡ filed)
  put_full f =
      let w = or_parts (is_some (found key_below k filed)) (ltb (length filed) ceiling) (sym answer ∙ f) in
      let r : filed' ≡ filed = rows ∙ ap (λ b. cond b (placed key_below (record { key = k; entry = e }) filed) filed) f in
      (no_room (held filed ceiling) s m n good (sym there ∙ w.0) (ltb-false (length filed) ceiling w.1), (λ i. held (r i) (room i)), r)

-- ---- the lines
pub lines_same : (lines : Rows) (n : ℕ) → lines ≡ take n lines ++ drop (length (take n lines)) lines
lines_same lines n = unchanged lines lines n refl

pub lines_back : (lines lines' : Rows) (n : ℕ) (filed' : Rows) → lines' ≡ filed' ++ drop (length filed') lines → filed' ≡ take n lines → lines' ≡ lines
lines_back lines lines' n filed' e f = e ∙ ap (λ r. r ++ drop (length r) lines) f ∙ sym (lines_same lines n)
