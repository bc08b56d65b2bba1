-- What a table's lines are once a put or a removal has changed its rows.
use Rattle.std.proofs.Common.{◌≡◌, cond, is_ok, IsErrAnd, ℕ, zero, suc, ◌+◌, ◌-◌, ◌<◌, ◌≤◌, Bool, true, List, [], ◌∷◌, ◌++◌, length, get_or, take, drop, set, Some, None, Ok, Err, Option, Result, MatchResult, sym, refl, ap, ◌∙◌, ap₂, subst, arith, take-append-drop, take-take, length-append, length-take-le, take_at, get_or-take}
use Rattle.std.specs.List.{insert, remove}
use Rattle.std.specs.Result.{result_ok}
use Rattle.ordered_table.specs.declared.row.Row.{Row}
use Rattle.ordered_table.specs.Rows.{found, placed, without, row_of, sought}
use Rattle.ordered_table.specs.Order.{rising, FoundAt, MapSet}
use Rattle.ordered_table.proofs.OnEntries.{found_at}
use Rattle.ordered_table.proofs.OnMoves.{set_whole, set_length, inserted_length, removed_length}
use Rattle.ordered_table.proofs.OnOrder.{Order, set_placed, set_without, rising_placed, rising_take, rising_without}
use Rattle.ordered_table.proofs.OnSought.{Stands, at_ok, at_err}

module _ {T : Type 0} where
  pub take_held : (n : ℕ) (xs : List T) → take (length (take n xs)) xs ≡ take n xs
  take_held zero xs = refl
  take_held (suc n) [] = refl
  take_held (suc n) (x ∷ xs) = ap (λ z. x ∷ z) (take_held n xs)

  pub first_rows : (M P rest : List T) (n : ℕ) → n ≡ length P → M ≡ P ++ rest → take n M ≡ P
  first_rows M P rest n e m = ap (take n) m ∙ take_at P rest n (sym e)

  -- as many rows as there are lines at most
  rows_within : (M P rest : List T) (n : ℕ) → n ≡ length P → M ≡ P ++ rest → n ≤ length M
  rows_within M P rest n e m = omega (arith, e, ap length m, length-append P rest)

  -- the lines are the rows, and behind them what stood there
  pub behind_rows : (L M P : List T) (n : ℕ) → n ≡ length P → M ≡ P ++ drop n L → M ≡ take n M ++ drop (length (take n M)) L
  behind_rows L M P n e m =
      let r : take n M ≡ P = first_rows M P (drop n L) n e m in
      m ∙ ap₂ (λ p k. p ++ drop k L) (sym r) (e ∙ ap length (sym r))

  pub unchanged : (L M : List T) (n : ℕ) → M ≡ L → M ≡ take n M ++ drop (length (take n M)) L
  unchanged L M n m =
      m ∙ sym (take-append-drop (length (take n L)) L) ∙ ap (λ z. z ++ drop (length (take n L)) L) (take_held n L) ∙ ap (λ z. take n z ++ drop (length (take n z)) L) (sym m)

-- ---- the first n of the lines L are the rows R, in rising order, and a call has the key k
module _ {K E : Type 0} {lt : K → K → Bool} (o : Order lt) (k : K) (L : List (Row K E)) (n : ℕ) (room : n ≤ length L) (rise : rising lt (take n L) ≡ true) (R : List (Row K E)) (same : R ≡ take n L) where
  in_use : (i : ℕ) → i < length R → i < n
  in_use i l = omega (arith, l, ap length same, length-take-le n L room)

  up_to_use : (i : ℕ) → i ≤ length R → i ≤ n
  up_to_use i l = omega (arith, l, ap length same, length-take-le n L room)

  at : (i : ℕ) → Ok i ≡ sought lt k R → Stands lt k (take n L) (Ok i)
  at i s = at_ok lt k (take n L) i (s ∙ ap (sought lt k) same)

  gap : (i : ℕ) → Err i ≡ sought lt k R → Stands lt k (take n L) (Err i)
  gap i s = at_err lt k (take n L) i (s ∙ ap (sought lt k) same)

  -- after a put of e, of the lines M the first m are the rows
  pub record PutOn (e : E) (M : List (Row K E)) (m : ℕ) : Type 0 where
    pub within : m ≤ length M
    pub rises : rising lt (take m M) ≡ true
    pub rows : take m M ≡ placed lt (record { key = k; entry = e }) (take n L)
    pub lines : M ≡ take m M ++ drop (length (take m M)) L
    pub map : MapSet lt k (Some e) (take n L) (take m M)

  put_on : (e : E) (M : List (Row K E)) (m : ℕ) → m ≡ length (placed lt (record { key = k; entry = e }) (take n L)) → M ≡ placed lt (record { key = k; entry = e }) (take n L) ++ drop m L → PutOn e M m
  put_on e M m h w =
      let r = first_rows M _ (drop m L) m h w in
      record {
        within = rows_within M _ (drop m L) m h w;
        rises = ap (rising lt) r ∙ rising_placed o (record { key = k; entry = e }) (take n L) rise;
        rows = r;
        lines = behind_rows L M _ m h w;
        map = subst (MapSet lt k (Some e) (take n L)) (sym r) (set_placed o k e (take n L) rise);
      }

  -- a put over the row of its key
  pub put_over : (i : ℕ) (e : E) → Ok i ≡ sought lt k R → i < length R → PutOn e (set L i (record { key = k; entry = e })) n
  put_over i e s l =
      let p = (at i s).4 e in
      put_on e _ n (sym (ap length p ∙ set_length L i n _ room)) (set_whole L i n _ (in_use i l) ∙ sym (ap (λ z. z ++ drop n L) p))

  -- a put of a new row
  pub put_new : (i : ℕ) (e : E) (M : List (Row K E)) → Err i ≡ sought lt k R → i ≤ length R → M ≡ insert (take n L) i (record { key = k; entry = e }) ++ drop (n + 1) L → PutOn e M (n + 1)
  put_new i e M s l w =
      let p = (gap i s).4 e in
      put_on e M (n + 1) (sym (ap length p ∙ inserted_length L i n _ (up_to_use i l) room)) (w ∙ sym (ap (λ z. z ++ drop (n + 1) L) p))

  -- after a removal, of the lines M the first m are the rows
  pub record RemovedFrom (M : List (Row K E)) (m : ℕ) : Type 0 where
    pub within : m ≤ length M
    pub rises : rising lt (take m M) ≡ true
    pub rows : take m M ≡ without lt k (take n L)
    pub lines : M ≡ take m M ++ (row_of lt k (take n L) ++ drop (length (take n L)) L)
    pub map : MapSet lt k None (take n L) (take m M)

  removed_from : (M : List (Row K E)) (m : ℕ) → m ≡ length (without lt k (take n L)) → M ≡ without lt k (take n L) ++ (row_of lt k (take n L) ++ drop n L) → RemovedFrom M m
  removed_from M m h w =
      let r = first_rows M _ (row_of lt k (take n L) ++ drop n L) m h w in
      record {
        within = rows_within M _ (row_of lt k (take n L) ++ drop n L) m h w;
        rises = ap (rising lt) r ∙ rising_without o k (take n L) rise;
        rows = r;
        lines = w ∙ ap₂ (λ z j. z ++ (row_of lt k (take n L) ++ drop j L)) (sym r) (sym (length-take-le n L room));
        map = subst (MapSet lt k None (take n L)) (sym r) (set_without o k (take n L) rise);
      }

  pub removed_there : (i : ℕ) (M : List (Row K E)) → Ok i ≡ sought lt k R → i < length R → M ≡ remove (take n L) i ++ (take 1 (drop i (take n L)) ++ drop n L) → RemovedFrom M (n - 1)
  removed_there i M s l w =
      let p = at i s in
      removed_from M (n - 1) (sym (ap length p.2 ∙ removed_length L i n (in_use i l) room)) (w ∙ sym (ap₂ (λ x z. x ++ (z ++ drop n L)) p.2 p.3))

  pub removed_none : (i : ℕ) → Err i ≡ sought lt k R → RemovedFrom L n
  removed_none i s =
      let p = gap i s in
      removed_from L n (sym (ap length p.2 ∙ length-take-le n L room)) (sym (ap₂ (λ x z. x ++ (z ++ drop n L)) p.2 p.3 ∙ take-append-drop n L))

  -- the entry of the row at i, where the key's row stands
  pub found_there : (i : ℕ) (d : Row K E) → Ok i ≡ sought lt k R → Some (get_or R i d).entry ≡ found lt k (take n L)
  found_there i d s = ap (λ z. Some (get_or z i d).entry) same ∙ sym ((at i s).1 d)

  -- and the line i is that row
  pub found_on_line : (i : ℕ) (d : Row K E) → Ok i ≡ sought lt k R → i < length R → Some (get_or L i d).entry ≡ found lt k (take n L)
  found_on_line i d s l = sym ((at i s).1 d ∙ ap (λ r. Some r.entry) (get_or-take n L i d (in_use i l)))

  pub found_none : (i : ℕ) → Err i ≡ sought lt k R → None ≡ found lt k (take n L)
  found_none i s = sym (gap i s).1

  pub found_entry : (x : Option E) → x ≡ found lt k (take n L) → FoundAt lt k (take n L) x
  found_entry x e = subst (FoundAt lt k (take n L)) (sym e) (found_at o k (take n L) rise)

  -- the first of the rows rise too
  pub fewer_rise : (m : ℕ) → m ≤ n → rising lt (take m L) ≡ true
  fewer_rise m l = ap (rising lt) (sym (take-take m n L l)) ∙ rising_take o m (take n L) rise

-- ---- what a search's answer is, once its place alone is kept
pub place_known : {r s : Result ℕ ℕ} {n i : ℕ} → r ≡ s → MatchResult r (λ j. j < n) (λ j. j ≤ n) → Some i ≡ result_ok r → (Ok i ≡ s) × (i < n)
place_known {r = Ok j} {n = n} {i = i} e l h =
    let same : i ≡ j = grind arith in
    (ap Ok same ∙ e, omega (arith, l, same))
place_known {r = Err j} e l h = cc

pub place_unknown : {r s : Result ℕ ℕ} → r ≡ s → None ≡ result_ok r → (i : ℕ) × (Err i ≡ s)
place_unknown {r = Ok j} e h = cc
place_unknown {r = Err j} e h = (j, e)

-- ---- an answer whose every error is d
pub answered : {E D : Type 0} {P : E → D → Type 0} (d : D) (r : Result Unit E) (s : Result Unit D) → MatchResult r (λ x. s ≡ Ok x) (λ e. IsErrAnd s (P e)) → ((e : E) (x : D) → P e x → x ≡ d) → s ≡ cond (is_ok r) (Ok tt) (Err d)
answered d (Ok tt) s h k = h
answered d (Err e) (Ok x) h k = absurd h
answered d (Err e) (Err x) h k = ap Err (k e x h)
