-- Rows in order of their keys, and what is found, put in or taken out there. lt is the order of the keys.
use Rattle.std.specs.Prelude.{ℕ, ◌+◌, Bool, true, cond, not, List, [], ◌∷◌, Some, None, Ok, Err, Option, Result}
use Rattle.ordered_table.specs.declared.row.Row.{Row}

-- the place n rows further on
abbrev pub ahead : ℕ → Result ℕ ℕ → Result ℕ ℕ
ahead n (Ok i) = Ok (n + i)
ahead n (Err i) = Err (n + i)

module _ {K E : Type 0} (lt : K → K → Bool) where
  -- the entry of the row with the key k
  unfoldable pub found : K → List (Row K E) → Option E
  found k [] = None
  found k (x ∷ xs) = cond (lt x.key k) (found k xs) (cond (lt k x.key) None (Some x.entry))

  -- the rows with the row r in its place, instead of any with that key
  unfoldable pub placed : Row K E → List (Row K E) → List (Row K E)
  placed r [] = r ∷ []
  placed r (x ∷ xs) = cond (lt x.key r.key) (x ∷ placed r xs) (cond (lt r.key x.key) (r ∷ x ∷ xs) (r ∷ xs))

  -- the rows without that of the key k
  unfoldable pub without : K → List (Row K E) → List (Row K E)
  without k [] = []
  without k (x ∷ xs) = cond (lt x.key k) (x ∷ without k xs) (cond (lt k x.key) (x ∷ xs) xs)

  -- the row with the key k, if there is one
  unfoldable pub row_of : K → List (Row K E) → List (Row K E)
  row_of k [] = []
  row_of k (x ∷ xs) = cond (lt x.key k) (row_of k xs) (cond (lt k x.key) [] (x ∷ []))

  -- where the key k stands (Ok), or where it would (Err)
  unfoldable pub sought : K → List (Row K E) → Result ℕ ℕ
  sought k [] = Err 0
  sought k (x ∷ xs) = cond (lt x.key k) (ahead 1 (sought k xs)) (cond (lt k x.key) (Err 0) (Ok 0))

-- the first of the rows, if there is one, is not below the key k
abbrev pub not_below : {K E : Type 0} → (K → K → Bool) → K → List (Row K E) → Bool
not_below lt k [] = true
not_below lt k (x ∷ xs) = not (lt x.key k)

-- the entry of the first row whose key passes
unfoldable pub entry_where : {K E : Type 0} → (K → Bool) → List (Row K E) → Option E
entry_where passes [] = None
entry_where passes (x ∷ xs) = cond (passes x.key) (Some x.entry) (entry_where passes xs)

-- the rows whose keys pass
unfoldable pub rows_where : {K E : Type 0} → (K → Bool) → List (Row K E) → List (Row K E)
rows_where passes [] = []
rows_where passes (x ∷ xs) = cond (passes x.key) (x ∷ rows_where passes xs) (rows_where passes xs)
