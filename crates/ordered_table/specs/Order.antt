-- Rows in rising order of their keys, and what a table promises as a map from keys to entries.
use Rattle.std.specs.Prelude.{◌≡◌, Bool, true, false, not, ◌&&◌, List, [], ◌∷◌, ◌++◌, Some, None, Option}
use Rattle.ordered_table.specs.declared.row.Row.{Row}
use Rattle.ordered_table.specs.Rows.{found}

-- neither is below the other
abbrev pub same_key : {K : Type 0} → (K → K → Bool) → K → K → Bool
same_key lt a b = not (lt a b) && not (lt b a)

module _ {K E : Type 0} where
  -- every row's key passes
  unfoldable pub each_key : (K → Bool) → List (Row K E) → Bool
  each_key passes [] = true
  each_key passes (x ∷ xs) = passes x.key && each_key passes xs

  -- each key is below every later one
  unfoldable pub rising : (K → K → Bool) → List (Row K E) → Bool
  rising lt [] = true
  rising lt (x ∷ xs) = each_key (lt x.key) xs && rising lt xs

  -- no key comes twice
  unfoldable pub distinct : (K → K → Bool) → List (Row K E) → Bool
  distinct lt [] = true
  distinct lt (x ∷ xs) = each_key (λ k. not (same_key lt k x.key)) xs && distinct lt xs

  -- What is found at the key k: the entry of a row with that key, or nothing, and then no row has it.
  abbrev pub FoundAt : (K → K → Bool) → K → List (Row K E) → Option E → Type 0
  FoundAt lt k rows None = each_key (λ q. not (same_key lt q k)) rows ≡ true
  FoundAt lt k rows (Some e) = (before : List (Row K E)) × (later : List (Row K E)) × (rows ≡ before ++ (record { key = k; entry = e } ∷ later))

  -- From the rows before to the rows after, the entry at the key k becomes x, as in a map; rows in rising order stay so, and no key comes twice.
  pub record MapSet (lt : K → K → Bool) (k : K) (x : Option E) (before after : List (Row K E)) : Type 0 where
    -- at that key x is found
    pub there : found lt k after ≡ x
    -- at every other key what was found before
    pub elsewhere : (q : K) → same_key lt q k ≡ false → found lt q after ≡ found lt q before
    -- each key stays below every later one
    pub rises : rising lt after ≡ true
    -- no key comes twice
    pub differs : distinct lt after ≡ true
