-- The extreme of the readings of days: the reading, the first day that has it, and whether it recurs.
use Rattle.std.specs.Prelude.{◌≡◌, ℕ, ◌<◌, ◌≤◌, Bool, true, false, cond, ◌⊎◌, Some, None, Option}
use Rattle.extremes.specs.declared.search.Extreme.{Extreme}

-- neither of two readings outranks the other
abbrev pub SameRank : {X : Type 0} → (X → X → Bool) → X → X → Type 0
SameRank over x y = (over x y ≡ false) × (over y x ≡ false)

-- every day from 1 to the last has a reading
abbrev pub Full : {X : Type 0} → (ℕ → Option X) → ℕ → Type 0
Full {X} at last = (day : ℕ) → 1 ≤ day → day ≤ last → (x : X) × (at day ≡ Some x)

-- there is no day, or one from 1 to the last has no reading
abbrev pub Lacking : {X : Type 0} → (ℕ → Option X) → ℕ → Type 0
Lacking at last = (last ≡ 0) ⊎ ((day : ℕ) × (1 ≤ day) × (day ≤ last) × (at day ≡ None))

-- readings that are the same on every day from 1 to the last
abbrev pub Agree : {X : Type 0} → (ℕ → Option X) → (ℕ → Option X) → ℕ → Type 0
Agree at at' last = (day : ℕ) → 1 ≤ day → day ≤ last → at day ≡ at' day

-- the reading is the extreme of the days from 1 to the last, the day is the first that has one of its rank, and it recurs or not
pub record Tops {X : Type 0} (over : X → X → Bool) (at : ℕ → Option X) (last : ℕ) (reading : X) (day : ℕ) (recurs : Bool) : Type 0 where
  -- the day is one from 1
  pub from : 1 ≤ day
  -- to the last
  pub to : day ≤ last
  -- it has the reading
  pub held : at day ≡ Some reading
  -- no day lacks a reading
  pub full : Full at last
  -- no day's reading outranks this one
  pub highest : (k : ℕ) (x : X) → 1 ≤ k → k ≤ last → at k ≡ Some x → over x reading ≡ false
  -- this one outranks that of each earlier day, so that no earlier day has one of its rank
  pub first : (k : ℕ) (x : X) → 1 ≤ k → k < day → at k ≡ Some x → over reading x ≡ true
  -- where it does not recur, it outranks that of each later day too
  pub once : recurs ≡ false → (k : ℕ) (x : X) → day < k → k ≤ last → at k ≡ Some x → over reading x ≡ true
  -- where it recurs, a later day has one of its rank
  pub again : recurs ≡ true → (k : ℕ) × (x : X) × (day < k) × (k ≤ last) × (at k ≡ Some x) × SameRank over reading x

-- what a right answer says: an extreme, or none where a reading is lacking
abbrev pub Right : {X : Type 0} → (X → X → Bool) → (ℕ → Option X) → ℕ → Option (Extreme X) → Type 0
Right over at last (Some e) = Tops over at last e.reading e.day e.recurs
Right over at last None = Lacking at last

-- the answer of a search over the days from 1 to the last
pub record Searched {X : Type 0} (over : X → X → Bool) (at : ℕ → Option X) (last : ℕ) (answer : Option (Extreme X)) : Type 0 where
  -- it is right
  pub right : Right over at last answer
  -- and no other is, of these readings or of any that are the same on those days
  pub only : (at' : ℕ → Option X) → Agree at at' last → (other : Option (Extreme X)) → Right over at' last other → other ≡ answer

-- the extreme of the days so far, once the reading of the next day is known
abbrev pub after_day : {X : Type 0} → (X → X → Bool) → Extreme X → X → ℕ → Extreme X
after_day over e x day =
    cond (over x e.reading) (record { reading = x; day = day; recurs = false })
    (cond (over e.reading x) e (record { reading = e.reading; day = e.day; recurs = true }))
