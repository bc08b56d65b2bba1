-- Writing a field and reading it undo each other.
use Rattle.std.specs.Prelude.{◌≡◌, ℕ, ◌^◌, ◌<◌, ◌≤◌, true, false, List, length, Some, None}
use Rattle.text.specs.Digits.{digits, number_of, most_digits, bars, all_bars}

-- a number and its digits
pub record DigitsUndo : Type 0 where
  -- a number is read from its digits, at each width that it fits
  pub there : (w n : ℕ) → n < 10 ^ w → 0 < w → w ≤ most_digits → number_of (digits w n) ≡ Some n
  -- bytes that are read as a number are its digits
  pub back : (bs : List ℕ) (n : ℕ) → number_of bs ≡ Some n → digits (length bs) n ≡ bs
  -- and the number fits their width
  pub below : (bs : List ℕ) (n : ℕ) → number_of bs ≡ Some n → n < 10 ^ length bs
  -- digits fill their width
  pub width : (w n : ℕ) → length (digits w n) ≡ w
  -- bars are no number
  pub apart : (bs : List ℕ) → all_bars bs ≡ true → number_of bs ≡ None
  -- and a number is no bars
  pub barless : (bs : List ℕ) (n : ℕ) → number_of bs ≡ Some n → all_bars bs ≡ false

-- a field of bars
pub record BarsUndo : Type 0 where
  -- bars over a field are seen as such
  pub there : (w : ℕ) → 0 < w → all_bars (bars w) ≡ true
  -- bytes that are seen as bars are bars over their field
  pub back : (bs : List ℕ) → all_bars bs ≡ true → bars (length bs) ≡ bs
  -- bars fill their width
  pub width : (w : ℕ) → length (bars w) ≡ w
