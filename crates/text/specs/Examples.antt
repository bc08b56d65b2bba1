-- Worked examples of fields.
use Rattle.std.specs.Prelude.{◌≡◌, true, false, [], Some, None, codes}
use Rattle.text.specs.Digits.{digits, number_of, bars, all_bars}

-- What the definitions give.
pub record Examples : Type 0 where
  -- noughts stand before a number that does not fill its field
  pub filled : digits 4 82 ≡ codes "0082"
  -- and a number that does not fit loses its first digits
  pub shortened : digits 3 12345 ≡ codes "345"
  pub read : number_of (codes "0082") ≡ Some 82
  pub nothing : number_of [] ≡ None
  -- nine digits are the most
  pub longest : number_of (codes "999999999") ≡ Some 999999999
  pub too_long : number_of (codes "0000000001") ≡ None
  pub sign : number_of (codes "-082") ≡ None
  pub barred : bars 4 ≡ codes "////"
  pub seen_barred : all_bars (codes "////") ≡ true
  pub half_barred : all_bars (codes "//82") ≡ false
  pub no_bar : all_bars [] ≡ false
