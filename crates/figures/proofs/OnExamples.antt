-- The worked examples, by computation. Assumes nothing.
use Rattle.std.proofs.Common.{refl}
use Rattle.station.specs.Calendar.{month_length}
use Rattle.columns.specs.Columns.{empties, present, sum, squares}
use Rattle.rounding.specs.Means.{mean_of}
use Rattle.rounding.specs.Rain.{rain_code}
use Rattle.rounding.specs.Deviations.{deviation_of, nearest_root, halves_passed, deviation_divisor}
use Rattle.figures.specs.Means.{mean_shown, deviation_shown}
use Rattle.figures.specs.Examples.{Examples}

pub examples : Examples
unfolding mean_shown mean_of rain_code deviation_shown empties present sum squares deviation_of nearest_root halves_passed deviation_divisor month_length
examples = record {
  mean = refl;
  deviation = refl;
  negative_mean = refl;
  mean_of_nothing = refl;
  three_empty = refl;
  four_empty = refl;
  little_rain = refl;
  much_rain = refl;
  most_rain = refl;
  february = refl;
}
