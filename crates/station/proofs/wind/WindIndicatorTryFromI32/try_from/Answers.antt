use Rattle.std.proofs.Common.{◌≡◌, Some, None, rules}
use Rattle.station.specs.declared.wind.WindIndicator.TheVariants.{Estimated, Measured}
use Rattle.station.specs.Sheets.{indicator_numbered}
use Rattle.station.proofs.OnSheets.{found_indicator}
use Rattle.station.proofs.wind.WindIndicatorTryFromI32.try_from.Goals as goal

pub returns-in-0 : goal.returns-in-0
unfolding indicator_numbered
returns-in-0 c = let h : Some Estimated ≡ indicator_numbered c.args.number = search rules in found_indicator _ _ h

pub returns-in-1 : goal.returns-in-1
unfolding indicator_numbered
returns-in-1 c = let h : Some Measured ≡ indicator_numbered c.args.number = search rules in found_indicator _ _ h

pub returns-in_default : goal.returns-in_default
unfolding indicator_numbered
returns-in_default c = let h : None ≡ indicator_numbered c.args.number = search rules in found_indicator _ _ h
