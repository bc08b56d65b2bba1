-- The order of the keys.
use Rattle.std.specs.Prelude.{Bool, ◌&&◌, ◌||◌, ◌==◌, nat_lt}
use Rattle.normals.specs.declared.key.StationMonth.{StationMonth}

-- by station, and within one station by month
abbrev pub key_below : StationMonth → StationMonth → Bool
key_below p q = nat_lt p.station q.station || (p.station == q.station && nat_lt p.month q.month)
