-- What a register of climate normals means, what each call on it answers, and what it then holds.
use Rattle.std.specs.Prelude.{◌≡◌, ℕ, ◌+◌, Bool, false, cond, not, ◌&&◌, List, length, ℤ, pos, is_some, Some, None, Ok, Err, Option, Result, nat_le}
use Rattle.station.specs.declared.refusal.Refusal.{Refusal}
use Rattle.station.specs.declared.refusal.Refusal.TheVariants.{Full}
use Rattle.station.specs.Numbers.{same}
use Rattle.station.specs.Refusals.{or_else, unless, altered}
use Rattle.station.specs.Sheets.{first_station}
use Rattle.ordered_table.specs.declared.row.Row.{Row}
use Rattle.ordered_table.specs.declared.table.Table.{Table}
use Rattle.ordered_table.specs.Rows.{entry_where}
use Rattle.ordered_table.specs.Contents.{rows, room}
use Rattle.normals.specs.declared.record.Normals.{Normals}
use Rattle.normals.specs.declared.checked.CheckedNormals.{CheckedNormals}
use Rattle.normals.specs.declared.key.StationMonth.{StationMonth}
use Rattle.normals.specs.Normals.{normals_refusal, blank_normals}
use Rattle.normals.specs.Keys.{key_refusal}

-- What a register means.
pub record Holdings : Type 0 where
  -- the normals of each station and month, or nothing
  pub at : ℤ → ℤ → Option Normals
  -- how many records there are
  pub count : ℕ
  -- how many there may be
  pub ceiling : ℕ

-- one pair of a station and a month is another
abbrev pub same_pair : ℤ → ℤ → ℤ → ℤ → Bool
same_pair s m s' m' = same s s' && same m m'

-- the key of the station s and the month m
abbrev pub is_key : ℤ → ℤ → StationMonth → Bool
is_key s m k = same_pair s m (pos k.station) (pos k.month)

-- the normals of a checked record
abbrev pub plain : Option CheckedNormals → Option Normals
plain None = None
plain (Some c) = Some c.normals

-- the normals in the row of the station s and the month m
unfoldable pub filed_at : List (Row StationMonth CheckedNormals) → ℤ → ℤ → Option Normals
filed_at filed s m = plain (entry_where (is_key s m) filed)

-- what a table of records means; k is the order of its keys
abbrev pub holdings : {k : _} → Table StationMonth CheckedNormals k → Holdings
holdings t = record { at = filed_at (rows t); count = length (rows t); ceiling = room t }

-- no records
abbrev pub nothing_held : ℕ → Holdings
nothing_held ceiling = record { at = λ s m. None; count = 0; ceiling = ceiling }

-- the normals n at the station s and the month m, instead of any that were there, and all others as they were
abbrev pub with_record : Holdings → ℤ → ℤ → Normals → Holdings
with_record h s m n = record {
  at = λ s' m'. cond (same_pair s' m' s m) (Some n) (h.at s' m');
  count = cond (is_some (h.at s m)) h.count (h.count + 1);
  ceiling = h.ceiling;
}

-- a new station and month, where there are as many records as there may be
abbrev pub full_refusal : Holdings → ℤ → ℤ → Option Refusal
full_refusal h s m = cond (not (is_some (h.at s m)) && nat_le h.ceiling h.count) (Some Full) None

-- a record is declined for its station and month first, and then for its normals
unfoldable pub record_refusal : ℤ → ℤ → Normals → Option Refusal
record_refusal s m n = or_else (key_refusal s m) (normals_refusal n)

-- storing checks the record, and then the ceiling
unfoldable pub store_refusal : Holdings → ℤ → ℤ → Normals → Option Refusal
store_refusal h s m n = or_else (record_refusal s m n) (full_refusal h s m)

-- the holdings after storing: that record alone is set, and where the call declines nothing changes
abbrev pub stored : Holdings → ℤ → ℤ → Normals → Holdings
stored h s m n = altered (store_refusal h s m n) h (with_record h s m n)

-- what looking up answers
unfoldable pub looked_up : Holdings → ℤ → ℤ → Result (Option Normals) Refusal
looked_up h s m = unless (key_refusal s m) (h.at s m)

-- an answer, with the plain normals of its checked record
abbrev pub unchecked : Result (Option CheckedNormals) Refusal → Result (Option Normals) Refusal
unchecked (Ok found) = Ok (plain found)
unchecked (Err r) = Err r

-- What holds once normals are accepted.
pub record Filed (s m : ℤ) (n : Normals) (before after : Holdings) : Type 0 where
  -- looking that station and month up answers exactly these normals
  pub there : looked_up after s m ≡ Ok (Some n)
  -- looking any other up answers what it answered before
  pub elsewhere : (s' m' : ℤ) → same_pair s' m' s m ≡ false → looked_up after s' m' ≡ looked_up before s' m'

-- A blank line: the first station and month, and normals that give nothing.
pub record Blank (r : Row StationMonth CheckedNormals) : Type 0 where
  pub station : r.key.station ≡ first_station
  pub month : r.key.month ≡ 1
  pub normals : r.entry.normals ≡ blank_normals
