-- What the check of a key, and that of a record, tell. Assumes nothing.
use Rattle.std.proofs.Common.{◌≡◌, ℤ, pos, Some, None, Ok, Err}
use Rattle.station.specs.declared.refusal.Refusal.{Refusal}
use Rattle.station.specs.Refusals.{Answered}
use Rattle.station.proofs.OnRefusals.{declined, accepted}
use Rattle.ordered_table.specs.declared.row.Row.{Row}
use Rattle.normals.specs.declared.record.Normals.{Normals}
use Rattle.normals.specs.declared.checked.CheckedNormals.{CheckedNormals}
use Rattle.normals.specs.declared.key.StationMonth.{StationMonth}
use Rattle.normals.specs.Keys.{key_refusal}
use Rattle.normals.specs.Register.{record_refusal}

module _ (s m : ℤ) where
  abbrev StandsFor : StationMonth → Type 0
  StandsFor k = (pos k.station ≡ s) × (pos k.month ≡ m)

  pub key_taken : (k : StationMonth) → Answered (key_refusal s m) (Ok k) StandsFor → (key_refusal s m ≡ None) × (pos k.station ≡ s) × (pos k.month ≡ m)
  key_taken k h = let both = accepted (key_refusal s m) k StandsFor h in (both.0, both.1.0, both.1.1)

  pub key_declined : (r : Refusal) → Answered (key_refusal s m) (Err r) StandsFor → key_refusal s m ≡ Some r
  key_declined r h = declined (key_refusal s m) r StandsFor h

module _ (s m : ℤ) (n : Normals) where
  abbrev IsRecord : Row StationMonth CheckedNormals → Type 0
  IsRecord w = (pos w.key.station ≡ s) × (pos w.key.month ≡ m) × (w.entry.normals ≡ n)

  pub record_taken : (w : Row StationMonth CheckedNormals) → Answered (record_refusal s m n) (Ok w) IsRecord → (record_refusal s m n ≡ None) × (pos w.key.station ≡ s) × (pos w.key.month ≡ m) × (w.entry.normals ≡ n)
  record_taken w h = let both = accepted (record_refusal s m n) w IsRecord h in (both.0, both.1.0, both.1.1, both.1.2)

  pub record_declined : (r : Refusal) → Answered (record_refusal s m n) (Err r) IsRecord → record_refusal s m n ≡ Some r
  record_declined r h = declined (record_refusal s m n) r IsRecord h
