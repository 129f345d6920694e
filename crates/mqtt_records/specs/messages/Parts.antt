-- What becomes of a row of a queue by a change of a part.
use Rattle.std.specs.Prelude.{◌≡◌, refl}
use Rattle.mqtt_records.specs.declared.messages.parts.CopyPart.{CopyPart}
use Rattle.mqtt_records.specs.declared.messages.parts.CopyPart.TheVariants.{SetPhase, MakeSlim}
use Rattle.mqtt_records.specs.messages.Queue.{CopyRow}
use Rattle.mqtt_records.specs.messages.Slim.{slim}

abbrev pub row_changed : CopyPart → CopyRow → CopyRow
row_changed (SetPhase phase) row = record row { phase = phase }
row_changed MakeSlim row = slim row

-- the place stays
pub place_of-row_changed : (part : CopyPart) (row : CopyRow) → (row_changed part row).place ≡ row.place
place_of-row_changed (SetPhase phase) row = refl
place_of-row_changed MakeSlim row = refl
