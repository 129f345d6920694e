-- Texts that may be kept.
use Rattle.std.proofs.Common.{ℕ, List}
use Rattle.std.specs.Str.{IsUtf8}
use Rattle.std.proofs.lemmas.Str.{IsUtf8-from_is_utf8}
use Rattle.std.proofs.lemmas.Bool.{and_parts}
use Rattle.mqtt_base.specs.Values.{FitsText}

-- what fits a text field is UTF-8
pub fits_utf8 : (t : List ℕ) → FitsText t → IsUtf8 t
fits_utf8 t fits = IsUtf8-from_is_utf8 t (and_parts _ _ fits.1).1
