-- A client identifier that the broker assigns is a text (MQTT 5.0, 1.5.4, 3.1.3.1).
use Rattle.std.proofs.Common.{◌≡◌, ℕ, ◌+◌, ◌^◌, ◌<◌, ◌≤◌, ◌/◌, ◌%◌, Bool, false, List, [], ◌∷◌, ◌++◌, length, refl, sym, ap, ◌∙◌, arith}
use Rattle.std.specs.Prelude.{decimal}
use Rattle.std.specs.List.{list_any}
use Rattle.std.specs.Str.{IsUtf8}
use Rattle.std.proofs.Common.{eqb}
use Rattle.std.proofs.lemmas.Fmt.{decimal_by_steps, length-decimal-le}
use Rattle.std.proofs.lemmas.List.{length-append}
use Rattle.std.proofs.lemmas.List.Folds.{list_any-append}
use Rattle.mqtt_records.proofs.lists_lemmas.OrderLemmas.{apart}
use Rattle.mqtt_base.specs.Values.{FitsText}
use Rattle.mqtt_base.proofs.Texts.{text_holds}
use Rattle.mqtt_records.specs.state.Session.{auto}

abbrev is_null : ℕ → Bool
is_null b = eqb b 0

abbrev HasNoNull : ℕ → List ℕ → Type 0
HasNoNull n ds = list_any is_null ds ≡ false

glyph : (d : ℕ) → eqb (48 + d) 0 ≡ false
glyph d = apart (48 + d) 0 (λ e. omega (arith, e))

one : (n : ℕ) → n < 10 → HasNoNull n ((48 + n) ∷ [])
one n few = rw (glyph n) refl

more : (n : ℕ) (ds : List ℕ) → 10 ≤ n → HasNoNull (n / 10) ds → HasNoNull n (ds ++ ((48 + n % 10) ∷ []))
more n ds many none = list_any-append is_null ds ((48 + n % 10) ∷ []) ∙ rw (none, glyph (n % 10)) refl

decimal_plain : (n : ℕ) → n < 2 ^ 64 → list_any is_null (decimal n) ≡ false
decimal_plain n small = decimal_by_steps HasNoNull one more n small

-- an assigned name fits its field
pub assigned_fits : (n : ℕ) (text : List ℕ) → n < 2 ^ 64 → text ≡ auto ++ decimal n → IsUtf8 text → FitsText text
assigned_fits n text small is utf8 =
    let few = length-decimal-le 20 n (omega arith) (omega (arith, small)) small in
    let whole = length-append auto (decimal n) in
    let long = ap length is in
    let short : length text ≤ 65535 = omega (arith, few, whole, long) in
    let plain : false ≡ list_any is_null text = sym (ap (list_any is_null) is ∙ list_any-append is_null auto (decimal n) ∙ rw (decimal_plain n small) refl) in
    (text_holds text false short utf8 plain).0 refl
