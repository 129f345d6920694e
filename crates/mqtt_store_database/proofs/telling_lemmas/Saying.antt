-- A row that is written of a copy and its message says what the copy says, and nothing else.
use Rattle.std.proofs.Common.{◌≡◌, ℕ, zero, suc, List, [], ◌∷◌, map, take, refl, sym, ap, ◌∙◌, append-nil}
use Rattle.std.specs.Prelude.{Some}
use Rattle.std.specs.List.{AllByRecursion}
use Rattle.sqlite_value.specs.declared.value.Value.TheVariants.{Text, Blob}
use Rattle.mqtt_props.specs.Properties.{Prop, IsProp, FitsBlock, block}
use Rattle.mqtt_props.specs.Reading.{block_at}
use Rattle.mqtt_records.specs.messages.PassedOn.{identified}
use Rattle.mqtt_records.specs.messages.Queue.{CopyRow}
use Rattle.mqtt_records.specs.messages.Content.{CopyContent}
use Rattle.mqtt_records.specs.state.Telling.{copy_content}
use Rattle.mqtt_store_rows.specs.values.Blocks.{SaysPassed}
use Rattle.mqtt_store_rows.specs.values.Lists.{AreRows}
use Rattle.mqtt_store_rows.specs.values.Ones.{one_number, one_text, one_blob}
use Rattle.mqtt_store_rows.specs.values.Values.{number, IsIdentifier}
use Rattle.mqtt_store_rows.specs.rows.Rows.{pairs, SaysIdentifiers}
use Rattle.mqtt_store_database.specs.item_laws.Written.{IsSayableCopy}
use Rattle.mqtt_store_database.specs.telling.Said.{SaysCopyContent, content_row}
use Rattle.mqtt_store_database.specs.telling.Told.{identifiers_read, properties_read}
use Rattle.mqtt_store_database.proofs.telling_lemmas.Back.{identifiers_fit, identifiers_back, properties_back}
use Rattle.mqtt_store_database.proofs.telling_lemmas.Kept.{same_content}

in_range : (ids : List ℕ) → AllByRecursion (λ n. IsIdentifier (Some n)) ids → AllByRecursion IsProp (map identified ids)
in_range [] all = tt
in_range (n ∷ ids) all = (record { kind = refl; fits = all.0.1 }, in_range ids all.1)

-- identifiers that the pairs of others say are those
one_pairs : (ids others : List ℕ) → AllByRecursion IsProp (map identified others) → SaysIdentifiers ids (Blob (pairs others)) → ids ≡ others
one_pairs ids others fits h =
    let same : pairs ids ≡ pairs others = sym h.are.spelled ∙ one_blob (Blob (pairs others)) h.bytes (pairs others) h.holds refl in
    sym (identifiers_back ids (in_range ids h.are.range)) ∙ (ap identifiers_read same ∙ identifiers_back others fits)

-- properties that the block of others says are those
one_block : (ps qs : List Prop) → FitsBlock qs → SaysPassed ps (Blob (block qs)) → ps ≡ qs
one_block ps qs fits h =
    let mine : block ps ≡ h.block.bytes = sym (append-nil (block ps)) ∙ sym h.block.is.parts in
    let same : block ps ≡ block qs = mine ∙ one_blob (Blob (block qs)) h.block.bytes (block qs) h.block.holds refl in
    sym (properties_back ps h.block.is.fits) ∙ (ap (λ (bs : List ℕ). properties_read (block_at bs)) same ∙ properties_back qs fits)

-- so what such a row says of a copy is what the copy says
pub said_once : (x : CopyRow) (c : CopyContent) → IsSayableCopy x.copy → SaysCopyContent c (content_row x) → c ≡ copy_content x
said_once x c sayable h =
    same_content _ _ _ _ _ _ _ _ _ _ (one_number (number x.place) c.place x.place h.place refl)
    (one_pairs c.identifiers x.copy.identifiers (identifiers_fit x.copy sayable.sent) h.identifiers)
    (one_text (Text x.copy.content.topic) c.topic x.copy.content.topic h.topic refl)
    (one_block c.properties x.copy.content.properties sayable.spelled h.properties)
    (one_blob (Blob x.copy.content.payload) c.payload x.copy.content.payload h.payload refl)

-- and so of each of the first
pub all_said : (n : ℕ) (xs : List CopyRow) (all : List CopyContent) → AllByRecursion (λ x. IsSayableCopy x.copy) xs → AreRows SaysCopyContent (take n (map content_row xs)) all → all ≡ take n (map copy_content xs)
all_said zero xs [] sayable are = refl
all_said zero xs (c ∷ all) sayable are = absurd are
all_said (suc n) [] [] sayable are = refl
all_said (suc n) [] (c ∷ all) sayable are = absurd are
all_said (suc n) (x ∷ xs) [] sayable are = absurd are
all_said (suc n) (x ∷ xs) (c ∷ all) sayable are =
    ap (λ (d : CopyContent). d ∷ all) (said_once x c sayable.0 are.0) ∙ ap (λ l. copy_content x ∷ l) (all_said n xs all sayable.1 are.1)
