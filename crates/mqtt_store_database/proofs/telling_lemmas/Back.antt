-- Subscription Identifiers and properties that were written are read back.
use Rattle.std.proofs.Common.{◌≡◌, ℕ, List, [], ◌∷◌, ◌++◌, map, refl, sym, ap, ◌∙◌, append-nil}
use Rattle.std.specs.List.{AllByRecursion}
use Rattle.mqtt_base.specs.Items.{items_of}
use Rattle.mqtt_props.specs.declared.table.PropName.TheVariants.{UserProperty}
use Rattle.mqtt_props.specs.Properties.{Prop, IsProp, FitsBlock, block}
use Rattle.mqtt_props.specs.Edits.{only, without}
use Rattle.mqtt_props.specs.Reading.{block_at, props_of}
use Rattle.mqtt_props.proofs.Blocks.{props_again, block_again}
use Rattle.mqtt_records.specs.declared.messages.message.MessageCopy.{MessageCopy}
use Rattle.mqtt_records.specs.messages.PassedOn.{number_in, aged, identified}
use Rattle.mqtt_records.specs.messages.Queue.{first_sent}
use Rattle.mqtt_store_rows.specs.rows.Rows.{pairs}
use Rattle.mqtt_store_database.specs.telling.Told.{identifiers_read, properties_read}

-- ---- Subscription Identifiers

all_front : (ps qs : List Prop) → AllByRecursion IsProp (ps ++ qs) → AllByRecursion IsProp ps
all_front [] qs all = tt
all_front (p ∷ ps) qs all = (all.0, all_front ps qs all.1)

all_behind : (ps qs : List Prop) → AllByRecursion IsProp (ps ++ qs) → AllByRecursion IsProp qs
all_behind [] qs all = all
all_behind (p ∷ ps) qs all = all_behind ps qs all.1

-- the identifiers of what has a spelling as it is sent have one themselves
pub identifiers_fit : (copy : MessageCopy) → FitsBlock (first_sent copy) → AllByRecursion IsProp (map identified copy.identifiers)
identifiers_fit copy fits =
    let ps = copy.content.properties in
    let front = all_front (map (aged 0) (without UserProperty ps) ++ map identified copy.identifiers) (only UserProperty ps) fits.each in
    all_behind (map (aged 0) (without UserProperty ps)) (map identified copy.identifiers) front

numbers_back : (ids : List ℕ) → map (λ (p : Prop). number_in p.value) (map identified ids) ≡ ids
numbers_back [] = refl
numbers_back (n ∷ ids) = ap (λ (ns : List ℕ). n ∷ ns) (numbers_back ids)

pairs_back : (ids : List ℕ) → AllByRecursion IsProp (map identified ids) → props_of (pairs ids) ≡ map identified ids
unfolding items_of
pairs_back ids fits = rw (props_again (map identified ids) fits) refl

-- identifiers that were written as pairs are read back
pub identifiers_back : (ids : List ℕ) → AllByRecursion IsProp (map identified ids) → identifiers_read (pairs ids) ≡ ids
identifiers_back ids fits = ap (map (λ (p : Prop). number_in p.value)) (pairs_back ids fits) ∙ numbers_back ids

-- ---- properties

-- properties that were written as a block are read back
pub properties_back : (ps : List Prop) → FitsBlock ps → properties_read (block_at (block ps)) ≡ ps
properties_back ps fits = ap (λ (bs : List ℕ). properties_read (block_at bs)) (sym (append-nil (block ps))) ∙ ap properties_read (block_again ps [] fits)
