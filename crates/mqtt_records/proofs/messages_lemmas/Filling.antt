-- What a copy said fits its slim row, which is whole again with it (MQTT 5.0, 3.3).
use Rattle.std.proofs.Common.{◌≡◌, ℕ, List, Option, length, sym, ap, ap₂, subst, ◌∙◌}
use Rattle.mqtt_props.specs.declared.table.PropName.TheVariants.{MessageExpiryInterval}
use Rattle.mqtt_props.specs.Properties.{Prop, FitsBlock, props}
use Rattle.mqtt_records.specs.messages.Content.{CopyContent}
use Rattle.mqtt_records.specs.messages.Filling.{Filling, filling_of, filled_copy, filled_with, said_by, HasBytesOf}
use Rattle.mqtt_records.specs.messages.PassedOn.{number_at, sent_after}
use Rattle.mqtt_records.specs.messages.Queue.{CopyRow, IsSpelled}
use Rattle.mqtt_records.specs.messages.Slim.{bare, slim}
use Rattle.mqtt_records.proofs.messages_lemmas.Slim.{row_with, zeros_len, slim_pairs, slim_interval}

-- the properties of a filling as they are sent at once
abbrev sent_of : Filling → List Prop
sent_of said = sent_after 0 said.identifiers said.properties

-- what a copy said fits its slim row
pub said_fits : (e : CopyRow) (said : CopyContent) → said_by said ≡ filling_of e.copy → IsSpelled e.copy → HasBytesOf (slim e).copy said
said_fits e said same is = record {
  spelled = subst (λ (f : Filling). FitsBlock (sent_of f)) (sym same) is.properties;
  properties = ap (λ (f : Filling). length (props (sent_of f))) same ∙ sym (slim_pairs e.copy);
  payload = ap (λ (f : Filling). length f.payload) same ∙ sym (zeros_len (length e.copy.content.payload));
  interval = ap (λ (f : Filling). number_at MessageExpiryInterval f.properties) same ∙ sym (slim_interval e.copy);
}

-- with it the row is whole again
pub said_whole : (e : CopyRow) (said : CopyContent) → said_by said ≡ filling_of e.copy → filled_with said (slim e) ≡ e
said_whole e said same = ap (λ (f : Filling). row_with e.place e.phase (filled_copy f e.copy)) same

-- whatever fits a row, its slim row is the same
pub said_slim : (e : CopyRow) (said : CopyContent) → HasBytesOf e.copy said → slim (filled_with said e) ≡ slim e
said_slim e said has =
    let bytes = length (props (sent_of (said_by said))) in
    ap (λ (n : ℕ). row_with e.place e.phase (bare bytes (number_at MessageExpiryInterval said.properties) n e.copy)) has.payload
    ∙ ap₂ (λ (n : ℕ) (i : Option ℕ). row_with e.place e.phase (bare n i (length e.copy.content.payload) e.copy)) has.properties has.interval
