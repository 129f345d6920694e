-- Tables of schema 2 that are written from records tell what their waiting copies say.
use Rattle.std.proofs.Common.{◌≡◌, ℕ, pos, true, List, [], refl, ap, ◌∙◌, subst}
use Rattle.std.specs.Prelude.{unwrap_or}
use Rattle.std.proofs.lemmas.Bool.{and_parts, and_from}
use Rattle.sqlite_value.specs.Order.{Row, column, bytes}
use Rattle.sqlite_trees.specs.Tree.{Trees}
use Rattle.mqtt_props.specs.Properties.{Prop}
use Rattle.mqtt_props.specs.Reading.{block_at}
use Rattle.mqtt_records.specs.messages.Queue.{CopyRow}
use Rattle.mqtt_records.specs.messages.Filling.{Filling, filling_of}
use Rattle.mqtt_records.specs.declared.state.records.Records.{Records}
use Rattle.mqtt_records.specs.state.Members.{InQueue}
use Rattle.mqtt_records.specs.state.Session.{copy_place}
use Rattle.mqtt_records.specs.state.Telling.{queue_at, AreTold}
use Rattle.mqtt_store_rows.specs.values.Values.{number}
use Rattle.mqtt_store_tables.specs.declared.schema.tables.Making.{Making}
use Rattle.mqtt_store_tables.specs.statements.Content.{is_of}
use Rattle.mqtt_store_tables.specs.statements.Removal.{is_keyed}
use Rattle.mqtt_store_tables.proofs.statements_lemmas.tables.Numbers.{own_number}
use Rattle.mqtt_store_database.specs.row_laws.Written.{KeepsRowsTwo}
use Rattle.mqtt_store_database.specs.telling.Told.{copy_in, is_message_for, message_for, identifiers_read, properties_read, filling_said, told_with, told_in}
use Rattle.mqtt_store_database.proofs.telling_lemmas.Back.{identifiers_fit, identifiers_back, properties_back}
use Rattle.mqtt_store_database.proofs.telling_lemmas.Standing.{found_stands, queue_stands, same_numbers, alone_found, queued, messages, own_row, only_own, message_own, only_message}

abbrev filling_with : List ℕ → List Prop → List ℕ → Filling
filling_with identifiers properties payload = record { identifiers = identifiers; properties = properties; payload = payload }

same_filling : (a b : List ℕ) (c d : List Prop) (e f : List ℕ) → a ≡ b → c ≡ d → e ≡ f → filling_with a c e ≡ filling_with b d f
same_filling a b c d e f p q s = rw (p, q, s) refl

module _ (making : Making) (db : Trees) (r : Records) (k : KeepsRowsTwo making db r) (birth : ℕ) (x : CopyRow) (stands : InQueue r birth x) where
  abbrev own : Row
  own = (own_row making db r k birth x stands).0

  abbrev message : Row
  message = (message_own making db r k birth x stands).0

  -- the copy's row is found by its place
  own_found : copy_in birth x.place (queued making db r k) ≡ own
  own_found =
      let it = own_row making db r k birth x stands in
      let keyed : is_keyed (pos birth) (pos x.place) own ≡ true = rw it.2.1 (and_from _ _ (own_number birth) (own_number x.place)) in
      ap (λ o. unwrap_or o []) (alone_found (is_keyed (pos birth) (pos x.place)) (queued making db r k) own it.1 keyed (λ row has is.
      let other = k.rows.queued.only row has in
      let first : column row 1 ≡ number other.0.0 = ap (λ (l : Row). column l 1) other.2.1 in
      let second : column row 2 ≡ number other.0.1.place = ap (λ (l : Row). column l 2) other.2.1 in
      let both = and_parts (is_of 1 (pos birth) row) (is_of 2 (pos x.place) row) is in
      only_own making db r k birth x stands row has
      (first ∙ ap number (same_numbers other.0.0 birth (rw first at both.0)))
      (second ∙ ap number (same_numbers other.0.1.place x.place (rw second at both.1)))))

  -- and that of its message by its number
  message_found : message_for own (messages making db r k) ≡ message
  message_found =
      let it = message_own making db r k birth x stands in
      let refers : column own 3 ≡ number x.copy.id.publication = ap (λ (l : Row). column l 3) (own_row making db r k birth x stands).2.1 in
      let numbered : column message 0 ≡ number x.copy.id.publication = ap (λ (l : Row). column l 0) it.2 in
      let is_for : is_message_for own message ≡ true = rw (refers, numbered) (own_number x.copy.id.publication) in
      ap (λ o. unwrap_or o []) (alone_found (is_message_for own) (messages making db r k) message it.1 is_for (λ row has is.
      let other = k.rows.messages.only row has in
      let first : column row 0 ≡ number other.0.publication = ap (λ (l : Row). column l 0) other.2 in
      only_message making db r k birth x stands row has
      (first ∙ ap number (same_numbers other.0.publication x.copy.id.publication (rw (first, refers) at is)))))

  -- together they say what the copy says
  both_say : filling_said own message ≡ filling_of x.copy
  both_say =
      let mine = (own_row making db r k birth x stands).2.1 in
      let its = (message_own making db r k birth x stands).2 in
      let sayable = k.sayable.copies birth x stands in
      same_filling _ _ _ _ _ _
      (ap (λ (l : Row). identifiers_read (bytes (column l 12))) mine ∙ identifiers_back x.copy.identifiers (identifiers_fit x.copy sayable.sent))
      (ap (λ (l : Row). properties_read (block_at (bytes (column l 3)))) its ∙ properties_back x.copy.content.properties sayable.spelled)
      (ap (λ (l : Row). bytes (column l 4)) its)

  told_there : told_in making db birth x.place ≡ filling_of x.copy
  told_there =
      ap (told_with (messages making db r k)) own_found
      ∙ (ap (filling_said own) message_found ∙ both_say)

-- what is told for the place of a copy that stands is what it says
pub rows_tell : (making : Making) (db : Trees) (r : Records) → KeepsRowsTwo making db r → AreTold (told_in making db) r
rows_tell making db r k birth place x found =
    let it = found_stands copy_place place (queue_at birth r) x found in
    subst (λ (n : ℕ). told_in making db birth n ≡ filling_of x.copy) it.1 (told_there making db r k birth x (queue_stands birth r x it.0))
