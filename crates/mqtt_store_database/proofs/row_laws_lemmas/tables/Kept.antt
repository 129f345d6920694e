-- The table of retained messages after one is put or removed.
use Rattle.std.proofs.Common.{◌≡◌, ◌≢◌, ℕ, pos, Bool, true, false, ◌||◌, List, [], ◌∷◌, refl, ap, ◌∙◌, inl, inr}
use Rattle.std.specs.List.{All}
use Rattle.std.proofs.lemmas.Bool.{false_from_ne_true}
use Rattle.std.proofs.lemmas.List.Elements.{All-contains}
use Rattle.std.proofs.lemmas.Slice.Eq.{bytes_eq-Decides}
use Rattle.sqlite_value.specs.declared.value.Value.TheVariants.{Int, Text}
use Rattle.sqlite_value.specs.Order.{Row, column}
use Rattle.sqlite_trees.specs.Tree.{Trees}
use Rattle.sqlite_rules.specs.Lists.{Has}
use Rattle.sqlite_rules.proofs.ListLemmas.{contains_had}
use Rattle.mqtt_records.specs.declared.messages.message.RetainedMessage.{RetainedMessage}
use Rattle.mqtt_records.specs.declared.state.records.Records.{Records}
use Rattle.mqtt_records.specs.declared.state.change.Change.TheVariants.{PutRetained, RemoveRetained}
use Rattle.mqtt_records.specs.state.Records.{changed, Fits, kept_place}
use Rattle.mqtt_records.specs.lists.Order.{IsAscending}
use Rattle.mqtt_records.specs.state.Members.{Has as HasItem}
use Rattle.mqtt_store_tables.specs.declared.schema.tables.Making.{Making}
use Rattle.mqtt_store_tables.specs.statements.Layout.{second_layout}
use Rattle.mqtt_store_tables.specs.statements.Content.{is_of, IsShapedAt}
use Rattle.mqtt_store_tables.specs.statements.Put.{PutsInto, is_retained}
use Rattle.mqtt_store_tables.specs.statements.Removal.{RemovesFrom}
use Rattle.mqtt_store_tables.proofs.statements_lemmas.steps.Stands.{key_free}
use Rattle.mqtt_store_tables.specs.messages.Places.{kept_tree}
use Rattle.mqtt_store_tables.specs.messages.Rows.{kept_row}
use Rattle.mqtt_store_database.specs.item_laws.Written.{AreWritten}
use Rattle.mqtt_store_database.proofs.item_laws_lemmas.records.Owns.{retained_new, retained_old, retained_out_new, retained_out_old}
use Rattle.mqtt_store_database.proofs.item_laws_lemmas.tables.Keys.{missed_number, other_number, number_found, is_text_bytes}
use Rattle.mqtt_store_database.proofs.item_laws_lemmas.tables.Tables.{without_rows, with_row}
use Rattle.mqtt_store_database.specs.row_laws.Items.{IsKeptRow, kept_columns}

-- a retained message's row has its place as its number
pub kept_at : (x : RetainedMessage) (row : Row) → IsKeptRow x row → column row 0 ≡ Int (pos x.place)
kept_at x row is = ap (λ (r : Row). column r 0) is

kept_topic : (x : RetainedMessage) (row : Row) → IsKeptRow x row → column row 2 ≡ Text x.content.topic
kept_topic x row is = ap (λ (r : Row). column r 2) is

-- the row of the retained message at a place is found by it
pub kept_found : (x : RetainedMessage) (row : Row) (place : ℕ) → IsKeptRow x row → x.place ≡ place → is_of 0 (pos place) row ≡ true
kept_found x row place is at = number_found 0 x.place place row (kept_at x row is) at

to_has : {X : Type 0} (xs : List X) (x : X) → HasItem xs x → Has xs x
to_has [] x h = absurd h
to_has (y ∷ ys) x (inl same) = inl same
to_has (y ∷ ys) x (inr later) = inr (to_has ys x later)

all_had : {X : Type 0} (P : X → Type 0) (xs : List X) (x : X) → All P xs → HasItem xs x → P x
all_had P xs x all h = All-contains P xs x all (contains_had xs x (to_has xs x h))

neither : (a b : Bool) → (a || b) ≡ false → a ≡ false
neither true b h = h
neither false b h = refl

both_missed : (a b : Bool) → a ≡ false → b ≡ false → (a || b) ≡ false
both_missed true b h k = h
both_missed false b h k = k

module _ (making : Making) (r : Records) (by_place : IsAscending kept_place r.retained) (old new : Trees) (written : AreWritten IsKeptRow (HasItem r.retained) (old (kept_tree making))) where
  module _ (shaped : IsShapedAt old (kept_tree making)) (kept : RetainedMessage) (fits : Fits (PutRetained kept) r)
      (puts : PutsInto (second_layout making) (kept_tree making) (kept_row kept.place (kept_columns kept)) (is_retained kept.place kept.content.topic) old new) where
    abbrev put : Row
    put = kept_row kept.place (kept_columns kept)

    abbrev gone : Row → Bool
    gone = is_retained kept.place kept.content.topic

    abbrev Other : RetainedMessage → Type 0
    Other x = x.place ≢ kept.place

    out : (x : RetainedMessage) (row : Row) → IsKeptRow x row → gone row ≡ false → Other x
    out x row is missed = missed_number 0 x.place kept.place row (kept_at x row is) (neither _ _ missed)

    -- the message to that topic is the one at that place
    stay : (x : RetainedMessage) (row : Row) → HasItem r.retained x → IsKeptRow x row → Other x → gone row ≡ false
    stay x row item is other = both_missed _ _ (other_number 0 x.place kept.place row (kept_at x row is) other)
        (is_text_bytes 2 x.content.topic kept.content.topic row (kept_topic x row is) ∙ false_from_ne_true _ (λ same.
        other (all_had (λ (m : RetainedMessage). m.content.topic ≡ kept.content.topic → m.place ≡ kept.place) r.retained x fits.1 item
        ((bytes_eq-Decides x.content.topic kept.content.topic).0 same))))

    -- after a message is retained, the table has its row and the rows of those at other places
    pub put_kept_table : AreWritten IsKeptRow (HasItem (changed (PutRetained kept) r).retained) (new (kept_tree making))
    put_kept_table = with_row IsKeptRow (HasItem r.retained) (HasItem (changed (PutRetained kept) r).retained) Other gone (old (kept_tree making))
        (λ x row item there is missed. out x row is missed)
        (λ x row item there is other. stay x row item is other)
        written
        (λ x. x ≡ kept) (kept_tree making) put old new refl puts
        (key_free (kept_tree making) (pos kept.place) [] gone old shaped (λ row missed. neither _ _ missed))
        (kept, refl)
        (λ x new. rw new refl)
        (λ x n. retained_new kept r fits.0 by_place x n)
        (λ x it. retained_old kept r fits.0 by_place x it)

  module _ (place : ℕ) (removes : RemovesFrom (second_layout making) (kept_tree making) (is_of 0 (pos place)) old new) where
    -- after a retained message is removed, the table has the rows of those at other places
    pub removed_kept_table : AreWritten IsKeptRow (HasItem (changed (RemoveRetained place) r).retained) (new (kept_tree making))
    removed_kept_table = without_rows IsKeptRow (HasItem r.retained) (HasItem (changed (RemoveRetained place) r).retained) (λ x. x.place ≢ place) (is_of 0 (pos place)) (old (kept_tree making))
        (λ x row item there is missed. missed_number 0 x.place place row (kept_at x row is) missed)
        (λ x row item there is other. other_number 0 x.place place row (kept_at x row is) other)
        written (new (kept_tree making)) removes.rows
        (λ x n. retained_out_new place r x n)
        (λ x it. retained_out_old place r x it)
