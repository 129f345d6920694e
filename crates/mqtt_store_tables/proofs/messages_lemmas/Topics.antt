-- SELECT pub of the retained message for a topic, from its text on.
use Rattle.std.proofs.Common.{◌≡◌, ℕ, Bool, true, false, ◌&&◌, List, [], ◌∷◌, codes, refl, sym, inr, inl, true≢false}
use Rattle.std.specs.List.{list_any}
use Rattle.std.proofs.lemmas.Bool.{false_from_ne_true, and_from}
use Rattle.sqlite_value.specs.declared.value.Value.TheVariants.{Text}
use Rattle.sqlite_value.specs.Keys.{plain, first_key}
use Rattle.sqlite_value.specs.Order.{Row}
use Rattle.sqlite_trees.specs.Tree.{Trees, rowid}
use Rattle.sqlite_schema.specs.Rules.{agree, differ, Obeys}
use Rattle.sqlite_schema.specs.declared.schema.Constraint.TheVariants.{Unique}
use Rattle.sqlite_schema.specs.declared.schema.Schema.{Schema}
use Rattle.sqlite_resolve.specs.Compile.{first}
use Rattle.sqlite_rules.specs.Lists.{Has}
use Rattle.sqlite_rules.proofs.ListLemmas.{all_has, some_from}
use Rattle.sqlite_rules.proofs.RuleLemmas.{keeps_at}
use Rattle.sqlite_rules.proofs.KeyLemmas.{agree_back, agree_chain}
use Rattle.sqlite_rules.proofs.PlaceLemmas.{tied_same}
use Rattle.sqlite_rules.proofs.TableLemmas.{int_is}
use Rattle.sqlite.specs.Command.TheVariants.{Select}
use Rattle.sqlite.specs.Term.{Term, col}
use Rattle.sqlite.specs.Listing.{understood, reads_listing}
use Rattle.sqlite.specs.State.{State, Shown}
use Rattle.sqlite_tied.specs.Compute.{everything}
use Rattle.sqlite.proofs.Callers.{IsPlain, command_of}
use Rattle.mqtt_store_tables.proofs.forms_lemmas.Plain.{IsSelect, ShowsOnly, text_shows}
use Rattle.mqtt_store_tables.specs.schema.Tables.{kept}
use Rattle.mqtt_store_tables.specs.declared.schema.tables.Making.{Making}
use Rattle.mqtt_store_tables.specs.declared.schema.tables.Making.TheVariants.{New, TakenOver}
use Rattle.mqtt_store_tables.specs.statements.Layout.{second_layout, schema_of}
use Rattle.mqtt_store_tables.specs.statements.Content.{is_text, IsShapedAt, IsWhole}
use Rattle.mqtt_store_tables.proofs.statements_lemmas.tables.Numbers.{same_rowid}
use Rattle.mqtt_store_tables.proofs.statements_lemmas.tables.Commands.{over, program, equals}
use Rattle.mqtt_store_tables.proofs.statements_lemmas.tables.Fresh.{and_true}
use Rattle.mqtt_store_tables.specs.messages.Places.{kept_tree}
use Rattle.mqtt_store_tables.proofs.messages_lemmas.Behind.{kept_shaped}
use Rattle.mqtt_store_tables.proofs.messages_lemmas.Pubs.{pub_names}
use Rattle.mqtt_store_tables.proofs.messages_lemmas.Reading.{Told, tells}

abbrev pub topic_text : List ℕ
topic_text = codes "SELECT pub FROM kept WHERE topic = ?1"

-- the row of the topic
abbrev by_topic : List Term
by_topic = equals 2 0 ∷ []

topic_is_select : IsSelect (first topic_text)
unfolding everything
topic_is_select = (_, refl)

-- whatever the schema, the question for the message of a topic writes nothing
pub topic_shows : (schema : Schema) → ShowsOnly (understood schema topic_text)
topic_shows schema = text_shows schema topic_text topic_is_select

record Asks (making : Making) : Type 0 where
  command : command_of (understood (schema_of (second_layout making)) topic_text) ≡ Select (program (over (kept_tree making) by_topic (col 1 4 ∷ []))) pub_names
  plain : IsPlain (understood (schema_of (second_layout making)) topic_text)
  unlisted : reads_listing (schema_of (second_layout making)) topic_text ≡ false

means : (making : Making) → Asks making
unfolding understood everything
means New = record { command = refl; plain = (refl, refl); unlisted = refl }
means TakenOver = record { command = refl; plain = (refl, refl); unlisted = refl }

kept_listed : (making : Making) → Has (schema_of (second_layout making)).tables (kept (kept_tree making))
kept_listed New = inr (inr (inr (inr (inr (inr (inr (inl refl)))))))
kept_listed TakenOver = inr (inr (inr (inr (inr (inr (inr (inr (inr (inl refl)))))))))

abbrev has_topic_of : Row → Row → Bool
has_topic_of one other = agree plain (2 ∷ []) other (2 ∷ []) one && differ (rowid other) (rowid one)

unclashed : (making : Making) (db : Trees) (one : Row) → Obeys (schema_of (second_layout making)) db → Has (db (kept_tree making)) one → list_any (has_topic_of one) (db (kept_tree making)) ≡ true → ⊥
unfolding first_key
unclashed New db one obeys has clash =
    let held = keeps_at Unique (schema_of (second_layout New)) db (kept 12) one (obeys.rules Unique) (kept_listed New) has in
    let bad = rw clash at held in true≢false (sym bad)
unclashed TakenOver db one obeys has clash =
    let held = keeps_at Unique (schema_of (second_layout TakenOver)) db (kept 16) one (obeys.rules Unique) (kept_listed TakenOver) has in
    let bad = rw clash at held in true≢false (sym bad)

-- no two retained messages have one topic
pub one_topic : (making : Making) (db : Trees) (topic : List ℕ) (x one : Row) → Obeys (schema_of (second_layout making)) db → IsShapedAt db (kept_tree making) → Has (db (kept_tree making)) x → Has (db (kept_tree making)) one
    → is_text 2 topic x ≡ true → is_text 2 topic one ≡ true → x ≡ one
unfolding first_key
one_topic making db topic x one obeys shaped hx ho px po =
    let rows = db (kept_tree making) in
    let params = Text topic ∷ [] in
    let ax : agree plain (2 ∷ []) x (0 ∷ []) params ≡ true = and_from _ _ px refl in
    let ao : agree plain (2 ∷ []) one (0 ∷ []) params ≡ true = and_from _ _ po refl in
    let both : agree plain (2 ∷ []) x (2 ∷ []) one ≡ true = agree_chain plain (2 ∷ []) (0 ∷ []) (2 ∷ []) x params one ax (agree_back plain (2 ∷ []) (0 ∷ []) one params ao) in
    let near = false_from_ne_true (differ (rowid x) (rowid one)) (λ d. unclashed making db one obeys ho (some_from (has_topic_of one) rows x hx (and_from _ _ both d))) in
    let ix = int_is (rowid x) (all_has _ rows x shaped.ints hx) in
    let io = int_is (rowid one) (all_has _ rows one shaped.ints ho) in
    tied_same rows x one shaped.up hx ho (rw (ix, io) (same_rowid _ _ (rw (ix, io) at near)))

-- the question for the message of a topic is told the number in its row
pub topic_told : (making : Making) (topic : List ℕ) (old new : State) → IsWhole (second_layout making) old → (rows : List Row) → Shown topic_text (Text topic ∷ []) old new rows → Told (kept_tree making) 4 (is_text 2 topic) old.now.trees rows
topic_told making topic old new whole rows shown =
    let shaped = kept_shaped making old whole in
    tells (second_layout making) topic_text (kept_tree making) 4 by_topic pub_names (Text topic ∷ []) (is_text 2 topic) (λ r. and_true (is_text 2 topic r))
    (means making).command (means making).plain (means making).unlisted old new whole shaped
    (λ r x hr hx pr px. one_topic making old.now.trees topic r x whole.obeys shaped hr hx pr px) rows shown
