-- What the tables of schema 2 say of copies where they keep records, and what the question then shows.
use Rattle.std.proofs.Common.{◌≡◌, ℕ, List, ◌⊎◌, Result, Ok, Err, IfErr, IsErrOf, inl, inr, ap, refl}
use Rattle.sqlite_value.specs.declared.value.Value.TheVariants.{Null}
use Rattle.sqlite_value.specs.Order.{Row}
use Rattle.sqlite_trees.specs.Tree.{Trees}
use Rattle.sqlite.specs.State.{State, Shown}
use Rattle.sqlite.proofs.Callers.{reads_as}
use Rattle.mqtt_props.specs.Properties.{Prop}
use Rattle.mqtt_records.specs.declared.state.records.Records.{Records}
use Rattle.mqtt_keep.specs.declared.keeping.keep.KeepError.{KeepError}
use Rattle.mqtt_keep.specs.declared.keeping.keep.KeepError.TheVariants.{Memory, Disk, Corrupt}
use Rattle.mqtt_store_rows.specs.values.Lists.{AreRows}
use Rattle.mqtt_store_rows.specs.values.Ones.{one_number, one_text, one_blob, one_passed}
use Rattle.mqtt_store_rows.proofs.values_lemmas.LawfulLemmas.{lawful_within}
use Rattle.mqtt_store_tables.specs.schema.Tables.{second_schema, free_tree}
use Rattle.mqtt_store_tables.specs.declared.schema.tables.Making.{Making}
use Rattle.mqtt_store_rows.specs.rows.Ones.{one_identifiers}
use Rattle.mqtt_store_rows.specs.rows.Gives.{parts_of}
use Rattle.mqtt_store_database.specs.reading.Kept.{HasRecordsTwo}
use Rattle.mqtt_records.specs.messages.Content.{CopyContent}
use Rattle.mqtt_records.specs.state.Telling.{contents_from}
use Rattle.mqtt_store_database.specs.telling.Said.{SaysCopyContent}
use Rattle.mqtt_store_database.proofs.telling_lemmas.Shown.{asked_for}
use Rattle.mqtt_store_database.proofs.telling_lemmas.Far.{near}
use Rattle.mqtt_store_database.proofs.telling_lemmas.Asking.{contents_text, contents_means}
use Rattle.mqtt_store_database.proofs.telling_lemmas.Answered.{AreKept, answer_says}

kept_of : (making : Making) (db : Trees) (r : Records) → HasRecordsTwo making db r → AreKept db (free_tree making) r.sessions
kept_of making db r has =
    let within = lawful_within r has.lawful in
    record {
      messages = has.gives.messages;
      rows = has.rows.messages;
      queued = has.rows.queued;
      of_messages = has.listed.added.messages;
      of_queued = has.listed.added.queued;
      say = has.gives.said;
      order = has.gives.order.ascending;
      queues = has.gives.by.sessions.queues;
      own = has.rows.sessions;
      parts = parts_of has.rows;
      sessions = has.gives.by.sessions.others;
      births = within.sessions.ascending;
      within = within.each;
    }

-- where records are kept, the rows that are shown say the first copies
pub answers : (making : Making) (birth place limit : ℕ) (old new : State) (rows : List Row) (r : Records) → old.now.schema ≡ second_schema making → HasRecordsTwo making old.now.trees r
    → Shown contents_text (asked_for (near birth) (near place) limit) old new rows → AreRows SaysCopyContent rows (contents_from birth place limit r)
answers making birth place limit old new rows r schema has shown =
    let it = contents_means making in
    let read = reads_as contents_text (asked_for (near birth) (near place) limit) old new (second_schema making) schema _ it.command it.plain it.unlisted rows shown in
    answer_says old.now.trees (free_tree making) birth place limit r.sessions rows (kept_of making old.now.trees r has) (read.answer Null)

-- ---- a row says one thing

abbrev pub content_with : ℕ → List ℕ → List ℕ → List Prop → List ℕ → CopyContent
content_with place identifiers topic properties payload = record { place = place; identifiers = identifiers; topic = topic; properties = properties; payload = payload }

-- what is said of a copy is one if its parts are
pub same_content : (a b : ℕ) (c d e f : List ℕ) (g h : List Prop) (i j : List ℕ) → a ≡ b → c ≡ d → e ≡ f → g ≡ h → i ≡ j → content_with a c e g i ≡ content_with b d f h j
same_content a b c d e f g h i j p q r s t = rw (p, q, r, s, t) refl

-- so two things that a row says of a copy are one
pub one_content : (x y : CopyContent) (row : Row) → SaysCopyContent x row → SaysCopyContent y row → x ≡ y
one_content x y row h k =
    same_content _ _ _ _ _ _ _ _ _ _ (one_number _ _ _ h.place k.place) (one_identifiers _ _ _ h.identifiers k.identifiers) (one_text _ _ _ h.topic k.topic)
    (one_passed _ _ _ h.properties k.properties) (one_blob _ _ _ h.payload k.payload)

-- ---- faults

-- what isn't corrupt is want of memory, or the device's
pub not_corrupt : {A : Type 0} (result : Result A KeepError) → IfErr result (λ e. (e ≡ Memory) ⊎ (e ≡ Corrupt)) → (IsErrOf result Corrupt → ⊥) → IfErr result (λ e. (e ≡ Memory) ⊎ (e ≡ Disk))
not_corrupt (Ok a) fault none = tt
not_corrupt (Err e) (inl is) none = inl is
not_corrupt (Err e) (inr is) none = absurd (none (ap Err is))
