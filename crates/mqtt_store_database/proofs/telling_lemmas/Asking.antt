-- What the question for the first copies from a place on means, and what it leaves.
use Rattle.std.proofs.Common.{◌≡◌, ℕ, List, [], ◌∷◌, codes, Ok, Err, Result, IfOk, IfErr, OnOk, IsTrue, Vec, Global, false, refl, subst, inl, inr}
use Rattle.sqlite_value.specs.Order.{Row}
use Rattle.sqlite_trees.specs.Tree.{Trees}
use Rattle.sqlite_schema.specs.declared.schema.Schema.{Schema}
use Rattle.sqlite_resolve.specs.Compile.{first}
use Rattle.sqlite.specs.declared.rows.Row.{Row as SqlRow}
use Rattle.sqlite.specs.declared.error.Error.{Error}
use Rattle.sqlite.specs.Listing.{understood}
use Rattle.sqlite.specs.State.{State, HasCleanDisk, IsUnchanged, Shown, ShowsRows, FailsToQuery, FailsToShow, IsNotRun, CommitsShowing, Survives}
use Rattle.sqlite.proofs.StateLemmas.{survives_weaker}
use Rattle.sqlite_tied.specs.Compute.{everything}
use Rattle.mqtt_store_tables.specs.forms.Settled.{Stays, OnlyReads}
use Rattle.mqtt_store_tables.proofs.forms_lemmas.Plain.{IsSelect, ShowsOnly, text_shows}
use Rattle.mqtt_store_tables.proofs.forms_lemmas.Staying.{unchanged_stays, rolled_stays}
use Rattle.mqtt_store_tables.specs.schema.Tables.{second_schema, free_tree}
use Rattle.mqtt_store_tables.specs.declared.schema.tables.Making.{Making}
use Rattle.mqtt_store_tables.specs.declared.schema.tables.Making.TheVariants.{New, TakenOver}
use Rattle.mqtt_store_database.proofs.asking_lemmas.Selects.{Means}
use Rattle.mqtt_store_database.proofs.telling_lemmas.Joined.{joined_query}

abbrev pub contents_text : List ℕ
contents_text =
    codes "SELECT queued.place, queued.idents, message.topic, message.props, message.payload FROM queued JOIN message ON message.pub = queued.pub WHERE queued.birth = ?1 AND queued.place >= ?2 ORDER BY queued.place LIMIT ?3"

abbrev pub contents_names : List (List ℕ)
contents_names = codes "place" ∷ codes "idents" ∷ codes "topic" ∷ codes "props" ∷ codes "payload" ∷ []

-- in schema 2 the text is the query that joins
pub contents_means : (making : Making) → Means (second_schema making) contents_text (joined_query (free_tree making)) contents_names
unfolding understood everything
contents_means New = record { command = refl; plain = (refl, refl); unlisted = refl }
contents_means TakenOver = record { command = refl; plain = (refl, refl); unlisted = refl }

contents_is_select : IsSelect (first contents_text)
unfolding everything
contents_is_select = (_, refl)

-- whatever the schema, it shows no row of a write
pub contents_shows : (schema : Schema) → ShowsOnly (understood schema contents_text)
contents_shows schema = text_shows schema contents_text contents_is_select

-- ---- a question with parameters

module _ (text : List ℕ) (params : Row) (old new : State) (plain : ShowsOnly (understood old.now.schema text)) where
  -- one that showed rows left the connection as it was
  shown_unchanged : (rows : List Row) → Shown text params old new rows → IsUnchanged old new
  unfolding Shown
  shown_unchanged rows h =
      let none = subst ShowsOnly h.1.is plain in
      (subst (ShowsRows old new text h.0 _ rows) none h.2).3

  not_run : (e : Error) → IsNotRun old new text params e → Stays old new
  unfolding IsNotRun
  not_run e (inl h) = unchanged_stays old new h.1
  not_run e (inr h) = rolled_stays old new h.3

  fails_stay : (e : Error) → FailsToQuery text params old new e → Stays old new
  unfolding FailsToQuery
  fails_stay e (inl h) = not_run e h
  fails_stay e (inr h) =
      let none = subst ShowsOnly h.1.is plain in
      unchanged_stays old new (subst (FailsToShow old new text h.0 _ e) none h.2).3

  query_stays : (r : Result (Vec SqlRow Global) Error) → IfOk r (λ rows. Shown text params old new rows.items) → IfErr r (FailsToQuery text params old new) → Stays old new
  query_stays (Ok rows) ok err = unchanged_stays old new (shown_unchanged rows.items ok)
  query_stays (Err e) ok err = fails_stay e err

  never_writes : (db : Trees) → CommitsShowing text params old db → ⊥
  unfolding CommitsShowing
  never_writes db h = let none = subst ShowsOnly h.1.is plain in absurd (let e = rw none at h.2 in cc)

  -- the clauses of `query_all` come to this
  pub query_reads : (r : Result (Vec SqlRow Global) Error) → (HasCleanDisk new → IfOk r (λ rows. Shown text params old new rows.items)) → (HasCleanDisk new → IfErr r (FailsToQuery text params old new))
      → (old.in_transaction ≡ false → new.in_transaction ≡ false) → Survives old new (CommitsShowing text params old) → OnlyReads old new
  query_reads r ok err mode it = record {
    survives = survives_weaker old new _ _ (λ _ db. never_writes db) it;
    mode = mode;
    stays = λ clean. query_stays r (ok clean) (err clean);
  }

  -- a question that was answered left the connection open
  pub query_is_open : (r : Result (Vec SqlRow Global) Error) → IfOk r (λ rows. Shown text params old new rows.items) → OnOk r (IsTrue new.is_open)
  query_is_open (Ok rows) ok = (shown_unchanged rows.items ok).0.is_open
  query_is_open (Err e) ok = tt
