-- The table of messages after those went to which something referred, and nothing does now.
use Rattle.std.proofs.Common.{◌≡◌, pos, true, false, refl, sym, ap, ◌∙◌, subst, inl, inr, true≢false}
use Rattle.std.proofs.lemmas.Bool.{cases_Bool}
use Rattle.sqlite_value.specs.Order.{Row}
use Rattle.sqlite_trees.specs.Tree.{Trees, rowid}
use Rattle.sqlite_rules.specs.Edit.{id_in}
use Rattle.mqtt_records.specs.declared.state.records.Records.{Records}
use Rattle.mqtt_records.specs.state.Contents.{StoredMessage, IsMessageOf, AgreesWith}
use Rattle.mqtt_store_tables.specs.declared.schema.tables.Making.{Making}
use Rattle.mqtt_store_tables.specs.messages.Places.{message_tree}
use Rattle.mqtt_store_tables.specs.messages.Messages.{is_referred}
use Rattle.mqtt_store_tables.specs.messages.Letting.{is_let_go}
use Rattle.mqtt_store_database.specs.item_laws.Written.{AreWritten}
use Rattle.mqtt_store_database.proofs.item_laws_lemmas.tables.Tables.{without_rows}
use Rattle.mqtt_store_database.specs.row_laws.Messages.{EitherSays}
use Rattle.mqtt_store_database.specs.row_laws.Items.{IsMessageRow}
use Rattle.mqtt_store_database.specs.row_laws.Steps.{DropsLast}
use Rattle.mqtt_store_database.proofs.row_laws_lemmas.tables.Sweep.{AreReferred, referred, referring}

module _ (making : Making) (q r : Records) (old mid new : Trees) (agree : (m : StoredMessage) → IsMessageOf q m → AgreesWith r m) (before : AreReferred making q old) (after : AreReferred making r mid) where
  at_number : (m : StoredMessage) (row : Row) (db : Trees) → IsMessageRow m row → is_referred making (id_in (rowid row)) db ≡ is_referred making (pos m.publication) db
  at_number m row db is = ap (λ (x : Row). is_referred making (id_in (rowid x)) db) is

  stay : (m : StoredMessage) (row : Row) → IsMessageRow m row → IsMessageOf r m → is_let_go making old mid row ≡ false
  stay m row is said = elim (cases_Bool (is_referred making (id_in (rowid row)) old)) [
    | inl was ↦ rw (was, at_number m row mid is ∙ referred making r mid after m said) refl
    | inr none ↦ rw none refl
  ]

  still : (m : StoredMessage) (row : Row) → IsMessageRow m row → IsMessageOf q m → is_let_go making old mid row ≡ false → IsMessageOf r m
  still m row is was out = elim (cases_Bool (is_referred making (id_in (rowid row)) mid)) [
    | inl kept ↦
        let it = referring making r mid after m.publication (sym (at_number m row mid is) ∙ kept) in
        subst (IsMessageOf r) (agree m was it.0 it.1 it.2) it.1
    | inr none ↦
        let goes : is_let_go making old mid row ≡ true = rw (at_number m row old is ∙ referred making q old before m was, none) refl in
        absurd (true≢false (sym goes ∙ out))
  ]

  -- if messages stand of what was said and of what is said, those of what is said are left
  pub let_go_table : AreWritten IsMessageRow (EitherSays q r) (mid (message_tree making)) → DropsLast making old mid new
      → AreWritten IsMessageRow (IsMessageOf r) (new (message_tree making))
  let_go_table written removes = without_rows IsMessageRow (EitherSays q r) (IsMessageOf r) (IsMessageOf r) (is_let_go making old mid) (mid (message_tree making))
      (λ m row item there is out. elim item [ inl was ↦ still m row is was out | inr said ↦ said ])
      (λ m row item there is said. stay m row is said)
      written (new (message_tree making)) removes.rows
      (λ m said. (inr said, said))
      (λ m it. it.1)
