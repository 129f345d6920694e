-- Messages that have one number have one row, so they say the same.
use Rattle.std.proofs.Common.{◌≡◌, ℕ, pos, List, [], ◌++◌, refl, sym, ap, ◌∙◌, inl, inr}
use Rattle.std.proofs.lemmas.Cmp.{tied_itself}
use Rattle.sqlite_value.specs.declared.value.Value.{Value}
use Rattle.sqlite_value.specs.declared.value.Value.TheVariants.{Int, Text, Blob}
use Rattle.sqlite_value.specs.Order.{Row, column}
use Rattle.sqlite_value.proofs.OrderLemmas.{value_cmp_total}
use Rattle.sqlite_trees.specs.Tree.{Trees, rowid}
use Rattle.sqlite_rules.specs.Lists.{Has}
use Rattle.sqlite_rules.proofs.PlaceLemmas.{tied_same}
use Rattle.mqtt_base.proofs.Steps.{ok_is}
use Rattle.mqtt_props.specs.Properties.{Prop, FitsBlock, block}
use Rattle.mqtt_props.specs.Reading.{block_at}
use Rattle.mqtt_props.proofs.Blocks.{block_again}
use Rattle.mqtt_records.specs.declared.state.records.Records.{Records}
use Rattle.mqtt_records.specs.state.Contents.{StoredMessage, IsMessageOf, SharesContents}
use Rattle.mqtt_store_tables.specs.declared.schema.tables.Making.{Making}
use Rattle.mqtt_store_tables.specs.statements.Content.{IsShapedAt}
use Rattle.mqtt_store_tables.specs.messages.Places.{message_tree}
use Rattle.mqtt_store_tables.specs.messages.Rows.{message_row}
use Rattle.mqtt_store_database.specs.item_laws.Written.{AreWritten, AreSayable}
use Rattle.mqtt_store_database.specs.row_laws.Items.{IsMessageRow, message_columns}

-- properties with the same block are the same
block_one : (ps qs : List Prop) → FitsBlock ps → FitsBlock qs → block ps ≡ block qs → ps ≡ qs
block_one ps qs h k same =
    let first = block_again ps [] h in
    let second = block_again qs [] k in
    let pair : (ps, []) ≡ (qs, []) = ok_is (ps, []) (qs, []) (sym first ∙ (ap (λ (b : List ℕ). block_at (b ++ [])) same ∙ second)) in
    ap (λ (x : List Prop × List ℕ). x.0) pair

abbrev text_in : Value → List ℕ
text_in (Text t) = t
text_in _ = []

abbrev blob_in : Value → List ℕ
blob_in (Blob b) = b
blob_in _ = []

abbrev message : ℕ → List ℕ → List Prop → List ℕ → StoredMessage
message publication topic properties payload = record { publication = publication; topic = topic; properties = properties; payload = payload }

same_message : (a b : ℕ) (c d : List ℕ) (e f : List Prop) (g h : List ℕ) → a ≡ b → c ≡ d → e ≡ f → g ≡ h → message a c e g ≡ message b d f h
same_message a b c d e f g h p q r s = rw (p, q, r, s) refl

-- what is said has a spelling, if rows can say its items
fits_said : (r : Records) → AreSayable r → (m : StoredMessage) → IsMessageOf r m → FitsBlock m.properties
fits_said r sayable m (inl it) = rw it.3 (sayable.copies it.0 it.1 it.2).spelled
fits_said r sayable m (inr it) = rw it.2 (sayable.retained it.0 it.1)

module _ (making : Making) (db : Trees) (r : Records) (sayable : AreSayable r) (shaped : IsShapedAt db (message_tree making)) (written : AreWritten IsMessageRow (IsMessageOf r) (db (message_tree making))) where
  -- two rows of one number are one
  one_row : (m n : StoredMessage) (a b : Row) → Has (db (message_tree making)) a → Has (db (message_tree making)) b → IsMessageRow m a → IsMessageRow n b → n.publication ≡ m.publication → b ≡ a
  one_row m n a b ha hb is also same =
      let first : rowid a ≡ Int (pos m.publication) = ap rowid is in
      let second : rowid b ≡ Int (pos m.publication) = ap rowid also ∙ ap (λ (k : ℕ). Int (pos k)) same in
      tied_same (db (message_tree making)) b a shaped.up hb ha (rw (first, second) (tied_itself value_cmp_total (Int (pos m.publication))))

  -- what the rows say of one number is the same
  pub rows_share : SharesContents r
  rows_share m said n also same =
      let a = written.each m said in
      let b = written.each n also in
      let rows : message_row n.publication (message_columns n) ≡ message_row m.publication (message_columns m) = sym b.2 ∙ (one_row m n a.0 b.0 a.1 b.1 a.2 b.2 same ∙ a.2) in
      same_message n.publication m.publication n.topic m.topic n.properties m.properties n.payload m.payload same
      (ap (λ (x : Row). text_in (column x 2)) rows)
      (block_one n.properties m.properties (fits_said r sayable n also) (fits_said r sayable m said) (ap (λ (x : Row). blob_in (column x 3)) rows))
      (ap (λ (x : Row). blob_in (column x 4)) rows)
