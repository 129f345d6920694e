-- What was gathered of rows, when one more comes.
use Rattle.std.proofs.Common.{◌≡◌, ℕ, true, false, true≢false, List, [], ◌∷◌, ◌++◌, length-append, append_assoc, Result, Ok, Err, OnOk, sym, ap, subst, ◌∙◌, arith}
use Rattle.sqlite_value.specs.Order.{Row}
use Rattle.mqtt_records.specs.state.Contents.{StoredMessage}
use Rattle.mqtt_records.specs.lists.Order.{IsAbove, IsAscending, IsTable}
use Rattle.mqtt_store_rows.specs.values.Lists.{AreRows}
use Rattle.mqtt_store_rows.proofs.values_lemmas.ListLemmas.{are_push, are_at}
use Rattle.mqtt_store_rows.specs.declared.rows.message.TheConstants.{MESSAGE_LIMIT}
use Rattle.mqtt_store_rows.specs.rows.Rows.{SaysMessage}
use Rattle.mqtt_store_rows.specs.rows.Joins.{publication_of}
use Rattle.mqtt_store_rows.specs.rows.Ones.{one_message}
use Rattle.mqtt_store_rows.specs.gathering.Thin.{IsAlike, AreAlike}
use Rattle.mqtt_store_rows.specs.gathering.Gathered.{Gathered, AreMessages, SayNoMessages, HasTaken, HasAdded, MayNotFollow}
use Rattle.mqtt_store_rows.proofs.gathering_lemmas.Alike.{alike_back, table_alike}

-- what is so anyhow is so if a call was not refused
pub whatever : {E P : Type 0} (result : Result (Unit {0}) E) → P → OnOk result P
whatever (Ok x) p = p
whatever (Err e) p = tt

-- ---- lists

module _ {X : Type 0} (key : X → ℕ) where
  above_front : (n : ℕ) (xs ys : List X) → IsAbove key n (xs ++ ys) → IsAbove key n xs
  above_front n [] ys up = tt
  above_front n (x ∷ xs) ys up = (up.0, above_front n xs ys up.1)

  order_front : (xs ys : List X) → IsAscending key (xs ++ ys) → IsAscending key xs
  order_front [] ys up = tt
  order_front (x ∷ xs) ys up = (above_front (key x) xs ys up.0, order_front xs ys up.1)

  -- the front of a table is one
  table_front : (limit : ℕ) (xs ys : List X) → IsTable key limit (xs ++ ys) → IsTable key limit xs
  table_front limit xs ys table =
      let count = length-append xs ys in
      let few = table.within in
      record { ascending = order_front xs ys table.ascending; within = omega (arith, count, few) }

-- a row behind others that say these says the item behind them
item_behind : (rows : List Row) (row : Row) (more : List Row) (full all : List StoredMessage) (m : StoredMessage) → AreRows SaysMessage rows full → SaysMessage m row → AreRows SaysMessage (rows ++ row ∷ more) all
    → (rest : List StoredMessage) × (all ≡ (full ++ m ∷ []) ++ rest)
item_behind [] row more [] [] m are says those = absurd those
item_behind [] row more [] (x ∷ all) m are says those = (all, ap (λ (y : StoredMessage). y ∷ all) (one_message x m row those.0 says))
item_behind [] row more (x ∷ full) all m are says those = absurd are
item_behind (r ∷ rows) row more [] all m are says those = absurd are
item_behind (r ∷ rows) row more (x ∷ full) [] m are says those = absurd those
item_behind (r ∷ rows) row more (x ∷ full) (y ∷ all) m are says those =
    let rest = item_behind rows row more full all m are.1 says those.1 in
    (rest.0, ap (λ (z : StoredMessage). z ∷ all) (one_message y x r those.0 are.0) ∙ ap (λ (l : List StoredMessage). x ∷ l) rest.1)

alike_push : (whole : List ℕ) (ms ns : List StoredMessage) (m n : StoredMessage) → AreAlike whole ms ns → IsAlike whole m n → AreAlike whole (ms ++ m ∷ []) (ns ++ n ∷ [])
alike_push whole [] [] m n all here = (here, tt)
alike_push whole [] (y ∷ ns) m n all here = absurd all
alike_push whole (x ∷ ms) [] m n all here = absurd all
alike_push whole (x ∷ ms) (y ∷ ns) m n all here = (all.0, alike_push whole ms ns m n all.1 here)

-- ---- one more row

module _ (g : Gathered) (rows : List Row) (row : Row) (sound : g.is_corrupt ≡ false) (has : HasTaken g rows) where
  -- it says a message, which was put behind the others
  added : (m : StoredMessage) → SaysMessage m row → (h : Gathered) → HasAdded m g h → AreMessages g.whole h.messages (rows ++ row ∷ [])
  added m says h a =
      let read = has.read sound in
      let alike : AreAlike g.whole (read.full ++ m ∷ []) h.messages = subst (AreAlike g.whole (read.full ++ m ∷ [])) (sym a.is) (alike_push g.whole read.full g.messages m a.thin read.alike a.alike) in
      record {
        full = read.full ++ m ∷ [];
        said = are_push SaysMessage rows read.full row m read.said says;
        table = table_alike g.whole h.messages (read.full ++ m ∷ []) (alike_back g.whole (read.full ++ m ∷ []) h.messages alike) MESSAGE_LIMIT a.table;
        alike = alike;
      }

  -- it says one that may not stand there
  stops : (m : StoredMessage) → SaysMessage m row → MayNotFollow m g → SayNoMessages (rows ++ row ∷ [])
  stops m says n more all are table =
      let read = has.read sound in
      let behind = item_behind rows row more read.full all m read.said says (subst (λ (l : List Row). AreRows SaysMessage l all) (append_assoc rows (row ∷ []) more) are) in
      let front : IsTable publication_of MESSAGE_LIMIT (read.full ++ m ∷ []) = table_front publication_of MESSAGE_LIMIT (read.full ++ m ∷ []) behind.0 (subst (IsTable publication_of MESSAGE_LIMIT) behind.1 table) in
      n.refused (table_alike g.whole (read.full ++ m ∷ []) (g.messages ++ n.thin ∷ []) (alike_push g.whole read.full g.messages m n.thin read.alike n.alike) MESSAGE_LIMIT front)

  -- it says a message: it was put behind the others, or it may not stand there
  pub taken_more : (m : StoredMessage) → SaysMessage m row → (h : Gathered) → h.whole ≡ g.whole → (h.is_corrupt ≡ false → HasAdded m g h) → (h.is_corrupt ≡ true → MayNotFollow m g) → HasTaken h (rows ++ row ∷ [])
  taken_more m says h same put refused = record {
    read = λ is. subst (λ (l : List ℕ). AreMessages l h.messages (rows ++ row ∷ [])) (sym same) (added m says h (put is));
    none = λ is. stops m says (refused is);
  }

  -- the same, if memory was there for it
  pub taken_on : {E : Type 0} (result : Result (Unit {0}) E) (m : StoredMessage) → SaysMessage m row → (h : Gathered) → h.whole ≡ g.whole → (h.is_corrupt ≡ false → OnOk result (HasAdded m g h))
      → (h.is_corrupt ≡ true → MayNotFollow m g) → OnOk result (HasTaken h (rows ++ row ∷ []))
  taken_on (Ok x) m says h same put refused = taken_more m says h same put refused
  taken_on (Err e) m says h same put refused = tt

  -- it says none
  pub says_none : ((m : StoredMessage) → SaysMessage m row → ⊥) → (h : Gathered) → h.is_corrupt ≡ true → HasTaken h (rows ++ row ∷ [])
  says_none none h is = record {
    read = λ sound. absurd (true≢false (sym is ∙ sound));
    none = λ _ more all are table.
        let it = are_at SaysMessage rows row more all (subst (λ (l : List Row). AreRows SaysMessage l all) (append_assoc rows (row ∷ []) more) are) in
        none it.0 it.1;
  }
