-- An alias of a line that is made to stand for a topic, and what takes that back.
use Rattle.std.proofs.Common.{◌≡◌, ◌≢◌, ℕ, ◌≤◌, Bool, true, cond, nat_eq, List, [], ◌∷◌, length, refl, ap, sym, ◌∙◌, inl, inr, arith}
use Rattle.std.proofs.lemmas.Bool.{cases_Bool}
use Rattle.std.specs.Prelude.{Option, Some}
use Rattle.mqtt_base.specs.declared.limits.TheConstants.{LINE_LIMIT}
use Rattle.mqtt_topic.specs.names.Aliases.{AliasTable, after_resolve, topic_of, with_topics}
use Rattle.mqtt_topic.specs.names.Names.{IsTopicName}
use Rattle.mqtt_topic.proofs.names_lemmas.AliasLemmas.{restored-with_topic, topic_of-with_topic}
use Rattle.mqtt_records.specs.lists.Order.{IsAscending, row_at, put_row, remove_row, change_row}
use Rattle.mqtt_records.proofs.lists_lemmas.OrderLemmas.{change-ascending, change-length}
use Rattle.mqtt_rules.specs.step.State.{Line}
use Rattle.mqtt_broker_step.specs.declared.line.LineChange.TheVariants.{RestoreAlias}
use Rattle.mqtt_broker_step.specs.Lines.{alias_restored, line_changed, line_number, with_alias}
use Rattle.mqtt_broker_step.specs.Backs.{TakesLineBack}
use Rattle.mqtt_broker_step.proofs.Inverse.{change_back, removed_back}

-- a table of aliases with one set, and restored
table_back : (alias : ℕ) (topic : List ℕ) (table : AliasTable) → topic ≢ [] → alias_restored alias (topic_of alias table.topics) (after_resolve table topic (Some alias)) ≡ table
table_back alias [] table some = absurd (some refl)
table_back alias (c ∷ cs) table some =
    let there = topic_of-with_topic alias (c ∷ cs) table.topics in
    let back = restored-with_topic alias (c ∷ cs) table.topics in
    rw there (ap (with_topics table) back)

module _ {X : Type 0} (key : X → ℕ) where
  remove_changed : (k : ℕ) (f : X → X) (xs : List X) → ((y : X) → key (f y) ≡ key y) → remove_row key k (change_row key k f xs) ≡ remove_row key k xs
  remove_changed k f [] keeps = refl
  remove_changed k f (y ∷ ys) keeps = elim (cases_Bool (nat_eq (key y) k)) [
    | inl here ↦ let still : nat_eq (key (f y)) k ≡ true = ap (λ n. nat_eq n k) (keeps y) ∙ here in rw (here, still) refl
    | inr later ↦ rw (later, later) (ap (λ (zs : List X). y ∷ zs) (remove_changed k f ys keeps))
  ]

  row_changed : (k : ℕ) (f : X → X) (x : X) (xs : List X) → ((y : X) → key (f y) ≡ key y) → row_at key k xs ≡ Some x → row_at key k (change_row key k f xs) ≡ Some (f x)
  row_changed k f x [] keeps found = absurd cc
  row_changed k f x (y ∷ ys) keeps found = elim (cases_Bool (nat_eq (key y) k)) [
    | inl here ↦
        let first : Some y ≡ Some x = ap (λ (b : Bool). cond b (Some y) (row_at key k ys)) (sym here) ∙ found in
        let is : y ≡ x = cc in
        let still : nat_eq (key (f y)) k ≡ true = ap (λ n. nat_eq n k) (keeps y) ∙ here in
        rw (here, still) (ap (λ (z : X). Some (f z)) is)
    | inr later ↦
        let there : row_at key k ys ≡ Some x = ap (λ (b : Bool). cond b (Some y) (row_at key k ys)) (sym later) ∙ found in
        rw (later, later) (row_changed k f x ys keeps there)
  ]

  -- a row that is taken out, changed and put again
  pub changed_put : (limit k : ℕ) (f : X → X) (x : X) (xs : List X) → ((y : X) → key (f y) ≡ key y) → IsAscending key xs → row_at key k xs ≡ Some x → length xs ≤ limit
      → put_row key limit (f x) (remove_row key k xs) ≡ change_row key k f xs
  changed_put limit k f x xs keeps up found few =
      let same = change-length key k f xs in
      ap (put_row key limit (f x)) (sym (remove_changed k f xs keeps))
      ∙ removed_back key limit k (f x) (change_row key k f xs) (change-ascending key k f xs keeps up) (row_changed k f x xs keeps found) (omega (arith, same, few))

-- to take a line out, let an alias stand for a topic on it and put it in again is to change it in its place
pub set_is : (n alias : ℕ) (topic : List ℕ) (x line : Line) (xs taken new : List Line) → IsAscending line_number xs → length xs ≤ LINE_LIMIT → row_at line_number n xs ≡ Some x
    → taken ≡ remove_row line_number n xs → line ≡ with_alias alias topic x → new ≡ put_row line_number LINE_LIMIT line taken → new ≡ change_row line_number n (with_alias alias topic) xs
set_is n alias topic x line xs taken new up few found rest set put =
    put ∙ (ap (λ (ys : List Line). put_row line_number LINE_LIMIT line ys) rest
    ∙ (ap (λ (y : Line). put_row line_number LINE_LIMIT y (remove_row line_number n xs)) set
    ∙ changed_put line_number LINE_LIMIT n (with_alias alias topic) x xs (λ y. refl) up found few))

-- to take a line out and put it in again as it was changes no line
pub unset_is : (n : ℕ) (x line : Line) (xs taken new : List Line) → IsAscending line_number xs → length xs ≤ LINE_LIMIT → row_at line_number n xs ≡ Some x
    → taken ≡ remove_row line_number n xs → line ≡ x → new ≡ put_row line_number LINE_LIMIT line taken → new ≡ xs
unset_is n x line xs taken new up few found rest same put =
    put ∙ (ap (λ (ys : List Line). put_row line_number LINE_LIMIT line ys) rest
    ∙ (ap (λ (y : Line). put_row line_number LINE_LIMIT y (remove_row line_number n xs)) same
    ∙ removed_back line_number LINE_LIMIT n x xs up found few))

-- that the alias stands again for what it stood for before makes of the lines what they were
pub set_back : (n alias : ℕ) (topic : List ℕ) (before : Option (List ℕ)) (x : Line) (xs new : List Line) → IsTopicName topic → before ≡ topic_of alias x.aliases.topics
    → row_at line_number n xs ≡ Some x → new ≡ change_row line_number n (with_alias alias topic) xs → TakesLineBack n xs new (Some (RestoreAlias alias before))
set_back n alias topic before x xs new named is found set =
    ap (change_row line_number n (line_changed (RestoreAlias alias before))) set
    ∙ change_back line_number n (with_alias alias topic) (line_changed (RestoreAlias alias before)) x xs (λ y. refl) found
    (ap (λ (b : Option (List ℕ)). line_changed (RestoreAlias alias b) (with_alias alias topic x)) is
    ∙ ap (λ (t : AliasTable). let y : Line = record x { aliases = t } in y) (table_back alias topic x.aliases named.some))
