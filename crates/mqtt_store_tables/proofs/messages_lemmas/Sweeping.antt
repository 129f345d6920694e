-- One sweep after the other.
use Rattle.std.proofs.Common.{◌≡◌, ◌≢◌, ℕ, ℤ, pos, Bool, true, false, not, ◌&&◌, ◌||◌, List, [], ◌∷◌, ◌++◌, filter, Option, Some, None, option_to_list, refl, sym, ap, ap₂, ◌∙◌, arith}
use Rattle.std.specs.List.{list_any}
use Rattle.std.proofs.lemmas.List.Folds.{list_any-append}
use Rattle.sqlite_value.specs.Order.{Row}
use Rattle.sqlite_trees.specs.Tree.{Trees}
use Rattle.sqlite_trees.proofs.ListLemmas.{filter_all, all_of}
use Rattle.sqlite_rules.specs.Edit.{IsNoIndex}
use Rattle.sqlite_rules.specs.Lists.{Has}
use Rattle.mqtt_store_tables.specs.declared.schema.tables.Making.{Making}
use Rattle.mqtt_store_tables.specs.declared.schema.tables.Making.TheVariants.{New, TakenOver}
use Rattle.mqtt_store_tables.specs.statements.Layout.{second_layout, schema_of}
use Rattle.mqtt_store_tables.specs.statements.Content.{is_of}
use Rattle.mqtt_store_tables.specs.statements.Removal.{RemovesFrom}
use Rattle.mqtt_store_tables.proofs.statements_lemmas.tables.Rows.{filter_both, filter_alike}
use Rattle.mqtt_store_tables.proofs.statements_lemmas.tables.Fresh.{or_false}
use Rattle.mqtt_store_tables.specs.messages.Places.{message_tree, queued_tree, kept_tree}
use Rattle.mqtt_store_tables.specs.messages.Messages.{is_referred, Sweeps}
use Rattle.mqtt_store_tables.specs.messages.Letting.{is_swept, SweepsAll}
use Rattle.mqtt_store_tables.proofs.messages_lemmas.Behind.{asked}

-- messages, copies and retained messages stand at three trees, and the last two at none of an index
pub record AreApart (making : Making) : Type 0 where
  pub queued : queued_tree making ≢ message_tree making
  pub kept : kept_tree making ≢ message_tree making
  pub first : message_tree making ≢ queued_tree making
  pub last : message_tree making ≢ kept_tree making
  pub both : queued_tree making ≢ kept_tree making
  pub back : kept_tree making ≢ queued_tree making
  pub queued_spared : IsNoIndex (schema_of (second_layout making)) (queued_tree making)
  pub kept_spared : IsNoIndex (schema_of (second_layout making)) (kept_tree making)

-- in both ways of schema 2
pub apart : (making : Making) → AreApart making
apart New = record { queued = omega arith; kept = omega arith; first = omega arith; last = omega arith; both = omega arith; back = omega arith; queued_spared = (asked New).tables.1.0; kept_spared = (asked New).tables.1.1.0 }
apart TakenOver = record { queued = omega arith; kept = omega arith; first = omega arith; last = omega arith; both = omega arith; back = omega arith; queued_spared = (asked TakenOver).tables.1.1.1.0; kept_spared = (asked TakenOver).tables.1.1.1.1.0 }

module _ (making : Making) (gone : Row → Bool) (a b : Trees) where
  -- messages that go take no reference along
  pub referred_same : RemovesFrom (second_layout making) (message_tree making) gone a b → (n : ℤ) → is_referred making n b ≡ is_referred making n a
  referred_same h n =
      ap₂ (λ q k. list_any (is_of 3 n) q || list_any (is_of 4 n) k) (h.others (queued_tree making) (apart making).queued (apart making).queued_spared) (h.others (kept_tree making) (apart making).kept (apart making).kept_spared)

  -- tests that agree on the messages take out the same
  pub gone_alike : (other : Row → Bool) → ((r : Row) → Has (a (message_tree making)) r → gone r ≡ other r) → RemovesFrom (second_layout making) (message_tree making) gone a b → RemovesFrom (second_layout making) (message_tree making) other a b
  gone_alike other same h = record {
    rows = h.rows ∙ filter_alike (λ r. not (gone r)) (λ r. not (other r)) (a (message_tree making)) (λ r has. ap not (same r has));
    others = h.others;
  }

module _ (making : Making) (a b : Trees) (same : (n : ℤ) → is_referred making n b ≡ is_referred making n a) where
  swept_same : (numbers : List ℕ) (r : Row) → is_swept making numbers b r ≡ is_swept making numbers a r
  swept_same [] r = refl
  swept_same (n ∷ numbers) r = ap₂ (λ x y. (is_of 0 (pos n) r && not x) || y) (same (pos n)) (swept_same numbers r)

not_or : (a b : Bool) → not (a || b) ≡ (not a && not b)
not_or true b = refl
not_or false b = refl

or_twice : (b : Bool) → (b || (b || false)) ≡ (b || false)
or_twice true = refl
or_twice false = refl

-- to sweep some and then others is to sweep all of them
pub sweeps_then : (making : Making) (some others : List ℕ) (a b c : Trees) → SweepsAll making some a b → SweepsAll making others b c → SweepsAll making (some ++ others) a c
sweeps_then making some others a b c x y =
    let test = λ (n : ℕ) (r : Row). is_of 0 (pos n) r && not (is_referred making (pos n) a) in
    let kept = λ (numbers : List ℕ) (db : Trees) (r : Row). not (is_swept making numbers db r) in
    let same = referred_same making (is_swept making some a) a b x in
    let both = λ (r : Row).
    ap not (list_any-append (λ n. test n r) some others) ∙ (not_or (is_swept making some a r) (is_swept making others a r) ∙ ap (λ z. kept some a r && not z) (sym (swept_same making a b same others r))) in
    record {
      rows = y.rows ∙ (ap (filter (kept others b)) x.rows ∙ filter_both (kept some a) (kept others b) (kept (some ++ others) a) both (a (message_tree making)));
      others = λ t other spared. y.others t other spared ∙ x.others t other spared;
    }

-- one that is swept is all of a list of one
pub sweeps_one : (making : Making) (n : ℕ) (a b : Trees) → Sweeps making (pos n) a b → SweepsAll making (n ∷ []) a b
sweeps_one making n a b h = gone_alike making (λ r. is_of 0 (pos n) r && not (is_referred making (pos n) a)) a b (is_swept making (n ∷ []) a) (λ r has. sym (or_false _)) h

-- if none is swept all is as it was
pub sweeps_none : (making : Making) (a : Trees) → SweepsAll making [] a a
sweeps_none making a = record {
  rows = sym (filter_all (λ (r : Row). true) (a (message_tree making)) (all_of (λ (r : Row). true ≡ true) (λ r. refl) (a (message_tree making))));
  others = λ t other spared. refl;
}

twice_same : (making : Making) (found : Option ℕ) (a : Trees) (r : Row) → is_swept making (option_to_list found) a r ≡ is_swept making (option_to_list found ++ option_to_list found) a r
twice_same making None a r = refl
twice_same making (Some n) a r = sym (or_twice (is_of 0 (pos n) r && not (is_referred making (pos n) a)))

-- one that was found twice is swept once
pub sweeps_twice : (making : Making) (one other : Option ℕ) (a b : Trees) → other ≡ one → SweepsAll making (option_to_list one) a b → SweepsAll making (option_to_list one ++ option_to_list other) a b
sweeps_twice making one other a b same h =
    rw same (gone_alike making (is_swept making (option_to_list one) a) a b (is_swept making (option_to_list one ++ option_to_list one) a) (λ r has. twice_same making one a r) h)
