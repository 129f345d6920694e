-- What statements on messages, copies and retained messages leave of the other tables.
use Rattle.std.proofs.Common.{◌≡◌, ℕ, ◌≤◌, List, [], ◌∷◌, refl, sym, ◌∙◌, arith}
use Rattle.sqlite_trees.specs.Tree.{Trees}
use Rattle.mqtt_store_tables.specs.declared.schema.tables.Making.{Making}
use Rattle.mqtt_store_tables.specs.declared.schema.tables.Making.TheVariants.{New, TakenOver}
use Rattle.mqtt_store_tables.specs.statements.Layout.{second_layout}
use Rattle.mqtt_store_tables.proofs.statements_lemmas.tables.Spared.{meta_spared, session_spared, will_spared, sub_spared, inbound_spared}
use Rattle.mqtt_store_tables.proofs.statements_lemmas.tables.Whole.{Spares}
use Rattle.mqtt_store_tables.specs.messages.Places.{message_tree, queued_tree, kept_tree}
use Rattle.mqtt_store_tables.proofs.messages_lemmas.Behind.{asked}
use Rattle.mqtt_store_database.specs.row_laws.Written.{HasNoOldRows}
use Rattle.mqtt_store_database.specs.row_laws.Steps.{SweepsEach}
use Rattle.mqtt_store_database.proofs.row_laws_lemmas.tables.Places.{queued_spared, kept_spared, message_queued, message_kept, message_high, message_not_old, IsNotOld}

-- the first five tables are as they were, and those of schema 1 without rows if they were
pub record FirstStay (making : Making) (old new : Trees) : Type 0 where
  pub meta : new 0 ≡ old 0
  pub session : new 2 ≡ old 2
  pub will : new 4 ≡ old 4
  pub sub : new 5 ≡ old 5
  pub inbound : new 7 ≡ old 7
  pub past : HasNoOldRows making old → HasNoOldRows making new

-- the tables of schema 1 stay without rows if they are left alone
pub old_stay : (making : Making) (tree : ℕ) (old new : Trees) → Spares (second_layout making) tree old new → IsNotOld making tree → HasNoOldRows making old → HasNoOldRows making new
old_stay New tree old new others apart none = tt
old_stay TakenOver tree old new others apart none = let spared = (asked TakenOver).tables in (others 9 apart.0 spared.0 ∙ none.0, others 11 apart.1 spared.1.0 ∙ none.1)

-- a statement on a table behind them leaves the first five alone
pub first_stay : (making : Making) (tree : ℕ) (old new : Trees) → Spares (second_layout making) tree old new → 9 ≤ tree → IsNotOld making tree → FirstStay making old new
first_stay making tree old new others high apart =
    let l = second_layout making in
    let fits = asked making in
    record {
      meta = others 0 (λ same. absurd (omega (arith, high, same))) (meta_spared l fits);
      session = others 2 (λ same. absurd (omega (arith, high, same))) (session_spared l fits);
      will = others 4 (λ same. absurd (omega (arith, high, same))) (will_spared l fits);
      sub = others 5 (λ same. absurd (omega (arith, high, same))) (sub_spared l fits);
      inbound = others 7 (λ same. absurd (omega (arith, high, same))) (inbound_spared l fits);
      past = old_stay making tree old new others apart;
    }

-- statements one after the other leave them alone
pub then_stay : (making : Making) (old mid new : Trees) → FirstStay making old mid → FirstStay making mid new → FirstStay making old new
then_stay making old mid new a b = record {
  meta = b.meta ∙ a.meta;
  session = b.session ∙ a.session;
  will = b.will ∙ a.will;
  sub = b.sub ∙ a.sub;
  inbound = b.inbound ∙ a.inbound;
  past = λ none. b.past (a.past none);
}

-- sweeps are on messages alone
pub swept_others : (making : Making) (numbers : List ℕ) (old new : Trees) → SweepsEach making numbers old new → Spares (second_layout making) (message_tree making) old new
swept_others making [] old new same t other spared = rw same refl
swept_others making (n ∷ more) old new sweeps t other spared = swept_others making more sweeps.0 new sweeps.2 t other spared ∙ sweeps.1.others t other spared

module _ (making : Making) (old new : Trees) (others : Spares (second_layout making) (message_tree making) old new) where
  -- a statement on messages leaves copies alone
  pub queued_alone : new (queued_tree making) ≡ old (queued_tree making)
  queued_alone = others (queued_tree making) (λ same. message_queued making (sym same)) (queued_spared making)

  -- and retained messages
  pub kept_alone : new (kept_tree making) ≡ old (kept_tree making)
  kept_alone = others (kept_tree making) (λ same. message_kept making (sym same)) (kept_spared making)

  -- and the first five tables
  pub first_alone : FirstStay making old new
  first_alone = first_stay making (message_tree making) old new others (message_high making) (message_not_old making)
