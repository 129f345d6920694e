-- Which rows of the tables say an item of records, and which item a row says.
use Rattle.std.proofs.Common.{◌≡◌, ℕ, List, [], ◌∷◌, ◌++◌, take, refl, sym, ap, subst, ◌∙◌, inl, inr}
use Rattle.std.specs.Prelude.{Option, Some, None, codes}
use Rattle.sqlite_value.specs.Order.{Row}
use Rattle.sqlite_rules.specs.Lists.{Has}
use Rattle.sqlite_rules.proofs.ListLemmas.{all_has, has_left, has_right, has_either}
use Rattle.mqtt_records.specs.declared.messages.message.Will.{Will}
use Rattle.mqtt_records.specs.declared.state.records.Records.{Records}
use Rattle.mqtt_records.specs.declared.state.session.Session.{Session}
use Rattle.mqtt_records.specs.state.Session.{columns_of}
use Rattle.mqtt_records.specs.state.Members.{Has as HasItem, InPart, queue_of}
use Rattle.mqtt_store_rows.specs.values.Rows.{SaysNumber, SaysNumbers, SaysSession, SaysWill, SaysSubscription, SaysOpen, SaysCopy}
use Rattle.mqtt_store_rows.specs.values.Lists.{AreRows, IsOf, Takes}
use Rattle.mqtt_store_rows.specs.values.Gives.{Parts, no_parts, list_of, TakesParts, AreSessions, counters_of}
use Rattle.mqtt_store_database.specs.item_laws.Members.{listed, will_of, subscriptions_of, inbound_of}
use Rattle.mqtt_store_database.specs.item_laws.Written.{numbers_in}

-- ---- rows of a list

-- a row of these says it
abbrev pub IsSaid : {X : Type 0} → (X → Row → Type 0) → List Row → X → Type 0
IsSaid Says rows x = (row : Row) × Has rows row × Says x row

module _ {X : Type 0} (Says : X → Row → Type 0) where
  -- each item is said by one of the rows that say a list
  pub rows_each : (rows : List Row) (xs : List X) → AreRows Says rows xs → (x : X) → HasItem xs x → IsSaid Says rows x
  rows_each [] [] are x h = absurd h
  rows_each [] (y ∷ ys) are x h = absurd are
  rows_each (row ∷ rows) [] are x h = absurd are
  rows_each (row ∷ rows) (y ∷ ys) are x (inl same) = (row, inl refl, subst (λ (z : X). Says z row) (sym same) are.0)
  rows_each (row ∷ rows) (y ∷ ys) are x (inr h) = let it = rows_each rows ys are.1 x h in (it.0, inr it.1, it.2)

  -- each row says an item of the list
  pub rows_only : (rows : List Row) (xs : List X) → AreRows Says rows xs → (row : Row) → Has rows row → (x : X) × HasItem xs x × Says x row
  rows_only [] xs are row h = absurd h
  rows_only (r ∷ rows) [] are row h = absurd are
  rows_only (r ∷ rows) (y ∷ ys) are row (inl same) = (y, inl refl, subst (Says y) (sym same) are.0)
  rows_only (r ∷ rows) (y ∷ ys) are row (inr h) = let it = rows_only rows ys are.1 row h in (it.0, inr it.1, it.2)

-- ---- the six numbers

-- the six numbers by their names, of a store of that schema
abbrev pub numbers_at : ℕ → Records → List (List ℕ × ℕ)
numbers_at schema r = take 5 (numbers_in r) ++ (codes "schema", schema) ∷ []

abbrev pub SaysNamed : List ℕ × ℕ → Row → Type 0
SaysNamed x row = SaysNumber x.0 x.1 row

module _ (schema : ℕ) (q : Records) where
  -- each number is said by one of the rows
  pub numbers_each : (rows : List Row) → SaysNumbers schema (counters_of q) rows → (x : List ℕ × ℕ) → HasItem (numbers_at schema q) x → IsSaid SaysNamed rows x
  numbers_each [] h x it = absurd h
  numbers_each (a ∷ []) h x it = absurd h
  numbers_each (a ∷ b ∷ []) h x it = absurd h
  numbers_each (a ∷ b ∷ c ∷ []) h x it = absurd h
  numbers_each (a ∷ b ∷ c ∷ d ∷ []) h x it = absurd h
  numbers_each (a ∷ b ∷ c ∷ d ∷ e ∷ []) h x it = absurd h
  numbers_each (a ∷ b ∷ c ∷ d ∷ e ∷ f ∷ []) h x (inl is) = (b, inr (inl refl), subst (λ (y : List ℕ × ℕ). SaysNamed y b) (sym is) h.1)
  numbers_each (a ∷ b ∷ c ∷ d ∷ e ∷ f ∷ []) h x (inr (inl is)) = (d, inr (inr (inr (inl refl))), subst (λ (y : List ℕ × ℕ). SaysNamed y d) (sym is) h.3)
  numbers_each (a ∷ b ∷ c ∷ d ∷ e ∷ f ∷ []) h x (inr (inr (inl is))) = (f, inr (inr (inr (inr (inr (inl refl))))), subst (λ (y : List ℕ × ℕ). SaysNamed y f) (sym is) h.5)
  numbers_each (a ∷ b ∷ c ∷ d ∷ e ∷ f ∷ []) h x (inr (inr (inr (inl is)))) = (a, inl refl, subst (λ (y : List ℕ × ℕ). SaysNamed y a) (sym is) h.0)
  numbers_each (a ∷ b ∷ c ∷ d ∷ e ∷ f ∷ []) h x (inr (inr (inr (inr (inl is))))) = (c, inr (inr (inl refl)), subst (λ (y : List ℕ × ℕ). SaysNamed y c) (sym is) h.2)
  numbers_each (a ∷ b ∷ c ∷ d ∷ e ∷ f ∷ []) h x (inr (inr (inr (inr (inr (inl is)))))) = (e, inr (inr (inr (inr (inl refl)))), subst (λ (y : List ℕ × ℕ). SaysNamed y e) (sym is) h.4)
  numbers_each (a ∷ b ∷ c ∷ d ∷ e ∷ f ∷ []) h x (inr (inr (inr (inr (inr (inr none)))))) = absurd none
  numbers_each (a ∷ b ∷ c ∷ d ∷ e ∷ f ∷ g ∷ rows) h x it = absurd h

  -- each row of the table of numbers says one
  pub numbers_only : (rows : List Row) → SaysNumbers schema (counters_of q) rows → (row : Row) → Has rows row → (x : List ℕ × ℕ) × HasItem (numbers_at schema q) x × SaysNamed x row
  numbers_only [] h row it = absurd h
  numbers_only (a ∷ []) h row it = absurd h
  numbers_only (a ∷ b ∷ []) h row it = absurd h
  numbers_only (a ∷ b ∷ c ∷ []) h row it = absurd h
  numbers_only (a ∷ b ∷ c ∷ d ∷ []) h row it = absurd h
  numbers_only (a ∷ b ∷ c ∷ d ∷ e ∷ []) h row it = absurd h
  numbers_only (a ∷ b ∷ c ∷ d ∷ e ∷ f ∷ []) h row (inl is) = ((codes "autos", q.autos), inr (inr (inr (inl refl))), subst (SaysNamed (codes "autos", q.autos)) (sym is) h.0)
  numbers_only (a ∷ b ∷ c ∷ d ∷ e ∷ f ∷ []) h row (inr (inl is)) = ((codes "births", q.births), inl refl, subst (SaysNamed (codes "births", q.births)) (sym is) h.1)
  numbers_only (a ∷ b ∷ c ∷ d ∷ e ∷ f ∷ []) h row (inr (inr (inl is))) = ((codes "moment", q.moment), inr (inr (inr (inr (inl refl)))), subst (SaysNamed (codes "moment", q.moment)) (sym is) h.2)
  numbers_only (a ∷ b ∷ c ∷ d ∷ e ∷ f ∷ []) h row (inr (inr (inr (inl is)))) = ((codes "publications", q.publications), inr (inl refl), subst (SaysNamed (codes "publications", q.publications)) (sym is) h.3)
  numbers_only (a ∷ b ∷ c ∷ d ∷ e ∷ f ∷ []) h row (inr (inr (inr (inr (inl is))))) = ((codes "schema", schema), inr (inr (inr (inr (inr (inl refl))))), subst (SaysNamed (codes "schema", schema)) (sym is) h.4)
  numbers_only (a ∷ b ∷ c ∷ d ∷ e ∷ f ∷ []) h row (inr (inr (inr (inr (inr (inl is)))))) = ((codes "subscribes", q.subscribes), inr (inr (inl refl)), subst (SaysNamed (codes "subscribes", q.subscribes)) (sym is) h.5)
  numbers_only (a ∷ b ∷ c ∷ d ∷ e ∷ f ∷ []) h row (inr (inr (inr (inr (inr (inr none)))))) = absurd none
  numbers_only (a ∷ b ∷ c ∷ d ∷ e ∷ f ∷ g ∷ rows) h row it = absurd h

-- ---- the sessions' own rows

-- the row says the session's own columns
abbrev pub SaysItself : Session → Row → Type 0
SaysItself s row = SaysSession (columns_of s) row

-- the rows of the table of sessions say their own columns, one after the other
pub own_rows : (rows : List Row) (parts : Parts) (ss : List Session) → AreSessions rows parts ss → AreRows SaysItself rows ss
own_rows [] parts [] are = tt
own_rows [] parts (s ∷ ss) are = absurd are
own_rows (row ∷ rows) parts [] are = absurd are
own_rows (row ∷ rows) parts (s ∷ ss) are = (are.0, own_rows rows are.1.0 ss are.1.2)

-- ---- what sessions have

-- the rows of one table are those of the sessions, one after the other
abbrev pub Shares : {X : Type 0} → (X → Row → Type 0) → (Session → List X) → List Row → List Session → Type 0
Shares Says part rows [] = rows ≡ []
Shares Says part rows (s ∷ ss) = (rest : List Row) × Takes Says s.birth (part s) rows rest × Shares Says part rest ss

-- the row is of the session with that birth, and says the item
abbrev pub SaysOf : {X : Type 0} → (X → Row → Type 0) → ℕ × X → Row → Type 0
SaysOf Says x row = IsOf x.0 row × Says x.1 row

module _ {X : Type 0} (Says : X → Row → Type 0) (part : Session → List X) where
  module _ (table : Parts → List Row) (none : table no_parts ≡ []) (takes : (s : Session) (parts rest : Parts) → TakesParts s parts rest → Takes Says s.birth (part s) (table parts) (table rest)) where
    -- the rows of one table are the parts of the sessions, one after the other
    pub shares : (rows : List Row) (parts : Parts) (ss : List Session) → AreSessions rows parts ss → Shares Says part (table parts) ss
    shares [] parts [] are = ap table are ∙ none
    shares [] parts (s ∷ ss) are = absurd are
    shares (row ∷ rows) parts [] are = absurd are
    shares (row ∷ rows) parts (s ∷ ss) are = (table are.1.0, takes s parts are.1.0 are.1.1, shares rows are.1.0 ss are.1.2)

  -- each item of a session is said by a row of that session
  pub shares_each : (rows : List Row) (ss : List Session) → Shares Says part rows ss → (x : ℕ × X) → InPart part ss x.0 x.1 → IsSaid (SaysOf Says) rows x
  shares_each rows [] h x it = absurd it.1
  shares_each rows (t ∷ ts) h x it =
      let takes = h.1 in
      elim it.1 [
        | inl same ↦
            let mine : HasItem (part t) x.1 = subst (λ (s : Session). HasItem (part s) x.1) same it.3 in
            let said = rows_each Says takes.front (part t) takes.are x.1 mine in
            let of_t : IsOf t.birth said.0 = all_has (IsOf t.birth) takes.front said.0 takes.mine said.1 in
            let birth : t.birth ≡ x.0 = ap (λ (s : Session). s.birth) (sym same) ∙ it.2 in
            (said.0, subst (λ (l : List Row). Has l said.0) (sym takes.parts) (has_left takes.front h.0 said.0 said.1), (subst (λ (n : ℕ). IsOf n said.0) birth of_t, said.2))
        | inr later ↦
            let said = shares_each h.0 ts h.2 x (it.0, later, it.2, it.3) in
            (said.0, subst (λ (l : List Row). Has l said.0) (sym takes.parts) (has_right takes.front h.0 said.0 said.1), said.2)
      ]

  -- each row says an item of the session that it names
  pub shares_only : (rows : List Row) (ss : List Session) → Shares Says part rows ss → (row : Row) → Has rows row → (x : ℕ × X) × InPart part ss x.0 x.1 × SaysOf Says x row
  shares_only rows [] h row there = absurd (subst (λ (l : List Row). Has l row) h there)
  shares_only rows (t ∷ ts) h row there =
      let takes = h.1 in
      elim (has_either takes.front h.0 row (subst (λ (l : List Row). Has l row) takes.parts there)) [
        | inl here ↦
            let it = rows_only Says takes.front (part t) takes.are row here in
            ((t.birth, it.0), (t, inl refl, refl, it.1), (all_has (IsOf t.birth) takes.front row takes.mine here, it.2))
        | inr later ↦
            let it = shares_only h.0 ts h.2 row later in
            (it.0, (it.1.0, inr it.1.1, it.1.2, it.1.3), it.2)
      ]

same_list : (o : Option Will) → list_of o ≡ listed o
same_list None = refl
same_list (Some w) = refl

-- the rows of Wills are those of the sessions, one after the other
pub wills_share : (rows : List Row) (parts : Parts) (ss : List Session) → AreSessions rows parts ss → Shares SaysWill will_of parts.wills ss
wills_share = shares SaysWill will_of (λ p. p.wills) refl (λ s parts rest h. subst (λ (l : List Will). Takes SaysWill s.birth l parts.wills rest.wills) (same_list s.will) h.will)

-- the rows of subscriptions are those of the sessions, one after the other
pub subscriptions_share : (rows : List Row) (parts : Parts) (ss : List Session) → AreSessions rows parts ss → Shares SaysSubscription subscriptions_of parts.subscriptions ss
subscriptions_share = shares SaysSubscription subscriptions_of (λ p. p.subscriptions) refl (λ s parts rest h. h.subscriptions)

-- the rows of open identifiers are those of the sessions, one after the other
pub inbound_share : (rows : List Row) (parts : Parts) (ss : List Session) → AreSessions rows parts ss → Shares SaysOpen inbound_of parts.inbound ss
inbound_share = shares SaysOpen inbound_of (λ p. p.inbound) refl (λ s parts rest h. h.inbound)

-- the rows of copies are those of the sessions, one after the other
pub copies_share : (rows : List Row) (parts : Parts) (ss : List Session) → AreSessions rows parts ss → Shares SaysCopy queue_of parts.copies ss
copies_share = shares SaysCopy queue_of (λ p. p.copies) refl (λ s parts rest h. h.queue)
