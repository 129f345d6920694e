-- The rows of several tables and the sessions that they say.
use Rattle.std.proofs.Common.{◌≡◌, ℕ, suc, ◌+◌, ◌<◌, List, [], ◌∷◌, ◌++◌, length, drop, get_or, refl, sym, ap, subst, ◌∙◌, append_assoc, arith}
use Rattle.std.specs.List.{AllByRecursion}
use Rattle.std.proofs.Math.Seq.{drop-cons}
use Rattle.sqlite_value.specs.Order.{Row, column}
use Rattle.mqtt_records.specs.declared.state.session.Session.{Session}
use Rattle.mqtt_records.specs.state.Session.{birth_of, columns_of}
use Rattle.mqtt_records.specs.lists.Order.{IsAbove, IsAscending}
use Rattle.mqtt_store_rows.specs.values.Ones.{one_number}
use Rattle.mqtt_store_rows.specs.values.Rows.{SaysSession, SaysWill, SaysSubscription, SaysOpen, SaysCopy}
use Rattle.mqtt_store_rows.specs.values.Lists.{AllOf, BeginsOther, Takes, TakesAll}
use Rattle.mqtt_store_rows.specs.values.Gives.{Parts, no_parts, list_of, TakesParts, AreSessions, IsWithin}
use Rattle.mqtt_store_rows.specs.values.Ends.{EndsParts}

-- ---- one table

module _ {X : Type 0} (Says : X → Row → Type 0) where
  -- if the rows behind a session's part are of another session, the part is all that it has there
  pub moved : (b c : ℕ) (part : List X) (rows rest : List Row) → b ≡ c → Takes Says b part rows rest → BeginsOther b rest → TakesAll Says c part rows rest
  moved b c part rows rest same takes ends = record {
    takes = subst (λ (n : ℕ). Takes Says n part rows rest) same takes;
    ends = subst (λ (n : ℕ). BeginsOther n rest) same ends;
  }

  -- the rows of a session of a later birth begin with no row of an earlier one
  pub first_other : (n m : ℕ) (part : List X) (rows rest : List Row) → Takes Says m part rows rest → n < m → BeginsOther n rest → BeginsOther n rows
  first_other n m part rows rest it less other = subst (BeginsOther n) (sym it.parts) (go it.front it.mine)
    where
      go : (front : List Row) → AllOf m front → BeginsOther n (front ++ rest)
      go [] mine = other
      go (r ∷ front) mine = λ of_n. let same : n ≡ m = one_number (column r 0) n m of_n mine.0 in absurd (omega (arith, same, less))

-- where a session's rows end is determined, and so are they
front_is : (birth : ℕ) (front rest other more : List Row) → front ++ rest ≡ other ++ more → AllOf birth front → BeginsOther birth rest → AllOf birth other → BeginsOther birth more → (front ≡ other) × (rest ≡ more)
front_is birth [] rest [] more is mine ends theirs stops = (refl, is)
front_is birth [] rest (r ∷ other) more is mine ends theirs stops = absurd (subst (BeginsOther birth) is ends theirs.0)
front_is birth (r ∷ front) rest [] more is mine ends theirs stops = absurd (subst (BeginsOther birth) (sym is) stops mine.0)
front_is birth (r ∷ front) rest (s ∷ other) more is mine ends theirs stops =
    let heads : r ≡ s = cc in
    let tails : front ++ rest ≡ other ++ more = cc in
    let both = front_is birth front rest other more tails mine.1 ends theirs.1 stops in
    (ap (λ (x : Row). x ∷ front) heads ∙ ap (λ (xs : List Row). s ∷ xs) both.0, both.1)

module _ {X : Type 0} (Says : X → Row → Type 0) where
  -- the rows at the front are the part of one session, and where it ends is determined
  pub same_parts : (b c : ℕ) (p q : List X) (rows rest more : List Row) → b ≡ c → (x : Takes Says b p rows rest) → BeginsOther b rest → (y : Takes Says c q rows more) → BeginsOther c more → (x.front ≡ y.front) × (rest ≡ more)
  same_parts b c p q rows rest more same x ends y stops =
      front_is b x.front rest y.front more (sym x.parts ∙ y.parts) x.mine ends (subst (λ (n : ℕ). AllOf n y.front) (sym same) y.mine) (subst (λ (n : ℕ). BeginsOther n more) (sym same) stops)

-- ---- the four tables

abbrev parts_of : List Row → List Row → List Row → List Row → Parts
parts_of wills subscriptions inbound copies = record { wills = wills; subscriptions = subscriptions; inbound = inbound; copies = copies }

four : (a b c d e f g h : List Row) → a ≡ b → c ≡ d → e ≡ f → g ≡ h → parts_of a c e g ≡ parts_of b d f h
four a b c d e f g h p q r s = rw (p, q, r, s) refl

-- sessions of one birth take the same parts
pub same_rest : (s t : Session) (parts rest more : Parts) → s.birth ≡ t.birth → TakesParts s parts rest → EndsParts s.birth rest → TakesParts t parts more → EndsParts t.birth more → rest ≡ more
same_rest s t parts rest more same x ends y stops =
    four rest.wills more.wills rest.subscriptions more.subscriptions rest.inbound more.inbound rest.copies more.copies
    (same_parts SaysWill s.birth t.birth (list_of s.will) (list_of t.will) parts.wills rest.wills more.wills same x.will ends.will y.will stops.will).1
    (same_parts SaysSubscription s.birth t.birth s.subscriptions t.subscriptions parts.subscriptions rest.subscriptions more.subscriptions same x.subscriptions ends.subscription y.subscriptions stops.subscription).1
    (same_parts SaysOpen s.birth t.birth s.inbound t.inbound parts.inbound rest.inbound more.inbound same x.inbound ends.identifier y.inbound stops.identifier).1
    (same_parts SaysCopy s.birth t.birth s.queue t.queue parts.copies rest.copies more.copies same x.queue ends.copy y.queue stops.copy).1

first_ends : (n : ℕ) (s : Session) (parts rest : Parts) → TakesParts s parts rest → n < s.birth → EndsParts n rest → EndsParts n parts
first_ends n s parts rest takes less ends = record {
  will = first_other SaysWill n s.birth (list_of s.will) parts.wills rest.wills takes.will less ends.will;
  subscription = first_other SaysSubscription n s.birth s.subscriptions parts.subscriptions rest.subscriptions takes.subscriptions less ends.subscription;
  identifier = first_other SaysOpen n s.birth s.inbound parts.inbound rest.inbound takes.inbound less ends.identifier;
  copy = first_other SaysCopy n s.birth s.queue parts.copies rest.copies takes.queue less ends.copy;
}

no_ends : (n : ℕ) → EndsParts n no_parts
no_ends n = record { will = tt; subscription = tt; identifier = tt; copy = tt }

-- ---- sessions

-- no table goes on with a row of an earlier session
pub ends_before : (n : ℕ) (rows : List Row) (parts : Parts) (ss : List Session) → AreSessions rows parts ss → IsAbove birth_of n ss → EndsParts n parts
ends_before n [] parts [] h up = subst (EndsParts n) (sym h) (no_ends n)
ends_before n [] parts (s ∷ ss) h up = absurd h
ends_before n (row ∷ rows) parts [] h up = absurd h
ends_before n (row ∷ rows) parts (s ∷ ss) h up = first_ends n s parts h.1.0 h.1.1 up.0 (ends_before n rows h.1.0 ss h.1.2 up.1)

-- the first of sessions that the rows say
pub record First (row : Row) (rows : List Row) (parts : Parts) (last : ℕ) : Type 0 where
  pub one : Session
  pub says : SaysSession (columns_of one) row
  pub more : Parts
  pub takes : TakesParts one parts more
  pub ends : EndsParts one.birth more
  pub within : IsWithin one
  pub above : last < one.birth
  pub others : List Session
  pub are : AreSessions rows more others
  pub all : AllByRecursion IsWithin others
  pub up : IsAscending birth_of others
  pub later : IsAbove birth_of one.birth others

-- what is left to be said, by sessions above the last one
pub record Left (rows : List Row) (parts : Parts) (last : ℕ) : Type 0 where
  pub those : List Session
  pub are : AreSessions rows parts those
  pub all : AllByRecursion IsWithin those
  pub up : IsAscending birth_of those
  pub above : IsAbove birth_of last those

-- the first row that is left takes its parts
pub first_of_left : (row : Row) (rows : List Row) (parts : Parts) (last : ℕ) → Left (row ∷ rows) parts last → First row rows parts last
first_of_left row rows parts last h = go h.those h.are h.all h.up h.above
  where
    go : (ds : List Session) → AreSessions (row ∷ rows) parts ds → AllByRecursion IsWithin ds → IsAscending birth_of ds → IsAbove birth_of last ds → First row rows parts last
    go [] are all up above = absurd are
    go (d ∷ ds) are all up above = record {
      one = d;
      says = are.0;
      more = are.1.0;
      takes = are.1.1;
      ends = ends_before d.birth rows are.1.0 ds are.1.2 up.0;
      within = all.0;
      above = above.0;
      others = ds;
      are = are.1.2;
      all = all.1;
      up = up.1;
      later = up.0;
    }

-- behind the rows of a session stand those of the others
pub left_more : (row : Row) (rows : List Row) (parts rest : Parts) (last : ℕ) (s : Session) → SaysSession (columns_of s) row → TakesParts s parts rest → EndsParts s.birth rest → Left (row ∷ rows) parts last → Left rows rest s.birth
left_more row rows parts rest last s says takes ends h =
    let f = first_of_left row rows parts last h in
    let same : f.one.birth ≡ s.birth = one_number _ _ _ f.says.birth says.birth in
    let behind : f.more ≡ rest = same_rest f.one s parts f.more rest same f.takes f.ends takes ends in
    record {
      those = f.others;
      are = subst (λ (p : Parts). AreSessions rows p f.others) behind f.are;
      all = f.all;
      up = f.up;
      above = subst (λ (n : ℕ). IsAbove birth_of n f.others) same f.later;
    }

-- behind the last row no parts are left
pub left_none : (parts : Parts) (last : ℕ) → Left [] parts last → parts ≡ no_parts
left_none parts last h = go h.those h.are
  where
    go : (ds : List Session) → AreSessions [] parts ds → parts ≡ no_parts
    go [] are = are
    go (d ∷ ds) are = absurd are

-- all births are above none
pub above_none : (rows : List Row) (parts : Parts) (ss : List Session) → AreSessions rows parts ss → IsAbove birth_of 0 ss
above_none [] parts [] h = tt
above_none [] parts (s ∷ ss) h = absurd h
above_none (row ∷ rows) parts [] h = tt
above_none (row ∷ rows) parts (s ∷ ss) h = (h.0.birth_range.0, above_none rows h.1.0 ss h.1.2)

-- there are as many sessions as rows
pub as_many : (rows : List Row) (parts : Parts) (ss : List Session) → AreSessions rows parts ss → length ss ≡ length rows
as_many [] parts [] h = refl
as_many [] parts (s ∷ ss) h = absurd h
as_many (row ∷ rows) parts [] h = absurd h
as_many (row ∷ rows) parts (s ∷ ss) h = let more = as_many rows h.1.0 ss h.1.2 in omega (arith, more)

-- rows from one on are that one and those behind it
pub drop_is : (rows : List Row) (i : ℕ) (row : Row) → i < length rows → row ≡ get_or rows i row → drop i rows ≡ row ∷ drop (i + 1) rows
drop_is rows i row lt is =
    let next : suc i ≡ i + 1 = omega arith in
    drop-cons rows i row lt ∙ (ap (λ (r : Row). r ∷ drop (suc i) rows) (sym is) ∙ ap (λ (n : ℕ). row ∷ drop n rows) next)

-- one more session in front of what the rest says
pub sound_more : (rows : List Row) (whole : Parts) (all : List Session) (now : List Row) (parts rest : Parts) (later : List Row) (row : Row) (s : Session) → now ≡ row ∷ later
    → ((ss : List Session) → AreSessions now parts ss → AreSessions rows whole (all ++ ss))
    → SaysSession (columns_of s) row → TakesParts s parts rest
    → (ss : List Session) → AreSessions later rest ss → AreSessions rows whole ((all ++ s ∷ []) ++ ss)
sound_more rows whole all now parts rest later row s is sound says takes ss h =
    subst (AreSessions rows whole) (sym (append_assoc all (s ∷ []) ss)) (sound (s ∷ ss) (subst (λ (l : List Row). AreSessions l parts (s ∷ ss)) (sym is) (says, (rest, takes, h))))

-- what holds of each holds of one more
pub all_push : {X : Type 0} (P : X → Type 0) (xs : List X) (x : X) → AllByRecursion P xs → P x → AllByRecursion P (xs ++ x ∷ [])
all_push P [] x all here = (here, tt)
all_push P (y ∷ ys) x all here = (all.0, all_push P ys x all.1 here)
