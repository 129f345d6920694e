-- Lists of deeds of a class, which may look at the state that a deed comes on, whatever the class.
use Rattle.std.proofs.Common.{◌≡◌, ℕ, Bool, true, false, cond, List, [], ◌∷◌, ◌++◌, map, Option, Some, None, refl}
use Rattle.std.specs.Prelude.{⊤, flat_map}
use Rattle.mqtt_records.specs.messages.Queue.{CopyRow}
use Rattle.mqtt_records.specs.declared.state.session.Session.{Session}
use Rattle.mqtt_rules.specs.step.State.{Line, Broker, session_at, session_named}
use Rattle.mqtt_rules.specs.step.Deeds.{Deed, after, after_all, Act, then, series, only_if, with_session, of_session, with_line}
use Rattle.mqtt_rules.specs.step.Outbound.{of_entry}
use Rattle.mqtt_rules.specs.step.Connect.{of_client}

-- a list of deeds, then another
pub after_append : (xs ys : List Deed) (b : Broker) → after_all (xs ++ ys) b ≡ after_all ys (after_all xs b)
after_append [] ys b = refl
after_append (x ∷ xs) ys b = after_append xs ys (after x b)

-- ---- lists of good deeds, whatever is good

module _ (Good : Deed → Broker → Type 0) where
  -- each on what the ones before it left
  abbrev pub AreGood : List Deed → Broker → Type 0
  AreGood [] b = ⊤
  AreGood (d ∷ ds) b = Good d b × AreGood ds (after d b)

  -- in every state
  abbrev pub GoodAct : Act → Type 0
  GoodAct act = (b : Broker) → AreGood (act b) b

  abbrev pub GoodActs : List Act → Type 0
  GoodActs [] = ⊤
  GoodActs (a ∷ more) = GoodAct a × GoodActs more

  -- good deeds, and good ones behind them, are good
  pub good_append : (xs ys : List Deed) (b : Broker) → AreGood xs b → AreGood ys (after_all xs b) → AreGood (xs ++ ys) b
  good_append [] ys b p q = q
  good_append (x ∷ xs) ys b p q = (p.0, good_append xs ys (after x b) p.1 q)

  -- good deeds, and a good act on what they left, are good
  pub good_then : (ds : List Deed) (act : Act) (b : Broker) → AreGood ds b → AreGood (act (after_all ds b)) (after_all ds b) → AreGood (then ds act b) b
  good_then ds act b p q = good_append ds (act (after_all ds b)) b p q

  -- good acts are good one after the other
  pub good_series : (acts : List Act) → GoodActs acts → GoodAct (series acts)
  good_series [] q b = tt
  good_series (a ∷ acts) q b = good_append (a b) (series acts (after_all (a b) b)) b (q.0 b) (good_series acts q.1 (after_all (a b) b))

  -- two acts, the second of them on what the first left
  pub good_two : (f g : Act) (b : Broker) → AreGood (f b) b → AreGood (g (after_all (f b) b)) (after_all (f b) b) → AreGood (series (f ∷ g ∷ []) b) b
  good_two f g b p q =
      let c = after_all (f b) b in
      good_append (f b) (g c ++ []) b p (good_append (g c) [] c q tt)

  -- deeds made of items are good if each is
  pub good_map : {X : Type 0} (f : X → Deed) → ((x : X) (b : Broker) → Good (f x) b) → (xs : List X) (b : Broker) → AreGood (map f xs) b
  good_map f h [] b = tt
  good_map f h (x ∷ xs) b = (h x b, good_map f h xs (after (f x) b))

  -- lists of deeds made of items are good if each is
  pub good_flat : {X : Type 0} (f : X → List Deed) → ((x : X) (b : Broker) → AreGood (f x) b) → (xs : List X) (b : Broker) → AreGood (flat_map f xs) b
  good_flat f h [] b = tt
  good_flat f h (x ∷ xs) b = good_append (f x) (flat_map f xs) b (h x b) (good_flat f h xs (after_all (f x) b))

  -- acts made of items are good if each is
  pub good_acts : {X : Type 0} (f : X → Act) → ((x : X) → GoodAct (f x)) → (xs : List X) → GoodActs (map f xs)
  good_acts f h [] = tt
  good_acts f h (x ∷ xs) = (h x, good_acts f h xs)

  -- a choice between good deeds is good
  pub good_cond : (t : Bool) (xs ys : List Deed) (b : Broker) → AreGood xs b → AreGood ys b → AreGood (cond t xs ys) b
  good_cond true xs ys b p q = p
  good_cond false xs ys b p q = q

  -- a good act is good under a condition
  pub good_if : (t : Bool) (act : Act) → GoodAct act → GoodAct (only_if t act)
  good_if true act h b = h b
  good_if false act h b = tt

  -- an act of a session is good if it is of the one that is there, or there is none
  pub good_with_session : (o : Option Session) (f : Session → Act) (b : Broker) → ((s : Session) → o ≡ Some s → AreGood (f s b) b) → AreGood (with_session o f b) b
  good_with_session None f b h = tt
  good_with_session (Some s) f b h = h s refl

  -- an act of the session with a birth is good if it is of each session
  pub good_of_session : (birth : ℕ) (f : Session → Act) → ((s : Session) → GoodAct (f s)) → GoodAct (of_session birth f)
  good_of_session birth f h b = good_with_session (session_at birth b.records) f b (λ s e. h s b)

  -- an act of the session of a client is good if it is of each session
  pub good_of_client : (client : List ℕ) (f : Session → Act) → ((s : Session) → GoodAct (f s)) → GoodAct (of_client client f)
  good_of_client client f h b = good_with_session (session_named client b.records) f b (λ s e. h s b)

  -- an act of a line is good if it is of the one that is there, or there is none
  pub good_with_line : (o : Option Line) (f : Line → Act) (b : Broker) → ((l : Line) → o ≡ Some l → AreGood (f l b) b) → AreGood (with_line o f b) b
  good_with_line None f b h = tt
  good_with_line (Some l) f b h = h l refl

  -- deeds of a copy are good if they are of the one that is there, or there is none
  pub good_of_entry : (o : Option CopyRow) (f : CopyRow → List Deed) (b : Broker) → ((e : CopyRow) → AreGood (f e) b) → AreGood (of_entry o f) b
  good_of_entry None f b h = tt
  good_of_entry (Some e) f b h = h e
