-- Lists of deeds in which each end has its cause: by the deeds before and behind each, and one list after another.
use Rattle.std.proofs.Common.{◌≡◌, List, [], ◌∷◌, ◌++◌, map, Option, Some, None, refl, sym, ap, subst, append_assoc, append-nil}
use Rattle.std.specs.Prelude.{⊤, filter_map}
use Rattle.std.specs.List.{AllByRecursion, cons_option}
use Rattle.mqtt_records.specs.declared.state.session.Session.{Session}
use Rattle.mqtt_rules.specs.step.State.{Broker, session_at}
use Rattle.mqtt_rules.specs.step.Deeds.{whose, Leave, Deed, At, after, after_all}
use Rattle.mqtt_rules.proofs.step_lemmas.acts.Goods.{AreGood}
use Rattle.mqtt_rules.proofs.step_lemmas.fit.Turns.{Stands}
use Rattle.mqtt_world_model.specs.model.Run.{End, ended_in}
use Rattle.mqtt_world_laws.specs.causes.Endings.{Asked, EndAt, end_at, ends_of, end_of}
use Rattle.mqtt_world_laws.specs.causes.Causes.{IsCause, HasCause}

-- the same as in the counts of a run
pub ends_counted : (m : Asked) (ds : List Deed) (b : Broker) → map end_of (ends_of m ds b) ≡ filter_map ended_in ds
ends_counted m [] b = refl
ends_counted m (d ∷ ds) b = one d (ends_of m ds (after d b)) (ends_counted m ds (after d b))
  where
    one : (d : Deed) (xs : List EndAt) → map end_of xs ≡ filter_map ended_in ds → map end_of (cons_option (end_at m b ds d) xs) ≡ cons_option (ended_in d) (filter_map ended_in ds)
    one (At who (Leave e ending)) xs h = ap (λ (es : List End). (record { client = who.client; copy = e.copy.id; qos = e.copy.qos; by = ending }) ∷ es) h
    one d xs h = h

module _ (m : Asked) where
  -- an end of deeds with its cause, whatever is said of the queue
  pub record Follows (x : EndAt) : Type 0 where
    pub session : Session
    pub found : session_at x.who.birth x.broker.records ≡ Some session
    pub its : whose session ≡ x.who
    pub cause : IsCause x.ending x session

  abbrev pub OfEnd : Option EndAt → Type 0
  OfEnd None = ⊤
  OfEnd (Some x) = Follows x

  -- each deed on what the ones before it left, with these deeds behind all
  abbrev pub CausedBefore : List Deed → List Deed → Broker → Type 0
  CausedBefore rest [] b = ⊤
  CausedBefore rest (d ∷ ds) b = OfEnd (end_at m b (ds ++ rest) d) × CausedBefore rest ds (after d b)

  abbrev pub Caused : List Deed → Broker → Type 0
  Caused ds b = (rest : List Deed) → CausedBefore rest ds b

  -- deeds whose ends have their causes, and others behind them, have them together
  pub caused_next : (xs ys : List Deed) (b : Broker) → Caused xs b → Caused ys (after_all xs b) → Caused (xs ++ ys) b
  caused_next [] ys b p q rest = q rest
  caused_next (x ∷ xs) ys b p q rest =
      let behind : xs ++ (ys ++ rest) ≡ (xs ++ ys) ++ rest = sym (append_assoc xs ys rest) in
      ((subst (λ (ds : List Deed). OfEnd (end_at m b ds x)) behind (p (ys ++ rest)).0), joined xs ys (after x b) rest (p (ys ++ rest)).1 (q rest))
    where
      joined : (xs ys : List Deed) (b : Broker) (rest : List Deed) → CausedBefore (ys ++ rest) xs b → CausedBefore rest ys (after_all xs b) → CausedBefore rest (xs ++ ys) b
      joined [] ys b rest p q = q
      joined (x ∷ xs) ys b rest p q =
          (subst (λ (ds : List Deed). OfEnd (end_at m b ds x)) (sym (append_assoc xs ys rest)) p.0, joined xs ys (after x b) rest p.1 q)

  -- ---- deeds that end no copy

  abbrev pub IsQuiet : Deed → Type 0
  IsQuiet (At who (Leave e ending)) = ⊥
  IsQuiet d = ⊤

  abbrev pub AreQuiet : List Deed → Type 0
  AreQuiet ds = AllByRecursion IsQuiet ds

  quiet_one : (b : Broker) (ds : List Deed) (d : Deed) → IsQuiet d → OfEnd (end_at m b ds d)
  quiet_one b ds (At who (Leave e ending)) h = absurd h
  quiet_one b ds d h = tt

  -- deeds that end no copy need no cause
  pub quietly : (ds : List Deed) (b : Broker) → AreQuiet ds → Caused ds b
  quietly [] b h rest = tt
  quietly (d ∷ ds) b h rest = (quiet_one b (ds ++ rest) d h.0, quietly ds (after d b) h.1 rest)

  -- ---- with what is known of the queues

  stood : (b : Broker) (ds : List Deed) (d : Deed) (xs : List EndAt) → OfEnd (end_at m b (ds ++ []) d) → Stands d b → AllByRecursion HasCause xs → AllByRecursion HasCause (cons_option (end_at m b ds d) xs)
  stood b ds (At who (Leave e ending)) xs p q h =
      let x = subst (λ (behind : List Deed). OfEnd (end_at m b behind (At who (Leave e ending)))) (append-nil ds) p in
      (record { session = x.session; found = x.found; its = x.its; stands = q x.session x.found; cause = x.cause }, h)
  stood b ds d xs p q h = h

  each_stood : (ds : List Deed) (b : Broker) → CausedBefore [] ds b → AreGood Stands ds b → AllByRecursion HasCause (ends_of m ds b)
  each_stood [] b p q = tt
  each_stood (d ∷ ds) b p q = stood b ds d (ends_of m ds (after d b)) p.0 q.0 (each_stood ds (after d b) p.1 q.1)

  -- each copy that ends in such deeds has its cause
  pub all_caused : (ds : List Deed) (b : Broker) → Caused ds b → AreGood Stands ds b → AllByRecursion HasCause (ends_of m ds b)
  all_caused ds b p q = each_stood ds b (p []) q
