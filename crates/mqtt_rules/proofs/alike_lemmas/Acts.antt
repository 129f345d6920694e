-- Acts that do alike on brokers that are alike, and how they are joined.
use Rattle.std.proofs.Common.{ℕ, Bool, true, false, List, [], ◌∷◌, Option, Some, None, bytes_eq, ap}
use Rattle.std.specs.Prelude.{flat_map}
use Rattle.mqtt_records.specs.messages.Queue.{CopyRow}
use Rattle.mqtt_records.specs.declared.state.session.Session.{Session}
use Rattle.mqtt_rules.specs.step.State.{Line, Broker, session_at, session_named}
use Rattle.mqtt_rules.specs.step.Deeds.{Deed, Act, after_all, then, series, always, only_if, with_session, of_session, with_line}
use Rattle.mqtt_rules.specs.step.Connect.{of_client}
use Rattle.mqtt_rules.specs.alike.Alike.{Each, AlikeRows, AlikeSessions, AlikeBrokers, AlikeDeeds, with_queue, with_sessions}
use Rattle.mqtt_rules.proofs.alike_lemmas.Pairs.{Both, each_refl, each_append, both_found}
use Rattle.mqtt_rules.proofs.alike_lemmas.States.{deed_alike, by_queue, like, broker_put, by_broker, session_found, all_after_alike}

module _ (P : Type 0) where
  -- on two brokers that are alike the two acts do alike deeds
  pub record AlikeActs (f g : Act) : Type 0 where
    pub does : (b : Broker) (ss : List Session) → Each AlikeSessions b.records.sessions ss → Each (AlikeDeeds P) (f b) (g (like ss b))

  -- on any two that are alike
  pub does_on : {f g : Act} → AlikeActs f g → (b c : Broker) → AlikeBrokers b c → Each (AlikeDeeds P) (f b) (g c)
  does_on {f = f} {g = g} k b c h = by_broker (λ (x : Broker). Each (AlikeDeeds P) (f b) (g x)) b (k.does b) c h

  -- deeds are alike to themselves
  pub same_deeds : (ds : List Deed) → Each (AlikeDeeds P) ds ds
  same_deeds ds = each_refl (AlikeDeeds P) (deed_alike P) ds

  -- deeds that are alike, and then acts that are, do alike
  pub then_alike : (ds es : List Deed) → Each (AlikeDeeds P) ds es → (f g : Act) → AlikeActs f g → (b : Broker) (ss : List Session) → Each AlikeSessions b.records.sessions ss
      → Each (AlikeDeeds P) (then ds f b) (then es g (like ss b))
  then_alike ds es k f g a b ss h =
      each_append (AlikeDeeds P) ds es (f (after_all ds b)) (g (after_all es (like ss b))) k
      (does_on a (after_all ds b) (after_all es (like ss b)) (all_after_alike P ds es k b (like ss b) (broker_put b ss h)))

  -- acts that are alike one by one do alike one after the other
  pub series_alike : (fs gs : List Act) → Each AlikeActs fs gs → AlikeActs (series fs) (series gs)
  series_alike [] [] k = record { does = λ b ss h. tt }
  series_alike [] (g ∷ gs) k = absurd k
  series_alike (f ∷ fs) [] k = absurd k
  series_alike (f ∷ fs) (g ∷ gs) k =
      record { does = λ b ss h. then_alike (f b) (g (like ss b)) (k.0.does b ss h) (series fs) (series gs) (series_alike fs gs k.1) b ss h }

  -- two acts one after the other are alike if each is
  pub two_alike : {f g h k : Act} → AlikeActs f g → AlikeActs h k → AlikeActs (series (f ∷ h ∷ [])) (series (g ∷ k ∷ []))
  two_alike {f = f} {g = g} {h = h} {k = k} p q = series_alike (f ∷ h ∷ []) (g ∷ k ∷ []) (p, (q, tt))

  -- three acts one after the other are alike if each is
  pub three_alike : {f g h k m n : Act} → AlikeActs f g → AlikeActs h k → AlikeActs m n → AlikeActs (series (f ∷ h ∷ m ∷ [])) (series (g ∷ k ∷ n ∷ []))
  three_alike {f = f} {g = g} {h = h} {k = k} {m = m} {n = n} p q r = series_alike (f ∷ h ∷ m ∷ []) (g ∷ k ∷ n ∷ []) (p, (q, (r, tt)))

  -- an act of the same deeds is alike to itself
  pub always_same : (ds : List Deed) → AlikeActs (always ds) (always ds)
  always_same ds = record { does = λ b ss h. same_deeds ds }

  -- acts of alike deeds are alike
  pub always_alike : {ds es : List Deed} → Each (AlikeDeeds P) ds es → AlikeActs (always ds) (always es)
  always_alike k = record { does = λ b ss h. k }

  -- acts under the same condition are alike if they are without it
  pub only_if_alike : (t : Bool) {f g : Act} → AlikeActs f g → AlikeActs (only_if t f) (only_if t g)
  only_if_alike true k = record { does = λ b ss h. k.does b ss h }
  only_if_alike false k = record { does = λ b ss h. tt }

  module _ (f g : Session → Act) (k : (s : Session) (q : List CopyRow) → Each AlikeRows s.queue q → AlikeActs (f s) (g (with_queue q s))) where
    -- acts of two sessions that are alike are alike
    pub on_session : (s t : Session) → AlikeSessions s t → AlikeActs (f s) (g t)
    on_session s t h = by_queue (λ (x : Session). AlikeActs (f s) (g x)) s (k s) t h

    with_session_alike : (o p : Option Session) → Both AlikeSessions o p → AlikeActs (with_session o f) (with_session p g)
    with_session_alike None None h = record { does = λ b ss i. tt }
    with_session_alike None (Some t) h = absurd h
    with_session_alike (Some s) None h = absurd h
    with_session_alike (Some s) (Some t) h = record { does = λ b ss i. (on_session s t h).does b ss i }

    -- acts of the session with a birth are alike
    pub of_session_alike : (birth : ℕ) → AlikeActs (of_session birth f) (of_session birth g)
    of_session_alike birth = record {
      does = λ b ss h. (with_session_alike (session_at birth b.records) (session_at birth (with_sessions ss b.records)) (session_found birth b.records ss h)).does b ss h;
    }

    -- acts of the session of a client are alike
    pub of_client_alike : (client : List ℕ) → AlikeActs (of_client client f) (of_client client g)
    of_client_alike client = record {
      does = λ b ss h. (with_session_alike (session_named client b.records) (session_named client (with_sessions ss b.records))
          (both_found AlikeSessions (λ s. bytes_eq s.client client) (λ s. bytes_eq s.client client) (λ s t i. ap (λ (x : Session). bytes_eq x.client client) i.rest) b.records.sessions ss h)).does b ss h;
    }

  -- acts of a line are alike if they are for each line
  pub with_line_alike : (o : Option Line) (f g : Line → Act) → ((l : Line) → AlikeActs (f l) (g l)) → AlikeActs (with_line o f) (with_line o g)
  with_line_alike None f g k = record { does = λ b ss h. tt }
  with_line_alike (Some l) f g k = record { does = λ b ss h. (k l).does b ss h }

  -- lists of deeds made of items are alike if they are of each
  pub flat_alike : {X : Type 0} (f g : X → List Deed) → ((x : X) → Each (AlikeDeeds P) (f x) (g x)) → (xs : List X) → Each (AlikeDeeds P) (flat_map f xs) (flat_map g xs)
  flat_alike f g k [] = tt
  flat_alike f g k (x ∷ xs) = each_append (AlikeDeeds P) (f x) (g x) (flat_map f xs) (flat_map g xs) (k x) (flat_alike f g k xs)
