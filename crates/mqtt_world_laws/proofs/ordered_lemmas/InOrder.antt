-- The broker accepts a publisher's messages in the order in which they were published, and receivers are handed them so (MQTT 5.0, 4.6).
use Rattle.std.proofs.Common.{◌≡◌, ◌⊎◌, ℕ, true, zero, suc, ◌+◌, ◌<◌, ◌≤◌, List, [], ◌∷◌, ◌++◌, map, Option, Some, None, nat_eq, refl, sym, ap, subst, ◌∙◌, append_assoc, arith, inl, inr}
use Rattle.std.specs.Prelude.{filter_map}
use Rattle.std.specs.List.{AllByRecursion}
use Rattle.std.proofs.lemmas.Bool.{cases_Bool, eqb-true}
use Rattle.std.proofs.lemmas.Cmp.{nat_eq_equiv}
use Rattle.std.proofs.lemmas.List.Elements.{filter_map-append}
use Rattle.mqtt_rules.specs.declared.step.Capacity.{Capacity}
use Rattle.mqtt_rules.specs.step.Deeds.{Accept, Deed, FromClient, FromWill}
use Rattle.mqtt_rules.specs.step.Laws.{AreWithin, IsAmong}
use Rattle.mqtt_rules.specs.step.Numbers.{CountsOn, publication_given}
use Rattle.mqtt_rules.proofs.step_lemmas.fit.FitLaw.{all_among}
use Rattle.mqtt_world_model.specs.model.Ends.{Publisher, Receiver}
use Rattle.mqtt_world_model.specs.model.Laws.{copies_in, stand_among}
use Rattle.mqtt_world_model.specs.model.Run.{Turn, accepted_at, accepted_over, client_number, deeds_at, deeds_over, each_of, message_read, run, setting, turned}
use Rattle.mqtt_world_model.specs.model.World.{World, publisher_named, receiver_named}
use Rattle.mqtt_world_laws.specs.acceptance.Copies.{entered_from, publications_from}
use Rattle.mqtt_world_laws.specs.acceptance.Fair.{IsFair}
use Rattle.mqtt_world_laws.proofs.acceptance_lemmas.copies.CopyRuns.{run_numbers}
use Rattle.mqtt_world_laws.proofs.acceptance_lemmas.copies.Walks.{counted}
use Rattle.mqtt_world_laws.specs.receiver.Drains.{Doing, all_turns}
use Rattle.mqtt_world_laws.proofs.delivery_lemmas.whole.EveryRun.{carried_append, spent_append}
use Rattle.mqtt_world_laws.proofs.routing_lemmas.OwnCounts.{above, counted_append, counted_cons}
use Rattle.mqtt_world_laws.proofs.published_lemmas.Direct.{among_left, among_right}
use Rattle.mqtt_world_laws.proofs.published_lemmas.Parts.{counts_behind, deeds_parts}
use Rattle.mqtt_world_laws.specs.headline.Delivery.{DeliversExactlyOnce}
use Rattle.mqtt_world_laws.specs.headline.Lives.{AreFairLives, BeginsWell, BrokerLife, IsFairScript, after_lives}
use Rattle.mqtt_world_laws.proofs.headline_lemmas.Delivered.{run_delivers_all}
use Rattle.mqtt_world_laws.proofs.headline_lemmas.Lives.{lives_begin}
use Rattle.mqtt_world_laws.proofs.ordered_lemmas.UnderWay.{Stands}
use Rattle.mqtt_world_laws.proofs.ordered_lemmas.Named.{At}
use Rattle.mqtt_world_laws.proofs.ordered_lemmas.OrderRuns.{IsWelcome, none_read, one_if, ordered_after, other_none, over_unread, times}
use Rattle.mqtt_world_laws.proofs.ordered_lemmas.Ledgers.{entries_rise, stands_first}
use Rattle.mqtt_world_laws.proofs.ordered_lemmas.Rising.{run_rises}
use Rattle.mqtt_world_laws.proofs.delivery_lemmas.whole.Newcomers.{run_reads_all}
use Rattle.mqtt_world_laws.specs.ordered.FirstReads.{AreReadInOrder, WasFirstAccepted, WereAccepted, first_reads, publications_read}
use Rattle.mqtt_world_laws.specs.ordered.Ordered.{AreInOrder, IsRising, WasAccepted, WasTurnedAway, WerePublished, publications_handed}

-- ---- numbers that count on

counts_up : (n m : ℕ) (xs : List ℕ) → CountsOn n xs m → n ≤ m
counts_up n m [] h = omega (arith, h)
counts_up n m (x ∷ xs) h = let next = h.0 in let rest = counts_up x m xs h.1 in omega (arith, next, rest)

counts_within : (n m : ℕ) (xs : List ℕ) → CountsOn n xs m → AllByRecursion (λ (k : ℕ). k ≤ m) xs
counts_within n m [] h = tt
counts_within n m (x ∷ xs) h = (counts_up x m xs h.1, counts_within x m xs h.1)

-- what a client's PUBLISH is given is given to a publication
given_so : (k : ℕ) (ds : List Deed) → IsAmong k (filter_map client_number ds) → IsAmong k (filter_map publication_given ds)
given_so k [] h = absurd h
given_so k (Accept number FromClient m ∷ ds) (inl is) = inl is
given_so k (Accept number FromClient m ∷ ds) (inr more) = inr (given_so k ds more)
given_so k (Accept number FromWill m ∷ ds) h = inr (given_so k ds h)
given_so k (d ∷ ds) h = given_so k ds h

-- ---- two turns of one run

-- the first of them is among these
abbrev Before : List Turn → Turn → List Turn → Type 0
Before xs t us = (mid : List Turn) × (us ≡ xs ++ t ∷ mid)

split : (xs : List Turn) (t : Turn) (ys us : List Turn) (v : Turn) (vs : List Turn) → xs ++ t ∷ ys ≡ us ++ v ∷ vs → Before xs t us ⊎ (((xs ≡ us) × (t ≡ v)) ⊎ Before us v xs)
split [] t ys [] v vs e = let same : t ≡ v = cc in inr (inl (refl, same))
split [] t ys (u ∷ us) v vs e = let same : t ≡ u = cc in inl (us, ap (λ (z : Turn). z ∷ us) (sym same))
split (x ∷ xs) t ys [] v vs e = let same : x ≡ v = cc in inr (inr (xs, ap (λ (z : Turn). z ∷ xs) same))
split (x ∷ xs) t ys (u ∷ us) v vs e =
    let same : x ≡ u = cc in
    let rest : xs ++ t ∷ ys ≡ us ++ v ∷ vs = cc in
    elim (split xs t ys us v vs rest) [
      | inl b ↦ inl (b.0, ap (λ (zs : List Turn). u ∷ zs) b.1 ∙ ap (λ (z : Turn). z ∷ (xs ++ t ∷ b.0)) (sym same))
      | inr (inl is) ↦ inr (inl (ap (λ (zs : List Turn). x ∷ zs) is.0 ∙ ap (λ (z : Turn). z ∷ us) same, is.1))
      | inr (inr b) ↦ inr (inr (b.0, ap (λ (zs : List Turn). x ∷ zs) b.1 ∙ ap (λ (z : Turn). z ∷ (us ++ v ∷ b.0)) same))
    ]

-- ---- how often a message is accepted in them

accepted_parts : (client : List ℕ) (limits : Capacity) (xs ys : List Turn) (w : World) → accepted_over client limits (xs ++ ys) w ≡ accepted_over client limits xs w ++ accepted_over client limits ys (run limits xs w)
accepted_parts client limits [] ys w = refl
accepted_parts client limits (t ∷ xs) ys w =
    let v = turned limits t w in
    let now = accepted_at client (setting limits t) t.event w in
    ap (λ (ks : List ℕ). now ++ ks) (accepted_parts client limits xs ys v) ∙ sym (append_assoc now (accepted_over client limits xs v) (accepted_over client limits ys (run limits xs v)))

some_counted : (n k : ℕ) (ks : List ℕ) → IsAmong k ks → 1 ≤ times n (map (λ (j : ℕ). n) ks)
some_counted n k [] h = absurd h
some_counted n k (j ∷ ks) h =
    let first = counted_cons (nat_eq n) n (map (λ (i : ℕ). n) ks) in
    let its : one_if (nat_eq n n) ≡ 1 = let it = nat_eq_equiv.refl n in rw it refl in
    omega (arith, first, its)

-- once more by a turn in which it is
once_more : (client : List ℕ) (n number : ℕ) (limits : Capacity) (earlier : List Turn) (turn : Turn) (later : List Turn) (w : World) → message_read client turn.event (run limits earlier w) ≡ Some n
    → IsAmong number (filter_map client_number (deeds_at (setting limits turn) turn.event (run limits earlier w)))
    → times n (accepted_over client limits earlier w) + 1 ≤ times n (accepted_over client limits (earlier ++ turn ∷ later) w)
once_more client n number limits earlier turn later w read among =
    let v = run limits earlier w in
    let ds = deeds_at (setting limits turn) turn.event v in
    let rest = accepted_over client limits later (turned limits turn v) in
    let now = accepted_at client (setting limits turn) turn.event v in
    let parts : times n (accepted_over client limits (earlier ++ turn ∷ later) w) ≡ times n (accepted_over client limits earlier w) + times n (now ++ rest) =
    ap (times n) (accepted_parts client limits earlier (turn ∷ later) w) ∙ counted_append (nat_eq n) (accepted_over client limits earlier w) (now ++ rest) in
    let both = counted_append (nat_eq n) now rest in
    let some : 1 ≤ times n now = subst (λ (o : Option ℕ). 1 ≤ times n (each_of o ds)) (sym read) (some_counted n number (filter_map client_number ds) among) in
    omega (arith, parts, both, some)

-- ---- a message that was accepted was first accepted as some publication

further : (client : List ℕ) (n : ℕ) (limits : Capacity) (t : Turn) (ts : List Turn) (w : World) → times n (accepted_at client (setting limits t) t.event w) ≡ 0 → ((number : ℕ) × WasFirstAccepted client n number limits ts (turned limits t w))
    → (number : ℕ) × WasFirstAccepted client n number limits (t ∷ ts) w
further client n limits t ts w not_now x =
    let a = x.1.accepted in (
      x.0,
      record {
        accepted = record {
          earlier = t ∷ a.earlier;
          turn = a.turn;
          later = a.later;
          are = ap (λ (us : List Turn). t ∷ us) a.are;
          read = a.read;
          number_is = a.number_is;
        };
        none =
            let both = counted_append (nat_eq n) (accepted_at client (setting limits t) t.event w) (accepted_over client limits a.earlier (turned limits t w)) in
            let rest = x.1.none in
            omega (arith, both, not_now, rest);
      },
    )

here : (client : List ℕ) (n : ℕ) (limits : Capacity) (t : Turn) (ts : List Turn) (w : World) → 1 ≤ times n (accepted_at client (setting limits t) t.event w) → (number : ℕ) × WasFirstAccepted client n number limits (t ∷ ts) w
here client n limits t ts w some = by (message_read client t.event w) refl some
  where
    ds : List Deed
    ds = deeds_at (setting limits t) t.event w

    among : (ks : List ℕ) → filter_map client_number ds ≡ ks → message_read client t.event w ≡ Some n → 1 ≤ times n (map (λ (j : ℕ). n) ks) → (number : ℕ) × WasFirstAccepted client n number limits (t ∷ ts) w
    among [] are read h = let none : 1 ≤ 0 = h in absurd (omega (arith, none))
    among (k ∷ ks) are read h = (k, record { accepted = record { earlier = []; turn = t; later = ts; are = refl; read = read; number_is = subst (λ (js : List ℕ). IsAmong k js) (sym are) (inl refl) }; none = refl })

    by : (o : Option ℕ) → message_read client t.event w ≡ o → 1 ≤ times n (each_of o ds) → (number : ℕ) × WasFirstAccepted client n number limits (t ∷ ts) w
    by None read h = let none : 1 ≤ 0 = h in absurd (omega (arith, none))
    by (Some k) read h = elim (cases_Bool (nat_eq n k)) [
      | inl is ↦
          let same : n ≡ k = eqb-true n k is in
          among (filter_map client_number ds) refl (read ∙ ap Some (sym same)) (subst (λ (j : ℕ). 1 ≤ times n (map (λ (i : ℕ). j) (filter_map client_number ds))) (sym same) h)
      | inr other ↦ let none = other_none n k (filter_map client_number ds) other in absurd (omega (arith, none, h))
    ]

first_accepted : (client : List ℕ) (n : ℕ) (limits : Capacity) (ts : List Turn) (w : World) → 1 ≤ times n (accepted_over client limits ts w) → (number : ℕ) × WasFirstAccepted client n number limits ts w
first_accepted client n limits [] w some = let none : 1 ≤ 0 = some in absurd (omega (arith, none))
first_accepted client n limits (t ∷ ts) w some = by (times n now) refl (λ not_now h. further client n limits t ts w not_now (first_accepted client n limits ts v h))
  where
    v : World
    v = turned limits t w

    now : List ℕ
    now = accepted_at client (setting limits t) t.event w

    by : (k : ℕ) → times n now ≡ k → (times n now ≡ 0 → 1 ≤ times n (accepted_over client limits ts v) → (number : ℕ) × WasFirstAccepted client n number limits (t ∷ ts) w) → (number : ℕ) × WasFirstAccepted client n number limits (t ∷ ts) w
    by zero none rest = let both = counted_append (nat_eq n) now (accepted_over client limits ts v) in rest none (omega (arith, both, none, some))
    by (suc k) is rest = here client n limits t ts w (omega (arith, is))

was_accepted : (client : List ℕ) (n : ℕ) (limits : Capacity) (ts : List Turn) (w : World) → 1 ≤ times n (accepted_over client limits ts w) → (number : ℕ) × WasAccepted client n number limits ts w
was_accepted client n limits ts w some = let x = first_accepted client n limits ts w some in (x.0, x.1.accepted)

-- ---- a run

module _ (limits : Capacity) (ts : List Turn) (w : World) (begins : BeginsWell limits w) (fair : IsFair limits ts w) where
  all : DeliversExactlyOnce limits ts w
  all = run_delivers_all limits ts w begins fair

  -- ---- publications are numbered in the order in which they are accepted

  begun : (xs ys : List Turn) → xs ++ ys ≡ ts → IsFair limits xs w
  begun xs ys are =
      let whole : IsFair limits (xs ++ ys) w = subst (λ (zs : List Turn). IsFair limits zs w) (sym are) fair in
      record { within = fair.within; unspent = (spent_append limits xs ys w whole.unspent).0; clean = (carried_append limits xs ys w whole.clean).0 }

  abbrev last_at : List Turn → ℕ
  last_at xs = (run limits xs w).broker.records.publications

  numbered_by : (xs ys : List Turn) → xs ++ ys ≡ ts → CountsOn w.broker.records.publications (publications_from limits xs w) (last_at xs)
  numbered_by xs ys are = run_numbers limits xs w begins.untouched.new (counted limits xs w (begun xs ys are))

  -- the message that was published earlier was never turned away, and not accepted before
  module _ (client : List ℕ) (m n first second : ℕ) (less : m < n) (stays : WasTurnedAway client m limits ts w → ⊥) (p : WasAccepted client m first limits ts w) (q : WasAccepted client n second limits ts w)
      (not_yet : 1 ≤ times m (accepted_over client limits p.earlier w) → ⊥) where
    -- the second has a number above those that were given by then
    second_above : last_at q.earlier < second
    second_above =
        let since = q.turn ∷ q.later in
        let v = run limits q.earlier w in
        let whole : IsFair limits (q.earlier ++ since) w = subst (λ (zs : List Turn). IsFair limits zs w) (sym q.are) fair in
        let ns = filter_map publication_given (deeds_over limits since v) in
        let end = last_at (q.earlier ++ since) in
        let both : CountsOn w.broker.records.publications (publications_from limits q.earlier w ++ ns) end = subst (λ (ks : List ℕ). CountsOn w.broker.records.publications ks end)
        (ap (filter_map publication_given) (deeds_parts limits q.earlier since w) ∙ filter_map-append publication_given (deeds_over limits q.earlier w) (deeds_over limits since v))
        (run_numbers limits (q.earlier ++ since) w begins.untouched.new (counted limits (q.earlier ++ since) w whole)) in
        let behind = counts_behind w.broker.records.publications (last_at q.earlier) end (publications_from limits q.earlier w) ns (numbered_by q.earlier since q.are) both in
        let now = deeds_at (setting limits q.turn) q.turn.event v in
        let rest = deeds_over limits q.later (turned limits q.turn v) in
        let among : IsAmong second ns = subst (λ (ks : List ℕ). IsAmong second ks) (sym (filter_map-append publication_given now rest))
        (among_left second (filter_map publication_given now) (filter_map publication_given rest) (given_so second now q.number_is)) in
        all_among (λ (k : ℕ). last_at q.earlier < k) second ns (above (last_at q.earlier) end ns behind) among

    -- the first has one of those, if it was accepted by then
    first_within : Before p.earlier p.turn q.earlier → first ≤ last_at q.earlier
    first_within b =
        let v = run limits p.earlier w in
        let now = deeds_at (setting limits p.turn) p.turn.event v in
        let rest = deeds_over limits b.0 (turned limits p.turn v) in
        let since = filter_map publication_given (now ++ rest) in
        let there : IsAmong first since = subst (λ (ks : List ℕ). IsAmong first ks) (sym (filter_map-append publication_given now rest))
        (among_left first (filter_map publication_given now) (filter_map publication_given rest) (given_so first now p.number_is)) in
        let are : publications_from limits q.earlier w ≡ publications_from limits p.earlier w ++ since =
        ap (λ (us : List Turn). publications_from limits us w) b.1
        ∙ (ap (filter_map publication_given) (deeds_parts limits p.earlier (p.turn ∷ b.0) w) ∙ filter_map-append publication_given (deeds_over limits p.earlier w) (now ++ rest)) in
        let among : IsAmong first (publications_from limits q.earlier w) = subst (λ (ks : List ℕ). IsAmong first ks) (sym are) (among_right first (publications_from limits p.earlier w) since there) in
        all_among (λ (k : ℕ). k ≤ last_at q.earlier) first (publications_from limits q.earlier w)
        (counts_within w.broker.records.publications (last_at q.earlier) (publications_from limits q.earlier w) (numbered_by q.earlier (q.turn ∷ q.later) q.are)) among

    -- it is not accepted in the same turn
    not_at_once : (p.earlier ≡ q.earlier) × (p.turn ≡ q.turn) → first < second
    not_at_once same =
        let there : message_read client p.turn.event (run limits q.earlier w) ≡ Some m = subst (λ (us : List Turn). message_read client p.turn.event (run limits us w) ≡ Some m) same.0 p.read in
        let its : message_read client q.turn.event (run limits q.earlier w) ≡ Some m = subst (λ (t : Turn). message_read client t.event (run limits q.earlier w) ≡ Some m) same.1 there in
        let clash : Some m ≡ Some n = sym its ∙ q.read in
        let equal : m ≡ n = cc in
        absurd (omega (arith, equal, less))

    welcome : IsWelcome m n less client limits [] p.earlier w
    welcome earlier t later are read = by (times m (accepted_over client limits (earlier ++ t ∷ []) w)) refl
      where
        rest : List Turn
        rest = p.turn ∷ p.later

        by : (k : ℕ) → times m (accepted_over client limits (earlier ++ t ∷ []) w) ≡ k → 1 ≤ times m (accepted_over client limits (earlier ++ t ∷ []) w)
        by zero none = absurd (stays (record {
          earlier = earlier;
          turn = t;
          later = later ++ rest;
          are = sym (append_assoc earlier (t ∷ later) rest) ∙ (ap (λ (us : List Turn). us ++ rest) are ∙ p.are);
          read = read;
          none = none;
        }))
        by (suc k) is = omega (arith, is)

    -- nor later
    not_later : Before q.earlier q.turn p.earlier → first < second
    not_later b = elim (ordered_after m n less client limits p.earlier w begins.untouched.new (begun p.earlier (p.turn ∷ p.later) p.are) welcome) [
      | inl some ↦ absurd (not_yet some)
      | inr there ↦ by (publisher_named client (run limits p.earlier w)) refl there
    ]
      where
        A : Type 0
        A = times n (accepted_over client limits p.earlier w) ≡ 0

        by : (o : Option Publisher) → publisher_named client (run limits p.earlier w) ≡ o → At A (Stands m n A) o (run limits p.earlier w).broker → first < second
        by None named h = absurd (none_read client m p.turn.event (run limits p.earlier w) named p.read)
        by (Some s) named (inl over) = absurd (over_unread m n less client limits p.turn.event (run limits p.earlier w) s named over p.read)
        by (Some s) named (inr ahead) =
            let more = once_more client n second limits q.earlier q.turn b.0 w q.read q.number_is in
            let same : times n (accepted_over client limits p.earlier w) ≡ times n (accepted_over client limits (q.earlier ++ q.turn ∷ b.0) w) = ap (λ (us : List Turn). times n (accepted_over client limits us w)) b.1 in
            let none = ahead.1 in
            absurd (omega (arith, more, same, none))

    -- so it is accepted before
    accepted_first : first < second
    accepted_first = elim (split p.earlier p.turn p.later q.earlier q.turn q.later (p.are ∙ sym q.are)) [
      | inl before ↦ let low = first_within before in let high = second_above in omega (arith, low, high)
      | inr (inl same) ↦ not_at_once same
      | inr (inr later) ↦ not_later later
    ]

  -- a message of QoS 2 is accepted once
  accepted_once : (client : List ℕ) (m n first second : ℕ) → WerePublished client m n first second limits ts w → first < second
  accepted_once client m n first second x =
      let p = x.first_is in
      accepted_first client m n first second x.earlier x.welcome p x.second_is
      (λ some.
      let once : times m (accepted_over client limits ts w) ≤ 1 = (all.messages.each client m).once x.exactly_once in
      let more = once_more client m first limits p.earlier p.turn p.later w p.read p.number_is in
      let same : times m (accepted_over client limits (p.earlier ++ p.turn ∷ p.later) w) ≡ times m (accepted_over client limits ts w) = ap (λ (us : List Turn). times m (accepted_over client limits us w)) p.are in
      omega (arith, some, once, more, same))

  -- of any other the first acceptance counts
  first_before : (client : List ℕ) (m n first second : ℕ) → WereAccepted client m n first second limits ts w → first < second
  first_before client m n first second x =
      let none = x.first_is.none in
      accepted_first client m n first second x.earlier x.welcome x.first_is.accepted x.second_is (λ some. omega (arith, some, none))

  -- ---- ledgers

  handed : (reader : List ℕ) (r : Receiver) → receiver_named reader (run limits ts w) ≡ Some r → IsRising (publications_handed r)
  handed reader r e = entries_rise r.ledger (entered_from limits ts w) (all.receivers reader r e).as_entered (run_rises limits ts w begins.untouched.new (counted limits ts w fair))

  -- in every fair run that begins well messages stay in order
  pub all_in_order : AreInOrder limits ts w
  all_in_order = record {
    numbered = λ client n some. was_accepted client n limits ts w some;
    accepted = accepted_once;
    handed = handed;
    published = λ client m n first second x reader r e. stands_first first second (accepted_once client m n first second x) r.ledger (handed reader r e);
  }

  -- ---- what was read of QoS 1

  entered_so : (reader : List ℕ) (r : Receiver) → receiver_named reader (run limits ts w) ≡ Some r → stand_among (copies_in (first_reads r.once)) (entered_from limits ts w) ≡ true
  entered_so reader r e = run_reads_all limits ts w begins.untouched fair reader r e

  read : (reader : List ℕ) (r : Receiver) → receiver_named reader (run limits ts w) ≡ Some r → IsRising (publications_read r)
  read reader r e = entries_rise (first_reads r.once) (entered_from limits ts w) (entered_so reader r e) (run_rises limits ts w begins.untouched.new (counted limits ts w fair))

  -- messages of QoS 1 stay in order, too, by first acceptances and first reads
  pub all_read_in_order : AreReadInOrder limits ts w
  all_read_in_order = record {
    numbered = λ client n some. first_accepted client n limits ts w some;
    accepted = first_before;
    read = read;
    published = λ client m n first second x reader r e. stands_first first second (first_before client m n first second x) (first_reads r.once) (read reader r e);
    as_entered = entered_so;
  }

-- and behind any lives of the broker
pub lives_in_order : (limits : Capacity) (ls : List BrokerLife) (ds : List Doing) → AreWithin limits → AreFairLives limits ls → IsFairScript limits ds (after_lives limits ls) → AreInOrder limits (all_turns limits ds (after_lives limits ls)) (after_lives limits ls)
lives_in_order limits ls ds within h fair = all_in_order limits (all_turns limits ds (after_lives limits ls)) (after_lives limits ls) (lives_begin limits ls within h) fair

-- and so at QoS 1
pub lives_read_in_order : (limits : Capacity) (ls : List BrokerLife) (ds : List Doing) → AreWithin limits → AreFairLives limits ls → IsFairScript limits ds (after_lives limits ls) → AreReadInOrder limits (all_turns limits ds (after_lives limits ls)) (after_lives limits ls)
lives_read_in_order limits ls ds within h fair = all_read_in_order limits (all_turns limits ds (after_lives limits ls)) (after_lives limits ls) (lives_begin limits ls within h) fair
