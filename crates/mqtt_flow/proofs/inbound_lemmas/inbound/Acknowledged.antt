-- PUBACK, PUBREC and PUBCOMP, as the publisher reads them, keep the invariant.
use Rattle.std.proofs.Common.{◌≡◌, inl, inr, ⊎_elim, ℕ, ◌≤◌, Bool, true, false, ◌&&◌, List, [], ◌∷◌, map, nat_eq, refl, ◌∙◌, Option, Some, None, option_map, slice_get, eqb-true}
use Rattle.std.specs.List.{list_any}
use Rattle.std.proofs.lemmas.Option.{slice_get-map}
use Rattle.mqtt_base.specs.Codes.{is_success}
use Rattle.mqtt_flow.specs.inbound.Identifiers.{is_among}
use Rattle.mqtt_flow.specs.inbound.Line.{sent_on}
use Rattle.mqtt_flow.specs.inbound.Publisher.{Fate, sent_1, ended_1, sent, released, ended, FromPublisher, PUBREL, ToPublisher, PUBACK, PUBREC, PUBCOMP, acknowledged, received, on_puback, on_pubrec, on_pubcomp, is_sent, pubrel_if, pubrel_for}
use Rattle.mqtt_flow.specs.inbound.InboundWorld.{World, count_of}
use Rattle.mqtt_flow.proofs.inbound_lemmas.Identifiers.{test_cases, same_id}
use Rattle.mqtt_flow.proofs.inbound_lemmas.inbound.Came.{puback_came, pubrec_came, pubcomp_came}
use Rattle.mqtt_flow.proofs.inbound_lemmas.inbound.Stages.{for_puback, for_pubrec, Stage, free, releasing, held, ups, downs, AtMost, at_most_more, At, Told, is_live, Norm, same_stage, by_id}
use Rattle.mqtt_flow.proofs.inbound_lemmas.inbound.Fates.{only, received_marks, held-on_puback_same, held-on_puback_other, held-on_pubrec_same, held-on_pubrec_other, held-on_pubcomp_same, held-on_pubcomp_other}
use Rattle.mqtt_flow.proofs.inbound_lemmas.inbound.Messages.{same_number}
use Rattle.mqtt_flow.proofs.inbound_lemmas.inbound.BrokerReads.{absent}
use Rattle.mqtt_flow.proofs.inbound_lemmas.inbound.Sends.{sent_at_most, sent_other, plain_sent, plain_pubrel, on_at, down_each}

-- PUBACK
pub told_acknowledged : (b : Bool) (o : List ℕ) (c : ℕ) → (b ≡ true → 1 ≤ c) → Told o c (Some (acknowledged b))
told_acknowledged true o c h = h refl
told_acknowledged false o c h = tt

-- what is told of a message goes on being true behind its PUBACK
pub told_puback : (i code c : ℕ) (o : List ℕ) (f : Option Fate) → (f ≡ Some (sent_1 i) → is_success code ≡ true → 1 ≤ c) → Told o c f → Told o c (option_map (on_puback i code) f)
told_puback i code c o None h t = t
told_puback i code c o (Some (sent_1 k)) h t = ⊎_elim
    (λ (e : nat_eq i k ≡ true). rw e (told_acknowledged (is_success code) o c (h (rw (eqb-true i k e) refl))))
    (λ (e : nat_eq i k ≡ false). rw e tt)
    (test_cases (nat_eq i k))
told_puback i code c o (Some (ended_1 by)) h t = t
told_puback i code c o (Some (sent k)) h t = t
told_puback i code c o (Some (released k)) h t = t
told_puback i code c o (Some (ended by)) h t = t

abbrev pub after_puback : ℕ → ℕ → List ToPublisher → World → World
after_puback i code rest w = record w { down = rest; fates = map (on_puback i code) w.fates }

-- a PUBACK that is read leaves the hop in order
pub puback_keeps : (i code : ℕ) (rest : List ToPublisher) (w : World) → w.down ≡ PUBACK i code ∷ rest → Norm w → Norm (after_puback i code rest w)
puback_keeps i code rest w e inv =
    let each = down_each w (PUBACK i code ∷ rest) e inv in
    let c = puback_came (each i).0 (each i).1 in
    let on = on_at w e refl inv in
    let here : (m : ℕ) → slice_get w.fates m ≡ Some (sent_1 i) → is_success code ≡ true → 1 ≤ count_of m w.accepted =
    λ m g s. let q = same_number m c.0 for_puback for_puback (only i 0 c.0 m for_puback for_puback w.fates c.1.holds g) in rw q (c.3 s)
    in
    record {
      each = λ j. by_id (λ j. (s : Stage) × At j (map (on_puback i code) w.fates) w.old w.up rest w.ids w.accepted s) i j (
        free,
        record {
          holds = held-on_puback_same i 0 code w.fates ∙ rw c.1.holds refl;
          of_old = inl c.1.of_old;
          of_up = inl c.1.of_up;
          of_down = inl c.1.of_rest;
          open_is = c.2;
          fits = tt;
        },
      )
          (λ h. ((each j).0, same_stage (each j).1 (held-on_puback_other j i 0 code w.fates h) (inr refl) (inr refl) (inr (rw h refl)) refl));
      told = λ m. rw slice_get-map (told_puback i code (count_of m w.accepted) w.ids (slice_get w.fates m) (here m) (inv.told m));
      calm = is_live on.at_line on.plain on.late on.begun;
      within = inv.within;
      begun = absent on.begun;
      olds = inv.olds;
    }

-- PUBREC
pub told_received : (b : Bool) (o : List ℕ) (c k : ℕ) → is_among k o ≡ b → Told o c (Some (sent k)) → Told o c (Some (received b k))
told_received true o c k e t = rw e at t
told_received false o c k e t = rw e at t

-- what is told of a message goes on being true behind its PUBREC
pub told_pubrec : (i code c : ℕ) (o : List ℕ) (f : Option Fate) → is_among i o ≡ is_success code → Told o c f → Told o c (option_map (on_pubrec i code) f)
told_pubrec i code c o None h t = t
told_pubrec i code c o (Some (sent_1 k)) h t = t
told_pubrec i code c o (Some (ended_1 by)) h t = t
told_pubrec i code c o (Some (sent k)) h t = ⊎_elim
    (λ (e : nat_eq i k ≡ true). let h' : is_among k o ≡ is_success code = rw (← eqb-true i k e) h in rw e (told_received (is_success code) o c k h' t))
    (λ (e : nat_eq i k ≡ false). rw e t)
    (test_cases (nat_eq i k))
told_pubrec i code c o (Some (released k)) h t = t
told_pubrec i code c o (Some (ended by)) h t = t

-- a PUBREL goes out at most once
pub pubrel_same : (i : ℕ) (b : Bool) → AtMost (ups i (pubrel_if b i)) (PUBREL i ∷ [])
pubrel_same i true = inr (rw (same_id i) refl)
pubrel_same i false = inl refl

-- none goes out if nothing is to be released
pub pubrel_none : (i : ℕ) (b : Bool) → ups i (pubrel_if (b && false) i) ≡ []
pubrel_none i true = refl
pubrel_none i false = refl

-- a PUBREL is of its own identifier alone
pub pubrel_other : (i j : ℕ) (b : Bool) → nat_eq j i ≡ false → ups j (pubrel_if b i) ≡ []
pubrel_other i j true e = rw e refl
pubrel_other i j false e = refl

-- the stage after it, by whether the code tells success
pub received_at : (b : Bool) (i n : ℕ) (sent_here : Bool) (fates : List Fate) (old up : List FromPublisher) (linked : Bool) (rest : List ToPublisher) (ids acc : List ℕ) → held i 0 fates ≡ received_marks b ((n, for_pubrec) ∷ []) → ups i old ≡ [] → ups i up ≡ [] → downs i rest ≡ [] → is_among i ids ≡ b → (s : Stage) × At i fates old (sent_on linked up (pubrel_if (sent_here && b) i)) rest ids acc s
received_at true i n sent_here fates old up linked rest ids acc holds a u d o =
    (releasing n true, record { holds = holds; of_old = inl a; of_up = at_most_more (sent_at_most i linked up (pubrel_if (sent_here && true) i) u) (pubrel_same i (sent_here && true)); of_down = inl d; open_is = o; fits = tt })
received_at false i n sent_here fates old up linked rest ids acc holds a u d o =
    (free, record { holds = holds; of_old = inl a; of_up = at_most_more (sent_at_most i linked up (pubrel_if (sent_here && false) i) u) (inl (pubrel_none i sent_here)); of_down = inl d; open_is = o; fits = tt })

abbrev pub after_pubrec : ℕ → ℕ → List ToPublisher → World → World
after_pubrec i code rest w = record w { down = rest; fates = map (on_pubrec i code) w.fates; up = sent_on w.linked w.up (pubrel_for i code w.fates) }

-- a PUBREC that is read leaves the hop in order
pub pubrec_keeps : (i code : ℕ) (rest : List ToPublisher) (w : World) → w.down ≡ PUBREC i code ∷ rest → Norm w → Norm (after_pubrec i code rest w)
pubrec_keeps i code rest w e inv =
    let each = down_each w (PUBREC i code ∷ rest) e inv in
    let c = pubrec_came (each i).0 (each i).1 in
    let on = on_at w e refl inv in
    let packets = pubrel_for i code w.fates in
    let b = list_any (is_sent i) w.fates && is_success code in
    record {
      each = λ j. by_id (λ j. (s : Stage) × At j (map (on_pubrec i code) w.fates) w.old (sent_on w.linked w.up packets) rest w.ids w.accepted s) i j
          (received_at (is_success code) i c.0 (list_any (is_sent i) w.fates) (map (on_pubrec i code) w.fates) w.old w.up w.linked rest w.ids w.accepted (held-on_pubrec_same i 0 code w.fates ∙ rw c.1.holds refl) c.1.of_old c.1.of_up c.1.of_rest c.2)
          (λ h. ((each j).0, same_stage (each j).1 (held-on_pubrec_other j i 0 code w.fates h) (inr refl) (inr (sent_other j w.linked w.up packets (pubrel_other i j b h))) (inr (rw h refl)) refl));
      told = λ m. rw slice_get-map (told_pubrec i code (count_of m w.accepted) w.ids (slice_get w.fates m) c.2 (inv.told m));
      calm = is_live on.at_line (plain_sent w.linked w.up packets on.plain (plain_pubrel i b)) on.late on.begun;
      within = inv.within;
      begun = absent on.begun;
      olds = inv.olds;
    }

-- PUBCOMP
pub told_pubcomp : (i c : ℕ) (o : List ℕ) (f : Option Fate) → Told o c f → Told o c (option_map (on_pubcomp i) f)
told_pubcomp i c o None t = t
told_pubcomp i c o (Some (sent_1 k)) t = t
told_pubcomp i c o (Some (ended_1 by)) t = t
told_pubcomp i c o (Some (sent k)) t = t
told_pubcomp i c o (Some (released k)) t = ⊎_elim
    (λ (e : nat_eq i k ≡ true). rw e t)
    (λ (e : nat_eq i k ≡ false). rw e t)
    (test_cases (nat_eq i k))
told_pubcomp i c o (Some (ended by)) t = t

abbrev pub after_pubcomp : ℕ → List ToPublisher → World → World
after_pubcomp i rest w = record w { down = rest; fates = map (on_pubcomp i) w.fates }

-- a PUBCOMP that is read leaves the hop in order
pub pubcomp_keeps : (i code : ℕ) (rest : List ToPublisher) (w : World) → w.down ≡ PUBCOMP i code ∷ rest → Norm w → Norm (after_pubcomp i rest w)
pubcomp_keeps i code rest w e inv =
    let each = down_each w (PUBCOMP i code ∷ rest) e inv in
    let c = pubcomp_came (each i).0 (each i).1 in
    let on = on_at w e refl inv in
    record {
      each = λ j. by_id (λ j. (s : Stage) × At j (map (on_pubcomp i) w.fates) w.old w.up rest w.ids w.accepted s) i j (
        free,
        record {
          holds = held-on_pubcomp_same i 0 w.fates ∙ rw c.1.holds refl;
          of_old = inl c.1.of_old;
          of_up = inl c.1.of_up;
          of_down = inl c.1.of_rest;
          open_is = c.2;
          fits = tt;
        },
      )
          (λ h. ((each j).0, same_stage (each j).1 (held-on_pubcomp_other j i 0 w.fates h) (inr refl) (inr refl) (inr (rw h refl)) refl));
      told = λ m. rw slice_get-map (told_pubcomp i (count_of m w.accepted) w.ids (slice_get w.fates m) (inv.told m));
      calm = is_live on.at_line on.plain on.late on.begun;
      within = inv.within;
      begun = absent on.begun;
      olds = inv.olds;
    }
