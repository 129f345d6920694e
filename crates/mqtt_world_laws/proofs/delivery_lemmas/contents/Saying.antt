-- What is said of a publication's number is what the publication carries, since no two have one number (MQTT 5.0, 3.3.2, 3.3.3).
use Rattle.std.proofs.Common.{◌≡◌, ℕ, ◌<◌, ◌≤◌, List, [], ◌∷◌, ◌++◌, map, refl, sym, ap, subst, ◌∙◌, arith, inl, inr}
use Rattle.std.specs.Prelude.{filter_map}
use Rattle.std.specs.List.{AllByRecursion}
use Rattle.std.proofs.lemmas.List.Elements.{filter_map-append}
use Rattle.mqtt_records.specs.messages.Queue.{CopyRow}
use Rattle.mqtt_records.specs.declared.messages.message.RetainedMessage.{RetainedMessage}
use Rattle.mqtt_records.specs.declared.state.records.Records.{Records}
use Rattle.mqtt_rules.proofs.step_lemmas.numbers.Copies.{each_append, each_more}
use Rattle.mqtt_rules.specs.step.Deeds.{Accept, Deed, after}
use Rattle.mqtt_rules.specs.step.Laws.{IsAmong}
use Rattle.mqtt_rules.specs.step.Numbers.{CountsOn, HasAcceptedNumbers, HasCopiesUpTo, publication_given}
use Rattle.mqtt_rules.specs.step.State.{Broker, Env}
use Rattle.mqtt_world_model.specs.model.Run.{Acceptance, acceptances_of}
use Rattle.mqtt_world_laws.proofs.delivery_lemmas.contents.Contents.{AllSaid, KeptSaid, Numbered, QueueSaid, RowSaid, SaidAbove, accepted, accepted_in}

-- ---- what stands at the beginning was accepted before

-- what has the numbers of publications that were accepted is of none that comes
pub first_said : (r : Records) → HasAcceptedNumbers r → AllSaid r.publications [] r
first_said r h = record {
  queues = each_more (HasCopiesUpTo r.publications) (QueueSaid r.publications []) (λ s q. each_more (λ (e : CopyRow). e.copy.id.publication ≤ r.publications) (RowSaid r.publications []) (λ e up above. absurd (omega (arith, up, above))) s.queue q) r.sessions h.0;
  retained = each_more (λ (k : RetainedMessage). k.publication ≤ r.publications) (KeptSaid r.publications []) (λ k up above. absurd (omega (arith, up, above))) r.retained h.1;
}

-- ---- no two publications have one number

abbrev number_of : Numbered → ℕ
number_of x = x.number

numbers_are : (ds : List Deed) → map number_of (accepted ds) ≡ filter_map publication_given ds
numbers_are [] = refl
numbers_are (Accept number origin m ∷ ds) = ap (λ (ns : List ℕ). number ∷ ns) (numbers_are ds)
numbers_are (d ∷ ds) = numbers_are ds

counted_above : (n m : ℕ) (x : Numbered) (xs : List Numbered) → CountsOn n (map number_of xs) m → IsAmong x xs → n < x.number
counted_above n m x [] h among = absurd among
counted_above n m x (y ∷ xs) h among =
    let next = h.0 in
    elim among [
      | inl it ↦ let same = ap number_of it in omega (arith, next, same)
      | inr more ↦ let above = counted_above y.number m x xs h.1 more in omega (arith, next, above)
    ]

counted_once : (n m : ℕ) (x z : Numbered) (xs : List Numbered) → CountsOn n (map number_of xs) m → IsAmong x xs → IsAmong z xs → x.number ≡ z.number → x ≡ z
counted_once n m x z [] h p q same = absurd p
counted_once n m x z (y ∷ xs) h p q same = elim p [
  | inl it ↦ elim q [
    | inl its ↦ sym it ∙ its
    | inr more ↦ let above = counted_above y.number m z xs h.1 more in let here = ap number_of it in absurd (omega (arith, above, here, same))
  ]
  | inr more ↦ elim q [
    | inl its ↦ let above = counted_above y.number m x xs h.1 more in let here = ap number_of its in absurd (omega (arith, above, here, same))
    | inr others ↦ counted_once y.number m x z xs h.1 more others same
  ]
]

-- ---- each acceptance is by one of the deeds

abbrev pub numbered : Acceptance → Numbered
numbered a = record { number = a.number; message = a.message }

abbrev pub AreBy : List Acceptance → List Deed → Type 0
AreBy given ds = AllByRecursion (λ (a : Acceptance). IsAmong (numbered a) (accepted ds)) given

more_behind : (x : Numbered) (xs ys : List Numbered) → IsAmong x ys → IsAmong x (xs ++ ys)
more_behind x [] ys h = h
more_behind x (y ∷ xs) ys h = inr (more_behind x xs ys h)

more_before : (x : Numbered) (xs ys : List Numbered) → IsAmong x xs → IsAmong x (xs ++ ys)
more_before x [] ys h = absurd h
more_before x (y ∷ xs) ys h = elim h [ inl it ↦ inl it | inr more ↦ inr (more_before x xs ys more) ]

-- and those of more deeds by these
pub by_joined : (given more : List Acceptance) (ds es : List Deed) → AreBy given ds → AreBy more es → AreBy (given ++ more) (ds ++ es)
by_joined given more ds es p q =
    let all : accepted (ds ++ es) ≡ accepted ds ++ accepted es = filter_map-append accepted_in ds es in
    each_append (λ (a : Acceptance). IsAmong (numbered a) (accepted (ds ++ es))) given more
    (each_more (λ (a : Acceptance). IsAmong (numbered a) (accepted ds)) (λ (a : Acceptance). IsAmong (numbered a) (accepted (ds ++ es))) (λ a h. subst (IsAmong (numbered a)) (sym all) (more_before (numbered a) (accepted ds) (accepted es) h)) given p)
    (each_more (λ (a : Acceptance). IsAmong (numbered a) (accepted es)) (λ (a : Acceptance). IsAmong (numbered a) (accepted (ds ++ es))) (λ a h. subst (IsAmong (numbered a)) (sym all) (more_behind (numbered a) (accepted ds) (accepted es) h)) more q)

-- the acceptances of deeds are by them
pub by_deeds : (env : Env) (ds : List Deed) (b : Broker) → AreBy (acceptances_of env ds b) ds
by_deeds env [] b = tt
by_deeds env (Accept number origin m ∷ ds) b =
    let x : Numbered = record { number = number; message = m } in
    (inl refl, each_more (λ (a : Acceptance). IsAmong (numbered a) (accepted ds)) (λ (a : Acceptance). IsAmong (numbered a) (x ∷ accepted ds)) (λ a h. inr h) (acceptances_of env ds (after (Accept number origin m) b)) (by_deeds env ds (after (Accept number origin m) b)))
by_deeds env (d ∷ ds) b = by_deeds env ds (after d b)

-- ---- so what is said of a number is what its publication carries

module _ (base last : ℕ) (ds : List Deed) (counted : CountsOn base (filter_map publication_given ds) last) (a : Acceptance) (by_one : IsAmong (numbered a) (accepted ds)) where
  counts : CountsOn base (map number_of (accepted ds)) last
  counts = subst (λ (ns : List ℕ). CountsOn base ns last) (sym (numbers_are ds)) counted

  -- what is said of its number is what it carries
  pub said_carries : (number : ℕ) (topic payload : List ℕ) → SaidAbove base (accepted ds) number topic payload → number ≡ a.number → (topic ≡ a.message.topic) × (payload ≡ a.message.payload)
  said_carries number topic payload h its =
      let above : base < a.number = counted_above base last (numbered a) (accepted ds) counts by_one in
      let x = h (subst (λ (n : ℕ). base < n) (sym its) above) in
      let same : x.said ≡ numbered a = counted_once base last x.said (numbered a) (accepted ds) counts x.among by_one (x.number_is ∙ its) in
      (sym x.topic_is ∙ ap (λ (z : Numbered). z.message.topic) same, sym x.payload_is ∙ ap (λ (z : Numbered). z.message.payload) same)
