-- The settling of a session looks at a choice of members only at that session's client identifier.
use Rattle.std.proofs.Common.{◌≡◌, ℕ, Bool, true, false, List, [], ◌∷◌, ◌++◌, map, Option, Some, None, nat_eq, bytes_eq, refl, sym, ap, subst, ◌∙◌}
use Rattle.std.specs.Prelude.{⊤, option_map}
use Rattle.std.specs.List.{AllByRecursion}
use Rattle.mqtt_records.specs.declared.messages.message.Will.{Will}
use Rattle.mqtt_records.specs.declared.state.session.Session.{Session}
use Rattle.mqtt_records.specs.declared.state.records.Records.{Records}
use Rattle.mqtt_topic.specs.names.Names.{is_empty}
use Rattle.mqtt_routes.specs.routing.Acceptance.{routed}
use Rattle.mqtt_rules.specs.declared.step.Capacity.{Capacity}
use Rattle.mqtt_rules.specs.step.Closing.{end_session, has_due_end, has_due_will, publish_or_refuse, publish_will, settle, will_deeds, will_message}
use Rattle.mqtt_rules.specs.step.Deeds.{Whose, whose, Message, FromWill, DropWill, Deed, Accept, At, after_all, always, of_session, only_if, series, then, with_session}
use Rattle.mqtt_rules.specs.step.Laws.{client_at}
use Rattle.mqtt_rules.specs.step.Routing.{CopyTo, accepted_copies, accepted_if, answers, copies_to, deliver, deliver_by, finds_place, is_queued, next_publication, publication_of, publish, retain_by, subscribers}
use Rattle.mqtt_rules.specs.step.State.{Broker, Env, MemberChoice, session_at}
use Rattle.mqtt_rules.specs.step.Step.{settles, settles_all}
use Rattle.mqtt_broker.specs.stored.Sessions.{Face, IsThere, face}
use Rattle.mqtt_broker.proofs.stored_lemmas.Own.{settle_own}
use Rattle.mqtt_broker.proofs.stored_lemmas.Faces.{deeds_kept}

-- what surrounds a step, by its choice
abbrev pub env_by : Capacity → Records → MemberChoice → Env
env_by limits start choice = record { limits = limits; choice = choice; start = start }

-- two choices take the same members for whatever this client publishes
abbrev pub Agree : MemberChoice → MemberChoice → List ℕ → Type 0
Agree f g client = (n : ℕ) → f n client ≡ g n client

-- ---- sessions that stand as they did, and differ

-- two sessions differ in birth and in client identifier
abbrev pub AreApart : Session → Session → Type 0
AreApart s x = (nat_eq s.birth x.birth ≡ false) × (bytes_eq s.client x.client ≡ false)

-- so do all of these
abbrev pub AllApart : List Session → Type 0
AllApart [] = ⊤
AllApart (s ∷ ss) = AllByRecursion (AreApart s) ss × AllApart ss

-- a session that stands as it did has its client identifier
pub there_client : (s : Session) (r : Records) → IsThere r s → client_at s.birth r ≡ Some s.client
there_client s r there = by (session_at s.birth r) there
  where
    by : (o : Option Session) → option_map face o ≡ Some (face s) → option_map (λ (x : Session). x.client) o ≡ Some s.client
    by None h = absurd cc
    by (Some x) h = let same : face x ≡ face s = cc in ap (λ (f : Face). Some f.0.client) same

-- the others stand as they did when one is settled
pub still_there : (s : Session) (xs : List Session) (env : Env) (b : Broker) → AllByRecursion (AreApart s) xs → AllByRecursion (IsThere b.records) xs
    → AllByRecursion (IsThere (after_all (settles env s b) b).records) xs
still_there s [] env b apart there = tt
still_there s (x ∷ xs) env b apart there = (
  deeds_kept s.birth x.birth apart.0.0 (settles env s b) b (settle_own s.birth env b) ∙ there.0,
  still_there s xs env b apart.1 there.1,
)

-- ---- the deeds under two choices

module _ (limits : Capacity) (start : Records) (f g : MemberChoice) where
  same_copies : (m : Message) (b : Broker) → Agree f g m.sender → accepted_copies (env_by limits start f) m b ≡ accepted_copies (env_by limits start g) m b
  same_copies m b agree =
      ap (λ (members : List ℕ). accepted_if (finds_place (env_by limits start f) m b.records)
      (option_map (copies_to (next_publication b.records) b.now m) (routed (answers (env_by limits start f) b.records) (publication_of m) members (subscribers b.records))))
      (agree (next_publication b.records))

  same_deliver : (t : Bool) (d : CopyTo) (b : Broker) → deliver_by t (env_by limits start f) d b ≡ deliver_by t (env_by limits start g) d b
  same_deliver true d b = refl
  same_deliver false d b = refl

  same_deliveries : (ds : List CopyTo) (b : Broker) → series (map (deliver (env_by limits start f)) ds) b ≡ series (map (deliver (env_by limits start g)) ds) b
  same_deliveries [] b = refl
  same_deliveries (d ∷ ds) b =
      let first = deliver (env_by limits start f) d b in
      ap (λ more. first ++ more) (same_deliveries ds (after_all first b))
      ∙ ap (λ xs. xs ++ series (map (deliver (env_by limits start g)) ds) (after_all xs b)) (same_deliver (is_queued d) d b)

  same_publish : (m : Message) (ds : List CopyTo) (b : Broker) → publish (env_by limits start f) FromWill m ds b ≡ publish (env_by limits start g) FromWill m ds b
  same_publish m ds b =
      let number = next_publication b.records in
      let first : List Deed = Accept number FromWill m ∷ [] in
      let c = after_all first b in
      let next = retain_by m.retain (is_empty m.payload) number m c in
      ap (λ more. first ++ (next ++ more)) (same_deliveries ds (after_all next c))

  same_refusal : (who : Whose) (m : Message) (o : Option (List CopyTo)) (b : Broker) → publish_or_refuse (env_by limits start f) who m o b ≡ publish_or_refuse (env_by limits start g) who m o b
  same_refusal who m None b = refl
  same_refusal who m (Some ds) b = same_publish m ds b

  same_will : (who : Whose) (w : Option Will) (b : Broker) → Agree f g who.client → will_deeds (env_by limits start f) who w b ≡ will_deeds (env_by limits start g) who w b
  same_will who None b agree = refl
  same_will who (Some w) b agree =
      let m = will_message who.client w in
      let copies = accepted_copies (env_by limits start f) m b in
      ap (λ ds. then ds (series (always (At who DropWill ∷ []) ∷ [])) b)
      (same_refusal who m copies b ∙ ap (λ o. publish_or_refuse (env_by limits start g) who m o b) (same_copies m b agree))

  same_if : (t : Bool) (s : Session) (b : Broker) → Agree f g s.client
      → only_if t (publish_will (env_by limits start f) s) b ≡ only_if t (publish_will (env_by limits start g) s) b
  same_if true s b agree = same_will (whose s) s.will b agree
  same_if false s b agree = refl

  same_settled : (moment : ℕ) (client : List ℕ) (o : Option Session) (b : Broker) → option_map (λ (x : Session). x.client) o ≡ Some client → Agree f g client
      → with_session o (λ s. only_if (has_due_will moment s) (publish_will (env_by limits start f) s)) b
      ≡ with_session o (λ s. only_if (has_due_will moment s) (publish_will (env_by limits start g) s)) b
  same_settled moment client None b its agree = refl
  same_settled moment client (Some x) b its agree =
      let is : x.client ≡ client = cc in
      same_if (has_due_will moment x) x b (subst (Agree f g) (sym is) agree)

  same_settle : (birth : ℕ) (client : List ℕ) (b : Broker) → client_at birth b.records ≡ Some client → Agree f g client → settle (env_by limits start f) birth b ≡ settle (env_by limits start g) birth b
  same_settle birth client b its agree =
      ap (λ ds. then ds (series (of_session birth (λ s. only_if (has_due_end b.now s) (always (end_session s))) ∷ [])) b)
      (same_settled b.now client (session_at birth b.records) b its agree)

  -- two choices that agree on a session's client settle it alike
  pub same_settles : (s : Session) (b : Broker) → IsThere b.records s → Agree f g s.client → settles (env_by limits start f) s b ≡ settles (env_by limits start g) s b
  same_settles s b there agree = same_settle s.birth s.client b (there_client s b.records there) agree

  -- and so many sessions
  pub same_all : (ss : List Session) (b : Broker) → AllByRecursion (IsThere b.records) ss → AllApart ss → AllByRecursion (λ (s : Session). Agree f g s.client) ss
      → settles_all (env_by limits start f) ss b ≡ settles_all (env_by limits start g) ss b
  same_all [] b there apart agree = refl
  same_all (s ∷ ss) b there apart agree =
      let first = settles (env_by limits start f) s b in
      let c = after_all first b in
      ap (λ ds. first ++ ds) (same_all ss c (still_there s ss (env_by limits start f) b apart.0 there.1) apart.1 agree.1)
      ∙ ap (λ ds. ds ++ settles_all (env_by limits start g) ss (after_all ds b)) (same_settles s b there.0 agree.0)
