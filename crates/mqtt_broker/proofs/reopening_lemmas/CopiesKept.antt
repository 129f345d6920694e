-- Copies in queues have identities of their own, and are of groups that stand, deed by deed and over a step.
use Rattle.std.proofs.Common.{◌≡◌, ℕ, ◌≤◌, Bool, true, false, not, List, [], ◌∷◌, map, Option, Some, None, nat_eq, refl, sym, ap, subst, ◌∙◌, inl, inr, arith}
use Rattle.std.specs.Prelude.{⊤, ◌≢◌, flat_map}
use Rattle.std.specs.List.{AllByRecursion}
use Rattle.std.proofs.lemmas.Bool.{cases_Bool}
use Rattle.mqtt_base.specs.declared.limits.TheConstants.{QUEUE_LIMIT, RETAINED_LIMIT}
use Rattle.mqtt_base.specs.declared.session.Cause.{Cause}
use Rattle.mqtt_base.specs.declared.session.Cause.TheVariants.{Direct, Share, Retained}
use Rattle.mqtt_base.specs.declared.session.CopyId.{CopyId}
use Rattle.mqtt_flow.specs.outbound.Outbound.{way_made}
use Rattle.mqtt_flow.specs.declared.outbound.entry.Turn.{Turn}
use Rattle.mqtt_flow.specs.declared.outbound.entry.Turn.TheVariants as turns
use Rattle.mqtt_keep.specs.lawful.Lawful.{IsUpTo}
use Rattle.mqtt_records.specs.messages.Queue.{CopyRow}
use Rattle.mqtt_records.specs.declared.messages.message.MessageCopy.{MessageCopy}
use Rattle.mqtt_records.specs.declared.messages.message.RetainedMessage.{RetainedMessage}
use Rattle.mqtt_records.specs.state.Records.{changed_all, kept_place}
use Rattle.mqtt_records.specs.state.Session.{birth_of, copy_place, in_phase, with_copy, without_copy}
use Rattle.mqtt_records.specs.declared.state.records.Records.{Records}
use Rattle.mqtt_records.specs.declared.state.session.Session.{Session}
use Rattle.mqtt_records.specs.lists.Distinct.{AllDiffer}
use Rattle.mqtt_records.specs.lists.Order.{change_row, row_at}
use Rattle.mqtt_topic.specs.names.Filters.{begins_share, group_of}
use Rattle.mqtt_rules.specs.step.Deeds.{Whose, whose, Part, Resume, Close, SetExpiry, DropWill, Subscribe, Unsubscribe, Open, Release, Enter, Mark, Leave, Deed, Accept, Begin, Name, Count, At, Finish, Keep, Forget, RefuseWill, Link, On, Send, Gone, after, after_all, always, new_entry, part_rows_of, rows_of}
use Rattle.mqtt_rules.specs.step.Fitting.{has_form}
use Rattle.mqtt_rules.specs.step.Laws.{IsAmong}
use Rattle.mqtt_rules.specs.step.Outbound.{enter_deeds, leave_deeds, queue_limits, since}
use Rattle.mqtt_rules.specs.step.Packets.{publish_of}
use Rattle.mqtt_rules.specs.step.Routing.{CopyTo, deliver, deliver_by, is_queued}
use Rattle.mqtt_rules.specs.step.State.{Broker, Env, line_of, queue_on, session_at}
use Rattle.mqtt_rules.proofs.step_lemmas.acts.Offers.{of_offer_if}
use Rattle.mqtt_rules.proofs.step_lemmas.numbers.Copies.{Kinds, each_filter, each_more, kinds_at}
use Rattle.mqtt_rules.proofs.step_lemmas.acts.Goods.{AreGood, good_append, good_flat, good_of_entry, good_with_session}
use Rattle.mqtt_rules.proofs.step_lemmas.acts.Leads.{Leads, leads_append}
use Rattle.mqtt_rules.proofs.step_lemmas.flight.FlightRows.{all_put, all_changed}
use Rattle.mqtt_rules.proofs.step_lemmas.numbers.Counters.{Counts, counts, counts_after, counts_deed}
use Rattle.mqtt_rules.proofs.step_lemmas.order.Ordered.{changed_all-ordered}
use Rattle.mqtt_rules.proofs.step_lemmas.order.OrderedActs.{IsPlain, IsPlainPart}
use Rattle.mqtt_rules.proofs.step_lemmas.order.OrderedRoom.{at_retained, begin_retained}
use Rattle.mqtt_broker.specs.reopening.Identities.{HasIdentities, HaveIdentities, IsGivenCause, IsGivenCopy}
use Rattle.mqtt_world_laws.proofs.acceptance_lemmas.copies.Differ.{differ_filtered, put_differ}
use Rattle.mqtt_broker.proofs.reopening_lemmas.Differ.{given_same}
use Rattle.mqtt_broker.proofs.reopening_lemmas.EachSession.{Makes, deed_each, part_made}

-- ---- rows of which no two are equal in something

each_of_mapped : {X Y : Type 0} (P : Y → Type 0) (f : X → Y) (xs : List X) → AllByRecursion P (map f xs) → AllByRecursion (λ x. P (f x)) xs
each_of_mapped P f [] h = tt
each_of_mapped P f (x ∷ xs) h = (h.0, each_of_mapped P f xs h.1)

module _ {X Y : Type 0} (key : X → ℕ) (f : X → Y) where
  mapped_same : (k : ℕ) (g : X → X) (xs : List X) → ((x : X) → f (g x) ≡ f x) → map f (change_row key k g xs) ≡ map f xs
  mapped_same k g [] same = refl
  mapped_same k g (x ∷ xs) same = elim (cases_Bool (nat_eq (key x) k)) [
    | inl here ↦ rw here (ap (λ (y : Y). y ∷ map f xs) (same x))
    | inr other ↦ rw other (ap (λ (ys : List Y). f x ∷ ys) (mapped_same k g xs same))
  ]

-- ---- an identity that no copy in a queue has

abbrev pub id_in : CopyRow → CopyId
id_in row = row.copy.id

abbrev pub IsAbsentIn : CopyId → Session → Type 0
IsAbsentIn id s = AllByRecursion (λ row. id ≢ id_in row) s.queue

abbrev pub IsAbsent : CopyId → Records → Type 0
IsAbsent id r = AllByRecursion (IsAbsentIn id) r.sessions

-- the filters of all subscriptions
abbrev pub filters_in : Session → List (List ℕ)
filters_in s = map (λ x. x.filter) s.subscriptions

abbrev pub filters_of : Records → List (List ℕ)
filters_of r = flat_map filters_in r.sessions

-- a copy is of a group of one of them, if it is of a group
abbrev pub IsOfGroup : List (List ℕ) → Cause → Type 0
IsOfGroup filters Direct = Unit {0}
IsOfGroup filters (Share group) = (text : List ℕ) × (IsAmong text filters × (begins_share text ≡ true)) × (group ≡ group_of text)
IsOfGroup filters (Retained subscribe) = Unit {0}

-- what a copy has to be where it enters
pub record IsNewCopy (copy : MessageCopy) (r : Records) : Type 0 where
  pub given : IsGivenCopy r.publications r.subscribes copy
  pub group : IsOfGroup (filters_of r) copy.id.cause
  pub absent : IsAbsent copy.id r

-- what a retained message has to be where it is kept: of a publication so far, and of one of which no other is
pub record IsNewKept (kept : RetainedMessage) (r : Records) : Type 0 where
  pub publication : IsUpTo r.publications kept.publication
  pub new : AllByRecursion (λ k. kept.publication ≢ k.publication) r.retained

abbrev pub Good : Deed → Broker → Type 0
Good (Accept number origin m) b = b.records.publications ≤ number
Good (Count n) b = b.records.subscribes ≤ n
Good (At who (Enter copy)) b = IsNewCopy copy b.records
Good (Keep kept) b = IsNewKept kept b.records
Good d b = ⊤

-- ---- a good deed keeps it

module _ (n m : ℕ) where
  abbrev Has : Session → Type 0
  Has = HasIdentities n m

  same_queue : (s t : Session) → t.queue ≡ s.queue → Has s → Has t
  same_queue s t same h = record {
    each = subst (λ (q : List CopyRow). AllByRecursion (λ row. IsGivenCopy n m row.copy) q) (sym same) h.each;
    differ = subst (λ (q : List CopyRow). AllDiffer (map id_in q)) (sym same) h.differ;
  }

  made_has : (part : Part) (s t : Session) → IsPlainPart part → Has t → Has (part_made part s t)
  made_has (Enter copy) s t plain h = absurd plain
  made_has (Mark place phase) s t plain h = record {
    each = all_changed copy_place (λ row. IsGivenCopy n m row.copy) place (in_phase phase) t.queue (λ row q. q) h.each;
    differ = subst AllDiffer (sym (mapped_same copy_place id_in place (in_phase phase) t.queue (λ row. refl))) h.differ;
  }
  made_has (Leave e ending) s t plain h =
      let stays = λ (row : CopyRow). not (nat_eq (copy_place row) e.place) in
      record { each = each_filter (λ row. IsGivenCopy n m row.copy) stays t.queue h.each; differ = differ_filtered id_in stays t.queue h.differ }
  made_has (Resume expiry will) s t plain h = same_queue t (part_made (Resume expiry will) s t) refl h
  made_has (Close moment) s t plain h = same_queue t (part_made (Close moment) s t) refl h
  made_has (SetExpiry expiry) s t plain h = same_queue t (part_made (SetExpiry expiry) s t) refl h
  made_has DropWill s t plain h = same_queue t (part_made DropWill s t) refl h
  made_has (Subscribe x) s t plain h = same_queue t (part_made (Subscribe x) s t) refl h
  made_has (Unsubscribe text) s t plain h = same_queue t (part_made (Unsubscribe text) s t) refl h
  made_has (Open id) s t plain h = same_queue t (part_made (Open id) s t) refl h
  made_has (Release id) s t plain h = same_queue t (part_made (Release id) s t) refl h

  -- and so has one that a new copy enters
  abbrev HasBeside : CopyId → Session → Type 0
  HasBeside id s = Has s × IsAbsentIn id s

  entered_has : (copy : MessageCopy) (s t : Session) → IsGivenCopy n m copy → HasBeside copy.id t → Has (part_made (Enter copy) s t)
  entered_has copy s t given h = record {
    each = all_put copy_place (λ row. IsGivenCopy n m row.copy) QUEUE_LIMIT (new_entry copy s.queue) t.queue given h.0.each;
    differ = put_differ copy_place id_in QUEUE_LIMIT (new_entry copy s.queue) t.queue h.1 h.0.differ;
  }

  both_each : (id : CopyId) (ss : List Session) → AllByRecursion Has ss → AllByRecursion (IsAbsentIn id) ss → AllByRecursion (HasBeside id) ss
  both_each id [] h q = tt
  both_each id (s ∷ ss) h q = ((h.0, q.0), both_each id ss h.1 q.1)

  makes_plain : (d : Deed) (b : Broker) → IsPlain d → Makes Has Has (λ t h. h) d b
  makes_plain (At who part) b plain = λ s t there same p. made_has part s t plain p
  makes_plain (Begin row will) b plain = absurd plain
  makes_plain (Accept number origin m) b plain = tt
  makes_plain (Name k) b plain = tt
  makes_plain (Count k) b plain = tt
  makes_plain (Finish who) b plain = tt
  makes_plain (Keep kept) b plain = tt
  makes_plain (Forget place) b plain = tt
  makes_plain (RefuseWill who) b plain = tt
  makes_plain (Link k) b plain = tt
  makes_plain (On k part) b plain = tt
  makes_plain (Send k packet) b plain = tt
  makes_plain (Gone k) b plain = tt

  sessions_at : (who : Whose) (part : Part) (b : Broker) → Good (At who part) b → b.records.publications ≡ n → b.records.subscribes ≡ m → AllByRecursion Has b.records.sessions → AllByRecursion Has (after (At who part) b).records.sessions
  sessions_at who (Enter copy) b g is its h =
      let given : IsGivenCopy n m copy = subst (λ (i : ℕ). IsGivenCopy i m copy) is (subst (λ (j : ℕ). IsGivenCopy b.records.publications j copy) its g.given) in
      deed_each (HasBeside copy.id) Has (λ t p. p.0) (At who (Enter copy)) b (λ s t there same p. entered_has copy s t given p) (both_each copy.id b.records.sessions h g.absent)
  sessions_at who (Mark place phase) b g is its h = deed_each Has Has (λ t p. p) (At who (Mark place phase)) b (makes_plain (At who (Mark place phase)) b tt) h
  sessions_at who (Leave e ending) b g is its h = deed_each Has Has (λ t p. p) (At who (Leave e ending)) b (makes_plain (At who (Leave e ending)) b tt) h
  sessions_at who (Resume expiry will) b g is its h = deed_each Has Has (λ t p. p) (At who (Resume expiry will)) b (makes_plain (At who (Resume expiry will)) b tt) h
  sessions_at who (Close moment) b g is its h = deed_each Has Has (λ t p. p) (At who (Close moment)) b (makes_plain (At who (Close moment)) b tt) h
  sessions_at who (SetExpiry expiry) b g is its h = deed_each Has Has (λ t p. p) (At who (SetExpiry expiry)) b (makes_plain (At who (SetExpiry expiry)) b tt) h
  sessions_at who DropWill b g is its h = deed_each Has Has (λ t p. p) (At who DropWill) b (makes_plain (At who DropWill) b tt) h
  sessions_at who (Subscribe x) b g is its h = deed_each Has Has (λ t p. p) (At who (Subscribe x)) b (makes_plain (At who (Subscribe x)) b tt) h
  sessions_at who (Unsubscribe text) b g is its h = deed_each Has Has (λ t p. p) (At who (Unsubscribe text)) b (makes_plain (At who (Unsubscribe text)) b tt) h
  sessions_at who (Open id) b g is its h = deed_each Has Has (λ t p. p) (At who (Open id)) b (makes_plain (At who (Open id)) b tt) h
  sessions_at who (Release id) b g is its h = deed_each Has Has (λ t p. p) (At who (Release id)) b (makes_plain (At who (Release id)) b tt) h

given_later : (a b m n : ℕ) (copy : MessageCopy) → a ≤ b → m ≤ n → IsGivenCopy a m copy → IsGivenCopy b n copy
given_later a b m n copy le more h = let up = h.publication.1 in record {
  qos = h.qos;
  publication = (h.publication.0, omega (arith, up, le));
  cause = later copy.id.cause h.cause;
}
  where
    later : (c : Cause) → IsGivenCause m c → IsGivenCause n c
    later Direct q = tt
    later (Share group) q = tt
    later (Retained subscribe) q = let high = q.1 in (q.0, omega (arith, high, more))

has_later : (a b m n : ℕ) (s : Session) → a ≤ b → m ≤ n → HasIdentities a m s → HasIdentities b n s
has_later a b m n s le more h = record {
  each = each_more (λ row. IsGivenCopy a m row.copy) (λ row. IsGivenCopy b n row.copy) (λ row q. given_later a b m n row.copy le more q) s.queue h.each;
  differ = h.differ;
}

abbrev AreWithin : Counts → List Session → Type 0
AreWithin c ss = AllByRecursion (HasIdentities c.publications c.subscribes) ss

sessions_deed : (d : Deed) (b : Broker) → Good d b → HaveIdentities b.records → AreWithin (counts_after d (counts b.records)) (after d b).records.sessions
sessions_deed (At who part) b g h = sessions_at b.records.publications b.records.subscribes who part b g refl refl h.sessions
sessions_deed (Begin row will) b g h =
    let n = b.records.publications in
    let m = b.records.subscribes in
    deed_each (HasIdentities n m) (HasIdentities n m) (λ t p. p) (Begin row will) b
    (record { new = record { each = tt; differ = tt }; again = λ t same p. record { each = p.each; differ = p.differ }; will = λ w t p. record { each = p.each; differ = p.differ } }) h.sessions
sessions_deed (Accept number origin x) b g h = each_more (HasIdentities b.records.publications b.records.subscribes) (HasIdentities number b.records.subscribes) (λ s p. has_later b.records.publications number b.records.subscribes b.records.subscribes s g (omega arith) p) b.records.sessions h.sessions
sessions_deed (Count k) b g h = each_more (HasIdentities b.records.publications b.records.subscribes) (HasIdentities b.records.publications k) (λ s p. has_later b.records.publications b.records.publications b.records.subscribes k s (omega arith) g p) b.records.sessions h.sessions
sessions_deed (Finish who) b g h = each_filter (HasIdentities b.records.publications b.records.subscribes) (λ s. not (nat_eq (birth_of s) who.birth)) b.records.sessions h.sessions
sessions_deed (Name k) b g h = h.sessions
sessions_deed (Keep kept) b g h = h.sessions
sessions_deed (Forget place) b g h = h.sessions
sessions_deed (RefuseWill who) b g h = h.sessions
sessions_deed (Link k) b g h = h.sessions
sessions_deed (On k part) b g h = h.sessions
sessions_deed (Send k packet) b g h = h.sessions
sessions_deed (Gone k) b g h = h.sessions

-- retained messages
record AreKept (n : ℕ) (ks : List RetainedMessage) : Type 0 where
  pub given : AllByRecursion (λ k. IsUpTo n k.publication) ks
  pub differ : AllDiffer (map (λ k. k.publication) ks)

retained_deed : (d : Deed) (b : Broker) → Good d b → HaveIdentities b.records → AreKept (counts_after d (counts b.records)).publications (after d b).records.retained
retained_deed (Keep kept) b g h = record {
  given = all_put kept_place (λ k. IsUpTo b.records.publications k.publication) RETAINED_LIMIT kept b.records.retained g.publication h.retained;
  differ = put_differ kept_place (λ k. k.publication) RETAINED_LIMIT kept b.records.retained g.new h.differ;
}
retained_deed (Forget place) b g h =
    let stays = λ (k : RetainedMessage). not (nat_eq (kept_place k) place) in
    record { given = each_filter (λ k. IsUpTo b.records.publications k.publication) stays b.records.retained h.retained; differ = differ_filtered (λ k. k.publication) stays b.records.retained h.differ }
retained_deed (Accept number origin x) b g h = record {
  given = each_more (λ k. IsUpTo b.records.publications k.publication) (λ k. IsUpTo number k.publication) (λ k q. let up = q.1 in (q.0, omega (arith, up, g))) b.records.retained h.retained;
  differ = h.differ;
}
retained_deed (At who part) b g h = subst (AreKept b.records.publications) (sym (at_retained part b.records (session_at who.birth b.records))) (record { given = h.retained; differ = h.differ })
retained_deed (Begin row will) b g h = subst (AreKept b.records.publications) (sym (begin_retained row will b.records)) (record { given = h.retained; differ = h.differ })
retained_deed (Count k) b g h = record { given = h.retained; differ = h.differ }
retained_deed (Finish who) b g h = record { given = h.retained; differ = h.differ }
retained_deed (Name k) b g h = record { given = h.retained; differ = h.differ }
retained_deed (RefuseWill who) b g h = record { given = h.retained; differ = h.differ }
retained_deed (Link k) b g h = record { given = h.retained; differ = h.differ }
retained_deed (On k part) b g h = record { given = h.retained; differ = h.differ }
retained_deed (Send k packet) b g h = record { given = h.retained; differ = h.differ }
retained_deed (Gone k) b g h = record { given = h.retained; differ = h.differ }

abbrev pub Keeps : Broker → Type 0
Keeps b = HaveIdentities b.records

-- a good deed keeps what the walk asks for
pub kept : (d : Deed) (b : Broker) → Keeps b → Good d b → Keeps (after d b)
kept d b h g =
    let new = (after d b).records in
    let count : counts new ≡ counts_after d (counts b.records) = counts_deed d b.records in
    let retained : AreKept new.publications new.retained = subst (λ (c : Counts). AreKept c.publications new.retained) (sym count) (retained_deed d b g h) in
    record {
      ordered = changed_all-ordered (rows_of d b.records) b.records h.ordered;
      sessions = subst (λ (c : Counts). AreWithin c new.sessions) (sym count) (sessions_deed d b g h);
      retained = retained.given;
      differ = retained.differ;
    }

abbrev pub Led : List Deed → Broker → Type 0
Led = Leads Keeps Good

-- one good deed leads on
pub one : (d : Deed) (b : Broker) → Keeps b → Good d b → Led (d ∷ []) b
one d b k g = ((g, tt), kept d b k g)

-- and so do those behind it
pub more : (d : Deed) (ds : List Deed) (b : Broker) → Keeps b → Good d b → (Keeps (after d b) → Led ds (after d b)) → Led (d ∷ ds) b
more d ds b k g h = leads_append Keeps Good (d ∷ []) ds b (one d b k g) h

-- ---- what deliveries leave

-- copies leave, those of some identities enter, and packets go out
abbrev pub IsQuiet : (CopyId → Type 0) → Deed → Broker → Type 0
IsQuiet Q (At who (Enter copy)) b = Q copy.id
IsQuiet Q (At who (Leave e ending)) b = ⊤
IsQuiet Q (Send line packet) b = ⊤
IsQuiet Q d b = ⊥

absent_made : (id : CopyId) (Q : CopyId → Type 0) (who : Whose) (part : Part) (s t : Session) (b : Broker) → ((i : CopyId) → Q i → id ≢ i) → IsQuiet Q (At who part) b → IsAbsentIn id t → IsAbsentIn id (part_made part s t)
absent_made id Q who (Enter copy) s t b apart quiet h = all_put copy_place (λ row. id ≢ id_in row) QUEUE_LIMIT (new_entry copy s.queue) t.queue (apart copy.id quiet) h
absent_made id Q who (Leave e ending) s t b apart quiet h = each_filter (λ row. id ≢ id_in row) (λ row. not (nat_eq (copy_place row) e.place)) t.queue h
absent_made id Q who (Mark place phase) s t b apart quiet h = absurd quiet
absent_made id Q who (Resume expiry will) s t b apart quiet h = absurd quiet
absent_made id Q who (Close moment) s t b apart quiet h = absurd quiet
absent_made id Q who (SetExpiry expiry) s t b apart quiet h = absurd quiet
absent_made id Q who DropWill s t b apart quiet h = absurd quiet
absent_made id Q who (Subscribe x) s t b apart quiet h = absurd quiet
absent_made id Q who (Unsubscribe text) s t b apart quiet h = absurd quiet
absent_made id Q who (Open i) s t b apart quiet h = absurd quiet
absent_made id Q who (Release i) s t b apart quiet h = absurd quiet

filters_part : (Q : CopyId → Type 0) (who : Whose) (part : Part) (b : Broker) (o : Option Session) → IsQuiet Q (At who part) b → filters_of (changed_all (part_rows_of part o) b.records) ≡ filters_of b.records
filters_part Q who part b None quiet = refl
filters_part Q who (Enter copy) b (Some s) quiet = given_same birth_of filters_in s.birth (with_copy (new_entry copy s.queue)) b.records.sessions (λ t. refl)
filters_part Q who (Leave e ending) b (Some s) quiet = given_same birth_of filters_in s.birth (without_copy e.place) b.records.sessions (λ t. refl)
filters_part Q who (Mark place phase) b (Some s) quiet = absurd quiet
filters_part Q who (Resume expiry will) b (Some s) quiet = absurd quiet
filters_part Q who (Close moment) b (Some s) quiet = absurd quiet
filters_part Q who (SetExpiry expiry) b (Some s) quiet = absurd quiet
filters_part Q who DropWill b (Some s) quiet = absurd quiet
filters_part Q who (Subscribe x) b (Some s) quiet = absurd quiet
filters_part Q who (Unsubscribe text) b (Some s) quiet = absurd quiet
filters_part Q who (Open i) b (Some s) quiet = absurd quiet
filters_part Q who (Release i) b (Some s) quiet = absurd quiet

-- numbers, filters, and identities that are absent
pub record Stays (Q : CopyId → Type 0) (old new : Records) : Type 0 where
  pub publications : new.publications ≡ old.publications
  pub subscribes : new.subscribes ≡ old.subscribes
  pub filters : filters_of new ≡ filters_of old
  pub absent : (id : CopyId) → ((i : CopyId) → Q i → id ≢ i) → IsAbsent id old → IsAbsent id new

quiet_deed : (Q : CopyId → Type 0) (d : Deed) (b : Broker) → IsQuiet Q d b → Stays Q b.records (after d b).records
quiet_deed Q (At who part) b quiet =
    let same = kinds_at who part b in
    record {
      publications = ap (λ (k : Kinds). k.publications) same;
      subscribes = ap (λ (k : Kinds). k.subscribes) same;
      filters = filters_part Q who part b (session_at who.birth b.records) quiet;
      absent = λ id apart h. deed_each (IsAbsentIn id) (IsAbsentIn id) (λ t p. p) (At who part) b (λ s t there is p. absent_made id Q who part s t b apart quiet p) h;
    }
quiet_deed Q (Send line packet) b quiet = record { publications = refl; subscribes = refl; filters = refl; absent = λ id apart h. h }
quiet_deed Q (Accept number origin m) b quiet = absurd quiet
quiet_deed Q (Begin row will) b quiet = absurd quiet
quiet_deed Q (Name n) b quiet = absurd quiet
quiet_deed Q (Count n) b quiet = absurd quiet
quiet_deed Q (Finish who) b quiet = absurd quiet
quiet_deed Q (Keep kept) b quiet = absurd quiet
quiet_deed Q (Forget place) b quiet = absurd quiet
quiet_deed Q (RefuseWill who) b quiet = absurd quiet
quiet_deed Q (Link n) b quiet = absurd quiet
quiet_deed Q (On n part) b quiet = absurd quiet
quiet_deed Q (Gone n) b quiet = absurd quiet

-- quiet deeds leave the copies, and add those that are asked for alone
pub quiet_deeds : (Q : CopyId → Type 0) (ds : List Deed) (b : Broker) → AreGood (IsQuiet Q) ds b → Stays Q b.records (after_all ds b).records
quiet_deeds Q [] b quiet = record { publications = refl; subscribes = refl; filters = refl; absent = λ id apart h. h }
quiet_deeds Q (d ∷ ds) b quiet =
    let first = quiet_deed Q d b quiet.0 in
    let rest = quiet_deeds Q ds (after d b) quiet.1 in
    record {
      publications = rest.publications ∙ first.publications;
      subscribes = rest.subscribes ∙ first.subscribes;
      filters = rest.filters ∙ first.filters;
      absent = λ id apart h. rest.absent id apart (first.absent id apart h);
    }

quiet_leave : (Q : CopyId → Type 0) (s : Session) (t : Turn) (b : Broker) → AreGood (IsQuiet Q) (leave_deeds s t) b
quiet_leave Q s (turns.Leave place ending) b = good_of_entry (IsQuiet Q) (row_at copy_place place s.queue) (λ e. At (whose s) (Leave e ending) ∷ []) b (λ e. (tt, tt))
quiet_leave Q s (turns.Send place id) b = tt
quiet_leave Q s (turns.Resend place id) b = tt
quiet_leave Q s (turns.Release place id order) b = tt
quiet_leave Q s (turns.Outgrow place id order) b = tt
quiet_leave Q s (turns.Repeat id) b = tt
quiet_leave Q s (turns.Unknown id) b = tt

-- copies that leave are quiet
pub quiet_leaves : (Q : CopyId → Type 0) (s : Session) (ts : List Turn) (b : Broker) → AreGood (IsQuiet Q) (flat_map (leave_deeds s) ts) b
quiet_leaves Q s ts b = good_flat (IsQuiet Q) (leave_deeds s) (quiet_leave Q s) ts b

quiet_enter : (Q : CopyId → Type 0) (env : Env) (copy : MessageCopy) (s : Session) (b : Broker) → Q copy.id → AreGood (IsQuiet Q) (enter_deeds env copy s) b
quiet_enter Q env copy s b q =
    let ts = way_made (queue_limits env) (since env s) (queue_on [] s) in
    good_append (IsQuiet Q) (flat_map (leave_deeds s) ts) (At (whose s) (Enter copy) ∷ []) b (quiet_leaves Q s ts b) (q, tt)

quiet_by : (Q : CopyId → Type 0) (t : Bool) (env : Env) (d : CopyTo) (b : Broker) → Q d.copy.id → AreGood (IsQuiet Q) (deliver_by t env d b) b
quiet_by Q true env d b q = good_with_session (IsQuiet Q) (session_at d.birth b.records) (λ s. always (enter_deeds env d.copy s)) b (λ s e. quiet_enter Q env d.copy s b q)
quiet_by Q false env d b q =
    of_offer_if (λ (ds : List Deed). AreGood (IsQuiet Q) ds b) (has_form d.copy b) (line_of d.birth b) (publish_of b.now false 0 d.copy) tt (λ l there. (tt, tt))

-- so is the delivery of a copy that is asked for
pub quiet_deliver : (Q : CopyId → Type 0) (env : Env) (d : CopyTo) (b : Broker) → Q d.copy.id → AreGood (IsQuiet Q) (deliver env d b) b
quiet_deliver Q env d b q = quiet_by Q (is_queued d) env d b q
