-- A session closes: what is left alone, and the parts of closing, one after the other.
use Rattle.std.proofs.Common.{◌≡◌, ℕ, Bool, true, false, cond, not, List, [], ◌∷◌, ◌++◌, map, nat_eq, refl, ap, sym, subst, ◌∙◌, inl, inr}
use Rattle.std.specs.Prelude.{Option, Some, None, option_map}
use Rattle.std.proofs.lemmas.Bool.{cases_Bool}
use Rattle.std.proofs.lemmas.Cmp.{nat_eq_equiv}
use Rattle.mqtt_base.specs.declared.session.Ending.TheVariants.{SessionEnded}
use Rattle.mqtt_records.specs.declared.messages.message.Will.{Will}
use Rattle.mqtt_records.specs.messages.Queue.{CopyRow}
use Rattle.mqtt_records.specs.declared.state.session.Session.{Session}
use Rattle.mqtt_records.specs.declared.state.session.Columns.{Columns}
use Rattle.mqtt_records.specs.declared.state.records.Records.{Records}
use Rattle.mqtt_records.specs.state.Session.{birth_of, columns_of, with_columns, with_will, without_copy}
use Rattle.mqtt_records.specs.state.Records.{changed_all, in_session}
use Rattle.mqtt_records.specs.lists.Order.{change_row, remove_row, row_at}
use Rattle.mqtt_records.proofs.lists_lemmas.LookUps.{row_at-remove_row}
use Rattle.mqtt_rules.specs.step.Closing.{close_session, end_session, has_due_will, has_due_end, publish_will, settle}
use Rattle.mqtt_rules.specs.step.Contents.{IsWilled}
use Rattle.mqtt_rules.specs.step.Deeds.{Act, At, Close, Deed, DropWill, Finish, Leave, Part, SetExpiry, whose, after, after_all, always, only_if, part_rows, part_rows_of, series, then, with_session}
use Rattle.mqtt_rules.specs.step.Routing.{subscriber_of, subscribers}
use Rattle.mqtt_rules.specs.step.State.{Broker, Env, session_at}
use Rattle.mqtt_rules.proofs.step_lemmas.acts.LookedUp.{row_at-change_row, field_kept}
use Rattle.mqtt_broker_step.specs.Undoing.{moment_of}
use Rattle.mqtt_broker_step.specs.declared.fault.StepFault.{StepFault}
use Rattle.mqtt_broker_step.specs.Stepping.{Stepping, did, Did, Does, IsLeft, Leaves, env_in, to_session}
use Rattle.mqtt_broker_step.proofs.Doing.{did_none, found_birth, stands}
use Rattle.mqtt_broker_queue.specs.publications.Choosing.{DoesSome, LeavesSome}
use Rattle.mqtt_broker_queue.specs.publications.Delivering.{whose_at}
use Rattle.mqtt_broker_step.proofs.Then.{same_act, same_left}
use Rattle.mqtt_broker_queue.proofs.publications_lemmas.Some.{both, does_then, leaves_first, leaves_then, then_some, then_some_left, same_does, same_leaves, same_some, same_some_left, leaves_some, alone}
use Rattle.mqtt_broker_acts.specs.closing.Settling.{settles_will, settles_end, drops_will, closes}
use Rattle.mqtt_broker_acts.specs.closing.Wills.{ChoosesOnce, publishes_will, will_of, will_at}
use Rattle.mqtt_broker_acts.proofs.closing_lemmas.Settled.{did_nothing, settled_quiet, will_quiet}
use Rattle.mqtt_broker_acts.proofs.closing_lemmas.Willed.{part_at}

-- ---- what is left alone

-- of a session's subscriptions everything, and of its Will what is as packets carry it
pub record Keeps (birth : ℕ) (r r1 : Records) : Type 0 where
  pub subs : subscribers r1 ≡ subscribers r
  pub willed : IsWilled (will_at birth r) → IsWilled (will_at birth r1)
  pub none : will_at birth r ≡ None → will_at birth r1 ≡ None

-- records that stay as they are keep a session's Will and routes
pub keeps_same : (birth : ℕ) (r r1 : Records) → r1 ≡ r → Keeps birth r r1
keeps_same birth r r1 is = record {
  subs = ap subscribers is;
  willed = λ w. subst (λ (x : Records). IsWilled (will_at birth x)) (sym is) w;
  none = λ n. ap (will_at birth) is ∙ n;
}

-- what two changes keep, both together keep
pub keeps_then : (birth : ℕ) (r r1 r2 : Records) → Keeps birth r r1 → Keeps birth r1 r2 → Keeps birth r r2
keeps_then birth r r1 r2 first second = record {
  subs = second.subs ∙ first.subs;
  willed = λ w. second.willed (first.willed w);
  none = λ n. second.none (first.none n);
}

subs_in : (k : ℕ) (f : Session → Session) (ss : List Session) → ((x : Session) → subscriber_of (f x) ≡ subscriber_of x) → map subscriber_of (change_row birth_of k f ss) ≡ map subscriber_of ss
subs_in k f [] same = refl
subs_in k f (x ∷ xs) same = elim (cases_Bool (nat_eq x.birth k)) [
  | inl here ↦ rw here (ap (λ y. y ∷ map subscriber_of xs) (same x))
  | inr later ↦ rw later (ap (λ ys. subscriber_of x ∷ ys) (subs_in k f xs same))
]

-- what a deed of a session changes in it
record Changes (part : Part) (f : Session → Session → Session) (g : Option Will → Option Will) : Type 0 where
  rows : (x : Session) (r : Records) → changed_all (part_rows part x) r ≡ in_session x.birth (f x) r
  births : (x y : Session) → birth_of (f x y) ≡ birth_of y
  subs : (x y : Session) → subscriber_of (f x y) ≡ subscriber_of y
  wills : (x y : Session) → (f x y).will ≡ g y.will
  willed : (w : Option Will) → IsWilled w → IsWilled (g w)
  none : g None ≡ None

will_mapped : (f : Session → Session) (g : Option Will → Option Will) → ((y : Session) → (f y).will ≡ g y.will) → g None ≡ None → (o : Option Session) → will_of (option_map f o) ≡ g (will_of o)
will_mapped f g same none None = sym none
will_mapped f g same none (Some y) = same y

will_changed : (birth k : ℕ) (f : Session → Session) (g : Option Will → Option Will) (r : Records) → ((y : Session) → birth_of (f y) ≡ birth_of y) → ((y : Session) → (f y).will ≡ g y.will) → g None ≡ None
    → will_at birth (in_session k f r) ≡ cond (nat_eq k birth) (g (will_at birth r)) (will_at birth r)
will_changed birth k f g r births same none =
    ap will_of (row_at-change_row birth_of birth k f r.sessions births)
    ∙ elim (cases_Bool (nat_eq k birth)) [
      | inl here ↦ rw here (will_mapped f g same none (session_at birth r))
      | inr other ↦ rw other refl
    ]

in_keeps : (birth k : ℕ) (f : Session → Session) (g : Option Will → Option Will) (r : Records) → ((y : Session) → birth_of (f y) ≡ birth_of y) → ((y : Session) → subscriber_of (f y) ≡ subscriber_of y)
    → ((y : Session) → (f y).will ≡ g y.will) → ((w : Option Will) → IsWilled w → IsWilled (g w)) → g None ≡ None → Keeps birth r (in_session k f r)
in_keeps birth k f g r births subs wills willed none =
    let is = will_changed birth k f g r births wills none in
    record {
      subs = subs_in k f r.sessions subs;
      willed = λ w. subst IsWilled (sym is) (by_test (nat_eq k birth) w);
      none = λ n. is ∙ by_none (nat_eq k birth) n;
    }
  where
    by_test : (t : Bool) → IsWilled (will_at birth r) → IsWilled (cond t (g (will_at birth r)) (will_at birth r))
    by_test true w = willed (will_at birth r) w
    by_test false w = w

    by_none : (t : Bool) → will_at birth r ≡ None → cond t (g (will_at birth r)) (will_at birth r) ≡ None
    by_none true n = ap g n ∙ none
    by_none false n = n

part_keeps_by : (birth k : ℕ) (part : Part) (f : Session → Session → Session) (g : Option Will → Option Will) → Changes part f g → (s : Stepping) (o : Option Session) → session_at k s.broker.records ≡ o
    → Keeps birth s.broker.records (did (with_session o (λ x. always (At (whose x) part ∷ [])) s.broker) s).broker.records
part_keeps_by birth k part f g c s None found = keeps_same birth s.broker.records s.broker.records refl
part_keeps_by birth k part f g c s (Some x) found =
    let there : session_at x.birth s.broker.records ≡ Some x = stands k s.broker.records x found in
    let is : changed_all (part_rows_of part (session_at x.birth s.broker.records)) s.broker.records ≡ in_session x.birth (f x) s.broker.records =
    ap (λ o. changed_all (part_rows_of part o) s.broker.records) there ∙ c.rows x s.broker.records in
    subst (λ (r : Records). Keeps birth s.broker.records r) (sym is)
    (in_keeps birth x.birth (f x) g s.broker.records (c.births x) (c.subs x) (c.wills x) c.willed c.none)

part_keeps : (birth k : ℕ) (part : Part) (f : Session → Session → Session) (g : Option Will → Option Will) → Changes part f g → (s s1 : Stepping) → Did (to_session k part) s s1
    → Keeps birth s.broker.records s1.broker.records
part_keeps birth k part f g c s s1 is =
    subst (λ (t : Stepping). Keeps birth s.broker.records t.broker.records) (sym is.is) (part_keeps_by birth k part f g c s (session_at k s.broker.records) refl)

drop_changes : Changes DropWill (λ x. with_will None) (λ w. None)
drop_changes = record { rows = λ x r. refl; births = λ x y. refl; subs = λ x y. refl; wills = λ x y. refl; willed = λ w is. tt; none = refl }

abbrev closed_row : ℕ → Session → Columns
closed_row moment x = record (columns_of x) { closed = Some moment }

close_changes : (moment : ℕ) → Changes (Close moment) (λ x. with_columns (closed_row moment x)) (λ w. w)
close_changes moment = record { rows = λ x r. refl; births = λ x y. refl; subs = λ x y. refl; wills = λ x y. refl; willed = λ w is. is; none = refl }

abbrev expiry_row : ℕ → Session → Columns
expiry_row expiry x = record (columns_of x) { expiry = expiry }

expiry_changes : (expiry : ℕ) → Changes (SetExpiry expiry) (λ x. with_columns (expiry_row expiry x)) (λ w. w)
expiry_changes expiry = record { rows = λ x r. refl; births = λ x y. refl; subs = λ x y. refl; wills = λ x y. refl; willed = λ w is. is; none = refl }

-- the moment of a close leaves the Will and the routes
pub close_keeps : (birth moment : ℕ) (s s1 : Stepping) → Did (to_session birth (Close moment)) s s1 → Keeps birth s.broker.records s1.broker.records
close_keeps birth moment s s1 is = part_keeps birth birth (Close moment) (λ x. with_columns (closed_row moment x)) (λ w. w) (close_changes moment) s s1 is

-- so does a new Session Expiry Interval
pub expiry_keeps : (birth expiry : ℕ) (s s1 : Stepping) → Did (to_session birth (SetExpiry expiry)) s s1 → Keeps birth s.broker.records s1.broker.records
expiry_keeps birth expiry s s1 is = part_keeps birth birth (SetExpiry expiry) (λ x. with_columns (expiry_row expiry x)) (λ w. w) (expiry_changes expiry) s s1 is

-- ---- a Will that isn't kept

dropping : (keeps : Bool) (birth : ℕ) (b : Broker) → keeps ≡ false → to_session birth DropWill b ≡ drops_will keeps birth b
dropping keeps birth b is = by_found (session_at birth b.records)
  where
    by_found : (o : Option Session) → with_session o (λ s. always (At (whose s) DropWill ∷ [])) b ≡ with_session o (λ s. only_if (not keeps) (always (At (whose s) DropWill ∷ []))) b
    by_found None = refl
    by_found (Some x) = ap (λ t. only_if (not t) (always (At (whose x) DropWill ∷ [])) b) (sym is)

keeping : (keeps : Bool) (birth : ℕ) (b : Broker) → keeps ≡ true → drops_will keeps birth b ≡ []
keeping keeps birth b is = by_found (session_at birth b.records)
  where
    by_found : (o : Option Session) → with_session o (λ s. only_if (not keeps) (always (At (whose s) DropWill ∷ []))) b ≡ []
    by_found None = refl
    by_found (Some x) = ap (λ t. only_if (not t) (always (At (whose x) DropWill ∷ [])) b) is

-- a Will that is not to be kept goes
pub will_dropped : (keeps : Bool) (birth : ℕ) (s new : Stepping) → keeps ≡ false → Did (to_session birth DropWill) s new → Did (drops_will keeps birth) s new
will_dropped keeps birth s new not_kept is = same_act (to_session birth DropWill) (drops_will keeps birth) s new (dropping keeps birth s.broker not_kept) is

-- or its going is refused
pub drop_left : (keeps : Bool) (birth : ℕ) (fault : StepFault) (s new : Stepping) → keeps ≡ false → IsLeft (to_session birth DropWill) fault s new → IsLeft (drops_will keeps birth) fault s new
drop_left keeps birth fault s new not_kept is = same_left (to_session birth DropWill) (drops_will keeps birth) fault s new (dropping keeps birth s.broker not_kept) is

-- a Will that is to be kept stays
pub will_kept : (keeps : Bool) (birth : ℕ) (s : Stepping) → keeps ≡ true → Did (drops_will keeps birth) s s
will_kept keeps birth s kept = did_nothing (drops_will keeps birth) s (keeping keeps birth s.broker kept)

-- no Will comes by it
pub drops_keeps : (keeps : Bool) (birth : ℕ) (s s1 : Stepping) → Did (drops_will keeps birth) s s1 → Keeps birth s.broker.records s1.broker.records
drops_keeps true birth s s1 is = keeps_same birth s.broker.records s1.broker.records (ap (λ (t : Stepping). t.broker.records) (is.is ∙ (ap (λ ds. did ds s) (keeping true birth s.broker refl) ∙ did_none s)))
drops_keeps false birth s s1 is =
    part_keeps birth birth DropWill (λ x. with_will None) (λ w. None) drop_changes s s1 (same_act (drops_will false birth) (to_session birth DropWill) s s1 (sym (dropping false birth s.broker refl)) is)

-- ---- dropped or kept, closed, settled

-- of a session that is gone nothing is due
pub settle_absent : (birth : ℕ) (env : Env) (b : Broker) → session_at birth b.records ≡ None → settle env birth b ≡ []
settle_absent birth env b none =
    ap (λ ds. then ds (series (settles_end b.now birth ∷ [])) b) (will_none b none)
    ∙ ap (λ ds. then ds (series []) b) (end_none b none)
  where
    will_none : (b : Broker) → session_at birth b.records ≡ None → settles_will b.now birth env b ≡ []
    will_none b none = ap (λ o. with_session o (λ s. only_if (has_due_will b.now s) (publish_will env s)) b) none

    end_none : (b : Broker) → session_at birth b.records ≡ None → settles_end b.now birth b ≡ []
    end_none b none = ap (λ o. with_session o (λ s. only_if (has_due_end b.now s) (always (end_session s))) b) none

abbrev close_part : ℕ → ℕ → Env → Act
close_part moment birth env = to_session birth (Close moment)

abbrev settle_part : ℕ → Env → Act
settle_part birth env = settle env birth

abbrev drop_part : Bool → ℕ → Env → Act
drop_part keeps birth env = drops_will keeps birth

abbrev tail_parts : ℕ → ℕ → Env → Act
tail_parts moment birth = both (close_part moment birth) (settle_part birth)

abbrev all_parts : Bool → ℕ → ℕ → Env → Act
all_parts keeps moment birth = both (drop_part keeps birth) (tail_parts moment birth)

abbrev drop_deeds : Bool → Session → List Deed
drop_deeds true x = []
drop_deeds false x = At (whose x) DropWill ∷ []

deeds_are : (keeps : Bool) (x : Session) (b : Broker) → only_if (not keeps) (always (At (whose x) DropWill ∷ [])) b ≡ drop_deeds keeps x
deeds_are true x b = refl
deeds_are false x b = refl

drop_is : (keeps : Bool) (birth : ℕ) (x : Session) (b : Broker) → session_at birth b.records ≡ Some x → drops_will keeps birth b ≡ only_if (not keeps) (always (At (whose x) DropWill ∷ [])) b
drop_is keeps birth x b found = ap (λ o. with_session o (λ s. only_if (not keeps) (always (At (whose s) DropWill ∷ []))) b) found

whose_after : (keeps : Bool) (birth : ℕ) (x : Session) (b : Broker) → session_at birth b.records ≡ Some x → whose_at birth (after_all (drop_deeds keeps x) b).records ≡ Some (whose x)
whose_after true birth x b found = ap (option_map whose) found
whose_after false birth x b found =
    let there : session_at x.birth b.records ≡ Some x = stands birth b.records x found in
    rw there (field_kept whose x.birth birth (with_will None) b.records (λ y. refl) (λ y. refl) ∙ ap (option_map whose) found)

tail_is : (keeps : Bool) (birth moment : ℕ) (x : Session) (env : Env) (b b1 : Broker) → session_at birth b.records ≡ Some x → whose_at birth b1.records ≡ Some (whose x)
    → tail_parts moment birth env b1 ≡ series (always (At (whose x) (Close moment) ∷ []) ∷ settle env x.birth ∷ []) b1
tail_is keeps birth moment x env b b1 found same =
    let closing : List Deed = At (whose x) (Close moment) ∷ [] in
    ap (λ ds. then ds (settle env birth) b1) (part_at birth (Close moment) (whose x) b1 same)
    ∙ (ap (λ n. then closing (settle env n) b1) (sym (found_birth birth b.records.sessions x found))
    ∙ ap (λ ds. closing ++ ds) (alone (settle env x.birth) (after_all closing b1)))

parts_found : (keeps : Bool) (birth moment : ℕ) (x : Session) (env : Env) (b : Broker) → session_at birth b.records ≡ Some x → moment ≡ moment_of b
    → all_parts keeps moment birth env b ≡ closes keeps birth env b
parts_found keeps birth moment x env b found is =
    let drop : List Deed = drop_deeds keeps x in
    ap (λ ds. then ds (tail_parts moment birth env) b) (drop_is keeps birth x b found ∙ deeds_are keeps x b)
    ∙ (ap (λ ds. drop ++ ds) (tail_is keeps birth moment x env b (after_all drop b) found (whose_after keeps birth x b found))
    ∙ (ap (λ n. then drop (series (always (At (whose x) (Close n) ∷ []) ∷ settle env x.birth ∷ [])) b) is
    ∙ (ap (λ ds. then ds (series (always (At (whose x) (Close (moment_of b)) ∷ []) ∷ settle env x.birth ∷ [])) b) (sym (deeds_are keeps x b))
    ∙ ap (λ o. with_session o (close_session env keeps) b) (sym found))))

parts_absent : (keeps : Bool) (birth moment : ℕ) (env : Env) (b : Broker) → session_at birth b.records ≡ None → all_parts keeps moment birth env b ≡ closes keeps birth env b
parts_absent keeps birth moment env b none =
    ap (λ ds. then ds (tail_parts moment birth env) b) (ap (λ o. with_session o (λ s. only_if (not keeps) (always (At (whose s) DropWill ∷ []))) b) none)
    ∙ (ap (λ ds. then ds (settle env birth) b) (ap (λ o. with_session o (λ s. always (At (whose s) (Close moment) ∷ [])) b) none)
    ∙ (settle_absent birth env b none
    ∙ sym (ap (λ o. with_session o (close_session env keeps) b) none)))

parts_by : (keeps : Bool) (birth moment : ℕ) (env : Env) (b : Broker) (o : Option Session) → session_at birth b.records ≡ o → moment ≡ moment_of b → all_parts keeps moment birth env b ≡ closes keeps birth env b
parts_by keeps birth moment env b None found is = parts_absent keeps birth moment env b found
parts_by keeps birth moment env b (Some x) found is = parts_found keeps birth moment x env b found is

parts_are : (keeps : Bool) (birth moment : ℕ) (env : Env) (b : Broker) → moment ≡ moment_of b → all_parts keeps moment birth env b ≡ closes keeps birth env b
parts_are keeps birth moment env b is = parts_by keeps birth moment env b (session_at birth b.records) refl is

-- dropping the Will, closing, and what is then due: that is the close of a session
pub closed_is : (keeps : Bool) (birth moment : ℕ) (s s1 s2 s3 : Stepping) → moment ≡ moment_of s.broker → Did (drops_will keeps birth) s s1 → Did (to_session birth (Close moment)) s1 s2
    → DoesSome (λ env. settle env birth) s2 s3 → DoesSome (closes keeps birth) s s3
closed_is keeps birth moment s s1 s2 s3 is drop close settle =
    same_some (all_parts keeps moment birth) (closes keeps birth) s s3 (λ choice. parts_are keeps birth moment (env_in choice s) s.broker is)
    (then_some (drop_part keeps birth) (tail_parts moment birth) s s1 s3 (λ choice. drop)
    (then_some (close_part moment birth) (settle_part birth) s1 s2 s3 (λ choice. close) settle))

-- so it is if nobody has to be chosen
pub closed_quiet : (keeps : Bool) (birth moment : ℕ) (s s1 s2 s3 : Stepping) → moment ≡ moment_of s.broker → Did (drops_will keeps birth) s s1 → Did (to_session birth (Close moment)) s1 s2
    → Does (λ env. settle env birth) s2 s3 → Does (closes keeps birth) s s3
closed_quiet keeps birth moment s s1 s2 s3 is drop close settle =
    same_does (all_parts keeps moment birth) (closes keeps birth) s s3 (λ choice. parts_are keeps birth moment (env_in choice s) s.broker is)
    (does_then (drop_part keeps birth) (tail_parts moment birth) s s1 s3 (λ choice. drop)
    (does_then (close_part moment birth) (settle_part birth) s1 s2 s3 (λ choice. close) settle))

-- a close may be refused at its Will
pub drop_refused : (keeps : Bool) (birth moment : ℕ) (fault : StepFault) (s new : Stepping) → moment ≡ moment_of s.broker → IsLeft (drops_will keeps birth) fault s new → Leaves (closes keeps birth) fault s new
drop_refused keeps birth moment fault s new is left =
    same_leaves (all_parts keeps moment birth) (closes keeps birth) fault s new (λ choice. parts_are keeps birth moment (env_in choice s) s.broker is)
    (leaves_first (drop_part keeps birth) (tail_parts moment birth) fault s new (λ choice. left))

-- or at its moment
pub close_refused : (keeps : Bool) (birth moment : ℕ) (fault : StepFault) (s s1 new : Stepping) → moment ≡ moment_of s.broker → Did (drops_will keeps birth) s s1
    → IsLeft (to_session birth (Close moment)) fault s1 new → Leaves (closes keeps birth) fault s new
close_refused keeps birth moment fault s s1 new is drop left =
    same_leaves (all_parts keeps moment birth) (closes keeps birth) fault s new (λ choice. parts_are keeps birth moment (env_in choice s) s.broker is)
    (leaves_then (drop_part keeps birth) (tail_parts moment birth) fault s s1 new (λ choice. drop)
    (leaves_first (close_part moment birth) (settle_part birth) fault s1 new (λ choice. left)))

-- or at what is then due
pub settle_refused : (keeps : Bool) (birth moment : ℕ) (fault : StepFault) (s s1 s2 new : Stepping) → moment ≡ moment_of s.broker → Did (drops_will keeps birth) s s1
    → Did (to_session birth (Close moment)) s1 s2 → LeavesSome (λ env. settle env birth) fault s2 new → LeavesSome (closes keeps birth) fault s new
settle_refused keeps birth moment fault s s1 s2 new is drop close left =
    same_some_left (all_parts keeps moment birth) (closes keeps birth) fault s new (λ choice. parts_are keeps birth moment (env_in choice s) s.broker is)
    (then_some_left (drop_part keeps birth) (tail_parts moment birth) fault s s1 new (λ choice. drop)
    (then_some_left (close_part moment birth) (settle_part birth) fault s1 s2 new (λ choice. close) left))

-- so it is if nobody has to be chosen
pub settle_quiet_refused : (keeps : Bool) (birth moment : ℕ) (fault : StepFault) (s s1 s2 new : Stepping) → moment ≡ moment_of s.broker → Did (drops_will keeps birth) s s1
    → Did (to_session birth (Close moment)) s1 s2 → Leaves (λ env. settle env birth) fault s2 new → Leaves (closes keeps birth) fault s new
settle_quiet_refused keeps birth moment fault s s1 s2 new is drop close left =
    same_leaves (all_parts keeps moment birth) (closes keeps birth) fault s new (λ choice. parts_are keeps birth moment (env_in choice s) s.broker is)
    (leaves_then (drop_part keeps birth) (tail_parts moment birth) fault s s1 new (λ choice. drop)
    (leaves_then (close_part moment birth) (settle_part birth) fault s1 s2 new (λ choice. close) left))

-- ---- a Will that is gone stays gone

will_gone_by : (birth : ℕ) (s : Stepping) (o : Option Session) → session_at birth s.broker.records ≡ o
    → will_at birth (did (with_session o (λ x. always (At (whose x) DropWill ∷ [])) s.broker) s).broker.records ≡ None
will_gone_by birth s None found = ap will_of found
will_gone_by birth s (Some x) found =
    let r = s.broker.records in
    let there : session_at x.birth r ≡ Some x = stands birth r x found in
    ap (λ o. will_at birth (changed_all (part_rows_of DropWill o) r)) there
    ∙ (will_changed birth x.birth (with_will None) (λ w. None) r (λ y. refl) (λ y. refl) refl
    ∙ (ap (λ n. cond (nat_eq n birth) None (will_at birth r)) (found_birth birth r.sessions x found)
    ∙ ap (λ t. cond t None (will_at birth r)) (nat_eq_equiv.refl birth)))

-- a Will that was dropped is gone
pub will_gone : (birth : ℕ) (s s1 : Stepping) → Did (to_session birth DropWill) s s1 → will_at birth s1.broker.records ≡ None
will_gone birth s s1 is =
    ap (λ (t : Stepping). will_at birth t.broker.records) is.is ∙ will_gone_by birth s (session_at birth s.broker.records) refl

either_none : (t : Bool) (w : Option Will) → w ≡ None → cond t w w ≡ None
either_none true w none = none
either_none false w none = none

leave_none_by : (birth : ℕ) (e : CopyRow) (r : Records) (o : Option Session) → will_at birth r ≡ None → will_at birth (changed_all (part_rows_of (Leave e SessionEnded) o) r) ≡ None
leave_none_by birth e r None none = none
leave_none_by birth e r (Some y) none =
    will_changed birth y.birth (without_copy e.place) (λ w. w) r (λ z. refl) (λ z. refl) refl ∙ either_none (nat_eq y.birth birth) (will_at birth r) none

finish_none : (birth k : ℕ) (r : Records) → will_at birth r ≡ None → will_of (row_at birth_of birth (remove_row birth_of k r.sessions)) ≡ None
finish_none birth k r none = ap will_of (row_at-remove_row birth_of birth k r.sessions) ∙ by_test (nat_eq k birth)
  where
    by_test : (t : Bool) → will_of (cond t None (session_at birth r)) ≡ None
    by_test true = refl
    by_test false = none

ends_none : (birth : ℕ) (x : Session) (es : List CopyRow) (b : Broker) → will_at birth b.records ≡ None
    → will_at birth (after_all (map (λ e. At (whose x) (Leave e SessionEnded)) es ++ Finish (whose x) ∷ []) b).records ≡ None
ends_none birth x [] b none = finish_none birth x.birth b.records none
ends_none birth x (e ∷ es) b none =
    ends_none birth x es (after (At (whose x) (Leave e SessionEnded)) b) (leave_none_by birth e b.records (session_at x.birth b.records) none)

end_none_by : (birth : ℕ) (x : Session) (due : Bool) (s : Stepping) → will_at birth s.broker.records ≡ None → will_at birth (did (only_if due (always (end_session x)) s.broker) s).broker.records ≡ None
end_none_by birth x false s none = none
end_none_by birth x true s none = ends_none birth x x.queue s.broker none

end_none : (moment birth : ℕ) (s : Stepping) (o : Option Session) → will_at birth s.broker.records ≡ None
    → will_at birth (did (with_session o (λ x. only_if (has_due_end moment x) (always (end_session x))) s.broker) s).broker.records ≡ None
end_none moment birth s None none = none
end_none moment birth s (Some x) none = end_none_by birth x (has_due_end moment x) s none

-- a session's end brings no Will
pub end_keeps : (moment birth : ℕ) (s s1 : Stepping) → Did (settles_end moment birth) s s1 → will_at birth s.broker.records ≡ None → will_at birth s1.broker.records ≡ None
end_keeps moment birth s s1 is none =
    ap (λ (t : Stepping). will_at birth t.broker.records) is.is ∙ end_none moment birth s (session_at birth s.broker.records) none

-- ---- chosen once

-- what is due publishes a Will at most once
pub will_once : (moment birth : ℕ) (x : Session) (s new : Stepping) → session_at birth s.broker.records ≡ Some x → has_due_will moment x ≡ true
    → ChoosesOnce birth (publishes_will birth) s new → ChoosesOnce birth (settles_will moment birth) s new
will_once moment birth x s new found due once = elim once [ inl gone ↦ inl gone | inr does ↦ inr (will_quiet moment birth x s new found due does) ]

-- what is due asks for members of groups at most once
pub settled_once : (moment birth : ℕ) (s s1 s2 : Stepping) → moment ≡ moment_of s.broker → ChoosesOnce birth (settles_will moment birth) s s1 → Did (settles_end moment birth) s1 s2
    → ChoosesOnce birth (λ env. settle env birth) s s2
settled_once moment birth s s1 s2 is once end = elim once [
  | inl gone ↦ inl (end_keeps moment birth s1 s2 end gone)
  | inr does ↦ inr (settled_quiet moment birth s s1 s2 is does end)
]

-- so does a close
pub closed_once : (keeps : Bool) (birth moment : ℕ) (s s1 s2 s3 : Stepping) → moment ≡ moment_of s.broker → Did (drops_will keeps birth) s s1 → Did (to_session birth (Close moment)) s1 s2
    → ChoosesOnce birth (λ env. settle env birth) s2 s3 → ChoosesOnce birth (closes keeps birth) s s3
closed_once keeps birth moment s s1 s2 s3 is drop close once = elim once [
  | inl gone ↦ inl gone
  | inr does ↦ inr (closed_quiet keeps birth moment s s1 s2 s3 is drop close does)
]
