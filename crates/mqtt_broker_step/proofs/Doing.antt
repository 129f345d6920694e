-- What deeds make of a step: one after the other, and one that is a row.
use Rattle.std.proofs.Common.{◌≡◌, ℕ, Bool, ◌||◌, cond, List, [], ◌∷◌, ◌++◌, nat_eq, refl, ap, sym, ◌∙◌, append_assoc, append-nil, inl, inr}
use Rattle.std.specs.Prelude.{filter_map, map, Option, Some, None, Result, Ok, Err, IfErr, IfOk, OnErr, OnOk}
use Rattle.std.proofs.lemmas.List.Elements.{filter_map-append}
use Rattle.std.proofs.lemmas.Bool.{cases_Bool, eqb-true}
use Rattle.mqtt_packet.specs.declared.codec.packet.Packet.{Packet}
use Rattle.mqtt_records.specs.declared.state.change.Change.{Change}
use Rattle.mqtt_records.specs.declared.state.records.Records.{Records}
use Rattle.mqtt_records.specs.declared.state.session.Session.{Session}
use Rattle.mqtt_records.specs.state.Records.{changed_all}
use Rattle.mqtt_records.specs.state.Session.{birth_of}
use Rattle.mqtt_records.specs.lists.Order.{row_at}
use Rattle.mqtt_rules.specs.declared.step.Report.{Report}
use Rattle.mqtt_rules.specs.step.State.{Line, Telling, Broker, session_at}
use Rattle.mqtt_rules.specs.step.Deeds.{Deed, Part, At, Act, whose, after, after_all, rows_of, rows_of_all, stored_after, lines_after, given_after, tellings_after, part_rows, part_rows_of, lines_at, part_report, with_session, always, series, wire, wires, closing, report}
use Rattle.mqtt_rules.specs.step.Step.{is_spent}
use Rattle.mqtt_rules.proofs.step_lemmas.acts.Goods.{after_append}
use Rattle.mqtt_broker_step.specs.declared.fault.StepFault.{StepFault}
use Rattle.mqtt_broker_step.specs.declared.fault.StepFault.TheVariants.{Memory, Spent}
use Rattle.mqtt_broker_step.specs.Undoing.{with_change}
use Rattle.mqtt_broker_step.specs.Stepping.{Stepping, did, spelled, Did, IsLeft, IsLeftRow, IsRefusedRow, to_session, written, told}
use Rattle.mqtt_broker_step.proofs.Rows.{spent_append}

-- ---- deeds after deeds

-- the rows of deeds and further deeds are those of the first, and then those of the others on what the first stored
pub rows_append : (ds es : List Deed) (b : Broker) → rows_of_all (ds ++ es) b.records ≡ rows_of_all ds b.records ++ rows_of_all es (after_all ds b).records
rows_append [] es b = refl
rows_append (d ∷ ds) es b =
    ap (λ rest. rows_of d b.records ++ rest) (rows_append ds es (after d b))
    ∙ sym (append_assoc (rows_of d b.records) (rows_of_all ds (stored_after d b.records)) (rows_of_all es (after_all ds (after d b)).records))

-- a step with these tables and lists
abbrev pub with_parts : Stepping → Broker → List Change → List (ℕ × List ℕ) → List ℕ → List Report → Stepping
with_parts s b rows outputs closed reports = record s { broker = b; rows = rows; outputs = outputs; closed = closed; reports = reports }

five : {A B C D E R : Type 0} (mk : A → B → C → D → E → R) {a1 a2 : A} {b1 b2 : B} {c1 c2 : C} {d1 d2 : D} {e1 e2 : E}
    → a1 ≡ a2 → b1 ≡ b2 → c1 ≡ c2 → d1 ≡ d2 → e1 ≡ e2 → mk a1 b1 c1 d1 e1 ≡ mk a2 b2 c2 d2 e2
five mk p q r s t = cc

-- a step with equal tables and lists is the same step
pub same_parts : (s : Stepping) {a1 a2 : Broker} {b1 b2 : List Change} {c1 c2 : List (ℕ × List ℕ)} {d1 d2 : List ℕ} {e1 e2 : List Report}
    → a1 ≡ a2 → b1 ≡ b2 → c1 ≡ c2 → d1 ≡ d2 → e1 ≡ e2 → with_parts s a1 b1 c1 d1 e1 ≡ with_parts s a2 b2 c2 d2 e2
same_parts s p q r t u = five (with_parts s) p q r t u

more : {X Y : Type 0} (h : X → Option Y) (ys : List Y) (ds es : List X) → ys ++ filter_map h ds ++ filter_map h es ≡ ys ++ filter_map h (ds ++ es)
more h ys ds es = append_assoc ys (filter_map h ds) (filter_map h es) ∙ ap (λ zs. ys ++ zs) (sym (filter_map-append h ds es))

map_append : {X Y : Type 0} (f : X → Y) (xs ys : List X) → map f xs ++ map f ys ≡ map f (xs ++ ys)
map_append f [] ys = refl
map_append f (x ∷ xs) ys = ap (λ zs. f x ∷ zs) (map_append f xs ys)

-- what deeds and further deeds send is what the first send, and then what the others send on what the first left
pub wires_append : (ds es : List Deed) (b : Broker) → wires (ds ++ es) b ≡ wires ds b ++ wires es (after_all ds b)
wires_append [] es b = refl
wires_append (d ∷ ds) es b =
    ap (λ rest. wire d b ++ rest) (wires_append ds es (after d b))
    ∙ sym (append_assoc (wire d b) (wires ds (after d b)) (wires es (after_all ds (after d b))))

more_out : (ys : List (ℕ × List ℕ)) (ds es : List Deed) (b : Broker)
    → ys ++ map spelled (wires ds b) ++ map spelled (wires es (after_all ds b)) ≡ ys ++ map spelled (wires (ds ++ es) b)
more_out ys ds es b =
    append_assoc ys (map spelled (wires ds b)) (map spelled (wires es (after_all ds b)))
    ∙ ap (λ zs. ys ++ zs) (map_append spelled (wires ds b) (wires es (after_all ds b)) ∙ ap (map spelled) (sym (wires_append ds es b)))

-- deeds, then deeds
pub did_did : (ds es : List Deed) (s : Stepping) → did es (did ds s) ≡ did (ds ++ es) s
did_did ds es s = same_parts s
    (sym (after_append ds es s.broker))
    (append_assoc s.rows (rows_of_all ds s.broker.records) (rows_of_all es (after_all ds s.broker).records) ∙ ap (λ rows. s.rows ++ rows) (sym (rows_append ds es s.broker)))
    (more_out s.outputs ds es s.broker)
    (more closing s.closed ds es)
    (more report s.reports ds es)

-- no deeds leave a step as it is
pub did_none : (s : Stepping) → did [] s ≡ s
did_none s = same_parts s refl (append-nil s.rows) (append-nil s.outputs) (append-nil s.closed) (append-nil s.reports)

-- one act after another
pub did_series : (f : Act) (fs : List Act) (s : Stepping) → did (series (f ∷ fs) s.broker) s ≡ did (series fs (did (f s.broker) s).broker) (did (f s.broker) s)
did_series f fs s = sym (did_did (f s.broker) (series fs (after_all (f s.broker) s.broker)) s)

-- ---- a deed that is one row

map_none : {X Y : Type 0} (h : X → Option Y) (x : X) → h x ≡ None → filter_map h (x ∷ []) ≡ []
map_none h x e = rw e refl

map_some : {X Y : Type 0} (h : X → Option Y) (x : X) (y : Y) → h x ≡ Some y → filter_map h (x ∷ []) ≡ y ∷ []
map_some h x y e = rw e refl

nothing_more : {X Y : Type 0} (h : X → Option Y) (ys : List Y) (x : X) → h x ≡ None → ys ≡ ys ++ filter_map h (x ∷ [])
nothing_more h ys x e = sym (append-nil ys) ∙ ap (λ zs. ys ++ zs) (sym (map_none h x e))

-- of what a deed tells, and of the lines and of what they were told, nothing
pub record IsQuiet (d : Deed) (b : Broker) : Type 0 where
  pub lines : lines_after b.now d b.lines ≡ b.lines
  pub given : given_after d b.given ≡ b.given
  pub tellings : tellings_after d b.lines b.tellings ≡ b.tellings
  pub wire : wire d b ≡ []
  pub closing : closing d ≡ None

four : {A B C D R : Type 0} (mk : A → B → C → D → R) {a1 a2 : A} {b1 b2 : B} {c1 c2 : C} {d1 d2 : D} → a1 ≡ a2 → b1 ≡ b2 → c1 ≡ c2 → d1 ≡ d2 → mk a1 b1 c1 d1 ≡ mk a2 b2 c2 d2
four mk p q r s = cc

abbrev broker_with : Broker → Records → List Line → ℕ → List Telling → Broker
broker_with b r ls given ts = record b { records = r; lines = ls; given = given; tellings = ts }

after_row : (d : Deed) (c : Change) (b : Broker) → IsQuiet d b → rows_of d b.records ≡ c ∷ [] → with_change c b ≡ after d b
after_row d c b quiet rows =
    four (broker_with b) (sym (ap (λ cs. changed_all cs b.records) rows)) (sym quiet.lines) (sym quiet.given) (sym quiet.tellings)

row_listed : (d : Deed) (c : Change) (r : Records) → rows_of d r ≡ c ∷ [] → c ∷ [] ≡ rows_of_all (d ∷ []) r
row_listed d c r rows = ap (λ cs. cs ++ []) (sym rows)

no_output : (d : Deed) (b : Broker) (ys : List (ℕ × List ℕ)) → wire d b ≡ [] → ys ≡ ys ++ map spelled (wires (d ∷ []) b)
no_output d b ys e = sym (append-nil ys) ∙ ap (λ (xs : List (ℕ × Packet)). ys ++ map spelled (xs ++ [])) (sym e)

-- a deed of one row that tells nothing and leaves the lines alone is done by writing the row
pub did_row : (d : Deed) (c : Change) (s : Stepping) → IsQuiet d s.broker → report d ≡ None → rows_of d s.broker.records ≡ c ∷ [] → written c s ≡ did (d ∷ []) s
did_row d c s quiet none rows = same_parts s
    (after_row d c s.broker quiet rows)
    (ap (λ cs. s.rows ++ cs) (row_listed d c s.broker.records rows))
    (no_output d s.broker s.outputs quiet.wire)
    (nothing_more closing s.closed d quiet.closing)
    (nothing_more report s.reports d none)

-- one that reports something too is done by writing the row and telling the report
pub did_row_told : (d : Deed) (c : Change) (y : Report) (s : Stepping) → IsQuiet d s.broker → report d ≡ Some y → rows_of d s.broker.records ≡ c ∷ []
    → told y (written c s) ≡ did (d ∷ []) s
did_row_told d c y s quiet tells rows = same_parts s
    (after_row d c s.broker quiet rows)
    (ap (λ cs. s.rows ++ cs) (row_listed d c s.broker.records rows))
    (no_output d s.broker s.outputs quiet.wire)
    (nothing_more closing s.closed d quiet.closing)
    (ap (λ zs. s.reports ++ zs) (sym (map_some report d y tells)))

-- ---- a deed of a session

-- the session that was found has the birth that was asked for
pub found_birth : (birth : ℕ) (ss : List Session) (x : Session) → row_at birth_of birth ss ≡ Some x → x.birth ≡ birth
found_birth birth [] x found = absurd cc
found_birth birth (y ∷ ys) x found = elim (cases_Bool (nat_eq y.birth birth)) [
  | inl here ↦
      let first : Some y ≡ Some x = ap (λ (b : Bool). cond b (Some y) (row_at birth_of birth ys)) (sym here) ∙ found in
      let is : y ≡ x = cc in
      ap birth_of (sym is) ∙ eqb-true y.birth birth here
  | inr later ↦ found_birth birth ys x (ap (λ (b : Bool). cond b (Some y) (row_at birth_of birth ys)) (sym later) ∙ found)
]

-- a session that was found stands under its own birth
pub stands : (birth : ℕ) (r : Records) (x : Session) → session_at birth r ≡ Some x → session_at x.birth r ≡ Some x
stands birth r x found = ap (λ n. session_at n r) (found_birth birth r.sessions x found) ∙ found

part_of : (birth : ℕ) (part : Part) (b : Broker) (x : Session) → session_at birth b.records ≡ Some x → to_session birth part b ≡ At (whose x) part ∷ []
part_of birth part b x found = ap (λ o. with_session o (λ y. always (At (whose y) part ∷ [])) b) found

rows_of_part : (birth : ℕ) (part : Part) (c : Change) (r : Records) (x : Session) → session_at birth r ≡ Some x → part_rows part x ≡ c ∷ []
    → rows_of (At (whose x) part) r ≡ c ∷ []
rows_of_part birth part c r x found rows = ap (part_rows_of part) (stands birth r x found) ∙ rows

-- a session's deed of one row, without a report, is done by writing the row
pub did_part : (birth : ℕ) (part : Part) (c : Change) (x : Session) (s : Stepping) → session_at birth s.broker.records ≡ Some x → part_rows part x ≡ c ∷ []
    → lines_at x.birth part s.broker.lines ≡ s.broker.lines → part_report (whose x) part ≡ None → Did (to_session birth part) s (written c s)
did_part birth part c x s found rows lines none = record {
  is = did_row (At (whose x) part) c s (record { lines = lines; given = refl; tellings = refl; wire = refl; closing = refl }) none (rows_of_part birth part c s.broker.records x found rows)
      ∙ ap (λ ds. did ds s) (sym (part_of birth part s.broker x found));
}

-- a session's deed of one row, with a report, is done by writing the row and telling the report
pub did_part_told : (birth : ℕ) (part : Part) (c : Change) (y : Report) (x : Session) (s : Stepping) → session_at birth s.broker.records ≡ Some x → part_rows part x ≡ c ∷ []
    → lines_at x.birth part s.broker.lines ≡ s.broker.lines → part_report (whose x) part ≡ Some y → Did (to_session birth part) s (told y (written c s))
did_part_told birth part c y x s found rows lines tells = record {
  is = did_row_told (At (whose x) part) c y s (record { lines = lines; given = refl; tellings = refl; wire = refl; closing = refl }) tells (rows_of_part birth part c s.broker.records x found rows)
      ∙ ap (λ ds. did ds s) (sym (part_of birth part s.broker x found));
}

-- a deed of a session that doesn't stand does nothing
pub did_nobody : (birth : ℕ) (part : Part) (s : Stepping) → session_at birth s.broker.records ≡ None → Did (to_session birth part) s s
did_nobody birth part s none = record {
  is = sym (did_none s) ∙ ap (λ ds. did ds s) (sym (ap (λ o. with_session o (λ y. always (At (whose y) part ∷ [])) s.broker) none));
}

-- ---- refusals

-- if a row is refused and the step stays as it was, the step can be taken back
pub row_left : (c : Change) (fault : StepFault) (old new : Stepping) → new ≡ old → IsRefusedRow c fault → IsLeftRow c fault old new
row_left c Memory old new same is = record { start = ap (λ (s : Stepping). s.start) same; limits = ap (λ (s : Stepping). s.limits) same; spent = λ e. absurd cc }
row_left c Spent old new same is = record { start = ap (λ (s : Stepping). s.start) same; limits = ap (λ (s : Stepping). s.limits) same; spent = λ e. is }

-- if the act's rows begin with the row that was refused
pub left_of_row : (act : Act) (c : Change) (rest : List Change) (fault : StepFault) (old new : Stepping) → rows_of_all (act old.broker) old.broker.records ≡ c ∷ rest
    → IsLeftRow c fault old new → IsLeft act fault old new
left_of_row act c rest fault old new rows is = record {
  start = is.start;
  limits = is.limits;
  spent = λ e. ap is_spent rows ∙ (spent_append (c ∷ []) rest ∙ ap (λ b. b || is_spent rest) (is.spent e));
}

-- a session's deed of one row is refused if that row is
pub left_part : (birth : ℕ) (part : Part) (c : Change) (x : Session) (fault : StepFault) (old new : Stepping) → session_at birth old.broker.records ≡ Some x → part_rows part x ≡ c ∷ []
    → IsLeftRow c fault old new → IsLeft (to_session birth part) fault old new
left_part birth part c x fault old new found rows is =
    left_of_row (to_session birth part) c [] fault old new
    (ap (λ ds. rows_of_all ds old.broker.records) (part_of birth part old.broker x found)
    ∙ sym (row_listed (At (whose x) part) c old.broker.records (rows_of_part birth part c old.broker.records x found rows)))
    is

-- ---- results

-- after Ok there holds also what follows from what holds then
pub on_ok : {A E : Type 0} (r : Result A E) {P Q : Type 0} → (P → Q) → OnOk r P → OnOk r Q
on_ok (Ok a) f p = f p
on_ok (Err e) f p = p

-- of the value of an Ok there holds also what follows from what holds of it
pub if_ok : {A E : Type 0} (r : Result A E) {P Q : A → Type 0} → ((a : A) → P a → Q a) → IfOk r P → IfOk r Q
if_ok (Ok a) f p = f a p
if_ok (Err e) f p = p

-- of an error there holds also what follows from what holds of it
pub if_err : {A E : Type 0} (r : Result A E) {P Q : E → Type 0} → ((e : E) → P e → Q e) → IfErr r P → IfErr r Q
if_err (Ok a) f p = p
if_err (Err e) f p = f e p

-- of an error there holds also what follows from what holds of it together with what holds after any error
pub if_err_too : {A E : Type 0} (r : Result A E) {P Q : E → Type 0} {D : Type 0} → ((e : E) → P e → D → Q e) → IfErr r P → OnErr r D → IfErr r Q
if_err_too (Ok a) f p d = p
if_err_too (Err e) f p d = f e p d

-- ---- a deed of a session, as a call has it

-- the step with the row written is the one that did the session's deed of that row
pub part_ok : (birth : ℕ) (part : Part) (c : Change) (x : Session) (s new : Stepping) → session_at birth s.broker.records ≡ Some x → part_rows part x ≡ c ∷ []
    → lines_at x.birth part s.broker.lines ≡ s.broker.lines → part_report (whose x) part ≡ None → new ≡ written c s → Did (to_session birth part) s new
part_ok birth part c x s new found rows lines none is = record { is = is ∙ (did_part birth part c x s found rows lines none).is }

-- the step with the row written and the report told is the one that did the session's deed of both
pub part_told : (birth : ℕ) (part : Part) (c : Change) (y : Report) (x : Session) (s new : Stepping) → session_at birth s.broker.records ≡ Some x → part_rows part x ≡ c ∷ []
    → lines_at x.birth part s.broker.lines ≡ s.broker.lines → part_report (whose x) part ≡ Some y → new ≡ told y (written c s) → Did (to_session birth part) s new
part_told birth part c y x s new found rows lines tells is = record { is = is ∙ (did_part_told birth part c y x s found rows lines tells).is }

-- a session's deed of one row is refused if the row is and the step stays as it was
pub part_left : (birth : ℕ) (part : Part) (c : Change) (x : Session) (fault : StepFault) (old new : Stepping) → session_at birth old.broker.records ≡ Some x → part_rows part x ≡ c ∷ []
    → IsRefusedRow c fault → new ≡ old → IsLeft (to_session birth part) fault old new
part_left birth part c x fault old new found rows is same = left_part birth part c x fault old new found rows (row_left c fault old new same is)
