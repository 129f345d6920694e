-- Of what is due something is done.
use Rattle.std.proofs.Common.{◌≡◌, ℕ, Bool, true, false, cond, ◌&&◌, List, [], ◌∷◌, ◌++◌, map, nat_eq, refl, ap, inl, inr}
use Rattle.std.specs.Prelude.{⊤, flat_map, is_some, Option, Some, None}
use Rattle.std.proofs.lemmas.Bool.{cases_Bool}
use Rattle.std.proofs.lemmas.Cmp.{nat_eq_equiv}
use Rattle.mqtt_base.specs.declared.session.Ending.TheVariants.{SessionEnded, Expired}
use Rattle.mqtt_flow.specs.outbound.Outbound.{expired, is_waiting, is_late}
use Rattle.mqtt_records.specs.declared.messages.message.Will.{Will}
use Rattle.mqtt_records.specs.messages.Queue.{CopyRow}
use Rattle.mqtt_records.specs.declared.state.session.Session.{Session}
use Rattle.mqtt_records.specs.state.Session.{copy_place}
use Rattle.mqtt_records.specs.lists.Order.{row_at, has_row}
use Rattle.mqtt_rules.specs.step.Closing.{will_due, is_due, will_deeds, publish_will, end_session, has_due_will, will_message, publish_or_refuse}
use Rattle.mqtt_rules.specs.step.Deeds.{Deed, At, DropWill, Finish, Leave, Whose, whose}
use Rattle.mqtt_rules.specs.step.Outbound.{leave_deeds, of_entry}
use Rattle.mqtt_rules.specs.step.Routing.{accepted_copies}
use Rattle.mqtt_rules.specs.step.State.{Broker, Env, Line, entry_on}
use Rattle.mqtt_rules.specs.step.Step.{is_none_done}
use Rattle.mqtt_rules.specs.step.Tick.{silence, are_some, has_lapsed, lapse_deeds}

-- a deed behind others
behind : (ds : List Deed) (d : Deed) (es : List Deed) → is_none_done (ds ++ d ∷ es) ≡ false
behind [] d es = refl
behind (x ∷ ds) d es = refl

-- a line that was silent too long is told so, or closed: something is done
pub silence_does : (env : Env) (session : Option ℕ) (l : Line) (b : Broker) → is_none_done (silence env session l b) ≡ false
silence_does env None l b = refl
silence_does env (Some birth) l b = refl

-- ---- a Will that is due, and an end

will_does : (env : Env) (who : Whose) (closed : Option ℕ) (expiry : ℕ) (will : Option Will) (b : Broker) → is_due b.now (will_due closed expiry will) ≡ true → is_none_done (will_deeds env who will b) ≡ false
will_does env who None expiry will b due = absurd cc
will_does env who (Some closed) expiry None b due = absurd cc
will_does env who (Some closed) expiry (Some w) b due =
    let m = will_message who.client w in
    behind (publish_or_refuse env who m (accepted_copies env m b) b) (At who DropWill) []

-- so it is with a Will that is due
pub publishing_does : (env : Env) (s : Session) (b : Broker) → has_due_will b.now s ≡ true → is_none_done (publish_will env s b) ≡ false
publishing_does env s b due = will_does env (whose s) s.closed s.expiry s.will b due

-- and with a session's end
pub end_does : (s : Session) → is_none_done (end_session s) ≡ false
end_does s = behind (map (λ e. At (whose s) (Leave e SessionEnded)) s.queue) (Finish (whose s)) []

-- ---- copies that have expired

abbrev Standing : List CopyRow → List CopyRow → Type 0
Standing whole [] = ⊤
Standing whole (e ∷ es) = (has_row copy_place e.place whole ≡ true) × Standing whole es

one_more : (x e : CopyRow) (whole : List CopyRow) → has_row copy_place e.place whole ≡ true → has_row copy_place e.place (x ∷ whole) ≡ true
one_more x e whole has = elim (cases_Bool (nat_eq (copy_place x) e.place)) [
  | inl here ↦ rw here refl
  | inr later ↦ rw later has
]

more : (x : CopyRow) (whole es : List CopyRow) → Standing whole es → Standing (x ∷ whole) es
more x whole [] stands = tt
more x whole (e ∷ es) stands = (one_more x e whole stands.0, more x whole es stands.1)

all_stand : (es : List CopyRow) → Standing es es
all_stand [] = tt
all_stand (e ∷ es) = (ap (λ (b : Bool). is_some (cond b (Some e) (row_at copy_place e.place es))) (nat_eq_equiv.refl e.place), more e es es (all_stand es))

entry_does : (o : Option CopyRow) (f : CopyRow → Deed) (ds : List Deed) → is_some o ≡ true → is_none_done (of_entry o (λ e. f e ∷ []) ++ ds) ≡ false
entry_does None f ds is = absurd cc
entry_does (Some e) f ds is = refl

lapse_does : (now : ℕ) (s : Session) (es : List CopyRow) → Standing s.queue es → are_some (expired now (map (entry_on []) es)) ≡ true
    → is_none_done (flat_map (leave_deeds s) (expired now (map (entry_on []) es))) ≡ false
lapse_does now s [] stands some = absurd cc
lapse_does now s (e ∷ es) stands some =
    let x = entry_on [] e in
    elim (cases_Bool (is_waiting x.phase && is_late now x.copy)) [
      | inl late ↦ rw late (entry_does (row_at copy_place e.place s.queue) (λ c. At (whose s) (Leave c Expired)) (flat_map (leave_deeds s) (expired now (map (entry_on []) es))) stands.0)
      | inr other ↦ rw other (lapse_does now s es stands.1 (rw other at some))
    ]

-- and with copies that have expired
pub lapsing_does : (now : ℕ) (s : Session) → has_lapsed now s ≡ true → is_none_done (lapse_deeds now s) ≡ false
lapsing_does now s some = lapse_does now s s.queue (all_stand s.queue) some
