-- What is due, by numbers of lines, births and places, and as the rules have it.
use Rattle.std.proofs.Common.{◌≡◌, ℕ, false, List, [], ◌∷◌, nat_eq, refl, ap, sym, ◌∙◌, inl, inr}
use Rattle.std.specs.Prelude.{⊤, find, is_some, Option, Some, None, option_map}
use Rattle.std.proofs.lemmas.Bool.{cases_Bool}
use Rattle.mqtt_records.specs.declared.messages.message.RetainedMessage.{RetainedMessage}
use Rattle.mqtt_records.specs.declared.state.session.Session.{Session}
use Rattle.mqtt_records.specs.state.Records.{kept_place}
use Rattle.mqtt_records.specs.state.Session.{birth_of}
use Rattle.mqtt_records.specs.lists.Order.{IsAscending, row_at}
use Rattle.mqtt_rules.specs.step.Closing.{publish_will, end_session, has_due_will, has_due_end}
use Rattle.mqtt_rules.specs.step.Deeds.{Act, Forget, always, with_line, with_session}
use Rattle.mqtt_rules.specs.step.State.{Broker, Env, Line}
use Rattle.mqtt_rules.specs.step.Step.{Tick, deeds_of, is_again, is_none_done}
use Rattle.mqtt_rules.specs.step.Tick.{silence, is_silent, is_stale, has_lapsed, lapse_deeds, first_due, due, on_tick}
use Rattle.mqtt_rules.proofs.step_lemmas.acts.Leads.{found_passes}
use Rattle.mqtt_broker_step.specs.Lines.{line_number}
use Rattle.mqtt_broker_acts.specs.declared.clock.finding.Due.{Due}
use Rattle.mqtt_broker_acts.specs.declared.clock.finding.Due.TheVariants.{Silence, Will, End, Stale, Lapse}
use Rattle.mqtt_broker_acts.specs.clock.Ticking.{first_of, due_in, does_due, does_first}
use Rattle.mqtt_broker_acts.proofs.clock_lemmas.Found.{found_at}
use Rattle.mqtt_broker_acts.proofs.clock_lemmas.Nonempty.{silence_does, publishing_does, end_does, lapsing_does}

-- a line of a number is found by its key
pub line_found : (n : ℕ) (ls : List Line) → find (λ l. nat_eq l.number n) ls ≡ row_at line_number n ls
line_found n [] = refl
line_found n (l ∷ ls) = elim (cases_Bool (nat_eq l.number n)) [
  | inl here ↦ rw here refl
  | inr later ↦ rw later (line_found n ls)
]

-- the same is due, and something is done of it
abbrev Tells : Env → Broker → Option Act → Option Due → Type 0
Tells env b None None = ⊤
Tells env b None (Some d) = ⊥
Tells env b (Some act) None = ⊥
Tells env b (Some act) (Some d) = (act b ≡ does_due d env b) × (is_none_done (act b) ≡ false)

module _ (env : Env) (b : Broker) where
  first_tells : (act : Option Act) (d : Option Due) (acts : List (Option Act)) (ds : List (Option Due)) → Tells env b act d
      → Tells env b (first_due acts) (first_of ds) → Tells env b (first_due (act ∷ acts)) (first_of (d ∷ ds))
  first_tells None None acts ds one rest = rest
  first_tells None (Some d) acts ds one rest = absurd one
  first_tells (Some act) None acts ds one rest = absurd one
  first_tells (Some act) (Some d) acts ds one rest = one

  silence_tells : (o : Option Line) → IsAscending line_number b.lines → find (λ l. is_silent b.now l.session l) b.lines ≡ o
      → Tells env b (option_map (λ l. silence env l.session l) o) (option_map Silence (option_map line_number o))
  silence_tells None up e = tt
  silence_tells (Some l) up e = (
    sym (ap (λ x. with_line x (λ y. silence env y.session y) b) (line_found l.number b.lines ∙ found_at line_number (λ y. is_silent b.now y.session y) l b.lines up e)),
    silence_does env l.session l b,
  )

  will_tells : (o : Option Session) → IsAscending birth_of b.records.sessions → find (has_due_will b.now) b.records.sessions ≡ o
      → Tells env b (option_map (publish_will env) o) (option_map Will (option_map birth_of o))
  will_tells None up e = tt
  will_tells (Some s) up e = (
    sym (ap (λ x. with_session x (publish_will env) b) (found_at birth_of (has_due_will b.now) s b.records.sessions up e)),
    publishing_does env s b (found_passes (has_due_will b.now) s b.records.sessions e),
  )

  end_tells : (o : Option Session) → IsAscending birth_of b.records.sessions → find (has_due_end b.now) b.records.sessions ≡ o
      → Tells env b (option_map (λ s. always (end_session s)) o) (option_map End (option_map birth_of o))
  end_tells None up e = tt
  end_tells (Some s) up e = (
    sym (ap (λ x. with_session x (λ y. always (end_session y)) b) (found_at birth_of (has_due_end b.now) s b.records.sessions up e)),
    end_does s,
  )

  stale_tells : (o : Option RetainedMessage) → Tells env b (option_map (λ k. always (Forget k.place ∷ [])) o) (option_map Stale (option_map kept_place o))
  stale_tells None = tt
  stale_tells (Some k) = (refl, refl)

  lapse_tells : (o : Option Session) → IsAscending birth_of b.records.sessions → find (has_lapsed b.now) b.records.sessions ≡ o
      → Tells env b (option_map (λ s. always (lapse_deeds b.now s)) o) (option_map Lapse (option_map birth_of o))
  lapse_tells None up e = tt
  lapse_tells (Some s) up e = (
    sym (ap (λ x. with_session x (λ y. always (lapse_deeds b.now y)) b) (found_at birth_of (has_lapsed b.now) s b.records.sessions up e)),
    lapsing_does b.now s (found_passes (has_lapsed b.now) s b.records.sessions e),
  )

  abbrev late : Option Session
  late = find (has_lapsed b.now) b.records.sessions

  all_tell : IsAscending line_number b.lines → IsAscending birth_of b.records.sessions → Tells env b (due env b) (due_in b)
  all_tell lines sessions =
      let silent = find (λ l. is_silent b.now l.session l) b.lines in
      let willing = find (has_due_will b.now) b.records.sessions in
      let ending = find (has_due_end b.now) b.records.sessions in
      let stale = find (is_stale b.now) b.records.retained in
      let will_act = option_map (publish_will env) willing in
      let end_act = option_map (λ (s : Session). always (end_session s)) ending in
      let stale_act = option_map (λ (k : RetainedMessage). always (Forget k.place ∷ [])) stale in
      let lapse_act = option_map (λ (s : Session). always (lapse_deeds b.now s)) late in
      let will_due = option_map Will (option_map birth_of willing) in
      let end_due = option_map End (option_map birth_of ending) in
      let stale_due = option_map Stale (option_map kept_place stale) in
      let lapse_due = option_map Lapse (option_map birth_of late) in
      first_tells (option_map (λ l. silence env l.session l) silent) (option_map Silence (option_map line_number silent))
      (will_act ∷ end_act ∷ stale_act ∷ lapse_act ∷ []) (will_due ∷ end_due ∷ stale_due ∷ lapse_due ∷ []) (silence_tells silent lines refl)
      (first_tells will_act will_due (end_act ∷ stale_act ∷ lapse_act ∷ []) (end_due ∷ stale_due ∷ lapse_due ∷ []) (will_tells willing sessions refl)
      (first_tells end_act end_due (stale_act ∷ lapse_act ∷ []) (stale_due ∷ lapse_due ∷ []) (end_tells ending sessions refl)
      (first_tells stale_act stale_due (lapse_act ∷ []) (lapse_due ∷ []) (stale_tells stale)
      (first_tells lapse_act lapse_due [] [] (lapse_tells late sessions refl) tt))))

  deeds_told : (o : Option Act) (d : Option Due) → Tells env b o d → on_tick o b ≡ does_first d env b
  deeds_told None None tells = refl
  deeds_told None (Some d) tells = absurd tells
  deeds_told (Some act) None tells = absurd tells
  deeds_told (Some act) (Some d) tells = tells.0

  again_told : (o : Option Act) (d : Option Due) → Tells env b o d → is_again Tick (on_tick o b) ≡ is_some d
  again_told None None tells = refl
  again_told None (Some d) tells = absurd tells
  again_told (Some act) None tells = absurd tells
  again_told (Some act) (Some d) tells = rw tells.1 refl

  -- a turn of the clock does what is due first
  pub deeds_are : IsAscending line_number b.lines → IsAscending birth_of b.records.sessions → deeds_of env Tick b ≡ does_first (due_in b) env b
  deeds_are lines sessions = deeds_told (due env b) (due_in b) (all_tell lines sessions)

  -- a turn of the clock is to be called again exactly if something was due
  pub again_is : IsAscending line_number b.lines → IsAscending birth_of b.records.sessions → is_again Tick (deeds_of env Tick b) ≡ is_some (due_in b)
  again_is lines sessions = again_told (due env b) (due_in b) (all_tell lines sessions)
