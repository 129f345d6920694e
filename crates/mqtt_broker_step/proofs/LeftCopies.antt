-- What a copy that leaves makes of a step.
use Rattle.std.proofs.Common.{◌≡◌, ℕ, [], ◌∷◌, ◌++◌, map, refl, ap, sym, ◌∙◌, append-nil}
use Rattle.std.specs.Prelude.{Option, Some}
use Rattle.mqtt_base.specs.declared.session.Ending.{Ending}
use Rattle.mqtt_records.specs.messages.Queue.{CopyRow}
use Rattle.mqtt_records.specs.lists.Order.{row_at}
use Rattle.mqtt_records.specs.declared.state.session.Session.{Session}
use Rattle.mqtt_records.specs.declared.state.change.Change.TheVariants.{RemoveCopy}
use Rattle.mqtt_records.specs.state.Records.{changed_all}
use Rattle.mqtt_records.specs.state.Session.{copy_place}
use Rattle.mqtt_rules.specs.declared.step.Report.{Report}
use Rattle.mqtt_rules.specs.declared.step.Report.TheVariants.{Ended}
use Rattle.mqtt_rules.specs.step.State.{session_at}
use Rattle.mqtt_rules.specs.step.Deeds.{At, Leave, whose, without_place, part_rows_of, with_session, always}
use Rattle.mqtt_rules.specs.step.Outbound.{at_place, of_entry}
use Rattle.mqtt_broker_step.specs.Undoing.{with_lines, with_records}
use Rattle.mqtt_broker_step.specs.Doing.{leaves}
use Rattle.mqtt_broker_step.specs.Stepping.{Stepping, did, Did, written, told, with_broker}
use Rattle.mqtt_broker_step.proofs.Inverse.{row_key}
use Rattle.mqtt_broker_step.proofs.Doing.{same_parts, stands, found_birth}

-- a step whose lines lost a place
abbrev pub with_lost : ℕ → ℕ → Stepping → Stepping
with_lost birth place s = with_broker (with_lines (map (without_place birth place) s.broker.lines) s.broker) s

did_leave : (x : Session) (e : CopyRow) (ending : Ending) (s : Stepping) → session_at x.birth s.broker.records ≡ Some x
    → told (Ended e.copy.id x.client ending) (with_lost x.birth e.place (written (RemoveCopy x.birth e.place) s)) ≡ did (At (whose x) (Leave e ending) ∷ []) s
did_leave x e ending s found = same_parts s
    (ap (λ (o : Option Session). with_records (changed_all (part_rows_of (Leave e ending) o) s.broker.records) (with_lines (map (without_place x.birth e.place) s.broker.lines) s.broker)) (sym found))
    (ap (λ (o : Option Session). s.rows ++ (part_rows_of (Leave e ending) o ++ [])) (sym found))
    (sym (append-nil s.outputs)) (sym (append-nil s.closed)) tells
  where
    tells : s.reports ++ Ended e.copy.id x.client ending ∷ [] ≡ s.reports ++ Ended e.copy.id x.client ending ∷ []
    tells = refl

-- a copy has left once its end is reported, its row is removed, and its place is gone from its session's lines
pub leave_ok : (birth place : ℕ) (ending : Ending) (x : Session) (e : CopyRow) (y : Report) (s t d new : Stepping)
    → session_at birth s.broker.records ≡ Some x → row_at copy_place place x.queue ≡ Some e → y ≡ Ended e.copy.id x.client ending
    → t ≡ told y s → d ≡ written (RemoveCopy birth place) t → new ≡ with_lost birth place d → Did (leaves birth place ending) s new
leave_ok birth place ending x e y s t d new found there tells first row lost =
    let own : x.birth ≡ birth = found_birth birth s.broker.records.sessions x found in
    let at : e.place ≡ place = row_key copy_place place x.queue e there in
    let act : leaves birth place ending s.broker ≡ At (whose x) (Leave e ending) ∷ [] =
    ap (λ (o : Option Session). with_session o (λ z. always (at_place place z (λ k. At (whose z) (Leave k ending) ∷ []))) s.broker) found
    ∙ ap (λ (o : Option CopyRow). of_entry o (λ k. At (whose x) (Leave k ending) ∷ [])) there in
    let told_so : t ≡ told (Ended e.copy.id x.client ending) s = first ∙ ap (λ z. told z s) tells in
    record {
      is = lost ∙ (ap (with_lost birth place) (row ∙ ap (written (RemoveCopy birth place)) told_so)
          ∙ (ap (λ n. told (Ended e.copy.id x.client ending) (with_lost n place (written (RemoveCopy n place) s))) (sym own)
          ∙ (ap (λ n. told (Ended e.copy.id x.client ending) (with_lost x.birth n (written (RemoveCopy x.birth n) s))) (sym at)
          ∙ (did_leave x e ending s (stands birth s.broker.records x found)
          ∙ ap (λ ds. did ds s) (sym act)))));
    }
