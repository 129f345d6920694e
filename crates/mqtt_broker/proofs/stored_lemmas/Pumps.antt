-- A pump on a line with a session: what it sends is read, rows are filled with it, and the step begins on them.
use Rattle.std.proofs.Common.{◌≡◌, ◌⊎◌, ℕ, Bool, true, false, List, Option, Some, None, refl, ap, sym, subst, ◌∙◌, inl, inr}
use Rattle.std.specs.Prelude.{Result, Err, ⊤}
use Rattle.std.specs.List.{AllByRecursion}
use Rattle.mqtt_records.specs.messages.Content.{CopyContent}
use Rattle.mqtt_records.specs.messages.Filling.{Fillings}
use Rattle.mqtt_records.specs.lists.Order.{IsAscending, row_at}
use Rattle.mqtt_keep.specs.declared.keeping.keep.Keep.{Ghosts}
use Rattle.mqtt_keep.specs.declared.keeping.keep.KeepError.{KeepError}
use Rattle.mqtt_keep.specs.declared.keeping.keep.KeepError.TheVariants as keeps
use Rattle.mqtt_records.specs.declared.state.records.Records.{Records}
use Rattle.mqtt_records.specs.declared.state.session.Session.{Session}
use Rattle.mqtt_records.specs.state.Session.{birth_of, copy_place}
use Rattle.mqtt_records.specs.state.Telling.{AreTold, queue_or_none}
use Rattle.mqtt_rules.specs.step.Contents.{HasLawfulContents}
use Rattle.mqtt_rules.specs.step.Laws.{HasTables, IsOrdered}
use Rattle.mqtt_rules.specs.step.Lines.{session_on}
use Rattle.mqtt_rules.specs.step.State.{Broker, MemberChoice, session_at}
use Rattle.mqtt_rules.specs.step.Step.{Call, Pump, at_moment, told}
use Rattle.mqtt_rules.proofs.step_lemmas.flight.FlightRows.{all_at}
use Rattle.mqtt_rules.specs.alike.Alike.{AlikeBrokers, AlikeRecords}
use Rattle.mqtt_rules.specs.filling.Filling.{AreFilledBy, filled}
use Rattle.mqtt_rules.specs.filling.Pumped.{HasFilledTurns, IsFilledAt, sent_places, session_of_birth}
use Rattle.mqtt_rules.proofs.filling_lemmas.Equivalence.{broker_back, broker_itself, broker_through}
use Rattle.mqtt_rules.proofs.filling_lemmas.Pumps.{filled_turns_whole, places_same, pump_tells}
use Rattle.mqtt_rules.proofs.filling_lemmas.Steps.{moment_alike}
use Rattle.mqtt_broker_looks.specs.at_hand.Hand.{Hand, IsQueueInOrder, SayWhatIsStored, contents_at}
use Rattle.mqtt_broker_looks.specs.at_hand.Reading.{HasFailed, WasAsked}
use Rattle.mqtt_broker_step.specs.declared.fault.StepFault.{StepFault}
use Rattle.mqtt_broker_step.specs.declared.call.EngineError.{EngineError}
use Rattle.mqtt_broker_step.specs.declared.call.EngineError.TheVariants.{Memory, Stopped}
use Rattle.mqtt_broker_step.specs.Stepping.{Stepping, at_rest}
use Rattle.mqtt_broker_acts.specs.calls.Doing.{IsCalled}
use Rattle.mqtt_broker.specs.declared.stored.outcome.Outcome.{Outcome}
use Rattle.mqtt_broker.specs.declared.stored.parts.EngineParts.{EngineParts}
use Rattle.mqtt_broker.specs.stored.Calling.{Called}
use Rattle.mqtt_broker.specs.stored.Finishing.{HasWhole, HoldsWhole, IsAtRest, IsUnderWay, SaysAtHand}
use Rattle.mqtt_broker.specs.stored.Pumping.{AreFilledAt}
use Rattle.mqtt_broker.specs.stored.Running.{Running}
use Rattle.mqtt_broker.specs.stored.Viewing.{viewed, viewed_before}
use Rattle.mqtt_broker.proofs.stored_lemmas.Beginning.{begins, called_of}
use Rattle.mqtt_broker.proofs.stored_lemmas.Finished.{goes_alike}
use Rattle.mqtt_broker.proofs.stored_lemmas.Reading.{called_before, failed_holds, linked_birth, read_failed, read_refused, read_stops}
use Rattle.mqtt_broker.proofs.stored_lemmas.Telling.{told_fills}

-- each queue of records in order is in order
queue_in_order : (birth : ℕ) (r : Records) → IsOrdered r → IsQueueInOrder birth r
queue_in_order birth r ordered = by (row_at birth_of birth r.sessions) refl
  where
    by : (o : Option Session) → row_at birth_of birth r.sessions ≡ o → IsAscending copy_place (queue_or_none o)
    by None there = tt
    by (Some s) there = let tables : HasTables s = all_at birth_of HasTables birth s r.sessions ordered.each there in tables.queue.ascending

module _ {K : Type 0} (g : Ghosts K)
    (tells : (keep : K) (r : Records) → g.is_sound keep → g.is_loaded keep → g.holds keep r → AreTold (g.fillings keep) r)
    (now line birth : ℕ) (p : EngineParts K)
    (rest : IsAtRest g p) (runs : p.stopped ≡ false) (on : session_on line p.step.broker ≡ Some (Some birth)) where
  abbrev call : Call
  call = Pump line

  abbrev had : HasWhole g p.keep p.hand p.step.limits p.step.broker
  had = rest.its runs

  -- the engine over a store
  abbrev seen : K → Bool → Running K
  seen keep stopped = record { keep = keep; limits = p.step.limits; broker = filled (g.fillings keep) p.step.broker; stopped = stopped }

  of_running : (result : Result Outcome EngineError) (new : Running K) → Called g now call (seen p.keep false) result new → Called g now call (viewed g p) result new
  of_running result new called = subst (λ (t : Bool). Called g now call (seen p.keep t) result new) (sym runs) called

  -- for want of memory nothing is looked up
  pub unplaced_called : Called g now call (viewed g p) (Err Memory) (viewed g p)
  unplaced_called =
      subst (λ (t : Bool). Called g now call (seen p.keep t) (Err Memory) (seen p.keep t)) (sym runs)
      (read_refused g tells now call p.keep p.keep p.hand p.step.limits p.step.broker had (λ sound. sound) (λ r left holds may. inl may) had.its)

  in_order : IsQueueInOrder birth had.whole.records
  in_order = queue_in_order birth had.whole.records had.its.sound.coherent.ordered

  -- ---- after the store was asked

  module _ (read : K) (hand : Hand) (device : g.is_sound read → g.is_sound p.keep) (crash : (r left : Records) → g.holds p.keep r → g.leaves read left → g.leaves p.keep left ⊎ (left ≡ r))
      (says : (r : Records) → g.holds p.keep r → IsQueueInOrder birth r → SayWhatIsStored p.hand r → g.is_sound read → SayWhatIsStored hand r) where
    hand_says : SaysAtHand g read hand had.whole.records
    hand_says sound = says had.whole.records had.its.holds in_order (had.at_hand (device sound)) sound

    -- it doesn't answer
    module _ (limit : ℕ) (e : KeepError) (failed : HasFailed g limit p.keep read e) (refusal : EngineError) (stopped : Bool)
        (memory : e ≡ keeps.Memory → refusal ≡ Memory) (disk : e ≡ keeps.Disk → refusal ≡ Stopped)
        (stops : refusal ≡ Stopped → stopped ≡ true) (stays : (refusal ≡ Stopped → ⊥) → stopped ≡ false) where
      left_holds : e ≡ keeps.Memory → HoldsWhole g read p.step.limits p.step.broker had.whole
      left_holds is =
          let its = failed.memory had.whole.records had.its.holds is in
          record { alike = had.its.alike; sound = had.its.sound; loaded = its.0; holds = its.1 }

      -- a pump whose contents were not read is a call that was refused
      pub unread_called : Called g now call (viewed g p) (Err refusal) (viewed g (record p { keep = read; hand = hand; stopped = stopped }))
      unread_called =
          of_running (Err refusal) (seen read stopped)
          (read_failed g tells now call p.keep read p.hand p.step.limits p.step.broker had device crash e refusal stopped failed.refused left_holds failed.cause memory disk stops stays)

      -- the engine is at rest then
      pub unread_rest : IsAtRest g (record p { keep = read; hand = hand; stopped = stopped })
      unread_rest = record {
        rest = rest.rest;
        slim = rest.slim;
        sound = rest.sound;
        its = failed_holds g tells now call p.keep read p.hand p.step.limits p.step.broker had device crash hand hand_says e refusal stopped failed.refused left_holds disk stops;
        goes = record { serves = rest.goes.serves; quiet = rest.goes.quiet };
      }

    -- it answers
    module _ (limit : ℕ) (asked : WasAsked g limit p.keep read) where
      read_holds : (some : Broker) → AlikeBrokers some p.step.broker → HoldsWhole g read p.step.limits some had.whole
      read_holds some alike = record {
        alike = broker_through some p.step.broker had.whole alike had.its.alike;
        sound = had.its.sound;
        loaded = asked.loaded;
        holds = asked.same had.whole.records had.its.holds;
      }

      abbrev after : EngineParts K
      after = record p { keep = read; hand = hand }

      -- and then there is no memory
      pub read_called : Called g now call (viewed g p) (Err Memory) (viewed g after)
      read_called =
          subst (λ (t : Bool). Called g now call (seen p.keep t) (Err Memory) (seen read t)) (sym runs)
          (read_refused g tells now call p.keep read p.hand p.step.limits p.step.broker had device crash (read_holds p.step.broker (broker_itself p.step.broker)))

      -- the engine is at rest once contents were read
      pub read_rest : IsAtRest g after
      read_rest = record {
        rest = rest.rest;
        slim = rest.slim;
        sound = rest.sound;
        its = λ r. record { whole = had.whole; its = read_holds p.step.broker (broker_itself p.step.broker); at_hand = hand_says };
        goes = record { serves = rest.goes.serves; quiet = rest.goes.quiet };
      }

      -- or rows are filled with it
      module _ (places : List ℕ) (found : places ≡ sent_places line (at_moment now p.step.broker)) (contents : List CopyContent)
          (exact : (r : Records) → g.holds p.keep r → IsQueueInOrder birth r → SayWhatIsStored p.hand r → g.is_sound read → contents ≡ contents_at birth places r)
          (t : Stepping) (is_filled : Bool)
          (fills : (fillings : Fillings) (places : List ℕ) (r : Records) → AlikeRecords p.step.broker.records r → AreFilledBy fillings r → HasLawfulContents r
          → contents ≡ contents_at birth places r → (is_filled ≡ true) × AreFilledAt fillings birth places t.broker.records) where
        stored_says : g.is_sound read → AreFilledBy (g.fillings read) had.whole.records
        stored_says sound =
            told_fills (g.fillings read) had.whole.records (tells read had.whole.records sound asked.loaded (asked.same had.whole.records had.its.holds)) had.its.sound.coherent.ordered

        truly_filled : g.is_sound read → (is_filled ≡ true) × AreFilledAt (g.fillings read) birth places t.broker.records
        truly_filled sound =
            fills (g.fillings read) places had.whole.records had.its.alike.records (stored_says sound) had.its.sound.contents.stored
            (exact had.whole.records had.its.holds in_order (had.at_hand (device sound)) sound)

        -- what doesn't fill them wasn't stored
        pub unfilled_called : is_filled ≡ false → Called g now call (viewed g p) (Err Stopped) (viewed g (record after { stopped = true }))
        unfilled_called unfilled =
            of_running (Err Stopped) (seen read true)
            (read_stops g tells now call p.keep read p.hand p.step.limits p.step.broker had device crash p.step.broker refl refl
            (inr (λ sound. let yes = (truly_filled sound).0 in absurd cc)))

        -- the engine is at rest if what was read was not taken in
        pub unfilled_rest : IsAtRest g (record after { stopped = true })
        unfilled_rest = record {
          rest = rest.rest;
          slim = rest.slim;
          sound = rest.sound;
          its = λ r. absurd cc;
          goes = record { serves = rest.goes.serves; quiet = rest.goes.quiet };
        }

        module _ (rests : t ≡ at_rest p.step.limits t.broker) (alike : AlikeBrokers t.broker p.step.broker) where
          alike_whole : AlikeBrokers t.broker had.whole
          alike_whole = broker_through t.broker p.step.broker had.whole alike had.its.alike

          filled_turns : g.is_sound read → HasFilledTurns (g.fillings read) now line t.broker
          filled_turns sound =
              let same : places ≡ sent_places line (at_moment now t.broker) =
              found ∙ sym (places_same line (at_moment now t.broker) (at_moment now p.step.broker) (moment_alike now t.broker p.step.broker alike)) in
              let served = linked_birth line birth t.broker (ap (session_on line) alike.rest ∙ on) in
              subst (λ (o : Option ℕ). AllByRecursion (IsFilledAt (g.fillings read) (session_of_birth o t.broker.records)) (sent_places line (at_moment now t.broker))) (sym served)
              (subst (λ (ns : List ℕ). AllByRecursion (IsFilledAt (g.fillings read) (session_at birth t.broker.records)) ns) same (truly_filled sound).1)

          -- they tell what the whole broker tells
          filled_tells : g.is_sound read → (choice : MemberChoice) → told p.step.limits choice now call t.broker ≡ told p.step.limits choice now call had.whole
          filled_tells sound choice =
              pump_tells p.step.limits choice now line t.broker had.whole alike_whole
              (filled_turns_whole (g.fillings read) now line t.broker had.whole alike_whole (stored_says sound) (filled_turns sound))

          module _ (again : Bool) (done : Result ⊤ StepFault) (s : Stepping) (start : s.start ≡ t.broker) (limits : s.limits ≡ t.limits) where
            abbrev same_limits : s.limits ≡ p.step.limits
            same_limits = limits ∙ ap (λ (x : Stepping). x.limits) rests

            -- the step is under way
            pub pump_begins : IsCalled now call again done s → IsUnderWay g now call again done (record after { step = s })
            pump_begins called =
                let goes = goes_alike p.step.broker t.broker p (broker_back t.broker p.step.broker alike) rest.goes in
                begins g now call again done after p.index t.broker p.step.limits s runs (record { whole = had.whole; its = read_holds t.broker alike; at_hand = hand_says }) filled_tells
                tt goes.serves goes.quiet start same_limits called

            -- what was called there was called of the engine before the store was asked
            pub pump_called : (result : Result Outcome EngineError) (new : Running K) → Called g now call (viewed_before g (record after { step = s })) result new → Called g now call (viewed g p) result new
            pump_called result new called =
                of_running result new
                (called_before g tells now call p.keep read p.hand p.step.limits p.step.broker had device crash t.broker result new (read_holds t.broker alike) alike asked.uncounted
                (subst (λ (b : Bool). Called g now call (record { keep = read; limits = p.step.limits; broker = filled (g.fillings read) t.broker; stopped = b }) result new) runs
                (called_of g now call again done after p.index t.broker p.step.limits s result new start same_limits called)))
