-- Lines of events, by computing.
use Rattle.std.proofs.Common.{◌≡◌, [], ◌∷◌, ◌++◌, codes, refl, arith}
use Rattle.std.proofs.lemmas.Fmt.{decimal_digit, decimal_step}
use Rattle.mqtt_base.specs.declared.session.CopyId.{CopyId}
use Rattle.mqtt_base.specs.declared.session.Cause.TheVariants.{Direct}
use Rattle.mqtt_base.specs.declared.session.Ending.TheVariants.{Taken}
use Rattle.mqtt_rules.specs.declared.step.Report.TheVariants.{Accepted, Entered, Released, Ended, WillRefused}
use Rattle.mqtt_script.specs.Telling.{line_feed}
use Rattle.mqtt_replay.specs.playing.Told.{told_text}

abbrev first : CopyId
first = record { publication = 1; birth = 2; cause = Direct }

-- a message of QoS 2 is accepted, enters a queue and is answered
accepted : told_text 13 (codes "tobroker") (Accepted 1 ∷ Entered first (codes "r1") ∷ []) 1
    ≡ codes "13 tobroker accepted=1 entered=1>r1 out=1" ++ line_feed ∷ []
accepted = rw (decimal_step 13 (omega arith) (omega arith), decimal_digit 1 (omega arith)) refl

-- an event with nothing to tell
silent : told_text 14 (codes "stopafter") [] 0 ≡ codes "14 stopafter" ++ line_feed ∷ []
silent = rw (decimal_step 14 (omega arith) (omega arith), decimal_digit 1 (omega arith)) refl

taken : told_text 22 (codes "tobroker") (Ended first (codes "r1") Taken ∷ []) 0
    ≡ codes "22 tobroker ended=1>r1:Taken" ++ line_feed ∷ []
taken = rw (decimal_step 22 (omega arith) (omega arith), decimal_digit 1 (omega arith), decimal_digit 2 (omega arith)) refl

-- a client's space is escaped, its birth isn't told
others : told_text 6 (codes "tick") (Released 8 (codes "p1") 7 ∷ WillRefused 9 (codes "a b") ∷ []) 2
    ≡ codes "6 tick released=7 willrefused=a%20b out=2" ++ line_feed ∷ []
others = rw (decimal_digit 2 (omega arith), decimal_digit 6 (omega arith), decimal_digit 7 (omega arith)) refl
