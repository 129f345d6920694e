-- What a step sends has a spelling, and what it and an opening leave marked are identifiers of two bytes.
use Rattle.std.proofs.Common.{◌≡◌, ℕ, List, [], ◌∷◌, false, Some, None, Ok, Err, refl, subst}
use Rattle.std.specs.Prelude.{filter_map}
use Rattle.std.specs.List.{AllByRecursion}
use Rattle.mqtt_packet.specs.parts.Faults.{answer_to}
use Rattle.mqtt_packet.specs.codec.Packets.{HasSpelling}
use Rattle.mqtt_packet.specs.declared.codec.packet.Packet.{Packet}
use Rattle.mqtt_keep.specs.lawful.Lawful.{IsLawful}
use Rattle.mqtt_packet.specs.stream.Front.{first_of}
use Rattle.mqtt_records.specs.declared.state.change.Change.{Change}
use Rattle.mqtt_records.specs.declared.state.records.Records.{Records}
use Rattle.mqtt_rules.specs.step.Contents.{AreContentsLawful, HasLawfulContents, TakesLawful, of_rows}
use Rattle.mqtt_rules.specs.step.Deeds.{Deed, Accept, Begin, Name, Count, At, Finish, Keep, Forget, RefuseWill, Link, On, Send, Gone, after_all, output, rows_of_all}
use Rattle.mqtt_rules.specs.step.Laws.{IsOrdered}
use Rattle.mqtt_rules.specs.step.Piece.{Front, begins_connect, call_by, code_of, first_call}
use Rattle.mqtt_rules.specs.step.State.{Broker, MemberChoice, stored}
use Rattle.mqtt_rules.specs.step.Step.{Call, Input, BadInput, at_moment, deeds, env_of, is_opening_spent, is_step_spent, opened, opening_deeds, stepped, told, unopened, with_moment}
use Rattle.mqtt_rules.specs.declared.step.Capacity.{Capacity}
use Rattle.mqtt_rules.proofs.step_lemmas.contents.ContentLaw.{opening_brings, opening_contents, step_brings, step_contents}
use Rattle.mqtt_rules.proofs.step_lemmas.contents.LawfulContents.{lawful_contents}
use Rattle.mqtt_rules.proofs.step_lemmas.fit.LawfulRecords.{lawful_coherent}
use Rattle.mqtt_rules.proofs.step_lemmas.order.OrderedSteps.{opening-ordered, step-ordered}
use Rattle.mqtt_rules.proofs.step_lemmas.contents.SpelledContents.{rows_are}
use Rattle.mqtt_rules.specs.spelling.Sending.{HaveSentPhases, IsAsked, SendsWell, TellsFault}
use Rattle.mqtt_rules.proofs.spelling_lemmas.Acts.{call_said, opening_said}
use Rattle.mqtt_rules.proofs.spelling_lemmas.Fine.{AreSaid, IsFine, Writes, fine_all, rows_good}

outputs_spelled : (ds : List Deed) → AreSaid ds → AllByRecursion (λ (x : ℕ × Packet). HasSpelling x.1) (filter_map output ds)
outputs_spelled [] h = tt
outputs_spelled (Send n packet ∷ ds) h = (h.0, outputs_spelled ds h.1)
outputs_spelled (Accept number origin m ∷ ds) h = outputs_spelled ds h.1
outputs_spelled (Begin row will ∷ ds) h = outputs_spelled ds h.1
outputs_spelled (Name n ∷ ds) h = outputs_spelled ds h.1
outputs_spelled (Count n ∷ ds) h = outputs_spelled ds h.1
outputs_spelled (At who part ∷ ds) h = outputs_spelled ds h.1
outputs_spelled (Finish who ∷ ds) h = outputs_spelled ds h.1
outputs_spelled (Keep kept ∷ ds) h = outputs_spelled ds h.1
outputs_spelled (Forget place ∷ ds) h = outputs_spelled ds h.1
outputs_spelled (RefuseWill who ∷ ds) h = outputs_spelled ds h.1
outputs_spelled (Link n ∷ ds) h = outputs_spelled ds h.1
outputs_spelled (On n part ∷ ds) h = outputs_spelled ds h.1
outputs_spelled (Gone n ∷ ds) h = outputs_spelled ds h.1

-- the deeds of a step, and what they write
abbrev Spoken : List Deed → Broker → Type 0
Spoken ds b = AreSaid ds × Writes ds b

step_spoken : (limits : Capacity) (choice : MemberChoice) (now : ℕ) (call : Call) (b : Broker) → is_step_spent limits choice now call b ≡ false → TakesLawful call → TellsFault call → AreContentsLawful b → IsOrdered (stored b) → HaveSentPhases (stored b)
    → Spoken (deeds limits choice now call b) (at_moment now b)
step_spoken limits choice now call b unspent taken tells contents ordered phases =
    let c = at_moment now b in
    let ds = deeds limits choice now call b in
    let rows : Writes ds c = rows_good c.now c.records.moment (rows_of_all ds c.records) (step_brings of_rows rows_are limits choice now call b taken contents) unspent in
    (call_said (env_of limits choice b) call c taken tells contents.lines ordered (record { contents = contents.stored; phases = phases }) rows, rows)

-- all that a step tells has a spelling
pub step_spelled : (limits : Capacity) (choice : MemberChoice) (now : ℕ) (call : Call) (b : Broker) → is_step_spent limits choice now call b ≡ false → TakesLawful call → TellsFault call → AreContentsLawful b → IsOrdered (stored b) → HaveSentPhases (stored b)
    → AllByRecursion (λ (x : ℕ × Packet). HasSpelling x.1) (told limits choice now call b).outputs
step_spelled limits choice now call b unspent taken tells contents ordered phases =
    outputs_spelled (deeds limits choice now call b) (step_spoken limits choice now call b unspent taken tells contents ordered phases).0

moment_phases : (rows : List Change) (b : Broker) → HaveSentPhases b.records → HaveSentPhases (with_moment rows b).records
moment_phases [] b h = h
moment_phases (row ∷ rows) b h = h

-- behind a step copies in flight have packet identifiers
pub step_phases : (limits : Capacity) (choice : MemberChoice) (now : ℕ) (call : Call) (b : Broker) → is_step_spent limits choice now call b ≡ false → TakesLawful call → TellsFault call → AreContentsLawful b → IsOrdered (stored b) → HaveSentPhases (stored b)
    → HaveSentPhases (stored (stepped limits choice now call b))
step_phases limits choice now call b unspent taken tells contents ordered phases =
    let c = at_moment now b in
    let ds = deeds limits choice now call b in
    let its = step_spoken limits choice now call b unspent taken tells contents ordered phases in
    moment_phases (rows_of_all ds c.records) (after_all ds c) (fine_all ds c (record { contents = contents.stored; phases = phases }) its.1 its.0).phases

-- so they have behind an opening
pub opening_phases : (limits : Capacity) (choice : MemberChoice) (now : ℕ) (r : Records) → is_opening_spent limits choice now r ≡ false → HasLawfulContents r → HaveSentPhases r → HaveSentPhases (stored (opened limits choice now r))
opening_phases limits choice now r unspent contents phases =
    let c = unopened now r in
    let ds = opening_deeds limits choice now r in
    let fine : IsFine c.records = record { contents = contents; phases = phases } in
    let rows : Writes ds c = rows_good c.now c.records.moment (rows_of_all ds c.records) (opening_brings of_rows rows_are limits choice now r contents) unspent in
    moment_phases (rows_of_all ds c.records) (after_all ds c) (fine_all ds c fine rows (opening_said (env_of limits choice c) c fine rows)).phases

-- the code of what bytes ask for is that of their fault
tells_by : (line : ℕ) (bytes : List ℕ) (x : Front) (call : Call) → call_by line bytes x ≡ Some call → TellsFault call
tells_by line bytes (Ok None) call e = absurd cc
tells_by line bytes (Ok (Some x)) call e = let it : Input line x.0 ≡ call = cc in subst TellsFault it tt
tells_by line bytes (Err fault) call e = let it : BadInput line (begins_connect bytes) (code_of (answer_to fault)) ≡ call = cc in subst TellsFault it (fault, refl)

-- what bytes ask for tells a fault by a code of DISCONNECT or CONNACK
pub bytes_tell : (line : ℕ) (bytes : List ℕ) (call : Call) → first_call line bytes ≡ Some call → TellsFault call
bytes_tell line bytes call e = tells_by line bytes (first_of bytes) call e

-- ---- however it goes on

abbrev OpensOf : Capacity → MemberChoice → ℕ → Records → Type 0
OpensOf limits choice now r = is_opening_spent limits choice now r ≡ false

well_opened : (limits : Capacity) (choice : MemberChoice) (now : ℕ) (r : Records) → OpensOf limits choice now r → HasLawfulContents r → IsOrdered r → HaveSentPhases r → SendsWell (opened limits choice now r)
well_opened limits choice now r unspent contents ordered phases = record {
  contents = opening_contents of_rows rows_are limits choice now r contents;
  ordered = opening-ordered limits choice now r ordered;
  phases = opening_phases limits choice now r unspent contents phases;
}

-- a broker that opens over what a store may hold sends well
pub well_begun : (limits : Capacity) (choice : MemberChoice) (now : ℕ) (r : Records) → OpensOf limits choice now r → IsLawful r → HaveSentPhases r → SendsWell (opened limits choice now r)
well_begun limits choice now r unspent lawful phases = well_opened limits choice now r unspent (lawful_contents r lawful) (lawful_coherent r lawful).ordered phases

-- so does one that opens again
pub well_reopened : (limits : Capacity) (choice : MemberChoice) (now : ℕ) (b : Broker) → OpensOf limits choice now (stored b) → SendsWell b → SendsWell (opened limits choice now (stored b))
well_reopened limits choice now b unspent h = well_opened limits choice now (stored b) unspent h.contents.stored h.ordered h.phases

-- and one behind a step
pub well_stepped : (limits : Capacity) (choice : MemberChoice) (now : ℕ) (call : Call) (b : Broker) → IsAsked limits choice now call b → SendsWell b → SendsWell (stepped limits choice now call b)
well_stepped limits choice now call b a h = record {
  contents = step_contents of_rows rows_are limits choice now call b a.taken h.contents;
  ordered = step-ordered limits choice now call b h.ordered;
  phases = step_phases limits choice now call b a.unspent a.taken a.tells h.contents h.ordered h.phases;
}

-- who sends well tells packets with a spelling alone
pub well_spelled : (limits : Capacity) (choice : MemberChoice) (now : ℕ) (call : Call) (b : Broker) → IsAsked limits choice now call b → SendsWell b
    → AllByRecursion (λ (x : ℕ × Packet). HasSpelling x.1) (told limits choice now call b).outputs
well_spelled limits choice now call b a h = step_spelled limits choice now call b a.unspent a.taken a.tells h.contents h.ordered h.phases
