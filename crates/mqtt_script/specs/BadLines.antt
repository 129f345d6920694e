-- Why a line of a script is bad (ours).
use Rattle.std.specs.Prelude.{ℕ, nat_eq, ◌==◌, ◌&&◌, ◌||◌, if◌then◌else◌, Bool, false, List, [], ◌∷◌, codes}
use Rattle.std.specs.List.{ends_with}
use Rattle.mqtt_script.specs.Words.{space}
use Rattle.mqtt_script.specs.declared.bad_line.BadReason.{BadReason}
use Rattle.mqtt_script.specs.declared.bad_line.BadReason.TheVariants.{CarriageReturn, SpaceTooMany, NoEvent, CannotHappen}

abbrev pub reason_text : BadReason → List ℕ
reason_text CarriageReturn = codes "it ends with a carriage return; lines end with a line feed alone"
reason_text SpaceTooMany = codes "a space too many; words have one space between them"
reason_text NoEvent = codes "it is no event"
reason_text CannotHappen = codes "this event can't happen here"

abbrev pub begins_with_space : List ℕ → Bool
begins_with_space [] = false
begins_with_space (byte ∷ line) = byte == space

-- two spaces stand side by side
abbrev pub has_two_spaces : List ℕ → Bool
has_two_spaces [] = false
has_two_spaces (byte ∷ line) = ((byte == space) && begins_with_space line) || has_two_spaces line

-- a space stands at the start, at the end or beside another
abbrev pub has_space_too_many : List ℕ → Bool
has_space_too_many line = begins_with_space line || (ends_with nat_eq line (space ∷ []) || has_two_spaces line)

-- why a line that is no event's is none: a carriage return (0x0d) at its end, a space too many, or anything else
abbrev pub why_no_event : List ℕ → BadReason
why_no_event line =
    if ends_with nat_eq line (0x0d ∷ []) then CarriageReturn
    else if has_space_too_many line then SpaceTooMany
    else NoEvent
