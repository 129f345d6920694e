-- Why a copy gets no row in a queue.
use Rattle.std.specs.Prelude.{⊤}
use Rattle.mqtt_records.specs.declared.messages.fault.CopyFault.{CopyFault}
use Rattle.mqtt_records.specs.declared.messages.fault.CopyFault.TheVariants.{Unspelled, Memory}
use Rattle.mqtt_records.specs.declared.messages.message.MessageCopy.{MessageCopy}
use Rattle.mqtt_records.specs.messages.Queue.{IsSpelled}

-- want of memory says nothing of the copy
abbrev pub RefusesCopy : MessageCopy → CopyFault → Type 0
RefusesCopy copy Unspelled = ¬ IsSpelled copy
RefusesCopy copy Memory = ⊤
