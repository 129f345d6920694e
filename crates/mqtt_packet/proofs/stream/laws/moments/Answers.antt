use Rattle.mqtt_packet.proofs.stream_lemmas.Fronts.{first_stays}
use Rattle.mqtt_packet.proofs.stream_lemmas.Shorter.{first_less}
use Rattle.mqtt_packet.proofs.stream_lemmas.Runs.{at_first_byte, at_overlong, at_length}
use Rattle.mqtt_packet.proofs.stream_lemmas.Wholes.{refused_whole}
use Rattle.mqtt_packet.proofs.stream.laws.moments.Goals as goal

pub returns-clause-first_byte : goal.returns-clause-first_byte
returns-clause-first_byte c = at_first_byte

pub returns-clause-overlong : goal.returns-clause-overlong
returns-clause-overlong c = at_overlong

pub returns-clause-too_large : goal.returns-clause-too_large
returns-clause-too_large c = at_length

pub returns-clause-stays : goal.returns-clause-stays
returns-clause-stays c = first_stays

pub returns-clause-last_byte : goal.returns-clause-last_byte
returns-clause-last_byte c = first_less

pub returns-clause-due : goal.returns-clause-due
returns-clause-due c = refused_whole
