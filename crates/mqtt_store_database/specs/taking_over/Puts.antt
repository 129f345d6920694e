-- Which changes put the copies and the retained messages of records.
use Rattle.std.specs.Prelude.{List, [], ◌++◌, map, flat_map}
use Rattle.mqtt_records.specs.declared.state.change.Change.{Change}
use Rattle.mqtt_records.specs.declared.state.change.Change.TheVariants.{PutCopy, PutRetained}
use Rattle.mqtt_records.specs.declared.state.records.Records.{Records}
use Rattle.mqtt_records.specs.declared.state.session.Session.{Session}
use Rattle.mqtt_store_rows.specs.rows.Gives.{without_queue}

-- with empty queues, and nothing retained
abbrev pub emptied : Records → Records
emptied r = record r { sessions = map without_queue r.sessions; retained = [] }

-- each copy of a session is put, in the order of its queue
abbrev pub queue_puts : Session → List Change
queue_puts s = map (PutCopy s.birth) s.queue

-- those of each session, and then each retained message
abbrev pub puts_of : Records → List Change
puts_of r = flat_map queue_puts r.sessions ++ map PutRetained r.retained
