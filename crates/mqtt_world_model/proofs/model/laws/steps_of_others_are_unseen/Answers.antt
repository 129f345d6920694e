-- What the publisher sees of the steps of others: by the deeds that they are made of.
use Rattle.mqtt_world_model.proofs.model_lemmas.others.Frame.{frame, away_frame, nobody_frame, own_stays}
use Rattle.mqtt_world_model.proofs.model.laws.steps_of_others_are_unseen.Goals as goal

pub returns-clause-unseen : goal.returns-clause-unseen
returns-clause-unseen c = frame

pub returns-clause-own : goal.returns-clause-own
returns-clause-own c = own_stays

pub returns-clause-unseen_away : goal.returns-clause-unseen_away
returns-clause-unseen_away c = away_frame

pub returns-clause-unseen_without : goal.returns-clause-unseen_without
returns-clause-unseen_without c = nobody_frame
