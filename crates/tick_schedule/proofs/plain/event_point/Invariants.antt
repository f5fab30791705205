use Rattle.tick_schedule.proofs.plain.event_point.Given as goal

abbrev pub ghosts-event_point_by : goal.ghosts-event_point_by
ghosts-event_point_by a = record { name = a.blank.name; parts = a.blank.parts }
