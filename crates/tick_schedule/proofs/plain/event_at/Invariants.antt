use Rattle.tick_schedule.proofs.plain.event_at.Given as goal

abbrev pub ghosts-event_by : goal.ghosts-event_by
ghosts-event_by a = record { name = a.blank.name; parts = a.blank.parts }
