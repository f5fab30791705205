use Rattle.tick_schedule.proofs.plain.disarm.Given as goal

abbrev pub ghosts-disarm_by : goal.ghosts-disarm_by
ghosts-disarm_by a = record { name = a.blank.name; parts = a.blank.parts }
