use Rattle.tick_schedule.proofs.plain.point.Given as goal

abbrev pub ghosts-point_by : goal.ghosts-point_by
ghosts-point_by a = record { name = a.blank.name; parts = a.blank.parts }
