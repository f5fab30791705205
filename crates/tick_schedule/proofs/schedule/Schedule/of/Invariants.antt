use Rattle.tick_schedule.proofs.schedule.Schedule.of.Given as goal

abbrev pub ghosts-enter_points : goal.ghosts-enter_points
ghosts-enter_points a = record { name = a.blank.name; parts = a.blank.parts }
