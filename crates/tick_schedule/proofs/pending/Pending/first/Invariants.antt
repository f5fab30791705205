use Rattle.tick_schedule.proofs.pending.Pending.first.Given as goal

abbrev pub ghosts-least_by : goal.ghosts-least_by
ghosts-least_by a = record { name = a.blank.name; parts = a.blank.parts }
