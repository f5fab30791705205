use Rattle.tick_schedule.proofs.plain.ticked.Given as goal

abbrev pub ghosts-ticked_by : goal.ghosts-ticked_by
ghosts-ticked_by a = record { name = a.blank.name; parts = a.blank.parts }
