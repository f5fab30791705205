use Rattle.tick_schedule.proofs.plain.next_after.Given as goal

abbrev pub ghosts-next_by : goal.ghosts-next_by
ghosts-next_by a = record { name = a.blank.name; parts = a.blank.parts }
