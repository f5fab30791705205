use Rattle.tick_schedule.proofs.plain.fix.Given as goal

abbrev pub ghosts-fix_by : goal.ghosts-fix_by
ghosts-fix_by a = record { name = a.blank.name; parts = a.blank.parts }
