use Rattle.tick_schedule.proofs.plain.arm.Given as goal

abbrev pub ghosts-arm_by : goal.ghosts-arm_by
ghosts-arm_by a = record { name = a.blank.name; parts = a.blank.parts }
