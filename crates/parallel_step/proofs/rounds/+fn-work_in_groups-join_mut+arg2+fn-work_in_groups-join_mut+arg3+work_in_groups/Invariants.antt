use Rattle.parallel_step.proofs.rounds.+fn-work_in_groups-join_mut+arg2+fn-work_in_groups-join_mut+arg3+work_in_groups.Given as goal

abbrev pub decreases-join_mut+arg2 : goal.decreases-join_mut+arg2
decreases-join_mut+arg2 g l = l.front_groups

abbrev pub decreases-join_mut+arg3 : goal.decreases-join_mut+arg3
decreases-join_mut+arg3 g l = l.back_groups

abbrev pub decreases-work_in_groups : goal.decreases-work_in_groups
decreases-work_in_groups g l = l.groups
