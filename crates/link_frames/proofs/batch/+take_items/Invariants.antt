use Rattle.link_frames.proofs.batch.+take_items.Given as goal

abbrev pub decreases-take_items : goal.decreases-take_items
decreases-take_items l = l.left
