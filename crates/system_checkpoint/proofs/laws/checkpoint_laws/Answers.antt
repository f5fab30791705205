use Rattle.system_checkpoint.proofs.LengthLemmas.{fits_file, spells_few}
use Rattle.system_checkpoint.proofs.SpellingLemmas.{spells_all, spells_once}
use Rattle.system_checkpoint.proofs.WholeLemmas.{checkpoint_single}
use Rattle.system_checkpoint.proofs.laws.checkpoint_laws.Goals as goal

pub returns : goal.returns
returns c = record { once = spells_once; all = spells_all; keeps = checkpoint_single; few = spells_few; fits = fits_file }
