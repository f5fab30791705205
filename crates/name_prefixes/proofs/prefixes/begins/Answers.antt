use Rattle.std.proofs.Common.{length, drop}
use Rattle.std.proofs.lemmas.Bool.Decides.{Decides-eqb}
use Rattle.std.proofs.lemmas.Slice.Eq.{starts_is}
use Rattle.name_prefixes.proofs.prefixes.begins.Goals as goal

pub returns : goal.returns
returns c =
    let is = starts_is Decides-eqb c.args.text.now c.args.path.now c.starts_with.result c.starts_with.ensures.value in
    (λ yes. (drop (length c.args.path.now) c.args.text.now, is.0 yes), λ prefix. is.1 prefix.0 prefix.1)
