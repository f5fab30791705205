use Rattle.std.proofs.Common.{ℕ, Option, ap, ◌∙◌, unwrap_or, length}
use Rattle.clock_fraction.proofs.DecimalLemmas.{unwrap_or-position}
use Rattle.clock_fraction.specs.Decimal.{is_mark}
use Rattle.clock_fraction.proofs.decimal.place_of_mark.Goals as goal

pub returns-clause-place : goal.returns-clause-place
returns-clause-place c =
    c.unwrap_or.ensures ∙ ap (λ (o : Option ℕ). unwrap_or o (length c.args.body.now)) c.find_mark.ensures ∙ unwrap_or-position is_mark c.args.body.now
