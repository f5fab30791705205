use Rattle.std.proofs.Common.{ℕ, Option, ap, ◌∙◌, unwrap_or, length}
use Rattle.clock_fraction.proofs.DecimalLemmas.{unwrap_or-position}
use Rattle.clock_fraction.specs.Decimal.{is_point}
use Rattle.clock_fraction.proofs.decimal.place_of_point.Goals as goal

pub returns-clause-place : goal.returns-clause-place
returns-clause-place c =
    c.unwrap_or.ensures ∙ ap (λ (o : Option ℕ). unwrap_or o (length c.args.mantissa.now)) c.find_point.ensures ∙ unwrap_or-position is_point c.args.mantissa.now
