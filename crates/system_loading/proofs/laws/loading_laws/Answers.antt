use Rattle.std.proofs.Common.{ℕ, ◌≤◌, List, length, codes, subst, sym}
use Rattle.system_loading.proofs.LoneLemmas.{lone_named}
use Rattle.system_loading.proofs.TokenLemmas.{token_within}
use Rattle.system_loading.proofs.laws.loading_laws.Goals as goal

pub returns-clause-shape : goal.returns-clause-shape
returns-clause-shape c = λ per_second bytes shape is. c.read_shapes.ensures.sound is.document per_second shape is.sound is.describes

pub returns-clause-token : goal.returns-clause-token
returns-clause-token c = λ per_second bytes shape is.
    subst (λ (x : List ℕ). length x ≤ length bytes) (sym is.describes.token)
    (token_within (length bytes) is.document (codes "instantiationToken") (c.document_laws.ensures.bounded bytes is.document is.denotes))

pub returns-clause-lone_named : goal.returns-clause-lone_named
returns-clause-lone_named c = lone_named
