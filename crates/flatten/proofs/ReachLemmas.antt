-- Paths along links: one after another, the last link of a path, and a path under other names of its points.
use Rattle.std.proofs.Common.{◌≡◌, ◌⊎◌, ℕ, List, [], ◌∷◌, Option, Some, refl, sym, ◌∙◌, subst, inl, inr}
use Rattle.std.specs.List.{All}
use Rattle.std.proofs.lemmas.List.Elements.{All-nil, All-cons, All-head, All-tail}
use Rattle.dependency_order.specs.Graph.{Leads}
use Rattle.dependency_order.specs.Paths.{Reaches}

module _ {A : Type 0} (Link : A → A → Type 0) (Through : A → Type 0) where
  -- a path leads to the point, or it is there that it begins: further links may follow
  abbrev pub UpTo : A → A → Type 0
  UpTo a b = (a ≡ b) ⊎ (Through b × Reaches Link Through a b)

  pub reaches_at_once : (a b : A) → Link a b → Reaches Link Through a b
  reaches_at_once a b link = record { between = []; through = All-nil Through; leads = link }

  reaches_after : (a b c : A) → Link a b → Through b → Reaches Link Through b c → Reaches Link Through a c
  reaches_after a b c link through more = record { between = b ∷ more.between; through = All-cons Through b more.between through more.through; leads = (link, more.leads) }

  joined : (a : A) (xs : List A) (b c : A) → All Through xs → Leads Link a xs b → Through b → Reaches Link Through b c → Reaches Link Through a c
  joined a [] b c all leads through more = reaches_after a b c leads through more
  joined a (x ∷ xs) b c all leads through more = reaches_after a x c leads.0 (All-head Through x xs all) (joined x xs b c (All-tail Through x xs all) leads.1 through more)

  -- a path to a point that paths pass, and one from there
  pub reaches_on : (a b c : A) → Reaches Link Through a b → Through b → Reaches Link Through b c → Reaches Link Through a c
  reaches_on a b c some through more = joined a some.between b c some.through some.leads through more

  pub up_to_on : (a b c : A) → Reaches Link Through a b → Through b → UpTo b c → UpTo a c
  up_to_on a b c some through (inl same) = inr (subst Through same through, subst (Reaches Link Through a) same some)
  up_to_on a b c some through (inr more) = inr (more.0, reaches_on a b c some through more.1)

  pub first_link : (a b : A) → Reaches Link Through a b → (x : A) × Link a x
  first_link a b r = by r.between r.leads
    where
      by : (xs : List A) → Leads Link a xs b → (x : A) × Link a x
      by [] leads = (b, leads)
      by (x ∷ xs) leads = (x, leads.0)

  last_of : (a : A) (xs : List A) (b : A) → All Through xs → Leads Link a xs b → (m : A) × UpTo a m × Link m b
  last_of a [] b all leads = (a, inl refl, leads)
  last_of a (x ∷ xs) b all leads =
      let rest = last_of x xs b (All-tail Through x xs all) leads.1 in
      (rest.0, by rest.0 rest.1, rest.2)
    where
      by : (m : A) → UpTo x m → UpTo a m
      by m some = up_to_on a x m (reaches_at_once a x leads.0) (All-head Through x xs all) some

  -- the last link of a path
  pub last_link : (a b : A) → Reaches Link Through a b → (m : A) × UpTo a m × Link m b
  last_link a b r = last_of a r.between b r.through r.leads

  pub before_last : (a m b : A) → UpTo a m → Link m b → Reaches Link Through a b
  before_last a m b (inl same) link = reaches_at_once a b (subst (λ z. Link z b) (sym same) link)
  before_last a m b (inr some) link = reaches_on a m b some.1 some.0 (reaches_at_once m b link)

-- two places at the ends of a link stand for its points
pub record Stands {A : Type 0} (Ends : ℕ → ℕ → Type 0) (at : ℕ → Option A) (a b : A) : Type 0 where
  pub start : ℕ
  pub end : ℕ
  pub are : Ends start end
  pub from : at start ≡ Some a
  pub to : at end ≡ Some b

-- where two places stand for one point of the first sort, they do for one of the second: a path of the first is one of the second
module _ {A B : Type 0} (Ends : ℕ → ℕ → Type 0) (at : ℕ → Option A) (at' : ℕ → Option B) (Link : A → A → Type 0) (Link' : B → B → Type 0) (Through : A → Type 0) (Through' : B → Type 0)
    (apart : (a b : A) → Link a b → Stands Ends at a b) (together : (a b : B) → Stands Ends at' a b → Link' a b) (there : (c : ℕ) (a : A) → at c ≡ Some a → (b : B) × (at' c ≡ Some b))
    (same : (c d : ℕ) (a : A) → at c ≡ Some a → at d ≡ Some a → at' c ≡ at' d) (through : (c : ℕ) (a : A) (b : B) → at c ≡ Some a → at' c ≡ Some b → Through a → Through' b) where
  one_link : (a b : A) (c d : ℕ) (p q : B) → Link a b → at c ≡ Some a → at d ≡ Some b → at' c ≡ Some p → at' d ≡ Some q → Link' p q
  one_link a b c d p q link ea eb ep eq =
      let s = apart a b link in
      together p q (record { start = s.start; end = s.end; are = s.are; from = same s.start c a s.from ea ∙ ep; to = same s.end d b s.to eb ∙ eq })

  carried : (a : A) (xs : List A) (b : A) (c d : ℕ) (p q : B) → All Through xs → Leads Link a xs b → at c ≡ Some a → at d ≡ Some b → at' c ≡ Some p → at' d ≡ Some q → Reaches Link' Through' p q
  carried a [] b c d p q all leads ea eb ep eq = reaches_at_once Link' Through' p q (one_link a b c d p q leads ea eb ep eq)
  carried a (x ∷ xs) b c d p q all leads ea eb ep eq =
      let s = apart a x leads.0 in
      let r = there s.end x s.to in
      let rest = carried x xs b s.end d r.0 q (All-tail Through x xs all) leads.1 s.to eb r.1 eq in
      reaches_after Link' Through' p r.0 q (one_link a x c s.end p r.0 leads.0 ea s.to ep r.1) (through s.end x r.0 s.to r.1 (All-head Through x xs all)) rest

  pub reaches_carried : (c d : ℕ) (a b : A) (p q : B) → at c ≡ Some a → at d ≡ Some b → at' c ≡ Some p → at' d ≡ Some q → Reaches Link Through a b → Reaches Link' Through' p q
  reaches_carried c d a b p q ea eb ep eq r = carried a r.between b c d p q r.through r.leads ea eb ep eq
