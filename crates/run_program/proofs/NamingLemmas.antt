-- Names that are copied one after another, and room for each pair of them.
use Rattle.std.proofs.Common.{◌≡◌, ℕ, ◌+◌, ◌<◌, ◌≤◌, List, [], ◌∷◌, ◌++◌, Option, Some, None, refl, sym, ap, ◌∙◌, arith, length, map, take}
use Rattle.std.specs.Prelude.{All, IsSomeAnd, slice_get}
use Rattle.std.proofs.lemmas.List.{map-append}
use Rattle.std.proofs.lemmas.List.Elements.{All-append, All-cons, All-nil}
use Rattle.system_files.specs.Rooms.{room_for}
use Rattle.run_program.specs.declared.naming.PortName.{PortName}
use Rattle.run_program.specs.Runs.{Names}
use Rattle.run_program.proofs.PeerLemmas.{take_more_at}

-- one name more of a list
pub one_more : {X Y : Type 0} (f : X → Y) (xs : List X) (ys : List Y) (k : ℕ) (x : X) (y : Y) → slice_get xs k ≡ Some x → ys ≡ map f (take k xs) → y ≡ f x → ys ++ y ∷ [] ≡ map f (take (k + 1) xs)
one_more f xs ys k x y here given same =
    ap (λ zs. zs ++ y ∷ []) given ∙ ap (λ z. map f (take k xs) ++ z ∷ []) same
    ∙ sym (ap (map f) (take_more_at xs k x here) ∙ map-append f (take k xs) (x ∷ []))

-- none is longer than the greater of what bounded those before, and its own length
pub none_longer : {X : Type 0} (size : X → ℕ) (before after : ℕ) (xs : List X) (x : X) → before ≤ after → All (λ (y : X). size y ≤ before) xs → size x ≤ after → All (λ (y : X). size y ≤ after) (xs ++ x ∷ [])
none_longer size before after xs x more each here =
    All-append (λ y. size y ≤ after) xs (x ∷ []) (λ k d w. let h = each k d w in omega (arith, h, more))
    (All-cons (λ y. size y ≤ after) x [] here (All-nil (λ y. size y ≤ after)))

-- what holds the longest of both holds each pair, and each of the first
pub pair_room : (names : List (List ℕ)) (ports : List PortName) (name port room : ℕ) → All (λ (n : List ℕ). length n ≤ name) names → All (λ (p : PortName). length p.name ≤ port) ports → room_for (name + port) ≤ room →
    All (λ (n : List ℕ). All (λ (p : PortName). room_for (length n + length p.name) ≤ room) ports) names
pair_room names ports name port room short narrow holds = λ k d w. λ j e v. let a = short k d w in let b = narrow j e v in omega (arith, a, b, holds)

pub name_room : (names : List (List ℕ)) (name port room : ℕ) → All (λ (n : List ℕ). length n ≤ name) names → room_for (name + port) ≤ room → All (λ (n : List ℕ). room_for (length n) ≤ room) names
name_room names name port room short holds = λ k d w. let a = short k d w in omega (arith, a, holds)

abbrev both : List (List ℕ) → List PortName → Names
both names ports = record { components = names; ports = ports }

pub same_names : (xs ys : List (List ℕ)) (ps qs : List PortName) → xs ≡ ys → ps ≡ qs → both xs ps ≡ both ys qs
same_names xs ys ps qs names ports = ap (λ (ns : List (List ℕ)). both ns ps) names ∙ ap (both ys) ports

-- a port that is there, with its component's place
pub port_there : (ports : List PortName) (p n : ℕ) → IsSomeAnd (slice_get ports p) (λ (q : PortName). q.component.0 < n) → (q : PortName) × (slice_get ports p ≡ Some q) × (q.component.0 < n)
port_there ports p n there = by (slice_get ports p) refl there
  where
    by : (o : Option PortName) → slice_get ports p ≡ o → IsSomeAnd o (λ (q : PortName). q.component.0 < n) → (q : PortName) × (slice_get ports p ≡ Some q) × (q.component.0 < n)
    by (Some q) is within = (q, is, within)
    by None is within = absurd within
