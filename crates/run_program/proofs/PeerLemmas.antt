-- Peers that are started and taken back, one after another.
use Rattle.std.proofs.Common.{◌≡◌, ◌⊎◌, inl, inr, ℕ, zero, suc, ◌+◌, ◌<◌, true, List, [], ◌∷◌, ◌++◌, Some, refl, sym, ap, ◌∙◌, subst, append_assoc, arith, length, map, take}
use Rattle.std.specs.Prelude.{All, Err, slice_get}
use Rattle.std.proofs.lemmas.List.{append-nil, take_more}
use Rattle.std.proofs.lemmas.List.Elements.{All-append, All-cons, All-nil}
use Rattle.std.proofs.lemmas.Option.{none-some as none_some, get_or_from_slice_get, same_Some, slice_get_within}
use Rattle.fmi_calls.specs.Next.{fresh}
use Rattle.fmu_peer.specs.declared.spawner.StartFault.{StartFault}
use Rattle.fmu_peer.specs.declared.spawner.StartFault.TheVariants.{Failed, Unknown, Memory}
use Rattle.fmu_peer.specs.Start.{AnswersUnknown, IsMade, IsStarted, NotesStart, SpawnerView, with_failure, with_retired, with_started}
use Rattle.fmu_peer.specs.View.{View}
use Rattle.system_model.specs.declared.system.Component.{Component}
use Rattle.run_program.specs.Peers.{AreKnown, AreMade, AreStarted, NotesFault, with_all_retired, with_all_started}
use Rattle.run_program.specs.Runs.{IsUnasked}

-- what stands in a list with one more stands in the list, or is that one
at_end : {X : Type 0} (xs : List X) (x : X) (i : ℕ) (y : X) → slice_get (xs ++ x ∷ []) i ≡ Some y → (slice_get xs i ≡ Some y) ⊎ ((i ≡ length xs) × (x ≡ y))
at_end [] x zero y there = inr (refl, same_Some x y there)
at_end [] x (suc i) y there = absurd (none_some y there)
at_end (z ∷ xs) x zero y there = inl there
at_end (z ∷ xs) x (suc i) y there = later (at_end xs x i y there)
  where
    later : (slice_get xs i ≡ Some y) ⊎ ((i ≡ length xs) × (x ≡ y)) → (slice_get xs i ≡ Some y) ⊎ ((suc i ≡ length (z ∷ xs)) × (x ≡ y))
    later (inl before) = inl before
    later (inr last) = inr (omega (arith, last.0), last.1)

-- one more of the components has its peer
pub started_more : (host : List ℕ) (folders : List (List ℕ)) (cs : List Component) (vs : List View) (folder : List ℕ) (c : Component) (v : View) → AreStarted host folders cs vs →
    slice_get folders (length vs) ≡ Some folder → slice_get cs (length vs) ≡ Some c → IsStarted host c.name folder c.shape v → AreStarted host folders cs (vs ++ v ∷ [])
started_more host folders [] [] folder c v are there here one = absurd (none_some c here)
started_more host folders [] (w ∷ vs) folder c v are there here one = absurd are
started_more host [] (d ∷ cs) [] folder c v are there here one = absurd (none_some folder there)
started_more host [] (d ∷ cs) (w ∷ vs) folder c v are there here one = absurd are
started_more host (f ∷ folders) (d ∷ cs) [] folder c v are there here one = (
  subst (λ (x : Component). IsStarted host x.name f x.shape v) (sym (same_Some d c here))
      (subst (λ (x : List ℕ). IsStarted host c.name x c.shape v) (sym (same_Some f folder there)) one),
  tt,
)
started_more host (f ∷ folders) (d ∷ cs) (w ∷ vs) folder c v are there here one = (are.0, started_more host folders cs vs folder c v are.1 there here one)

pub take_more_at : {X : Type 0} (xs : List X) (n : ℕ) (x : X) → slice_get xs n ≡ Some x → take (n + 1) xs ≡ take n xs ++ x ∷ []
take_more_at xs n x here = take_more xs n x (slice_get_within xs n x here) ∙ ap (λ y. take n xs ++ y ∷ []) (get_or_from_slice_get xs n x x here)

pub known_more : (host : List ℕ) (spawner : SpawnerView) (cs : List Component) (n : ℕ) (c : Component) → AreKnown host spawner (take n cs) → slice_get cs n ≡ Some c → spawner.knows host c.shape.identifier ≡ true → AreKnown host spawner (take (n + 1) cs)
known_more host spawner cs n c known here knows =
    subst (AreKnown host spawner) (sym (take_more_at cs n c here))
    (All-append (λ (x : Component). spawner.knows host x.shape.identifier ≡ true) (take n cs) (c ∷ []) known
    (All-cons (λ (x : Component). spawner.knows host x.shape.identifier ≡ true) c [] knows (All-nil (λ (x : Component). spawner.knows host x.shape.identifier ≡ true))))

-- and so has one more of the machines that the spawner makes
pub made_more : (host : List ℕ) (spawner : SpawnerView) (cs : List Component) (vs : List View) (c : Component) (v : View) → AreMade host spawner cs vs → slice_get cs (length vs) ≡ Some c → IsMade spawner host c.shape v → AreMade host spawner cs (vs ++ v ∷ [])
made_more host spawner cs vs c v made here one i d w at there =
    by (at_end vs v i w there)
  where
    by : (slice_get vs i ≡ Some w) ⊎ ((i ≡ length vs) × (v ≡ w)) → IsMade spawner host d.shape w
    by (inl before) = made i d w at before
    by (inr last) =
        let same : c ≡ d = same_Some c d (sym here ∙ ap (slice_get cs) (sym last.0) ∙ at) in
        subst (IsMade spawner host d.shape) last.1 (subst (λ (x : Component). IsMade spawner host x.shape v) same one)

-- ---- what a spawner tells

pub none_started : (s : SpawnerView) → s ≡ with_all_started s 0
none_started s = ap (λ (n : ℕ). record s { started = n }) (omega arith)

pub one_started : (s t u : SpawnerView) (n : ℕ) → t ≡ with_all_started s n → u ≡ with_started t → u ≡ with_all_started s (n + 1)
one_started s t u n t_is u_is = u_is ∙ ap with_started t_is ∙ ap (λ (k : ℕ). record s { started = k }) (omega arith)

pub none_retired : (s : SpawnerView) → s ≡ with_all_retired s []
none_retired s = ap (λ (vs : List View). record s { retired = vs }) (sym (append-nil s.retired))

-- none was started, and none taken back
pub none_begun : (s : SpawnerView) → s ≡ with_all_retired (with_all_started s 0) []
none_begun s = let same : s.started ≡ s.started + 0 = omega arith in none_retired s ∙ ap (λ (n : ℕ). with_all_retired (record s { started = n }) []) same

pub one_retired : (s t u : SpawnerView) (vs : List View) (v : View) → t ≡ with_all_retired s vs → u ≡ with_retired t v → u ≡ with_all_retired s (vs ++ v ∷ [])
one_retired s t u vs v t_is u_is = u_is ∙ ap (λ (x : SpawnerView). with_retired x v) t_is ∙ ap (λ (ws : List View). record s { retired = ws }) (append_assoc s.retired vs (v ∷ []))

-- ---- before their first calls

pub unasked : (host : List ℕ) (folders : List (List ℕ)) (cs : List Component) (vs : List View) → AreStarted host folders cs vs → All IsUnasked vs
unasked host folders cs [] are = All-nil IsUnasked
unasked host folders [] (v ∷ vs) are = absurd are
unasked host [] (c ∷ cs) (v ∷ vs) are = absurd are
unasked host (f ∷ folders) (c ∷ cs) (v ∷ vs) are =
    All-cons IsUnasked v vs (record { phase = are.0.phase ∙ ap fresh (sym are.0.shape_is); talk = are.0.talk }) (unasked host folders cs vs are.1)

-- ---- one of the peers

-- a peer was started for the component at its place
pub started_at : (host : List ℕ) (folders : List (List ℕ)) (cs : List Component) (vs : List View) (k : ℕ) (v : View) → AreStarted host folders cs vs → slice_get vs k ≡ Some v →
    (c : Component) × (slice_get cs k ≡ Some c) × ((folder : List ℕ) × IsStarted host c.name folder c.shape v)
started_at host folders cs [] k v are here = absurd (none_some v here)
started_at host folders [] (w ∷ vs) k v are here = absurd are
started_at host [] (c ∷ cs) (w ∷ vs) k v are here = absurd are
started_at host (f ∷ folders) (c ∷ cs) (w ∷ vs) zero v are here = (c, refl, (f, subst (λ (x : View). IsStarted host c.name f c.shape x) (same_Some w v here) are.0))
started_at host (f ∷ folders) (c ∷ cs) (w ∷ vs) (suc k) v are here = started_at host folders cs vs k v are.1 here

-- what was mapped is at the place of its element
pub mapped_at : {X Y : Type 0} (f : X → Y) (xs : List X) (k : ℕ) (y : Y) → slice_get (map f xs) k ≡ Some y → (x : X) × (slice_get xs k ≡ Some x) × (f x ≡ y)
mapped_at f [] k y here = absurd (none_some y here)
mapped_at f (x ∷ xs) zero y here = (x, refl, same_Some (f x) y here)
mapped_at f (x ∷ xs) (suc k) y here = mapped_at f xs k y here

pub all_got : {X : Type 0} (P : X → Type 0) (xs : List X) (k : ℕ) (x : X) → All P xs → slice_get xs k ≡ Some x → P x
all_got P xs k x all here = subst P (get_or_from_slice_get xs k x x here) (all k x (slice_get_within xs k x here))

-- ---- places

pub compare : (a b : ℕ) → (a < b) ⊎ ((a ≡ b) ⊎ (b < a))
compare zero zero = inr (inl refl)
compare zero (suc b) = inl (omega arith)
compare (suc a) zero = inr (inr (omega arith))
compare (suc a) (suc b) = by (compare a b)
  where
    by : (a < b) ⊎ ((a ≡ b) ⊎ (b < a)) → (suc a < suc b) ⊎ ((suc a ≡ suc b) ⊎ (suc b < suc a))
    by (inl less) = inl (omega (arith, less))
    by (inr (inl same)) = inr (inl (ap suc same))
    by (inr (inr more)) = inr (inr (omega (arith, more)))

pub slice_get-take_prefix : {X : Type 0} (xs : List X) (n k : ℕ) → k < n → slice_get (take n xs) k ≡ slice_get xs k
slice_get-take_prefix xs zero k less = absurd (omega (arith, less))
slice_get-take_prefix [] (suc n) k less = refl
slice_get-take_prefix (x ∷ xs) (suc n) zero less = refl
slice_get-take_prefix (x ∷ xs) (suc n) (suc k) less = slice_get-take_prefix xs n k (omega (arith, less))

-- ---- starts that fail

pub noted_fault : (T : Type 0) (host : List ℕ) (fault : StartFault) (c : Component) (s t u : SpawnerView) (n : ℕ) → t ≡ with_all_started s n → NotesStart {T = T} t u (Err fault) →
    AnswersUnknown {T = T} (t.knows host c.shape.identifier) (Err fault) → NotesFault host fault c (with_all_started s n) u
noted_fault T host Failed c s t u n is noted unknown = noted ∙ ap with_failure is
noted_fault T host Unknown c s t u n is noted unknown = (noted ∙ is, ap (λ (x : SpawnerView). x.knows host c.shape.identifier) (sym is) ∙ unknown)
noted_fault T host Memory c s t u n is noted unknown = noted ∙ is
